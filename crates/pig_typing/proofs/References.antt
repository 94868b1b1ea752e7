-- References, selections and steps: what their readers tell holds, what holds is told, and what is refused is told to be.
use Rattle.std.proofs.Common.{◌≡◌, ◌∙◌, ℕ, List, [], ◌∷◌, map, length, refl, sym, subst, inl, inr, ◌<◌, ◌≤◌, Bool}
use Rattle.std.specs.Prelude.{◌⊎◌, Option, Some, None, slice_get, get_or, IfOk, IfErr}
use Rattle.std.specs.declared.result.Result.{Result}
use Rattle.std.specs.declared.result.Result.TheVariants.{Ok, Err}
use Rattle.std.proofs.lemmas.Option.{slice_get_cases, slice_get_past}
use Rattle.std.proofs.lemmas.List.{length-map}
use Rattle.pig_value.specs.Trees.{KindTree}
use Rattle.pig_value.proofs.list_laws.Indexing.{some_at}
use Rattle.pig_schema.specs.FieldTrees.{FieldTree, tree_name, tree_kind}
use Rattle.pig_schema.specs.Names.{IsMeant, IsNameFault, meaning}
use Rattle.pig_schema.specs.declared.naming.NameFault.{NameFault}
use Rattle.pig_schema.specs.declared.naming.NameFault.TheVariants as fault
use Rattle.pig_schema.proofs.Readings.{told, meant_is, unknown_is, ambiguous_is, meant_within}
use Rattle.pig_syntax.specs.declared.trees.FieldRef.{FieldRef}
use Rattle.pig_syntax.specs.declared.trees.FieldRef.TheVariants as ref
use Rattle.pig_syntax.specs.declared.trees.PostStep.{PostStep}
use Rattle.pig_syntax.specs.declared.trees.PostStep.TheVariants as step
use Rattle.pig_typing.specs.declared.faults.CheckKind.{CheckKind}
use Rattle.pig_typing.specs.declared.faults.CheckKind.TheVariants as kind
use Rattle.pig_typing.specs.Columns.{RefersTo, RefersToNone, by_name, by_position, unknown, ambiguous, outside, name_place, column_at, refer}
use Rattle.pig_typing.specs.Limits.{limited}
use Rattle.pig_typing.specs.Parts.{Typing, Picks, Selects, SelectsNot, none_selected, one_selected, here, later, inner_columns, projected, values_column, picked, typed_column, kind_in, Steps, StepsNot, projects, looks, of_no_fields, of_no_field, of_no_grammar, past_limits, of_no_map, Walks, WalksNot, ends, goes, stops, goes_on, select, chosen_of, given_of, step_of, steps_of}
use Rattle.pig_typing.specs.Results.{Checked, ◌>>=◌}
use Rattle.pig_typing.proofs.Chains.{then_told, passes, then_is, due_is}

-- ---- references

abbrev pub IsReferred : List FieldTree → FieldRef → Checked (ℕ × FieldTree) → Type 0
IsReferred columns r (Ok p) = RefersTo columns r p.0 p.1
IsReferred columns r (Err f) = RefersToNone columns r f

pub referred : (columns : List FieldTree) (r : FieldRef) → IsReferred columns r (refer columns r)
unfolding refer column_at
referred columns (ref.Name name) = by (meaning (map tree_name columns) name) (told (map tree_name columns) name)
  where
    there : (n : ℕ) → IsMeant (map tree_name columns) name n → (o : Option FieldTree) → slice_get columns n ≡ o → IsReferred columns (ref.Name name) (column_at columns n)
    there n meant (Some c) e = rw (e) (by_name meant e)
    there n meant None e =
        let l = length-map columns tree_name in
        let w = meant_within (map tree_name columns) name n meant in
        let within : n < length columns = subst (λ m. n < m) l w in
        let k = (some_at columns n within).1 in
        let both : Some _ ≡ None = sym k ∙ e in absurd (cc)

    by : (m : Result ℕ NameFault) → IfOk m (IsMeant (map tree_name columns) name) × IfErr m (IsNameFault (map tree_name columns) name)
        → IsReferred columns (ref.Name name) (name_place m >>= column_at columns)
    by (Ok n) h = there n h.0 (slice_get columns n) refl
    by (Err fault.Unknown) h = unknown h.1
    by (Err fault.Ambiguous) h = ambiguous h.1
    by (Err fault.PositionOut) h = absurd h.1
referred columns (ref.Position n) = by (slice_get_cases columns n).1
  where
    by : ((x : FieldTree) × (n < length columns) × (slice_get columns n ≡ Some x) × (get_or columns n x ≡ x)) ⊎ ((length columns ≤ n) × (slice_get columns n ≡ None)) → IsReferred columns (ref.Position n) (column_at columns n)
    by (inl (x, w, k, m)) = rw (k) (by_position k)
    by (inr (past, k)) = rw (k) (outside past)

pub refer_is : {columns : List FieldTree} {r : FieldRef} {n : ℕ} {c : FieldTree} → RefersTo columns r n c → refer columns r ≡ Ok (n, c)
unfolding refer column_at
refer_is {columns = columns} (by_name {name = name} {n = n} meant e) = rw (meant_is (map tree_name columns) name n meant, e) refl
refer_is (by_position e) = rw (e) refl

pub refer_fails : {columns : List FieldTree} {r : FieldRef} {f : CheckKind} → RefersToNone columns r f → refer columns r ≡ Err f
unfolding refer column_at
refer_fails {columns = columns} (unknown {name = name} h) = rw (unknown_is (map tree_name columns) name h) refl
refer_fails {columns = columns} (ambiguous {name = name} h) = rw (ambiguous_is (map tree_name columns) name h) refl
refer_fails {columns = columns} (outside {n = n} past) = rw (slice_get_past columns n past) refl

-- ---- failing

-- a result is a refusal
pub data Fails {A : Type 0} : Checked A → Type 0 where
  failed : {f : CheckKind} → Fails (Err f)

pub fails_first : {A B : Type 0} (next : A → Checked B) {r : Checked A} → Fails r → Fails (r >>= next)
fails_first next failed = failed

pub fails_next : {A B : Type 0} (next : A → Checked B) (r : Checked A) → ((a : A) → Fails (next a)) → Fails (r >>= next)
fails_next next (Ok a) h = h a
fails_next next (Err f) h = failed

pub not_both : {A : Type 0} {r : Checked A} {a : A} → r ≡ Ok a → Fails r → ⊥
not_both e failed = absurd (cc)

-- ---- selections

abbrev pub IsSelected : List FieldTree → List FieldRef → Checked Picks → Type 0
IsSelected columns rs (Ok ps) = Selects columns rs ps
IsSelected columns rs (Err f) = SelectsNot columns rs f

pub selected : (columns : List FieldTree) (rs : List FieldRef) → IsSelected columns rs (select columns rs)
unfolding select
selected columns [] = none_selected
selected columns (r ∷ rs) =
    then_told (IsReferred columns r) (IsSelected columns (r ∷ rs)) _ (refer columns r) (referred columns r)
    (λ p h. then_told (IsSelected columns rs) (IsSelected columns (r ∷ rs)) _ (select columns rs) (selected columns rs) (λ ps g. one_selected h g) (λ f g. later g))
    (λ f h. here h)

pub select_is : {columns : List FieldTree} {rs : List FieldRef} {ps : Picks} → Selects columns rs ps → select columns rs ≡ Ok ps
unfolding select
select_is none_selected = refl
select_is (one_selected h g) = rw (refer_is h, select_is g) refl

pub select_fails : {columns : List FieldTree} {rs : List FieldRef} {f : CheckKind} → SelectsNot columns rs f → Fails (select columns rs)
unfolding select
select_fails {columns = columns} {rs = []} h = elim h [ ]
select_fails {columns = columns} {rs = r ∷ rs} (here h) = rw (refer_fails h) failed
select_fails {columns = columns} {rs = r ∷ rs} (later h) = fails_next _ (refer columns r) (λ p. fails_first _ (select_fails h))

-- ---- steps

abbrev pub IsStep : Typing → PostStep → Checked Typing → Type 0
IsStep p s (Ok q) = Steps p s q
IsStep p s (Err f) = StepsNot p s f

abbrev IsChosen : Typing → List FieldRef → Bool → Checked Picks → Type 0
IsChosen p refs single (Ok picks) = (columns : List FieldTree) × (inner_columns (typed_column p) ≡ Some columns) × Selects columns refs picks
IsChosen p refs single (Err f) = StepsNot p (step.Project refs single) f

chosen : (p : Typing) (refs : List FieldRef) (single : Bool) → IsChosen p refs single (chosen_of (typed_column p) refs)
unfolding chosen_of
chosen p refs single =
    due_is (IsChosen p refs single) _ kind.TypeMismatch (inner_columns (typed_column p))
    (λ columns e. passes (IsSelected columns refs) (IsChosen p refs single) (select columns refs) (selected columns refs) (λ picks g. (columns, e, g)) (λ f g. of_no_field e g))
    (λ e. of_no_fields e)

abbrev IsGiven : Typing → List FieldRef → Bool → Picks → Checked FieldTree → Type 0
IsGiven p refs single picks (Ok d) = (projected single (kind_in p) (picked picks) ≡ Some d) × ((k : KindTree) × (limited (tree_kind d) ≡ Ok k))
IsGiven p refs single picks (Err f) = StepsNot p (step.Project refs single) f

given_is : (p : Typing) (refs : List FieldRef) (single : Bool) (picks : Picks) → IsChosen p refs single (Ok picks) → IsGiven p refs single picks (given_of single (kind_in p) picks)
unfolding given_of
given_is p refs single picks w =
    due_is (IsGiven p refs single picks) _ kind.TypeMismatch (projected single (kind_in p) (picked picks))
    (λ d made. then_is (IsGiven p refs single picks) _ (limited (tree_kind d)) (λ k within. (made, (k, within))) (λ f past. past_limits w.1 w.2 made past))
    (λ made. of_no_grammar w.1 w.2 made)

pub stepped : (p : Typing) (s : PostStep) → IsStep p s (step_of p s)
unfolding step_of
stepped p (step.Project refs single) =
    then_told (IsChosen p refs single) (IsStep p (step.Project refs single)) _ (chosen_of (typed_column p) refs) (chosen p refs single)
    (λ picks w. then_told (IsGiven p refs single picks) (IsStep p (step.Project refs single)) _ (given_of single (kind_in p) picks) (given_is p refs single picks w)
    (λ d v. projects w.1 w.2 v.0 v.1.1) (λ f v. v))
    (λ f w. w)
stepped p (step.Look key) = due_is (IsStep p (step.Look key)) _ kind.TypeMismatch (values_column (typed_column p)) (λ d e. looks e) (λ e. of_no_map e)

pub step_is : {p q : Typing} {s : PostStep} → Steps p s q → step_of p s ≡ Ok q
unfolding step_of chosen_of given_of
step_is (projects e g made within) = rw (e, select_is g, made, within) refl
step_is (looks e) = rw (e) refl

pub step_fails : {p : Typing} {s : PostStep} {f : CheckKind} → StepsNot p s f → Fails (step_of p s)
unfolding step_of chosen_of given_of
step_fails (of_no_fields e) = rw (e) failed
step_fails (of_no_field e g) = rw (e) (fails_first _ (select_fails g))
step_fails (of_no_grammar e g made) = rw (e, select_is g, made) failed
step_fails (past_limits e g made past) = rw (e, select_is g, made, past) failed
step_fails (of_no_map e) = rw (e) failed

abbrev pub IsWalk : Typing → List PostStep → Checked Typing → Type 0
IsWalk p ss (Ok q) = Walks p ss q
IsWalk p ss (Err f) = WalksNot p ss f

pub walked : (p : Typing) (ss : List PostStep) → IsWalk p ss (steps_of p ss)
unfolding steps_of
walked p [] = ends
walked p (s ∷ ss) =
    then_told (IsStep p s) (IsWalk p (s ∷ ss)) _ (step_of p s) (stepped p s)
    (λ q h. passes (IsWalk q ss) (IsWalk p (s ∷ ss)) (steps_of q ss) (walked q ss) (λ r g. goes h g) (λ f g. goes_on h g))
    (λ f h. stops h)

pub walk_is : {p q : Typing} {ss : List PostStep} → Walks p ss q → steps_of p ss ≡ Ok q
unfolding steps_of
walk_is ends = refl
walk_is (goes h g) = rw (step_is h) (walk_is g)

pub walk_fails : {p : Typing} {ss : List PostStep} {f : CheckKind} → WalksNot p ss f → Fails (steps_of p ss)
unfolding steps_of
walk_fails (stops h) = fails_first _ (step_fails h)
walk_fails (goes_on h g) = rw (step_is h) (walk_fails g)
