-- Projections and look-ups, one step behind the other.
-- (Pig Latin Basics: "Dereference Operators".)
use Rattle.std.specs.Prelude.{◌≡◌, ◌++◌, ℕ, Bool, true, false, List, [], ◌∷◌, map, codes, Option, Some, None}
use Rattle.std.specs.declared.result.Result.TheVariants.{Ok, Err}
use Rattle.pig_value.specs.Trees.{KindTree, k_tuple, k_bag, k_map}
use Rattle.pig_schema.specs.FieldTrees.{FieldTree, FieldTrees, a_field, inner_list, tree_name, tree_kind, tree_inner}
use Rattle.pig_syntax.specs.declared.trees.FieldRef.{FieldRef}
use Rattle.pig_syntax.specs.declared.trees.PostStep.{PostStep}
use Rattle.pig_syntax.specs.declared.trees.PostStep.TheVariants as step
use Rattle.pig_typed.specs.Typed.{Typed, TypedItem, x_project, x_look}
use Rattle.pig_typing.specs.declared.faults.CheckKind.{CheckKind}
use Rattle.pig_typing.specs.declared.faults.CheckKind.TheVariants as kind
use Rattle.pig_typing.specs.Columns.{RefersTo, RefersToNone, refer}
use Rattle.pig_typing.specs.Limits.{limited}
use Rattle.pig_typing.specs.Results.{Checked, due, ◌>>=◌}
use Rattle.pig_typing.specs.Written.{of_fields}

-- what an expression is typed as: a typed expression, and the column that it gives
pub data Typing : Type 0 where
  typing : Typed → FieldTree → Typing

abbrev pub typed_of : Typing → Typed
typed_of (typing t c) = t

abbrev pub typed_column : Typing → FieldTree
typed_column (typing t c) = c

abbrev pub kind_in : Typing → KindTree
kind_in p = tree_kind (typed_column p)

-- an item that gives one field
abbrev pub plain_item : Typed → TypedItem
plain_item t = record { value = t; flatten = false; width = 1 }

-- ---- selections of columns, each with its place

abbrev pub Picks : Type 0
Picks = List (ℕ × FieldTree)

abbrev pub pick_places : Picks → List ℕ
pick_places = map (λ p. p.0)

abbrev pub picked : Picks → List FieldTree
picked = map (λ p. p.1)

pub data Selects (columns : List FieldTree) : List FieldRef → Picks → Type 0 where
  none_selected : Selects columns [] []
  one_selected : {r : FieldRef} {rs : List FieldRef} {pick : ℕ × FieldTree} {picks : Picks}
      → RefersTo columns r pick.0 pick.1 → Selects columns rs picks → Selects columns (r ∷ rs) (pick ∷ picks)

-- one of the references means no column
pub data SelectsNot (columns : List FieldTree) : List FieldRef → CheckKind → Type 0 where
  here : {r : FieldRef} {rs : List FieldRef} {f : CheckKind} → RefersToNone columns r f → SelectsNot columns (r ∷ rs) f
  later : {r : FieldRef} {rs : List FieldRef} {f : CheckKind} → SelectsNot columns rs f → SelectsNot columns (r ∷ rs) f

-- ---- one step

-- the fields of a tuple, or of the tuples of a bag
abbrev pub held_fields : KindTree → List FieldTree → Option (List FieldTree)
held_fields (k_tuple ks) inner = Some inner
held_fields (k_bag ks) inner = Some inner
held_fields k inner = None

abbrev pub inner_columns : FieldTree → Option (List FieldTree)
inner_columns c = held_fields (tree_kind c) (inner_list (tree_inner c))

abbrev pub renamed : Option (List ℕ) → FieldTree → FieldTree
renamed name c = a_field name (tree_kind c) (tree_inner c)

-- the name of a field of a tuple, bag or relation with a name: that name, `::` and its own
abbrev pub name_under : Option (List ℕ) → Option (List ℕ) → Option (List ℕ)
name_under (Some outer) (Some name) = Some (outer ++ codes "::" ++ name)
name_under outer name = name

abbrev pub under_name : Option (List ℕ) → FieldTree → FieldTree
under_name outer c = renamed (name_under outer (tree_name c)) c

-- One field of a tuple is this column, and of a bag a bag of it that keeps its name. Several give a tuple, or a bag, without a name.
-- No field, and several that stand without parentheses, are of no grammar.
abbrev pub projected : Bool → KindTree → List FieldTree → Option FieldTree
projected true (k_tuple ks) (c ∷ []) = Some c
projected true (k_bag ks) (c ∷ []) = Some (renamed (tree_name c) (of_fields k_bag (c ∷ [])))
projected false (k_tuple ks) (c ∷ cs) = Some (of_fields k_tuple (c ∷ cs))
projected false (k_bag ks) (c ∷ cs) = Some (of_fields k_bag (c ∷ cs))
projected single k columns = None

-- the values of a map
abbrev pub held_value : KindTree → FieldTrees → Option FieldTree
held_value (k_map k) inner = Some (a_field None k inner)
held_value k inner = None

abbrev pub values_column : FieldTree → Option FieldTree
values_column c = held_value (tree_kind c) (tree_inner c)

pub data Steps : Typing → PostStep → Typing → Type 0 where
  projects : {p : Typing} {columns : List FieldTree} {refs : List FieldRef} {ps : Picks} {single : Bool} {d : FieldTree} {k : KindTree}
      → inner_columns (typed_column p) ≡ Some columns → Selects columns refs ps → projected single (kind_in p) (picked ps) ≡ Some d → limited (tree_kind d) ≡ Ok k
      → Steps p (step.Project refs single) (typing (x_project (typed_of p) (pick_places ps) single) d)
  looks : {p : Typing} {key : List ℕ} {d : FieldTree} → values_column (typed_column p) ≡ Some d → Steps p (step.Look key) (typing (x_look (typed_of p) key) d)

-- why there is no such step
pub data StepsNot : Typing → PostStep → CheckKind → Type 0 where
  of_no_fields : {p : Typing} {refs : List FieldRef} {single : Bool} → inner_columns (typed_column p) ≡ None → StepsNot p (step.Project refs single) kind.TypeMismatch
  of_no_field : {p : Typing} {columns : List FieldTree} {refs : List FieldRef} {single : Bool} {f : CheckKind}
      → inner_columns (typed_column p) ≡ Some columns → SelectsNot columns refs f → StepsNot p (step.Project refs single) f
  of_no_grammar : {p : Typing} {columns : List FieldTree} {refs : List FieldRef} {ps : Picks} {single : Bool}
      → inner_columns (typed_column p) ≡ Some columns → Selects columns refs ps → projected single (kind_in p) (picked ps) ≡ None → StepsNot p (step.Project refs single) kind.TypeMismatch
  past_limits : {p : Typing} {columns : List FieldTree} {refs : List FieldRef} {ps : Picks} {single : Bool} {d : FieldTree} {f : CheckKind}
      → inner_columns (typed_column p) ≡ Some columns → Selects columns refs ps → projected single (kind_in p) (picked ps) ≡ Some d → limited (tree_kind d) ≡ Err f
      → StepsNot p (step.Project refs single) f
  of_no_map : {p : Typing} {key : List ℕ} → values_column (typed_column p) ≡ None → StepsNot p (step.Look key) kind.TypeMismatch

-- ---- steps in turn

pub data Walks : Typing → List PostStep → Typing → Type 0 where
  ends : {p : Typing} → Walks p [] p
  goes : {p q r : Typing} {s : PostStep} {ss : List PostStep} → Steps p s q → Walks q ss r → Walks p (s ∷ ss) r

pub data WalksNot : Typing → List PostStep → CheckKind → Type 0 where
  stops : {p : Typing} {s : PostStep} {ss : List PostStep} {f : CheckKind} → StepsNot p s f → WalksNot p (s ∷ ss) f
  goes_on : {p q : Typing} {s : PostStep} {ss : List PostStep} {f : CheckKind} → Steps p s q → WalksNot q ss f → WalksNot p (s ∷ ss) f

-- ---- the same as functions

unfoldable pub select : List FieldTree → List FieldRef → Checked Picks
select columns [] = Ok []
select columns (r ∷ rs) = do
  pick ← refer columns r
  picks ← select columns rs
  Ok (pick ∷ picks)

-- the fields that a projection takes
unfoldable pub chosen_of : FieldTree → List FieldRef → Checked Picks
chosen_of c refs = do
  columns ← due kind.TypeMismatch (inner_columns c)
  select columns refs

-- the column that it gives of them, within the limits
unfoldable pub given_of : Bool → KindTree → Picks → Checked FieldTree
given_of single k picks = do
  d ← due kind.TypeMismatch (projected single k (picked picks))
  l ← limited (tree_kind d)
  Ok d

unfoldable pub step_of : Typing → PostStep → Checked Typing
step_of p (step.Project refs single) = do
  picks ← chosen_of (typed_column p) refs
  d ← given_of single (kind_in p) picks
  Ok (typing (x_project (typed_of p) (pick_places picks) single) d)
step_of p (step.Look key) = do
  d ← due kind.TypeMismatch (values_column (typed_column p))
  Ok (typing (x_look (typed_of p) key) d)

unfoldable pub steps_of : Typing → List PostStep → Checked Typing
steps_of p [] = Ok p
steps_of p (s ∷ ss) = do
  q ← step_of p s
  steps_of q ss
