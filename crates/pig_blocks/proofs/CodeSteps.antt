-- What the code keeps from step to step.
use Rattle.std.proofs.Common.{◌≡◌, ◌∙◌, ◌+◌, ◌-◌, ◌<◌, ◌++◌, ℕ, suc, List, [], ◌∷◌, drop, get_or, length, refl, sym, ap, subst, arith}
use Rattle.std.specs.declared.result.Result.TheVariants.{Ok, Err}
use Rattle.std.proofs.lemmas.List.{append_assoc, drop_more}
use Rattle.pig_value.specs.declared.operators.Dir.{Dir}
use Rattle.pig_schema.specs.FieldTrees.{FieldTree}
use Rattle.pig_syntax.specs.declared.trees.FieldRef.TheVariants as ref
use Rattle.pig_syntax.specs.declared.trees.Step.{Step}
use Rattle.pig_typed.specs.Typed.{TypedStep}
use Rattle.pig_typed.specs.declared.blocks.SortKey.{SortKey}
use Rattle.pig_typing.specs.declared.faults.TypeFault.{TypeFault}
use Rattle.pig_typing.specs.declared.faults.TypeFault.TheVariants as fault
use Rattle.pig_typing.specs.Columns.{Place}
use Rattle.pig_typing.specs.Results.{Checked, ◌>>=◌, checked_map, checked_then, Tells}
use Rattle.pig_blocks.specs.SortKeys.{fields_in, key_of, keys_of}
use Rattle.pig_blocks.specs.Steps.{Made, step_made, column_made, behind, Stepped, stepped, steps_made, place_behind, step_first, one_more, made_of, steps_behind, steps_of}

-- a refusal is passed on
pub passes_fault : {A B S T : Type 0} (see : S → A) (view : T → B) (r : Checked A) (next : A → Checked B) (e : TypeFault) → Tells see r (Err e) → Tells view (checked_then next r) (Err e)
passes_fault see view r next (fault.Refused kind) told = ap (checked_then next) told
passes_fault see view r next fault.OutOfMemory told = tt

-- nothing follows
pub alone : {A : Type 0} (r : Checked A) → (r >>= λ a. Ok a) ≡ r
alone (Ok a) = refl
alone (Err f) = refl

-- ---- keys of all fields

-- the fields from a place on are the one there and those behind it
fields_split : (d : Dir) (n count : ℕ) → n < count → fields_in d n (count - n) ≡ record { field = ref.Position n; dir = d } ∷ fields_in d (n + 1) (count - (n + 1))
fields_split d n count w = let one : count - n ≡ suc (count - (n + 1)) = omega arith in ap (fields_in d n) one

-- what is left, by its first key
pub keys_left : (columns : List FieldTree) (d : Dir) (made : List SortKey) (n count : ℕ) (all : Checked (List SortKey)) → n < count
    → checked_map (λ more. made ++ more) (keys_of columns (fields_in d n (count - n))) ≡ all
    → checked_map (λ more. made ++ more) (key_of columns (ref.Position n) d >>= λ k. keys_of columns (fields_in d (n + 1) (count - (n + 1))) >>= λ ks. Ok (k ∷ ks)) ≡ all
unfolding keys_of
keys_left columns d made n count all w e = subst (λ fields. checked_map (λ more. made ++ more) (keys_of columns fields) ≡ all) (fields_split d n count w) e

push_key : (made : List SortKey) (k : SortKey) (r : Checked (List SortKey)) → checked_map (λ more. (made ++ k ∷ []) ++ more) r ≡ checked_map (λ more. made ++ more) (r >>= λ ks. Ok (k ∷ ks))
push_key made k (Ok ks) = ap (λ x. Ok x) (append_assoc made (k ∷ []) ks)
push_key made k (Err f) = refl

pub key_goes : (columns : List FieldTree) (d : Dir) (made : List SortKey) (n count : ℕ) (k : SortKey) (all : Checked (List SortKey)) → n < count → key_of columns (ref.Position n) d ≡ Ok k
    → checked_map (λ more. made ++ more) (keys_of columns (fields_in d n (count - n))) ≡ all
    → checked_map (λ more. (made ++ k ∷ []) ++ more) (keys_of columns (fields_in d (n + 1) (count - (n + 1)))) ≡ all
key_goes columns d made n count k all w e whole =
    let rest = keys_of columns (fields_in d (n + 1) (count - (n + 1))) in
    push_key made k rest ∙ subst (λ r. checked_map (λ more. made ++ more) (r >>= λ x. rest >>= λ ks. Ok (x ∷ ks)) ≡ all) e (keys_left columns d made n count all w whole)

-- a key that is refused refuses them all
pub key_stops : (columns : List FieldTree) (d : Dir) (made : List SortKey) (n count : ℕ) (e : TypeFault) (all : Checked (List SortKey)) → n < count
    → Tells {A = SortKey} {B = SortKey} (λ k. k) (key_of columns (ref.Position n) d) (Err e)
    → checked_map (λ more. made ++ more) (keys_of columns (fields_in d n (count - n))) ≡ all
    → Tells {A = List SortKey} {B = List SortKey} (λ ks. ks) all (Err e)
key_stops columns d made n count (fault.Refused kind) all w told whole =
    let rest = keys_of columns (fields_in d (n + 1) (count - (n + 1))) in
    sym (keys_left columns d made n count all w whole) ∙ ap (λ r. checked_map (λ more. made ++ more) (r >>= λ x. rest >>= λ ks. Ok (x ∷ ks))) told
key_stops columns d made n count fault.OutOfMemory all w told whole = tt

-- ---- steps in turn

push_step : (so_far : Stepped) (t : TypedStep) (s : Place) (r : Checked Stepped)
    → checked_map (steps_behind (stepped (steps_made so_far ++ t ∷ []) s)) r ≡ checked_map (steps_behind so_far) (r >>= λ more. Ok (step_first t more))
push_step so_far t s (Ok more) = ap (λ x. Ok (stepped x (place_behind more))) (append_assoc (steps_made so_far) (t ∷ []) (steps_made more))
push_step so_far t s (Err f) = refl

-- one step more
pub step_goes : (so_far new : Stepped) (steps : List Step) (i : ℕ) (step : Step) (alias : List ℕ) (m : Made) (all : Checked Stepped)
    → i < length steps → step ≡ get_or steps i step → made_of (place_behind so_far) step.nested ≡ Ok m → alias ≡ step.alias → new ≡ one_more so_far alias m
    → checked_map (steps_behind so_far) (steps_of (place_behind so_far) (drop i steps)) ≡ all
    → checked_map (steps_behind new) (steps_of (place_behind new) (drop (i + 1) steps)) ≡ all
unfolding steps_of
step_goes so_far new steps i step alias m all w is e named more whole =
    let rest = drop (i + 1) steps in
    let cut : drop i steps ≡ step ∷ rest = drop_more steps i step w ∙ ap (λ x. x ∷ rest) (sym is) in
    let at : checked_map (steps_behind so_far) (steps_of (place_behind so_far) (step ∷ rest)) ≡ all =
    subst (λ ls. checked_map (steps_behind so_far) (steps_of (place_behind so_far) ls) ≡ all) cut whole in
    let one : checked_map (steps_behind so_far) (steps_of (behind (place_behind so_far) step.alias (column_made m)) rest >>= λ others. Ok (step_first (step_made m) others)) ≡ all =
    subst (λ r. checked_map (steps_behind so_far) (r >>= λ x. steps_of (behind (place_behind so_far) step.alias (column_made x)) rest >>= λ others. Ok (step_first (step_made x) others)) ≡ all) e at in
    let pushed : checked_map (steps_behind (one_more so_far step.alias m)) (steps_of (place_behind (one_more so_far step.alias m)) rest) ≡ all =
    push_step so_far (step_made m) (behind (place_behind so_far) step.alias (column_made m)) (steps_of (behind (place_behind so_far) step.alias (column_made m)) rest) ∙ one in
    let same : new ≡ one_more so_far step.alias m = more ∙ ap (λ a. one_more so_far a m) named in
    subst (λ x. checked_map (steps_behind x) (steps_of (place_behind x) rest) ≡ all) (sym same) pushed
