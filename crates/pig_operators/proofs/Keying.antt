-- Rows under their keys, brought together by a sorted run.
use Rattle.std.specs.Prelude.{◌≡◌, ◌≢◌, ◌≤◌, ℕ, Bool, List, [], ◌∷◌, map, length, get_or, refl}
use Rattle.std.specs.List.{AllByRecursion}
use Rattle.std.proofs.Common.{ap, sym, arith, ◌∙◌}
use Rattle.std.proofs.lemmas.List.{length-map}
use Rattle.std.proofs.lemmas.List.Sorted.{IsPermutation-sym}
use Rattle.pig_value.proofs.list_laws.Bags.{sort_permutes}
use Rattle.pig_value.specs.Gathering.{Entry}
use Rattle.pig_value.specs.Sorts.{sort}
use Rattle.pig_value.specs.Trees.{Tree}
use Rattle.pig_value.specs.Valid.{IsRow, IsValue}
use Rattle.pig_value.specs.declared.operators.Side.{Side}
use Rattle.pig_typed.specs.Literals.{LiteralsAre}
use Rattle.pig_typed.specs.Typed.{Typed}
use Rattle.pig_eval.proofs.Evaluated.{a_value}
use Rattle.pig_plan.proofs.Gathered.{gathered_same}
use Rattle.pig_plan.specs.ByKey.{cogroup_of, gathered, outer_of}
use Rattle.pig_plan.specs.Operators.{group_rows, keyed_entries, keys_of}
use Rattle.pig_plan.specs.Plans.{Keyed, keyed_of}
use Rattle.pig_plan.specs.declared.nodes.KeyedInput.{KeyedInput}
use Rattle.pig_runs.specs.Entries.{run_cmp, run_of}
use Rattle.pig_operators.specs.Keying.{outer_rows}

-- a run gives what its entries give
pub run_gathers : (make : Tree → (ℕ → List (List Tree)) → List (List Tree)) (es : List Entry) → gathered make (run_of [] es).entries ≡ gathered make es
run_gathers make es = gathered_same make (sort (run_cmp []) es) es (IsPermutation-sym es (sort (run_cmp []) es) (sort_permutes (run_cmp []) es))

-- ---- shapes of inputs

pub outer_at : (s : Side) (width : ℕ → ℕ) (inputs : List KeyedInput) (a b : KeyedInput) → 2 ≤ length inputs → a ≡ get_or inputs 0 a → b ≡ get_or inputs 1 b
    → (l r : ℕ) → l ≡ width a.input → r ≡ width b.input → (rows : ℕ → List (List Tree))
    → gathered (outer_of s l r) (keyed_entries 0 (map keyed_of inputs) rows) ≡ outer_rows s width (map keyed_of inputs) rows
outer_at s width [] a b two left right l r lw rw_ rows = absurd (omega (arith, two))
outer_at s width (x ∷ []) a b two left right l r lw rw_ rows = absurd (omega (arith, two))
outer_at s width (x ∷ y ∷ inputs) a b two left right l r lw rw_ rows =
    let e : l ≡ width x.input = lw ∙ ap (λ k. width k.input) left in
    let f : r ≡ width y.input = rw_ ∙ ap (λ k. width k.input) right in
    λ i. gathered (outer_of s (e i) (f i)) (keyed_entries 0 (map keyed_of (x ∷ y ∷ inputs)) rows)

cogrouped : (inputs : List Keyed) → length inputs ≢ 1 → (rows : ℕ → List (List Tree))
    → gathered (cogroup_of (map (λ i. i.inner) inputs) (length inputs)) (keyed_entries 0 inputs rows) ≡ group_rows inputs rows
cogrouped [] other rows = refl
cogrouped (i ∷ []) other rows = absurd (other refl)
cogrouped (i ∷ j ∷ inputs) other rows = refl

pub cogroup_is : (inputs : List KeyedInput) (inner : List Bool) → length inputs ≢ 1 → inner ≡ map (λ i. i.inner) (map keyed_of inputs) → (rows : ℕ → List (List Tree))
    → gathered (cogroup_of inner (length inner)) (keyed_entries 0 (map keyed_of inputs) rows) ≡ group_rows (map keyed_of inputs) rows
cogroup_is inputs inner other is rows =
    let keyed : List Keyed = map keyed_of inputs in
    let long : length inner ≡ length keyed = ap length is ∙ length-map keyed (λ i. i.inner) in
    (λ i. gathered (cogroup_of (is i) (long i)) (keyed_entries 0 keyed rows))
    ∙ cogrouped keyed (λ one. other (sym (length-map inputs keyed_of) ∙ one)) rows

-- ---- keys of values

pub keys_valid : (keys : List Typed) (row : List Tree) → AllByRecursion (LiteralsAre IsValue) keys → IsRow row → IsRow (keys_of keys row)
keys_valid [] row ok h = tt
keys_valid (e ∷ keys) row ok h = (a_value e row [] ok.0 h tt, keys_valid keys row ok.1 h)
