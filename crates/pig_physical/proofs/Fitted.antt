-- Outputs that fit a task, and some that don't.
use Rattle.std.specs.Prelude.{◌≡◌, ◌<◌, ℕ, List, [], ◌∷◌, codes, length, Some, refl}
use Rattle.std.proofs.Common.{ap, arith, subst}
use Rattle.pig_value.specs.Gathering.{Entry}
use Rattle.pig_value.specs.Kinds.{IsOf, IsRowOf}
use Rattle.pig_value.specs.Trees.{KindTree, Tree, k_tuple, no_fields, no_kinds, v_tuple}
use Rattle.pig_value.proofs.list_laws.Listing.{some_same}
use Rattle.pig_plan.specs.Plans.{Plan, PlanNode, PlanOp, p_distinct, p_limit, p_load, p_store}
use Rattle.pig_runs.specs.Entries.{InDirections}
use Rattle.pig_physical.specs.Fitting.{EntryFits, MapFits, RunFits, given_kinds, key_kind_at}
use Rattle.pig_physical.specs.Outs.{bytes_in, o_bytes, o_runs, runs_in}
use Rattle.pig_physical.specs.Stages.{Stages}
use Rattle.pig_physical.specs.Values.{key_row}

abbrev node : ℕ → PlanOp → PlanNode
node statement o = record { op = o; statement = statement }

-- a DISTINCT of rows without fields, stored, with two reducers
abbrev plan : Plan
plan = node 1 (p_load (codes "in") 9 []) ∷ node 2 (p_distinct 0) ∷ node 3 (p_store 1 (codes "out") 9) ∷ []

abbrev stages : Stages
stages = record { plan = plan; sizing = record { lengths = λ path. 7 ∷ []; reducers = 2; split = 9 } }

abbrev entry : Tree → List Tree → Entry
entry key row = record { key = key; input = 0; row = row }

abbrev empty_row : Tree
empty_row = v_tuple no_fields

abbrev run : List Entry → InDirections
run entries = record { dirs = []; entries = entries }

-- an entry holds the key alone
key_alone : EntryFits plan 1 (p_distinct 0) (entry empty_row (empty_row ∷ []))
key_alone = record { input = omega arith; key = λ kind is. key_of_kind kind is; row = refl; gives = λ kinds is. row_of_kinds kinds is }
  where
    row_of_kinds : (kinds : List KindTree) → given_kinds plan 1 ≡ Some kinds → IsRowOf (key_row empty_row) kinds
    row_of_kinds kinds is = subst (IsRowOf (key_row empty_row)) (some_same [] kinds is) tt

    key_of_kind : (kind : KindTree) → key_kind_at plan (p_distinct 0) 0 ≡ Some kind → IsOf empty_row kind
    key_of_kind kind is = subst (IsOf empty_row) (some_same (k_tuple no_kinds) kind is) tt

none_held : RunFits plan 1 (p_distinct 0) (run [])
none_held = record { dirs = refl; entries = tt }

both_runs : MapFits stages 1 (p_distinct 0) 0 (o_runs (run (entry empty_row (empty_row ∷ []) ∷ []) ∷ run [] ∷ []))
both_runs = record {
  runs = run (entry empty_row (empty_row ∷ []) ∷ []) ∷ run [] ∷ [];
  is = refl;
  count = refl;
  each = (record { dirs = refl; entries = (key_alone, tt) }, (none_held, tt));
}

-- a run is missing
one_run : MapFits stages 1 (p_distinct 0) 0 (o_runs (run [] ∷ [])) → ⊥
one_run h =
    let found : length (runs_in (o_runs (run [] ∷ []))) ≡ length h.runs = ap (λ form. length (runs_in form)) h.is in
    let count : length h.runs ≡ 2 = h.count in
    omega (arith, found, count)

-- the entry comes from an input that there isn't
no_input : EntryFits plan 1 (p_distinct 0) (record { key = empty_row; input = 1; row = empty_row ∷ [] }) → ⊥
no_input h = let below : 1 < 1 = h.input in omega (arith, below)

-- a LIMIT hands on rows
no_runs : MapFits stages 1 (p_limit 0 5) 0 (o_bytes (7 ∷ [])) → ⊥
no_runs h =
    let none : length (bytes_in (o_bytes (7 ∷ []))) ≡ 0 = ap (λ form. length (bytes_in form)) h.is in
    omega (arith, none)
