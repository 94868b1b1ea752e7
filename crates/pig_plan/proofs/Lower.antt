-- A node of a plan names lower ones, since it is valid behind those before it alone.
use Rattle.std.specs.Prelude.{◌≡◌, ◌<◌, ◌≤◌, ℕ, Bool, true, false, not, List, [], ◌∷◌, length, map, take, Option, Some, None, slice_get, refl}
use Rattle.std.proofs.Common.{ap, sym, arith, suc, zero, true≢false, ◌&&◌}
use Rattle.std.specs.List.{AllByRecursion, list_any}
use Rattle.std.specs.Option.{is_some, option_and_then, option_map}
use Rattle.std.proofs.lemmas.Option.{none-some}
use Rattle.pig_value.proofs.list_laws.Listing.{each_weaker, each-map}
use Rattle.pig_value.specs.FieldReader.{all_of}
use Rattle.pig_value.specs.declared.inputs.Input.{Input}
use Rattle.pig_value.specs.declared.outcomes.Kept.{Kept}
use Rattle.pig_plan.proofs.Looking.{NamesLower, meaning_is}
use Rattle.pig_plan.proofs.Unfolds.{length-results}
use Rattle.pig_plan.specs.NodeKinds.{Before, KeyedKinds, RowKinds, all_keyed, key_kinds, keyed_kinds, kinds_at, kinds_step, kinds_table, node_gives}
use Rattle.pig_plan.specs.Meaning.{meaning, setting}
use Rattle.pig_plan.specs.Nodes.{inputs_of}
use Rattle.pig_plan.specs.Operators.{operator_rows}
use Rattle.pig_plan.specs.Plans.{Keyed, Plan, PlanNode, PlanOp, p_load, p_filter, p_foreach, p_group_all, p_group, p_join, p_union, p_distinct, p_order, p_limit, p_store, p_assert, p_rank}
use Rattle.pig_plan.specs.Results.{at_place}
use Rattle.pig_plan.specs.Valid.{IsPlan, fits, is_twin, op_writes_lf}

module _ {A B : Type 0} where
  -- what a step goes on from is there where the whole is
  found_first : (o : Option A) (f : A → Option B) (b : B) → option_and_then f o ≡ Some b → (a : A) × (o ≡ Some a)
  found_first None f b h = absurd (none-some b h)
  found_first (Some a) f b h = (a, refl)

  is_found : (o : Option A) (f : A → Option B) (b : B) → option_and_then f o ≡ Some b → is_some o ≡ true
  is_found o f b h = ap is_some (found_first o f b h).1

module _ {X Y : Type 0} (f : X → Option Y) where
  later : (o : Option Y) (r : Option (List Y)) (ys : List Y) → option_and_then (λ y. option_map (λ more. y ∷ more) r) o ≡ Some ys → (more : List Y) × (r ≡ Some more)
  later None r ys h = absurd (none-some ys h)
  later (Some y) None ys h = absurd (none-some ys h)
  later (Some y) (Some more) ys h = (more, refl)

  each_found : (xs : List X) (ys : List Y) → all_of f xs ≡ Some ys → AllByRecursion (λ x. is_some (f x) ≡ true) xs
  each_found [] ys h = tt
  each_found (x ∷ xs) ys h =
      let rest = later (f x) (all_of f xs) ys h in
      (is_found (f x) (λ y. option_map (λ more. y ∷ more) (all_of f xs)) ys h, each_found xs rest.0 rest.1)

keyed_found : (before : Before) (input : Keyed) → is_some (keyed_kinds before input) ≡ true → is_some (before input.input) ≡ true
keyed_found before input h = by_row (before input.input) h
  where
    by_row : (o : Option RowKinds) → is_some {T = KeyedKinds} (option_and_then (λ row. option_and_then (λ keys. Some (record { row = row; keys = keys })) (key_kinds row input.keys)) o) ≡ true → is_some o ≡ true
    by_row None e = e
    by_row (Some row) e = refl

keyed_inputs_found : (before : Before) (inputs : List Keyed) (found : List KeyedKinds) → all_keyed before inputs ≡ Some found → AllByRecursion (λ i. is_some (before i) ≡ true) (map (λ k. k.input) inputs)
keyed_inputs_found before inputs found h =
    let all = found_first (all_of (keyed_kinds before) inputs) _ found h in
    each-map (λ i. is_some (before i) ≡ true) (λ k. k.input) inputs
    (each_weaker (λ k. is_some (keyed_kinds before k) ≡ true) (λ k. is_some (before k.input) ≡ true) (keyed_found before) inputs (each_found (keyed_kinds before) inputs all.0 all.1))

-- a valid node names relations alone
pub inputs_found : (before : Before) (o : PlanOp) (g : Option RowKinds) → node_gives before o ≡ Some g → AllByRecursion (λ i. is_some (before i) ≡ true) (inputs_of o)
inputs_found before (p_load path delim columns) g h = tt
inputs_found before (p_filter input cond) g h = (is_found (before input) _ g h, tt)
inputs_found before (p_foreach input block) g h = (is_found (before input) _ g h, tt)
inputs_found before (p_group_all input) g h = (is_found (before input) _ g h, tt)
inputs_found before (p_group inputs) g h = let all = found_first (all_keyed before inputs) _ g h in keyed_inputs_found before inputs all.0 all.1
inputs_found before (p_join inputs s replicated) g h = let all = found_first (all_keyed before inputs) _ g h in keyed_inputs_found before inputs all.0 all.1
inputs_found before (p_union inputs) g h = let all = found_first (all_of before inputs) _ g h in each_found before inputs all.0 all.1
inputs_found before (p_distinct input) g h = (is_found (before input) _ g h, tt)
inputs_found before (p_order input keys) g h = (is_found (before input) _ g h, tt)
inputs_found before (p_limit input count) g h = (is_found (before input) _ g h, tt)
inputs_found before (p_store input path delim) g h = (is_found (before input) _ g h, tt)
inputs_found before (p_assert input cond message) g h = (is_found (before input) _ g h, tt)
inputs_found before (p_rank input keys dense) g h = (is_found (before input) _ g h, tt)

length_take_at_most : {X : Type 0} (k : ℕ) (xs : List X) → length (take k xs) ≤ k
length_take_at_most zero xs = omega (arith)
length_take_at_most (suc k) [] = omega (arith)
length_take_at_most (suc k) (x ∷ xs) = let shorter = length_take_at_most k xs in omega (arith, shorter)

-- what is found at a place stands within the list
placed_within : {R : Type 0} (xs : List (Option R)) (i : ℕ) → is_some (at_place None xs i) ≡ true → i < length xs
placed_within [] i h = absurd (true≢false (sym h))
placed_within (x ∷ xs) zero h = omega (arith)
placed_within (x ∷ xs) (suc i) h = let within = placed_within xs i h in omega (arith, within)

both_first : (a b : Bool) → (a && b) ≡ true → a ≡ true
both_first true b h = refl
both_first false b h = h

some_of : {A : Type 0} (o : Option A) → is_some o ≡ true → (a : A) × (o ≡ Some a)
some_of None h = absurd (true≢false (sym h))
some_of (Some a) h = (a, refl)

pub names_lower : (plan : Plan) → IsPlan plan → (k : ℕ) (node : PlanNode) → slice_get plan k ≡ Some node → NamesLower k node
names_lower plan valid k node h =
    let before : Plan = take k plan in
    let fitting : fits before node ≡ true = valid k node h in
    let given = some_of (node_gives (kinds_at before) node.op) (both_first (is_some (node_gives (kinds_at before) node.op)) (not (op_writes_lf node.op)) (both_first (is_some (node_gives (kinds_at before) node.op) && not (op_writes_lf node.op)) (not (list_any (is_twin node) before)) fitting)) in
    let short : length before ≤ k = length_take_at_most k plan in
    let same : length (kinds_table before) ≡ length before = length-results kinds_step None before in
    each_weaker (λ i. is_some (kinds_at before i) ≡ true) (λ i. i < k)
    (λ i found. let within = placed_within (kinds_table before) i found in omega (arith, within, same, short))
    (inputs_of node.op) (inputs_found (kinds_at before) node.op given.0 given.1)

-- the meaning of a node of a plan is its operator on the meanings of its inputs
pub meaning_of_node : (plan : Plan) (inputs : List Input) (kept : List Kept) → IsPlan plan → (k : ℕ) (node : PlanNode) → slice_get plan k ≡ Some node
    → meaning plan inputs kept k ≡ operator_rows (setting plan inputs kept) node.statement node.op (meaning plan inputs kept)
meaning_of_node plan inputs kept valid k node h = meaning_is plan inputs kept k node h (names_lower plan valid k node h)
