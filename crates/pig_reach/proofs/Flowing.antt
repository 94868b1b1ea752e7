-- The lines that come to a node, as they are counted, are those of the LOADs at which its paths begin.
use Rattle.std.specs.Prelude.{◌≡◌, ◌<◌, ◌≤◌, ◌+◌, ◌%◌, ◌^◌, ℕ, zero, suc, Bool, true, false, List, [], ◌∷◌, ◌++◌, length, map, drop, get_or, Option, Some, None, slice_get, refl, if◌then◌else◌}
use Rattle.std.proofs.Common.{ap, sym, subst, ◌∙◌, arith, inl, inr, cond}
use Rattle.std.specs.List.{AllByRecursion, flat_map, sum_by}
use Rattle.std.specs.Option.{option_map, option_map_or, unwrap_or}
use Rattle.std.proofs.lemmas.List.{drop_all, drop_more}
use Rattle.std.proofs.lemmas.List.Sums.{sum_by-append, sum_by-cons}
use Rattle.std.proofs.lemmas.Bool.{cases_Bool}
use Rattle.pig_value.specs.declared.inputs.Input.{Input}
use Rattle.pig_value.proofs.list_laws.Listing.{each_of_all, each_weaker}
use Rattle.pig_plan.specs.Nodes.{Path, and_then, inputs_of, is_boundary, is_source, is_store, live, op_at, paths_of, read_paths, ways}
use Rattle.pig_plan.specs.Plans.{Plan, PlanNode, PlanOp}
use Rattle.pig_plan.specs.Results.{at_place, result_at, results}
use Rattle.pig_plan.specs.Valid.{IsPlan}
use Rattle.pig_plan.proofs.Lower.{names_lower}
use Rattle.pig_plan.proofs.Paths.{paths_of_node}
use Rattle.pig_plan.proofs.Unfolds.{length-results, result_is}
use Rattle.pig_reach.specs.Flows.{come_from, comes_to, flows_of, uses_at, uses_in}
use Rattle.pig_reach.specs.Reach.{lines_at, lines_of, lines_read}

-- ---- sums

pub sum_same : {X : Type 0} (f g : X → ℕ) (xs : List X) → AllByRecursion (λ x. f x ≡ g x) xs → sum_by f xs ≡ sum_by g xs
sum_same f g [] h = refl
sum_same f g (x ∷ xs) h =
    let a = sum_by-cons f x xs in
    let b = sum_by-cons g x xs in
    let one = h.0 in
    let more = sum_same f g xs h.1 in
    omega (arith, a, b, one, more)

sum_map : {X Y : Type 0} (f : Y → ℕ) (g : X → Y) (xs : List X) → sum_by f (map g xs) ≡ sum_by (λ x. f (g x)) xs
sum_map f g [] = refl
sum_map f g (x ∷ xs) =
    let a = sum_by-cons f (g x) (map g xs) in
    let b = sum_by-cons (λ x. f (g x)) x xs in
    let more = sum_map f g xs in
    omega (arith, a, b, more)

pub sum_joined : {X Y : Type 0} (f : Y → ℕ) (g : X → List Y) (xs : List X) → sum_by f (flat_map g xs) ≡ sum_by (λ x. sum_by f (g x)) xs
sum_joined f g [] = refl
sum_joined f g (x ∷ xs) =
    let a = sum_by-append f (g x) (flat_map g xs) in
    let b = sum_by-cons (λ x. sum_by f (g x)) x xs in
    let more = sum_joined f g xs in
    omega (arith, a, b, more)

-- counting on, modulo 2 to the 64
pub counts_on : (count u x rest total : ℕ) → u ≡ x % 2 ^ 64 → (count + (x + rest)) % 2 ^ 64 ≡ total % 2 ^ 64 → ((count + u) % 2 ^ 64 + rest) % 2 ^ 64 ≡ total % 2 ^ 64
counts_on count u x rest total is so_far = omega (arith, is, so_far)

-- a sum of remainders
sum_mod : {X : Type 0} (f g : X → ℕ) (xs : List X) → AllByRecursion (λ x. f x ≡ g x % 2 ^ 64) xs → sum_by f xs % 2 ^ 64 ≡ sum_by g xs % 2 ^ 64
sum_mod f g [] h = refl
sum_mod f g (x ∷ xs) h =
    let a = sum_by-cons f x xs in
    let b = sum_by-cons g x xs in
    let one = h.0 in
    let more = sum_mod f g xs h.1 in
    omega (arith, a, b, one, more)

-- ---- results

-- there is no result where there is no node
none_at : {N R : Type 0} (step : ℕ → N → (ℕ → R) → R) (nothing : R) (nodes : List N) (k : ℕ) → slice_get nodes k ≡ None → slice_get (results step nothing nodes) k ≡ None
none_at step nothing nodes k at =
    let size = length-results step nothing nodes in
    let beyond : length nodes ≤ k = beyond_end nodes k at in
    past (results step nothing nodes) k (omega (arith, size, beyond))
  where
    beyond_end : {X : Type 0} (xs : List X) (k : ℕ) → slice_get xs k ≡ None → length xs ≤ k
    beyond_end [] k h = omega arith
    beyond_end (x ∷ xs) zero h = absurd (cc)
    beyond_end (x ∷ xs) (suc k) h = let more = beyond_end xs k h in omega (arith, more)

    past : {X : Type 0} (xs : List X) (k : ℕ) → length xs ≤ k → slice_get xs k ≡ None
    past [] k h = refl
    past (x ∷ xs) zero h = absurd (omega (arith, h))
    past (x ∷ xs) (suc k) h = past xs k (omega (arith, h))

-- ---- paths

module _ (plan : Plan) (inputs : List Input) where
  -- the lines of the LOADs at which the paths of a node begin
  abbrev pub flow : ℕ → ℕ
  flow k = sum_by (lines_at plan inputs) (paths_of plan k)

  alone : (k : ℕ) (node : PlanNode) → slice_get plan k ≡ Some node → lines_at plan inputs (record { source = k; nodes = [] }) ≡ lines_of inputs node.op
  alone k node at = ap (λ o. option_map_or (lines_of inputs) (option_map (λ n. n.op) o) 0) at

  -- a path begins where it began, also with a node behind it
  through_inputs : (k : ℕ) (paths : ℕ → List Path) (numbers : List ℕ)
      → sum_by (lines_at plan inputs) (flat_map (λ i. map (and_then k) (paths i)) numbers) ≡ sum_by (λ i. sum_by (lines_at plan inputs) (paths i)) numbers
  through_inputs k paths numbers = sum_joined (lines_at plan inputs) (λ i. map (and_then k) (paths i)) numbers ∙ each numbers
    where
      each : (ns : List ℕ) → sum_by (λ i. sum_by (lines_at plan inputs) (map (and_then k) (paths i))) ns ≡ sum_by (λ i. sum_by (lines_at plan inputs) (paths i)) ns
      each [] = refl
      each (n ∷ ns) =
          let one : sum_by (lines_at plan inputs) (map (and_then k) (paths n)) ≡ sum_by (lines_at plan inputs) (paths n) = sum_map (lines_at plan inputs) (and_then k) (paths n) in
          let a = sum_by-cons (λ i. sum_by (lines_at plan inputs) (map (and_then k) (paths i))) n ns in
          let b = sum_by-cons (λ i. sum_by (lines_at plan inputs) (paths i)) n ns in
          let more = each ns in
          omega (arith, one, a, b, more)

  -- what comes to a node, by what comes to its inputs
  flow_in : (k : ℕ) (node : PlanNode) → slice_get plan k ≡ Some node → (paths : ℕ → List Path)
      → sum_by (lines_at plan inputs) (ways k node.op paths)
      ≡ (if is_source node.op then lines_of inputs node.op else sum_by (λ i. sum_by (lines_at plan inputs) (paths i)) (inputs_of node.op))
  flow_in k node at paths = elim (cases_Bool (is_source node.op)) [
    | inl source ↦
        ap (λ b. sum_by (lines_at plan inputs) (cond b (own ∷ []) (flat_map (λ i. map (and_then k) (paths i)) (inputs_of node.op)))) source
        ∙ sum_by-cons (lines_at plan inputs) own []
        ∙ (let e = alone k node at in let z : sum_by (lines_at plan inputs) [] ≡ 0 = refl in
        let both : lines_at plan inputs own + sum_by (lines_at plan inputs) [] ≡ lines_of inputs node.op = omega (arith, e, z) in both)
        ∙ sym (ap (λ b. cond b (lines_of inputs node.op) (sum_by (λ i. sum_by (lines_at plan inputs) (paths i)) (inputs_of node.op))) source)
    | inr through ↦
        ap (λ b. sum_by (lines_at plan inputs) (cond b (own ∷ []) (flat_map (λ i. map (and_then k) (paths i)) (inputs_of node.op)))) through
        ∙ through_inputs k paths (inputs_of node.op)
        ∙ sym (ap (λ b. cond b (lines_of inputs node.op) (sum_by (λ i. sum_by (lines_at plan inputs) (paths i)) (inputs_of node.op))) through)
  ]
    where
      own : Path
      own = record { source = k; nodes = [] }

  -- ---- what is counted

  come_agree : (k : ℕ) (o : PlanOp) (f g : ℕ → ℕ) → ((j : ℕ) → j < k → f j ≡ g j) → AllByRecursion (λ i. i < k) (inputs_of o) → comes_to inputs o f ≡ comes_to inputs o g
  come_agree k o f g same lower =
      ap (λ n. cond (is_source o) (lines_of inputs o % 2 ^ 64) (n % 2 ^ 64))
      (sum_same f g (inputs_of o) (each_weaker (λ i. i < k) (λ i. f i ≡ g i) (λ i below. same i below) (inputs_of o) lower))

  abbrev pub counted : ℕ → ℕ
  counted = at_place 0 (flows_of inputs plan)

  -- the lines that are read for a node
  abbrev pub read_at : ℕ → ℕ
  read_at k = option_map_or (λ node. sum_by (lines_at plan inputs) (read_paths plan k node.op)) (slice_get plan k) 0

  module _ (valid : IsPlan plan) where
    count_step : (k : ℕ) (node : PlanNode) → slice_get plan k ≡ Some node → counted k ≡ comes_to inputs node.op counted
    count_step k node at = result_is (λ k node. comes_to inputs node.op) 0 plan k node at
        (λ f g same. come_agree k node.op f g same (names_lower plan valid k node at))

    pub flow_step : (k : ℕ) (node : PlanNode) → slice_get plan k ≡ Some node → flow k ≡ (if is_source node.op then lines_of inputs node.op else sum_by flow (inputs_of node.op))
    flow_step k node at = ap (sum_by (lines_at plan inputs)) (paths_of_node plan valid k node at) ∙ flow_in k node at (paths_of plan)

    counted_at : (k : ℕ) (node : PlanNode) → slice_get plan k ≡ Some node → AllByRecursion (λ i. counted i ≡ flow i % 2 ^ 64) (inputs_of node.op)
        → counted k ≡ flow k % 2 ^ 64
    counted_at k node at lower =
        let steps = flow_in k node at (paths_of plan) in
        let flows : flow k ≡ (if is_source node.op then lines_of inputs node.op else sum_by flow (inputs_of node.op)) = ap (sum_by (lines_at plan inputs)) (paths_of_node plan valid k node at) ∙ steps in
        elim (cases_Bool (is_source node.op)) [
          | inl source ↦
              count_step k node at ∙ ap (λ b. cond b (lines_of inputs node.op % 2 ^ 64) (come_from node.op counted)) source
              ∙ ap (λ n. n % 2 ^ 64) (sym (flows ∙ ap (λ b. cond b (lines_of inputs node.op) (sum_by flow (inputs_of node.op))) source))
          | inr through ↦
              count_step k node at ∙ ap (λ b. cond b (lines_of inputs node.op % 2 ^ 64) (come_from node.op counted)) through
              ∙ sum_mod counted flow (inputs_of node.op) lower
              ∙ ap (λ n. n % 2 ^ 64) (sym (flows ∙ ap (λ b. cond b (lines_of inputs node.op) (sum_by flow (inputs_of node.op))) through))
        ]

    -- behind the last node there is none
    off_plan : (k : ℕ) → slice_get plan k ≡ None → counted k ≡ flow k % 2 ^ 64
    off_plan k at =
        ap (λ o. unwrap_or o 0) (none_at (λ k node. comes_to inputs node.op) 0 plan k at)
        ∙ sym (ap (λ ps. sum_by (lines_at plan inputs) ps % 2 ^ 64) (ap (λ o. unwrap_or o []) (none_at (λ k node. ways k node.op) [] plan k at)))

    up_to : (n k : ℕ) → k < n → counted k ≡ flow k % 2 ^ 64
    up_to zero k below = absurd (omega (arith, below))
    up_to (suc n) k below = found (λ i lower. up_to n i (omega (arith, lower, below))) (slice_get plan k) refl
      where
        found : ((i : ℕ) → i < k → counted i ≡ flow i % 2 ^ 64) → (o : Option PlanNode) → slice_get plan k ≡ o → counted k ≡ flow k % 2 ^ 64
        found lower None at = off_plan k at
        found lower (Some node) at = counted_at k node at
            (each_weaker (λ i. i < k) (λ i. counted i ≡ flow i % 2 ^ 64) lower (inputs_of node.op) (names_lower plan valid k node at))

    pub counted_is : (k : ℕ) → counted k ≡ flow k % 2 ^ 64
    counted_is k = up_to (suc k) k (omega arith)

    -- ---- what is read

    pub reads : lines_read plan inputs ≡ sum_by read_at (live plan)
    reads = sum_joined (lines_at plan inputs) (λ k. option_map_or (read_paths plan k) (op_at plan k) []) (live plan) ∙ each (live plan)
      where
        inside : (k : ℕ) (o : Option PlanNode) → sum_by (lines_at plan inputs) (option_map_or (read_paths plan k) (option_map (λ node. node.op) o) [])
            ≡ option_map_or (λ node. sum_by (lines_at plan inputs) (read_paths plan k node.op)) o 0
        inside k None = refl
        inside k (Some node) = refl

        each : (ns : List ℕ) → sum_by (λ k. sum_by (lines_at plan inputs) (option_map_or (read_paths plan k) (op_at plan k) [])) ns ≡ sum_by read_at ns
        each [] = refl
        each (n ∷ ns) =
            let a = sum_by-cons (λ k. sum_by (lines_at plan inputs) (option_map_or (read_paths plan k) (op_at plan k) [])) n ns in
            let b = sum_by-cons read_at n ns in
            let one = inside n (slice_get plan n) in
            let more = each ns in
            omega (arith, a, b, one, more)

    -- what the code counts for a node
    pub used_is : (k : ℕ) (node : PlanNode) → slice_get plan k ≡ Some node → uses_at k node.op counted ≡ read_at k % 2 ^ 64
    used_is k node at =
        by_kind (is_boundary node.op) (is_store node.op)
        ∙ ap (λ n. n % 2 ^ 64) (sym (ap (λ o. option_map_or (λ node. sum_by (lines_at plan inputs) (read_paths plan k node.op)) o 0) at))
      where
        by_kind : (b s : Bool) → cond b (come_from node.op counted) (cond s (counted k) 0)
            ≡ sum_by (lines_at plan inputs) (cond b (flat_map (paths_of plan) (inputs_of node.op)) (cond s (paths_of plan k) [])) % 2 ^ 64
        by_kind true s =
            sum_mod counted flow (inputs_of node.op) (each_of_all (λ i. counted i ≡ flow i % 2 ^ 64) counted_is (inputs_of node.op))
            ∙ ap (λ n. n % 2 ^ 64) (sym (sum_joined (lines_at plan inputs) (paths_of plan) (inputs_of node.op)))
        by_kind false true = counted_is k
        by_kind false false = refl

    -- the same of a number, whether there is a node or none
    pub used_in : (k : ℕ) → uses_in plan k counted ≡ read_at k % 2 ^ 64
    used_in k = found (slice_get plan k) refl
      where
        found : (o : Option PlanNode) → slice_get plan k ≡ o → uses_in plan k counted ≡ read_at k % 2 ^ 64
        found None at = ap (λ o. option_map_or (λ node. uses_at k node.op counted) o 0) at
            ∙ sym (ap (λ o. option_map_or (λ node. sum_by (lines_at plan inputs) (read_paths plan k node.op)) o 0 % 2 ^ 64) at)
        found (Some node) at = ap (λ o. option_map_or (λ node. uses_at k node.op counted) o 0) at ∙ used_is k node at

    -- one more node, from a place of the list of live ones
    pub read_on : (numbers : List ℕ) (place number : ℕ) (count more : ℕ) (flows : List ℕ) (total : ℕ) → flows ≡ flows_of inputs plan → place < length numbers
        → number ≡ get_or numbers place number → more ≡ uses_in plan number (at_place 0 flows)
        → (count + sum_by read_at (drop place numbers)) % 2 ^ 64 ≡ total % 2 ^ 64
        → ((count + more) % 2 ^ 64 + sum_by read_at (drop (place + 1) numbers)) % 2 ^ 64 ≡ total % 2 ^ 64
    read_on numbers place number count more flows total same within at is so_far =
        let front : drop place numbers ≡ number ∷ drop (place + 1) numbers = drop_more numbers place number within ∙ ap (λ n. n ∷ drop (place + 1) numbers) (sym at) in
        let sums : sum_by read_at (drop place numbers) ≡ read_at number + sum_by read_at (drop (place + 1) numbers) =
        ap (sum_by read_at) front ∙ sum_by-cons read_at number (drop (place + 1) numbers) in
        let used : more ≡ read_at number % 2 ^ 64 = is ∙ ap (λ fs. uses_in plan number (at_place 0 fs)) same ∙ used_in number in
        counts_on count more (read_at number) (sum_by read_at (drop (place + 1) numbers)) total used (ap (λ n. (count + n) % 2 ^ 64) (sym sums) ∙ so_far)

    pub read_first : (numbers : List ℕ) → numbers ≡ live plan → (0 + sum_by read_at (drop 0 numbers)) % 2 ^ 64 ≡ lines_read plan inputs % 2 ^ 64
    read_first numbers are = let e : sum_by read_at numbers ≡ lines_read plan inputs = ap (sum_by read_at) are ∙ sym reads in
        let zero_more : 0 + sum_by read_at numbers ≡ lines_read plan inputs = omega (arith, e) in ap (λ n. n % 2 ^ 64) zero_more
