-- A GROUP that folds has no other use than its FOREACH.
use Rattle.std.specs.Prelude.{◌≡◌, ◌≤◌, ◌+◌, ◌==◌, ◌&&◌, ◌||◌, ℕ, zero, suc, Bool, true, false, List, [], ◌∷◌, length, Option, None, Some, slice_get, refl}
use Rattle.std.proofs.Common.{ap, sym, ◌∙◌, arith, subst, cond, true≢false}
use Rattle.std.specs.List.{cons_option, filter, filter_map, flat_map, list_any}
use Rattle.std.specs.Option.{option_and_then, option_map, option_map_or}
use Rattle.std.proofs.lemmas.Bool.{eqb-true}
use Rattle.std.proofs.lemmas.List.{length-append}
use Rattle.std.proofs.lemmas.List.Elements.{filter-append}
use Rattle.pig_value.proofs.list_laws.Listing.{some_same}
use Rattle.pig_typed.specs.Typed.{TypedBlock}
use Rattle.pig_plan.specs.Nodes.{inputs_of, is_live, live, names, op_at, uses}
use Rattle.pig_plan.specs.Plans.{Plan, PlanNode, PlanOp, p_load, p_filter, p_foreach, p_group_all, p_group, p_join, p_union, p_distinct, p_order, p_limit, p_store, p_assert, p_rank}
use Rattle.pig_physical.specs.Combining.{block_at, block_on, folds, only}
use Rattle.pig_waves.proofs.Heads.{live_at}
use Rattle.pig_waves.proofs.Folders.{folds_is}

-- a number that is named is counted
named_counts : (i : ℕ) (xs : List ℕ) → list_any (λ j. j == i) xs ≡ true → 1 ≤ length (filter (λ j. j == i) xs)
named_counts i [] h = absurd (true≢false (sym h))
named_counts i (x ∷ xs) h = by_test (named_counts i xs) (x == i) h
  where
    by_test : (list_any (λ j. j == i) xs ≡ true → 1 ≤ length (filter (λ j. j == i) xs)) → (b : Bool)
        → (b || list_any (λ j. j == i) xs) ≡ true → 1 ≤ length (cond b (x ∷ filter (λ j. j == i) xs) (filter (λ j. j == i) xs))
    by_test rest true g = omega arith
    by_test rest false g = rest g

module _ (plan : Plan) (i : ℕ) where
  abbrev inputs_at : ℕ → List ℕ
  inputs_at n = option_map_or (λ node. inputs_of node.op) (slice_get plan n) []

  abbrev count : List ℕ → ℕ
  count ns = length (filter (λ j. j == i) (flat_map inputs_at ns))

  abbrev own : ℕ → ℕ
  own n = length (filter (λ j. j == i) (inputs_at n))

  count_first : (n : ℕ) (ns : List ℕ) → count (n ∷ ns) ≡ own n + count ns
  count_first n ns =
      ap length (filter-append (λ j. j == i) (inputs_at n) (flat_map inputs_at ns))
      ∙ length-append (filter (λ j. j == i) (inputs_at n)) (filter (λ j. j == i) (flat_map inputs_at ns))

  -- a node with a block on the node is a FOREACH on it
  block_is : (n : ℕ) (block : TypedBlock) → block_at plan i n ≡ Some block → (op_at plan n ≡ Some (p_foreach i block)) × (1 ≤ own n)
  block_is n block h = by_node (slice_get plan n) refl h
    where
      by_op : (v : PlanNode) → slice_get plan n ≡ Some v → (o : PlanOp) → v.op ≡ o → block_on i o ≡ Some block → (op_at plan n ≡ Some (p_foreach i block)) × (1 ≤ own n)
      by_op v at (p_foreach input b) is g = by_test (input == i) refl g
        where
          by_test : (t : Bool) → (input == i) ≡ t → cond t (Some b) None ≡ Some block → (op_at plan n ≡ Some (p_foreach i block)) × (1 ≤ own n)
          by_test true e found =
              let same : input ≡ i = eqb-true input i e in
              let op_is : v.op ≡ p_foreach i block = is ∙ ap (λ j. p_foreach j b) same ∙ ap (p_foreach i) (some_same b block found) in
              let inputs_are : inputs_at n ≡ i ∷ [] = ap (λ found. option_map_or (λ node. inputs_of node.op) found []) at ∙ ap inputs_of op_is in
              let itself : (i == i) ≡ true = ap (λ j. j == i) (sym same) ∙ e in (
                ap (option_map (λ node. node.op)) at ∙ ap Some op_is,
                subst (λ m. 1 ≤ m) (sym (ap (λ xs. length (filter (λ j. j == i) xs)) inputs_are ∙ ap (λ t. length (cond t (i ∷ []) [])) itself)) (omega arith),
              )
          by_test false e found = absurd (cc)
      by_op v at (p_load path delim columns) is g = absurd (cc)
      by_op v at (p_filter input test) is g = absurd (cc)
      by_op v at (p_group_all input) is g = absurd (cc)
      by_op v at (p_group inputs) is g = absurd (cc)
      by_op v at (p_join inputs side replicated) is g = absurd (cc)
      by_op v at (p_union inputs) is g = absurd (cc)
      by_op v at (p_distinct input) is g = absurd (cc)
      by_op v at (p_order input keys) is g = absurd (cc)
      by_op v at (p_limit input limit) is g = absurd (cc)
      by_op v at (p_store input path delim) is g = absurd (cc)
      by_op v at (p_assert input test message) is g = absurd (cc)
      by_op v at (p_rank input keys dense) is g = absurd (cc)

      by_node : (found : Option PlanNode) → slice_get plan n ≡ found → option_and_then (block_on i) (option_map (λ node. node.op) found) ≡ Some block → (op_at plan n ≡ Some (p_foreach i block)) × (1 ≤ own n)
      by_node None at g = absurd (cc)
      by_node (Some v) at g = by_op v at v.op refl g

  -- where a block stands, its node is counted
  some_counted : (ns : List ℕ) (block : TypedBlock) → only (filter_map (block_at plan i) ns) ≡ Some block → 1 ≤ count ns
  some_counted [] block h = absurd (cc)
  some_counted (n ∷ ns) block h = by_block (some_counted ns block) (block_at plan i n) refl h
    where
      by_block : (only (filter_map (block_at plan i) ns) ≡ Some block → 1 ≤ count ns) → (found : Option TypedBlock) → block_at plan i n ≡ found
          → only (cons_option found (filter_map (block_at plan i) ns)) ≡ Some block → 1 ≤ count (n ∷ ns)
      by_block rest (Some b) e g = let c = (block_is n b e).1 in let first = count_first n ns in omega (arith, c, first)
      by_block rest None e g = let c = rest g in let first = count_first n ns in omega (arith, c, first)

  -- the one node that names it is the FOREACH
  named_alone : (ns : List ℕ) (block : TypedBlock) → count ns ≤ 1 → only (filter_map (block_at plan i) ns) ≡ Some block
      → (j k : ℕ) (v : PlanNode) → slice_get ns j ≡ Some k → slice_get plan k ≡ Some v → names v.op i ≡ true → v.op ≡ p_foreach i block
  named_alone [] block few h j k v at found named = absurd (cc)
  named_alone (n ∷ ns) block few h j k v at found named =
      by_block (λ fewer g l place. named_alone ns block fewer g l k v place found named) (block_at plan i n) refl h
    where
      own_of : 1 ≤ own k
      own_of = subst (λ xs. 1 ≤ length (filter (λ j. j == i) xs)) (sym (ap (λ f. option_map_or (λ node. inputs_of node.op) f []) found)) (named_counts i (inputs_of v.op) named)

      counted : (ms : List ℕ) (l : ℕ) → slice_get ms l ≡ Some k → 1 ≤ count ms
      counted [] l here = absurd (cc)
      counted (m ∷ ms) zero here = let is = some_same m k here in let own_m = subst (λ q. 1 ≤ own q) (sym is) own_of in let first = count_first m ms in omega (arith, own_m, first)
      counted (m ∷ ms) (suc l) here = let rest = counted ms l here in let first = count_first m ms in omega (arith, rest, first)

      by_block : (count ns ≤ 1 → only (filter_map (block_at plan i) ns) ≡ Some block → (l : ℕ) → slice_get ns l ≡ Some k → v.op ≡ p_foreach i block)
          → (f : Option TypedBlock) → block_at plan i n ≡ f → only (cons_option f (filter_map (block_at plan i) ns)) ≡ Some block → v.op ≡ p_foreach i block
      by_block rest (Some b) e g = first_is b e (filter_map (block_at plan i) ns) g j at
        where
          first_is : (c : TypedBlock) → block_at plan i n ≡ Some c → (others : List TypedBlock) → only (c ∷ others) ≡ Some block → (l : ℕ) → slice_get (n ∷ ns) l ≡ Some k → v.op ≡ p_foreach i block
          first_is c is (d ∷ others) only_is l place = absurd (cc)
          first_is c is [] only_is zero place =
              let same = some_same n k place in
              some_same v.op (p_foreach i block) (sym (ap (option_map (λ node. node.op)) found) ∙ ap (op_at plan) (sym same) ∙ (block_is n c is).0 ∙ ap (λ d. Some (p_foreach i d)) (some_same c block only_is))
          first_is c is [] only_is (suc l) place =
              let one = (block_is n c is).1 in let more = counted ns l place in let first = count_first n ns in absurd (omega (arith, one, more, first, few))
      by_block rest None e g = rest_is j at
        where
          rest_is : (l : ℕ) → slice_get (n ∷ ns) l ≡ Some k → v.op ≡ p_foreach i block
          rest_is zero place =
              let same = some_same n k place in let own_n = subst (λ q. 1 ≤ own q) (sym same) own_of in
              let more = some_counted ns block g in let first = count_first n ns in absurd (omega (arith, own_n, more, first, few))
          rest_is (suc l) place = let first = count_first n ns in rest (omega (arith, first, few)) g l place

  pub folds_alone : (block : TypedBlock) → folds plan i ≡ Some block → (k : ℕ) (v : PlanNode) → slice_get plan k ≡ Some v → is_live plan k ≡ true → names v.op i ≡ true → v.op ≡ p_foreach i block
  folds_alone block folding k v found alive named =
      let is = folds_is plan i block folding in
      let place = live_at plan k alive in
      named_alone (live plan) block (at_most_one (uses plan i) (both_second _ _ is.0)) is.1 place.0 k v place.1 found named
    where
      both_second : (a b : Bool) → (a && b) ≡ true → b ≡ true
      both_second true b h = h
      both_second false b h = absurd (true≢false (sym h))

      at_most_one : (n : ℕ) → (n == 1) ≡ true → n ≤ 1
      at_most_one n h = let is = eqb-true n 1 h in omega (arith, is)
