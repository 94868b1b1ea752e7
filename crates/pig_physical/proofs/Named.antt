-- How often nodes name a node tells whether it folds, and by which block.
use Rattle.std.specs.Prelude.{◌≡◌, ◌<◌, ◌≤◌, ◌==◌, ◌+◌, ◌&&◌, ◌⊎◌, ℕ, Bool, true, false, List, [], ◌∷◌, ◌++◌, length, Option, Some, None, slice_get, refl}
use Rattle.std.proofs.Common.{ap, sym, ◌∙◌, arith, cond, inl, inr, subst, true≢false}
use Rattle.std.specs.List.{AllByRecursion, cons_option, count_by, filter_map}
use Rattle.std.specs.Option.{is_some, option_and_then, option_map, option_map_or}
use Rattle.std.proofs.lemmas.Bool.{cases_Bool, ne_eqb}
use Rattle.std.proofs.lemmas.List.Sums.{length-filter, sum_by-append, sum_by-cons}
use Rattle.std.proofs.lemmas.List.{length-map}
use Rattle.std.proofs.lemmas.Option.{slice_get_within}
use Rattle.pig_value.proofs.list_laws.Listing.{each_weaker}
use Rattle.pig_typed.specs.Typed.{TypedBlock}
use Rattle.pig_algebra.specs.Cuts.{is_combinable}
use Rattle.pig_plan.specs.Nodes.{inputs_of, live, op_at, uses}
use Rattle.pig_plan.proofs.Lower.{names_lower}
use Rattle.pig_plan.specs.Valid.{IsPlan}
use Rattle.pig_plan.specs.declared.nodes.Node.{Node}
use Rattle.pig_plan.specs.Plans.{Plan, PlanNode, PlanOp, p_load, p_filter, p_foreach, p_group_all, p_group, p_join, p_union, p_distinct, p_order, p_limit, p_store, p_assert, p_rank, node_of, plan_of}
use Rattle.pig_physical.specs.Combining.{block_at, block_on, folds, groups_one, only, where_combinable}
use Rattle.pig_physical.specs.Heading.{inputs_at, named_by}
use Rattle.pig_physical.specs.Naming.{and_named, block_by, named_in, naming_by}
use Rattle.pig_physical.specs.declared.namings.Naming.{Naming}
use Rattle.pig_physical.specs.declared.namings.Naming.TheVariants as namings

module _ (k : ℕ) where
  abbrev count : List ℕ → ℕ
  count = count_by (λ i. i == k)

  count-cons : (i : ℕ) (is : List ℕ) → count (i ∷ is) ≡ cond (i == k) 1 0 + count is
  count-cons i is = sum_by-cons (λ j. cond (j == k) 1 0) i is

  count-append : (is js : List ℕ) → count (is ++ js) ≡ count is + count js
  count-append is js = sum_by-append (λ j. cond (j == k) 1 0) is js

  here : (i : ℕ) (is : List ℕ) (b : Bool) → (i == k) ≡ b → count (i ∷ is) ≡ cond b 1 0 + count is
  here i is b e = count-cons i is ∙ ap (λ c. cond c 1 0 + count is) e

  -- ---- by the inputs of one node

  then_by : (user i : ℕ) (is : List ℕ) (naming : Naming) (b : Bool) → (i == k) ≡ b → named_in k user (i ∷ is) naming ≡ named_in k user is (cond b (and_named user naming) naming)
  then_by user i is naming b e = ap (λ c. named_in k user is (cond c (and_named user naming) naming)) e

  often_in : (user : ℕ) (is : List ℕ) → named_in k user is namings.Often ≡ namings.Often
  often_in user [] = refl
  often_in user (i ∷ is) = elim (cases_Bool (i == k)) [
    | inl same ↦ then_by user i is namings.Often true same ∙ often_in user is
    | inr other ↦ then_by user i is namings.Often false other ∙ often_in user is
  ]

  once_in : (u user : ℕ) (is : List ℕ)
      → ((count is ≡ 0) × (named_in k user is (namings.Once u) ≡ namings.Once u)) ⊎ ((1 ≤ count is) × (named_in k user is (namings.Once u) ≡ namings.Often))
  once_in u user [] = inl (refl, refl)
  once_in u user (i ∷ is) = elim (cases_Bool (i == k)) [
    | inl same ↦ (let c = here i is true same in inr (omega (arith, c), then_by user i is (namings.Once u) true same ∙ often_in user is))
    | inr other ↦ (let c = here i is false other in elim (once_in u user is) [
      | inl none ↦ (let z = none.0 in inl (omega (arith, c, z), then_by user i is (namings.Once u) false other ∙ none.1))
      | inr some ↦ (let z = some.0 in inr (omega (arith, c, z), then_by user i is (namings.Once u) false other ∙ some.1))
    ])
  ]

  never_in : (user : ℕ) (is : List ℕ)
      → ((count is ≡ 0) × (named_in k user is namings.Never ≡ namings.Never))
      ⊎ (((count is ≡ 1) × (named_in k user is namings.Never ≡ namings.Once user)) ⊎ ((2 ≤ count is) × (named_in k user is namings.Never ≡ namings.Often)))
  never_in user [] = inl (refl, refl)
  never_in user (i ∷ is) = elim (cases_Bool (i == k)) [
    | inl same ↦ (let c = here i is true same in elim (once_in user user is) [
      | inl none ↦ (let z = none.0 in inr (inl (omega (arith, c, z), then_by user i is namings.Never true same ∙ none.1)))
      | inr some ↦ (let z = some.0 in inr (inr (omega (arith, c, z), then_by user i is namings.Never true same ∙ some.1)))
    ])
    | inr other ↦ (let c = here i is false other in elim (never_in user is) [
      | inl none ↦ (let z = none.0 in inl (omega (arith, c, z), then_by user i is namings.Never false other ∙ none.1))
      | inr some ↦ elim some [
        | inl one ↦ (let z = one.0 in inr (inl (omega (arith, c, z), then_by user i is namings.Never false other ∙ one.1)))
        | inr more ↦ (let z = more.0 in inr (inr (omega (arith, c, z), then_by user i is namings.Never false other ∙ more.1)))
      ]
    ])
  ]

  -- ---- blocks

  no_block_on : (o : PlanOp) → count (inputs_of o) ≡ 0 → block_on k o ≡ None
  no_block_on (p_foreach input block) none = elim (cases_Bool (input == k)) [
    | inl same ↦ (let c = here input [] true same in absurd (omega (arith, c, none)))
    | inr other ↦ ap (λ b. cond b (Some block) None) other
  ]
  no_block_on (p_load path delim columns) none = refl
  no_block_on (p_filter input test) none = refl
  no_block_on (p_group_all input) none = refl
  no_block_on (p_group inputs) none = refl
  no_block_on (p_join inputs side replicated) none = refl
  no_block_on (p_union inputs) none = refl
  no_block_on (p_distinct input) none = refl
  no_block_on (p_order input keys) none = refl
  no_block_on (p_limit input n) none = refl
  no_block_on (p_store input path delim) none = refl
  no_block_on (p_assert input test message) none = refl
  no_block_on (p_rank input keys dense) none = refl

  module _ (plan : Plan) where
    no_block : (n : ℕ) → count (inputs_at plan n) ≡ 0 → block_at plan k n ≡ None
    no_block n none = by_node (slice_get plan n) none
      where
        by_node : (found : Option PlanNode) → count (option_map_or (λ node. inputs_of node.op) found []) ≡ 0
            → option_and_then (block_on k) (option_map (λ node. node.op) found) ≡ None
        by_node None none = refl
        by_node (Some node) none = no_block_on node.op none

    count-users : (n : ℕ) (ns : List ℕ) → count (named_by plan (n ∷ ns)) ≡ count (inputs_at plan n) + count (named_by plan ns)
    count-users n ns = count-append (inputs_at plan n) (named_by plan ns)

    no_blocks : (ns : List ℕ) → count (named_by plan ns) ≡ 0 → filter_map (block_at plan k) ns ≡ []
    no_blocks [] none = refl
    no_blocks (n ∷ ns) none =
        let c = count-users n ns in
        ap (λ o. cons_option o (filter_map (block_at plan k) ns)) (no_block n (omega (arith, c, none))) ∙ no_blocks ns (omega (arith, c, none))

    -- ---- by nodes

    often_by : (ns : List ℕ) → naming_by plan k ns namings.Often ≡ namings.Often
    often_by [] = refl
    often_by (n ∷ ns) = ap (naming_by plan k ns) (often_in n (inputs_at plan n)) ∙ often_by ns

    once_by : (u : ℕ) (ns : List ℕ)
        → ((count (named_by plan ns) ≡ 0) × (naming_by plan k ns (namings.Once u) ≡ namings.Once u))
        ⊎ ((1 ≤ count (named_by plan ns)) × (naming_by plan k ns (namings.Once u) ≡ namings.Often))
    once_by u [] = inl (refl, refl)
    once_by u (n ∷ ns) = let c = count-users n ns in elim (once_in u n (inputs_at plan n)) [
      | inl none ↦ (let y = none.0 in elim (once_by u ns) [
        | inl rest ↦ (let z = rest.0 in inl (omega (arith, c, y, z), ap (naming_by plan k ns) none.1 ∙ rest.1))
        | inr rest ↦ (let z = rest.0 in inr (omega (arith, c, y, z), ap (naming_by plan k ns) none.1 ∙ rest.1))
      ])
      | inr some ↦ (let y = some.0 in inr (omega (arith, c, y), ap (naming_by plan k ns) some.1 ∙ often_by ns))
    ]

    -- what is told of nodes
    abbrev Told : List ℕ → Naming → Type 0
    Told ns namings.Never = count (named_by plan ns) ≡ 0
    Told ns (namings.Once u) = (count (named_by plan ns) ≡ 1) × (only (filter_map (block_at plan k) ns) ≡ block_at plan k u)
    Told ns namings.Often = 2 ≤ count (named_by plan ns)

    told_on : (n : ℕ) (ns : List ℕ) → count (inputs_at plan n) ≡ 0 → (naming : Naming) → Told ns naming → Told (n ∷ ns) naming
    told_on n ns none namings.Never h = let c = count-users n ns in omega (arith, c, none, h)
    told_on n ns none (namings.Once u) h =
        let c = count-users n ns in
        let one = h.0 in
        (omega (arith, c, none, one), ap (λ o. only (cons_option o (filter_map (block_at plan k) ns))) (no_block n none) ∙ h.1)
    told_on n ns none namings.Often h = let c = count-users n ns in omega (arith, c, none, h)

    alone : (o : Option TypedBlock) → only (cons_option o []) ≡ o
    alone None = refl
    alone (Some block) = refl

    told : (ns : List ℕ) → Told ns (naming_by plan k ns namings.Never)
    told [] = refl
    told (n ∷ ns) = let c = count-users n ns in elim (never_in n (inputs_at plan n)) [
      | inl none ↦ subst (λ start. Told (n ∷ ns) (naming_by plan k ns start)) (sym none.1) (told_on n ns none.0 (naming_by plan k ns namings.Never) (told ns))
      | inr some ↦ elim some [
        | inl one ↦ (let y = one.0 in subst (λ start. Told (n ∷ ns) (naming_by plan k ns start)) (sym one.1) (elim (once_by n ns) [
          | inl rest ↦ (let z = rest.0 in subst (Told (n ∷ ns)) (sym rest.1)
              (omega (arith, c, y, z), ap (λ bs. only (cons_option (block_at plan k n) bs)) (no_blocks ns rest.0) ∙ alone (block_at plan k n)))
          | inr rest ↦ (let z = rest.0 in subst (Told (n ∷ ns)) (sym rest.1) (omega (arith, c, y, z)))
        ]))
        | inr more ↦ (let y = more.0 in subst (λ start. Told (n ∷ ns) (naming_by plan k ns start)) (sym more.1) (subst (Told (n ∷ ns)) (sym (often_by ns)) (omega (arith, c, y))))
      ]
    ]

    -- ---- whether it folds

    uses_are : uses plan k ≡ count (named_by plan (live plan))
    uses_are = length-filter (λ i. i == k) (named_by plan (live plan))

    by_uses : (b c : Bool) (n : ℕ) (block : Option TypedBlock) → uses plan k ≡ n → (n == 1) ≡ c
        → cond (b && (uses plan k == 1)) (option_and_then where_combinable block) None ≡ cond (b && c) (option_and_then where_combinable block) None
    by_uses b c n block is e = ap (λ m. cond (b && (m == 1)) (option_and_then where_combinable block) None) is ∙ ap (λ d. cond (b && d) (option_and_then where_combinable block) None) e

    never : (b : Bool) (block : Option TypedBlock) → cond (b && false) (option_and_then where_combinable block) None ≡ cond b (option_and_then where_combinable None) None
    never true block = refl
    never false block = refl

    at_once : (b : Bool) (block : Option TypedBlock) → cond (b && true) (option_and_then where_combinable block) None ≡ cond b (option_and_then where_combinable block) None
    at_once true block = refl
    at_once false block = refl

    not_once : (n : ℕ) → (n ≡ 1 → ⊥) → (n == 1) ≡ false
    not_once n apart = ne_eqb n 1 apart

    abbrev block_found : Option TypedBlock
    block_found = only (filter_map (block_at plan k) (live plan))

    by_naming : (b : Bool) (naming : Naming) → Told (live plan) naming
        → cond (b && (uses plan k == 1)) (option_and_then where_combinable block_found) None ≡ cond b (option_and_then where_combinable (block_by plan k naming)) None
    by_naming b namings.Never h =
        by_uses b false (uses plan k) block_found refl (not_once (uses plan k) (λ e. (let u = uses_are in omega (arith, u, h, e)))) ∙ never b block_found
    by_naming b (namings.Once u) h =
        by_uses b true 1 block_found (uses_are ∙ h.0) refl ∙ at_once b block_found ∙ ap (λ block. cond b (option_and_then where_combinable block) None) h.1
    by_naming b namings.Often h =
        by_uses b false (uses plan k) block_found refl (not_once (uses plan k) (λ e. (let u = uses_are in omega (arith, u, h, e)))) ∙ never b block_found

    module _ (o : PlanOp) (naming : Naming) (at : op_at plan k ≡ Some o) (is : naming ≡ naming_by plan k (live plan) namings.Never) where
      by_op : folds plan k ≡ cond (groups_one o) (option_and_then where_combinable (block_by plan k naming)) None
      by_op =
          ap (λ p. cond (option_map_or groups_one p false && (uses plan k == 1)) (option_and_then where_combinable (only (filter_map (block_at plan k) (live plan)))) None) at
          ∙ by_naming (groups_one o) naming (subst (Told (live plan)) (sym is) (told (live plan)))

      -- a node that groups nothing, or on which no one FOREACH stands, does not fold
      pub folds_not : false ≡ groups_one o → false ≡ is_some (folds plan k)
      folds_not off = ap (λ b. is_some (cond b (option_and_then where_combinable (block_by plan k naming)) None)) off ∙ ap is_some (sym by_op)

      pub folds_none : true ≡ groups_one o → None ≡ block_by plan k naming → false ≡ is_some (folds plan k)
      folds_none on none =
          (λ i. is_some (cond (on i) (option_and_then where_combinable (none i)) None)) ∙ ap is_some (sym by_op)

      held_block : (block : TypedBlock) (b : Bool) → is_some (cond b (Some block) None) ≡ true → Some block ≡ cond b (Some block) None
      held_block block true h = refl
      held_block block false h = absurd (true≢false (sym h))

      found_block : (b : Bool) (block : Option TypedBlock) → is_some (cond b (option_and_then where_combinable block) None) ≡ true
          → block ≡ cond b (option_and_then where_combinable block) None
      found_block true None h = refl
      found_block true (Some block) h = held_block block (is_combinable block) h
      found_block false block h = absurd (true≢false (sym h))

      -- a node that folds does so into the block of the node that is the one to name it
      pub folds_by : is_some (folds plan k) ≡ true → block_by plan k naming ≡ folds plan k
      folds_by h = found_block (groups_one o) (block_by plan k naming) (sym (ap is_some by_op) ∙ h) ∙ sym by_op

      where_held : (block : TypedBlock) (b : Bool) → b ≡ is_some (cond b (Some block) None)
      where_held block true = refl
      where_held block false = refl

      pub folds_where : true ≡ groups_one o → (block : TypedBlock) → Some block ≡ block_by plan k naming → is_combinable block ≡ is_some (folds plan k)
      folds_where on block found =
          where_held block (is_combinable block)
          ∙ (λ i. is_some (cond (on i) (option_and_then where_combinable (found i)) None)) ∙ ap is_some (sym by_op)

-- the inputs of a node stand within the plan
pub inputs_within : (nodes : List Node) (user : ℕ) (is : List ℕ) → IsPlan (plan_of nodes) → is ≡ inputs_at (plan_of nodes) user → AllByRecursion (λ i. i < length nodes) is
inputs_within nodes user is valid are = subst (AllByRecursion (λ i. i < length nodes)) (sym are) (by_node (slice_get (plan_of nodes) user) refl)
  where
    by_node : (found : Option PlanNode) → slice_get (plan_of nodes) user ≡ found → AllByRecursion (λ i. i < length nodes) (option_map_or (λ node. inputs_of node.op) found [])
    by_node None at = tt
    by_node (Some node) at =
        let within : user < length (plan_of nodes) = slice_get_within (plan_of nodes) user node at in
        let size : length (plan_of nodes) ≡ length nodes = length-map nodes node_of in
        each_weaker (λ i. i < user) (λ i. i < length nodes) (λ i lower. omega (arith, lower, within, size)) (inputs_of node.op) (names_lower (plan_of nodes) valid user node at)
