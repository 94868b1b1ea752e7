-- Nodes of a plan that change in place under one node, which gives what it gave: the plan means what it meant, and dead nodes still read nothing.
use Rattle.std.specs.Prelude.{◌≡◌, ◌<◌, ◌≤◌, ◌+◌, ◌==◌, ◌⊎◌, ℕ, zero, suc, Bool, true, false, List, [], length, Some, slice_get, refl}
use Rattle.std.proofs.Common.{ap, sym, ◌∙◌, subst, arith, true≢false, inl, inr}
use Rattle.std.specs.List.{AllByRecursion, list_any}
use Rattle.std.specs.Option.{option_map_or}
use Rattle.std.proofs.lemmas.Bool.{eq-eqb, eqb-true}
use Rattle.std.proofs.lemmas.Option.{slice_get_within}
use Rattle.pig_value.proofs.KindLaws.{rows_of_each}
use Rattle.pig_value.proofs.list_laws.Bags.{either_way}
use Rattle.pig_value.proofs.list_laws.Indexing.{some_at}
use Rattle.pig_value.proofs.list_laws.Listing.{each_weaker, some_same}
use Rattle.pig_value.specs.declared.inputs.Input.{Input}
use Rattle.pig_value.specs.declared.outcomes.Kept.{Kept}
use Rattle.pig_value.specs.Kinds.{IsRowOf}
use Rattle.pig_typed.specs.Premises.{FunctionsKeepKinds}
use Rattle.pig_plan.proofs.Listed.{list_of_node, sorted_of_node}
use Rattle.pig_plan.proofs.Lower.{names_lower}
use Rattle.pig_plan.proofs.Meanings.{live_input}
use Rattle.pig_plan.proofs.OfKinds.{meanings_are_of_kinds}
use Rattle.pig_plan.proofs.Rewrites.{Earlier, each_same}
use Rattle.pig_plan.specs.Meaning.{meaning, width_at}
use Rattle.pig_plan.specs.NodeKinds.{RowKinds, kinds_at}
use Rattle.pig_plan.specs.Nodes.{inputs_of, is_list, is_live, is_sorted, is_store, lists, names, sorts}
use Rattle.pig_plan.specs.Plans.{Plan, PlanNode, PlanOp, p_load, p_filter, p_foreach, p_group_all, p_group, p_join, p_union, p_distinct, p_order, p_limit, p_store, p_assert, p_rank}
use Rattle.pig_plan.specs.Renumbered.{IsSame}
use Rattle.pig_plan.specs.Rewrites.{SameMeaning}
use Rattle.pig_plan.specs.Valid.{IsPlan}
use Rattle.pig_plan.proofs.Living.{User, member, store_lives, user_of}
use Rattle.pig_moves.specs.Pushed.{IsTidy}
use Rattle.pig_moves.proofs.Keeps.{Allowed, IsInput, Keeps, inputs_live, is_end, keeps_meaning}
use Rattle.pig_moves.proofs.Kept.{list_kept, node_kept, sorted_kept}
use Rattle.pig_moves.proofs.Passing.{length_of}

-- an inner node names the one numbered n
pub record ByInner (inner : ℕ → Bool) (r : Plan) (n : ℕ) : Type 0 where
  pub m : ℕ
  pub w : PlanNode
  pub within : inner m ≡ true
  pub stands : slice_get r m ≡ Some w
  pub name : names w.op n ≡ true

-- the node above, or an inner one, names the one numbered n
pub data Reads (inner : ℕ → Bool) (r : Plan) (v : PlanNode) (n : ℕ) : Type 0 where
  by_above : names v.op n ≡ true → Reads inner r v n
  by_inner : ByInner inner r n → Reads inner r v n

-- The inner nodes stand below the one numbered k; others read none of them. Each of them reads nothing, or the node above names it. Together they
-- and the node above read the same others in both plans, and none of them is an end.
pub record InPlace (p q : Plan) (k : ℕ) (inner : ℕ → Bool) (v w : PlanNode) : Type 0 where
  pub size : length q ≡ length p
  pub above_p : slice_get p k ≡ Some v
  pub above_q : slice_get q k ≡ Some w
  pub alive : is_live p k ≡ true
  pub low : (n : ℕ) → inner n ≡ true → n < k
  pub other : (n : ℕ) → inner n ≡ false → (n ≡ k → ⊥) → slice_get q n ≡ slice_get p n
  pub own : (n m : ℕ) (u : PlanNode) → inner m ≡ true → slice_get p n ≡ Some u → names u.op m ≡ true → (inner n ≡ true) ⊎ (n ≡ k)
  pub near_p : (n : ℕ) (u : PlanNode) → inner n ≡ true → slice_get p n ≡ Some u → (inputs_of u.op ≡ []) ⊎ (names v.op n ≡ true)
  pub near_q : (n : ℕ) (u : PlanNode) → inner n ≡ true → slice_get q n ≡ Some u → (inputs_of u.op ≡ []) ⊎ (names w.op n ≡ true)
  pub goes : (n : ℕ) → inner n ≡ false → Reads inner p v n → Reads inner q w n
  pub comes : (n : ℕ) → inner n ≡ false → Reads inner q w n → Reads inner p v n
  pub end_p : (n : ℕ) (u : PlanNode) → inner n ≡ true → slice_get p n ≡ Some u → is_end u.op ≡ false
  pub end_q : (n : ℕ) (u : PlanNode) → inner n ≡ true → slice_get q n ≡ Some u → is_end u.op ≡ false
  pub above_end_p : is_end v.op ≡ false
  pub above_end_q : is_end w.op ≡ false

store_ends : (o : PlanOp) → is_end o ≡ false → is_store o ≡ false
store_ends (p_store input path delim) h = absurd (true≢false h)
store_ends (p_load path delim columns) h = refl
store_ends (p_filter input c) h = refl
store_ends (p_foreach input block) h = refl
store_ends (p_group_all input) h = refl
store_ends (p_group inputs) h = refl
store_ends (p_join inputs side replicated) h = refl
store_ends (p_union inputs) h = refl
store_ends (p_distinct input) h = refl
store_ends (p_order input keys) h = refl
store_ends (p_limit input count) h = refl
store_ends (p_assert input c message) h = refl
store_ends (p_rank input keys dense) h = refl

-- what reads nothing names nothing
nothing_named : (o : PlanOp) (n : ℕ) → inputs_of o ≡ [] → names o n ≡ true → ⊥
nothing_named o n e h = true≢false (sym h ∙ ap (λ ns. list_any (λ i. i == n) ns) e)

-- what the node above and the inner ones read is live where the node above is
module _ (inner : ℕ → Bool) (k : ℕ) (r : Plan) (valid : IsPlan r) (v : PlanNode) (stands : slice_get r k ≡ Some v) (alive : is_live r k ≡ true)
    (near : (n : ℕ) (u : PlanNode) → inner n ≡ true → slice_get r n ≡ Some u → (inputs_of u.op ≡ []) ⊎ (names v.op n ≡ true)) where
  named_lower : (n : ℕ) → names v.op n ≡ true → n < k
  named_lower n name = member (λ j. j < k) n (inputs_of v.op) (names_lower r valid k v stands) name

  read_lives : (n : ℕ) (u : PlanNode) → slice_get r n ≡ Some u → Reads inner r v n → is_live r n ≡ true
  read_lives n u there (by_above name) = live_input r k v stands alive n (named_lower n name) u there name
  read_lives n u there (by_inner b) = elim (near b.m b.w b.within b.stands) [
    | inl nothing ↦ absurd (nothing_named b.w.op n nothing b.name)
    | inr named ↦
        let alive_m : is_live r b.m ≡ true = live_input r k v stands alive b.m (named_lower b.m named) b.w b.stands named in
        live_input r b.m b.w b.stands alive_m n (member (λ j. j < b.m) n (inputs_of b.w.op) (names_lower r valid b.m b.w b.stands) b.name) u there b.name
  ]

pub record Gives (p q : Plan) (inputs : List Input) (kept : List Kept) (k : ℕ) : Type 0 where
  pub kinds : kinds_at q k ≡ kinds_at p k
  pub rows : meaning q inputs kept k ≡ meaning p inputs kept k

module _ (p q : Plan) (valid : IsPlan p) (valid_q : IsPlan q) (k : ℕ) (inner : ℕ → Bool) (v w : PlanNode) (c : InPlace p q k inner v w) where
  by_part : {G : Type 0} (n : ℕ) → (inner n ≡ true → G) → (n ≡ k → G) → (inner n ≡ false → (n ≡ k → ⊥) → G) → G
  by_part n f g h =
      either_way (inner n) f (λ out.
      either_way (n == k) (λ e. g (eqb-true n k e)) (λ d.
      h out (λ is. true≢false (sym (eq-eqb n k is) ∙ d))))

  outer : inner k ≡ false
  outer = either_way (inner k) (λ e. let less = c.low k e in absurd (omega (arith, less))) (λ e. e)

  in_q : (n : ℕ) (u : PlanNode) → slice_get p n ≡ Some u → (x : PlanNode) × (slice_get q n ≡ Some x)
  in_q n u stands = let within = slice_get_within p n u stands in let long = c.size in some_at q n (omega (arith, within, long))

  in_p : (n : ℕ) (x : PlanNode) → slice_get q n ≡ Some x → (u : PlanNode) × (slice_get p n ≡ Some u)
  in_p n x there = let within = slice_get_within q n x there in let long = c.size in some_at p n (omega (arith, within, long))

  -- ---- what is live

  abbrev Onwards : ℕ → Type 0
  Onwards fuel = (n : ℕ) (u : PlanNode) → length p ≤ n + fuel → slice_get p n ≡ Some u → is_live p n ≡ true → inner n ≡ false → is_live q n ≡ true

  by_user : (fuel n : ℕ) (u : PlanNode) → length p ≤ n + suc fuel → slice_get p n ≡ Some u → inner n ≡ false → Onwards fuel → User p n → is_live q n ≡ true
  by_user fuel n u enough stands out onwards user =
      let behind = user.behind in
      let found = in_q n u stands in
      by_part user.m
      (λ within. elim (c.near_p user.m user.u within user.stands) [
        | inl nothing ↦ absurd (nothing_named user.u.op n nothing user.name)
        | inr named ↦
            let less = c.low user.m within in
            read_lives inner k q valid_q w c.above_q (onwards k v (omega (arith, enough, behind, less)) c.above_p c.alive outer) c.near_q n found.0 found.1
            (c.goes n out (by_inner (record { m = user.m; w = user.u; within = within; stands = user.stands; name = user.name })))
      ])
      (λ is.
      let same : user.u ≡ v = some_same user.u v (sym user.stands ∙ ap (slice_get p) is ∙ c.above_p) in
      read_lives inner k q valid_q w c.above_q (onwards k v (omega (arith, enough, behind, is)) c.above_p c.alive outer) c.near_q n found.0 found.1
      (c.goes n out (by_above (ap (λ x. names x.op n) (sym same) ∙ user.name))))
      (λ free other.
      live_input q user.m user.u (c.other user.m free other ∙ user.stands) (onwards user.m user.u (omega (arith, enough, behind)) user.stands user.lives free)
      n user.behind found.0 found.1 user.name)

  -- a store stands outside
  store_other : (n : ℕ) (u : PlanNode) → slice_get p n ≡ Some u → is_store u.op ≡ true → slice_get q n ≡ Some u
  store_other n u stands e = by_part n
      (λ within. absurd (true≢false (sym e ∙ store_ends u.op (c.end_p n u within stands))))
      (λ is. absurd (true≢false (sym e ∙ ap (λ x. is_store x.op) (some_same u v (sym stands ∙ ap (slice_get p) is ∙ c.above_p)) ∙ store_ends v.op c.above_end_p)))
      (λ free other. c.other n free other ∙ stands)

  store_was : (n : ℕ) (x : PlanNode) → slice_get q n ≡ Some x → is_store x.op ≡ true → slice_get p n ≡ Some x
  store_was n x there e = by_part n
      (λ within. absurd (true≢false (sym e ∙ store_ends x.op (c.end_q n x within there))))
      (λ is. absurd (true≢false (sym e ∙ ap (λ y. is_store y.op) (some_same x w (sym there ∙ ap (slice_get q) is ∙ c.above_q)) ∙ store_ends w.op c.above_end_q)))
      (λ free other. sym (c.other n free other) ∙ there)

  lives_on : (fuel : ℕ) → Onwards fuel
  lives_on zero n u enough stands alive out = let within = slice_get_within p n u stands in absurd (omega (arith, within, enough))
  lives_on (suc fuel) n u enough stands alive out = by_store (lives_on fuel) (is_store u.op) refl
    where
      by_store : Onwards fuel → (b : Bool) → is_store u.op ≡ b → is_live q n ≡ true
      by_store onwards true e = store_lives q n u (store_other n u stands e) e
      by_store onwards false e = by_user fuel n u enough stands out onwards (user_of p n u stands e alive)

  pub stays_live : (n : ℕ) (u : PlanNode) → slice_get p n ≡ Some u → is_live p n ≡ true → inner n ≡ false → is_live q n ≡ true
  stays_live n u stands alive out = lives_on (length p) n u (omega arith) stands alive out

  pub above_lives : is_live q k ≡ true
  above_lives = stays_live k v c.above_p c.alive outer

  abbrev Backwards : ℕ → Type 0
  Backwards fuel = (n : ℕ) (x : PlanNode) → length q ≤ n + fuel → slice_get q n ≡ Some x → is_live q n ≡ true → inner n ≡ false → is_live p n ≡ true

  was_used : (fuel n : ℕ) (x : PlanNode) → length q ≤ n + suc fuel → slice_get q n ≡ Some x → inner n ≡ false → Backwards fuel → User q n → is_live p n ≡ true
  was_used fuel n x enough there out backwards user =
      let behind = user.behind in
      let found = in_p n x there in
      by_part user.m
      (λ within. read_lives inner k p valid v c.above_p c.alive c.near_p n found.0 found.1
      (c.comes n out (by_inner (record { m = user.m; w = user.u; within = within; stands = user.stands; name = user.name }))))
      (λ is.
      let same : user.u ≡ w = some_same user.u w (sym user.stands ∙ ap (slice_get q) is ∙ c.above_q) in
      read_lives inner k p valid v c.above_p c.alive c.near_p n found.0 found.1 (c.comes n out (by_above (ap (λ y. names y.op n) (sym same) ∙ user.name))))
      (λ free other.
      live_input p user.m user.u (sym (c.other user.m free other) ∙ user.stands) (backwards user.m user.u (omega (arith, enough, behind)) user.stands user.lives free)
      n user.behind found.0 found.1 user.name)

  lives_back : (fuel : ℕ) → Backwards fuel
  lives_back zero n x enough there alive out = let within = slice_get_within q n x there in absurd (omega (arith, within, enough))
  lives_back (suc fuel) n x enough there alive out = by_store (lives_back fuel) (is_store x.op) refl
    where
      by_store : Backwards fuel → (b : Bool) → is_store x.op ≡ b → is_live p n ≡ true
      by_store backwards true e = store_lives p n x (store_was n x there e) e
      by_store backwards false e = was_used fuel n x enough there out backwards (user_of q n x there e alive)

  pub was_live : (n : ℕ) (x : PlanNode) → slice_get q n ≡ Some x → is_live q n ≡ true → inner n ≡ false → is_live p n ≡ true
  was_live n x there alive out = lives_back (length q) n x (omega arith) there alive out

  -- what another node reads is no inner one
  input_out : (n : ℕ) (u : PlanNode) → slice_get p n ≡ Some u → inner n ≡ false → (n ≡ k → ⊥) → (j : ℕ) → names u.op j ≡ true → inner j ≡ false
  input_out n u stands free other j name = either_way (inner j)
      (λ e. elim (c.own n j u e stands name) [
        | inl within ↦ absurd (true≢false (sym within ∙ free))
        | inr is ↦ absurd (other is)
      ])
      (λ e. e)

  -- ---- rows that are of the kinds, and as wide

  pub of_kinds : FunctionsKeepKinds → (inputs : List Input) (kept : List Kept) → Allowed p q inputs kept → (n : ℕ) (u : PlanNode) → slice_get p n ≡ Some u → is_live p n ≡ true → inner n ≡ false
      → IsSame p q (λ j. j) inputs kept n → (ks : RowKinds) → kinds_at p n ≡ Some ks → AllByRecursion (λ row. IsRowOf row ks) (meaning p inputs kept n)
  of_kinds functions inputs kept allowed n u stands alive out same ks is = elim allowed [
    | inl each ↦ rows_of_each ks (meaning p inputs kept n) (meanings_are_of_kinds functions p inputs kept valid each n ks alive is)
    | inr each ↦ subst (AllByRecursion (λ row. IsRowOf row ks)) same.rows
        (rows_of_each ks (meaning q inputs kept n) (meanings_are_of_kinds functions q inputs kept valid_q each n ks (stays_live n u stands alive out) (same.kinds ∙ is)))
  ]

  pub wide : FunctionsKeepKinds → (inputs : List Input) (kept : List Kept) → Allowed p q inputs kept → (n : ℕ) (u : PlanNode) → slice_get p n ≡ Some u → is_live p n ≡ true → inner n ≡ false
      → IsSame p q (λ j. j) inputs kept n → (ks : RowKinds) → kinds_at p n ≡ Some ks → AllByRecursion (λ row. length row ≡ width_at p n) (meaning p inputs kept n)
  wide functions inputs kept allowed n u stands alive out same ks is =
      each_weaker (λ row. IsRowOf row ks) (λ row. length row ≡ width_at p n) (λ row h. length_of row ks h ∙ sym (ap (λ o. option_map_or length o 0) is))
      (meaning p inputs kept n) (of_kinds functions inputs kept allowed n u stands alive out same ks is)

  -- ---- what stays the same

  module _ (flat_p : (sorted : ℕ → Bool) → sorts v.op sorted ≡ false) (flat_q : (sorted : ℕ → Bool) → sorts w.op sorted ≡ false)
      (bag_p : (sorted listed : ℕ → Bool) → lists sorted v.op listed ≡ false) (bag_q : (sorted listed : ℕ → Bool) → lists sorted w.op listed ≡ false) where
    record SameList (n : ℕ) : Type 0 where
      sorted : is_sorted q n ≡ is_sorted p n
      listed : is_list q n ≡ is_list p n

    list_above : SameList k
    list_above = record {
      sorted = sorted_of_node q valid_q k w c.above_q ∙ flat_q (is_sorted q) ∙ sym (sorted_of_node p valid k v c.above_p ∙ flat_p (is_sorted p));
      listed = list_of_node q valid_q k w c.above_q ∙ bag_q (is_sorted q) (is_list q) ∙ sym (list_of_node p valid k v c.above_p ∙ bag_p (is_sorted p) (is_list p));
    }

    list_other : (n : ℕ) (u : PlanNode) → slice_get p n ≡ Some u → slice_get q n ≡ Some u → AllByRecursion SameList (inputs_of u.op) → SameList n
    list_other n u stands there all =
        let sorted : AllByRecursion (λ i. is_sorted q i ≡ is_sorted p i) (inputs_of u.op) = each_weaker SameList (λ i. is_sorted q i ≡ is_sorted p i) (λ i s. s.sorted) (inputs_of u.op) all in
        record {
          sorted = sorted_kept p q valid valid_q n u stands there sorted;
          listed = list_kept p q valid valid_q n u stands there sorted (each_weaker SameList (λ i. is_list q i ≡ is_list p i) (λ i s. s.listed) (inputs_of u.op) all);
        }

    lists_up_to : (fuel n : ℕ) (u : PlanNode) → n < fuel → slice_get p n ≡ Some u → is_live p n ≡ true → inner n ≡ false → SameList n
    lists_up_to zero n u low stands alive out = absurd (omega (arith, low))
    lists_up_to (suc fuel) n u low stands alive out = by_node (lists_up_to fuel)
      where
        by_node : ((j : ℕ) (x : PlanNode) → j < fuel → slice_get p j ≡ Some x → is_live p j ≡ true → inner j ≡ false → SameList j) → SameList n
        by_node lower = by_part n (λ e. absurd (true≢false (sym e ∙ out)))
            (λ e. subst SameList (sym e) list_above)
            (λ free other. list_other n u stands (c.other n free other ∙ stands)
            (each_weaker (IsInput p n) SameList
            (λ j input. let less = input.lower in lower j input.node (omega (arith, less, low)) input.stands input.lives (input_out n u stands free other j (input.name u stands)))
            (inputs_of u.op) (inputs_live p valid n u stands alive)))

    module _ (gives : (inputs : List Input) (kept : List Kept) → Allowed p q inputs kept → Earlier p q (λ j. j) inputs kept inner k → Gives p q inputs kept k) where
      node_same : (inputs : List Input) (kept : List Kept) → Allowed p q inputs kept → (n : ℕ) (u : PlanNode) → slice_get p n ≡ Some u → is_live p n ≡ true → inner n ≡ false
          → IsSame p q (λ j. j) inputs kept n
      node_same inputs kept allowed = each_same p q (λ j. j) inputs kept inner (λ n u stands alive out earlier. by_part n
          (λ e. absurd (true≢false (sym e ∙ out)))
          (λ e.
          let given : Gives p q inputs kept k = gives inputs kept allowed (subst (Earlier p q (λ j. j) inputs kept inner) e earlier) in
          subst (IsSame p q (λ j. j) inputs kept) (sym e) (record { kinds = given.kinds; sorted = list_above.sorted; rows = given.rows }))
          (λ free other. node_kept p q valid valid_q inputs kept n u stands (c.other n free other ∙ stands)
          (each_weaker (IsInput p n) (IsSame p q (λ j. j) inputs kept)
          (λ j input. earlier j input.lower input.lives (input_out n u stands free other j (input.name u stands)))
          (inputs_of u.op) (inputs_live p valid n u stands alive))))

      end_other : (n : ℕ) (u : PlanNode) → slice_get p n ≡ Some u → is_end u.op ≡ true → (inner n ≡ false) × (n ≡ k → ⊥)
      end_other n u stands e = (
        either_way (inner n) (λ within. absurd (true≢false (sym e ∙ c.end_p n u within stands))) (λ out. out),
        (λ is. true≢false (sym e ∙ ap (λ x. is_end x.op) (some_same u v (sym stands ∙ ap (slice_get p) is ∙ c.above_p)) ∙ c.above_end_p)),
      )

      end_was : (n : ℕ) (x : PlanNode) → slice_get q n ≡ Some x → is_end x.op ≡ true → (inner n ≡ false) × (n ≡ k → ⊥)
      end_was n x there e = (
        either_way (inner n) (λ within. absurd (true≢false (sym e ∙ c.end_q n x within there))) (λ out. out),
        (λ is. true≢false (sym e ∙ ap (λ y. is_end y.op) (some_same x w (sym there ∙ ap (slice_get q) is ∙ c.above_q)) ∙ c.above_end_q)),
      )

      keeps : Keeps p q inner
      keeps = record {
        size = c.size;
        same = node_same;
        sorted = λ n u stands alive out. (lists_up_to (suc n) n u (omega arith) stands alive out).sorted;
        lists = λ n u stands alive out. (lists_up_to (suc n) n u (omega arith) stands alive out).listed;
        stays = λ n u stands alive e.
            let other = end_other n u stands e in
            record {
              there = c.other n other.0 other.1 ∙ stands;
              lives = stays_live n u stands alive other.0;
              inputs = each_weaker (IsInput p n) (λ j. inner j ≡ false) (λ j input. input_out n u stands other.0 other.1 j (input.name u stands)) (inputs_of u.op) (inputs_live p valid n u stands alive);
            };
        came = λ n x there alive e.
            let other = end_was n x there e in
            (sym (c.other n other.0 other.1) ∙ there, was_live n x there alive other.0);
      }

      pub in_place_means : SameMeaning p q
      in_place_means = keeps_meaning p q valid inner keeps (λ n u stands alive e. (end_other n u stands e).0)

  -- ---- dead nodes still read nothing

  pub in_place_tidy : IsTidy p → IsTidy q
  in_place_tidy tidy n x there dead = by_part n
      (λ within. elim (c.near_q n x within there) [
        | inl nothing ↦ nothing
        | inr named ↦ absurd (true≢false (sym (live_input q k w c.above_q above_lives n (c.low n within) x there named) ∙ dead))
      ])
      (λ is. absurd (true≢false (sym above_lives ∙ ap (is_live q) (sym is) ∙ dead)))
      (λ free other.
      let stands : slice_get p n ≡ Some x = sym (c.other n free other) ∙ there in
      either_way (is_live p n)
      (λ alive. absurd (true≢false (sym (stays_live n x stands alive free) ∙ dead)))
      (λ was. tidy n x stands was))
