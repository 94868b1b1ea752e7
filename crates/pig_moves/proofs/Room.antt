-- A plan with one node more that reads nothing, at a place: the nodes behind it have other numbers, and the plan means what it meant.
use Rattle.std.specs.Prelude.{◌≡◌, ◌<◌, ◌≤◌, ◌+◌, ◌==◌, ℕ, zero, suc, Bool, true, false, not, List, [], ◌++◌, map, length, take, Option, Some, None, slice_get, refl}
use Rattle.std.proofs.Common.{ap, sym, ◌∙◌, subst, arith, true≢false, inl, inr}
use Rattle.std.specs.List.{AllByRecursion, list_all, list_any, range_with_len}
use Rattle.std.specs.Option.{option_map, option_map_or, unwrap_or}
use Rattle.std.proofs.lemmas.Bool.{eq-eqb, eqb-true}
use Rattle.std.proofs.Math.Nat.{eq-or-lt_of_le}
use Rattle.std.proofs.lemmas.List.{length-map}
use Rattle.std.proofs.lemmas.Option.{none-some, slice_get_within}
use Rattle.pig_value.proofs.list_laws.Bags.{either_way}
use Rattle.pig_value.proofs.list_laws.Indexing.{get_map, some_at}
use Rattle.pig_value.proofs.list_laws.Listing.{each_weaker, some_same}
use Rattle.pig_value.specs.declared.inputs.Input.{Input}
use Rattle.pig_value.specs.declared.outcomes.Kept.{Kept}
use Rattle.pig_value.specs.Trees.{Tree}
use Rattle.pig_typed.specs.Evaluation.{passes}
use Rattle.pig_plan.proofs.Listed.{list_of_node, sorted_of_node}
use Rattle.pig_plan.proofs.Lower.{meaning_of_node, names_lower}
use Rattle.pig_plan.proofs.Meanings.{each_both, live_input}
use Rattle.pig_plan.proofs.Unfolds.{before_is, result_before}
use Rattle.pig_plan.specs.Meaning.{AreKept, EachIsKept, IsKept, kept_at, meaning, width_at}
use Rattle.pig_plan.specs.NodeKinds.{kinds_at, kinds_step}
use Rattle.pig_plan.specs.Nodes.{bare_limits, inputs_of, is_bare, is_list, is_live, is_sorted, is_store, names}
use Rattle.pig_plan.specs.Plans.{Plan, PlanNode, PlanOp, p_load, p_filter, p_foreach, p_group_all, p_group, p_join, p_union, p_distinct, p_order, p_limit, p_store, p_assert, p_rank}
use Rattle.pig_plan.specs.Renumbered.{IsSame, rename, renamed}
use Rattle.pig_plan.specs.Results.{at_place, results}
use Rattle.pig_plan.specs.Rewrites.{Fails, SameMeaning, Stores}
use Rattle.pig_plan.specs.Room.{idle, past, roomy}
use Rattle.pig_plan.specs.Valid.{IsPlan}
use Rattle.pig_plan.proofs.BareListed.{adds, is_bare_one, listing, next, not_bare}
use Rattle.pig_plan.proofs.Living.{User, came, goes, member, store_lives, store_renamed, user_of}
use Rattle.pig_plan.proofs.Room.{From, insert_from, insert_length, insert_new, insert_there, new, old, past_behind, past_below, past_one}
use Rattle.pig_plan.proofs.Renumbering.{gives_moved, inputs_renamed, lists_moved, rows_moved, sorts_moved}
use Rattle.pig_plan.proofs.Living.{each_mapped}
use Rattle.pig_moves.specs.Pushed.{IsTidy}
use Rattle.pig_moves.proofs.Keeps.{is_end, node_with}

-- ---- the operator that a renamed one was

abbrev on : ℕ → PlanOp → PlanOp
on n (p_limit input count) = p_limit n count
on n (p_store input path delim) = p_store n path delim
on n (p_assert input cond message) = p_assert n cond message
on n o = o

abbrev input_of : PlanOp → ℕ
input_of (p_limit input count) = input
input_of (p_store input path delim) = input
input_of (p_assert input cond message) = input
input_of o = 0

-- an operator that is renamed to an end was one, on an input that is renamed so
record WasEnd (f : ℕ → ℕ) (o w : PlanOp) : Type 0 where
  was : o ≡ on (input_of o) w
  input : f (input_of o) ≡ input_of w

was_end : (f : ℕ → ℕ) (o w : PlanOp) → rename f o ≡ w → is_end w ≡ true → WasEnd f o w
was_end f (p_limit input count) w h e = subst (WasEnd f (p_limit input count)) h (record { was = refl; input = refl })
was_end f (p_store input path delim) w h e = subst (WasEnd f (p_store input path delim)) h (record { was = refl; input = refl })
was_end f (p_assert input cond message) w h e = subst (WasEnd f (p_assert input cond message)) h (record { was = refl; input = refl })
was_end f (p_load path delim columns) w h e = absurd (true≢false (sym e ∙ ap is_end (sym h)))
was_end f (p_filter input c) w h e = absurd (true≢false (sym e ∙ ap is_end (sym h)))
was_end f (p_foreach input block) w h e = absurd (true≢false (sym e ∙ ap is_end (sym h)))
was_end f (p_group_all input) w h e = absurd (true≢false (sym e ∙ ap is_end (sym h)))
was_end f (p_group inputs) w h e = absurd (true≢false (sym e ∙ ap is_end (sym h)))
was_end f (p_join inputs side replicated) w h e = absurd (true≢false (sym e ∙ ap is_end (sym h)))
was_end f (p_union inputs) w h e = absurd (true≢false (sym e ∙ ap is_end (sym h)))
was_end f (p_distinct input) w h e = absurd (true≢false (sym e ∙ ap is_end (sym h)))
was_end f (p_order input keys) w h e = absurd (true≢false (sym e ∙ ap is_end (sym h)))
was_end f (p_rank input keys dense) w h e = absurd (true≢false (sym e ∙ ap is_end (sym h)))

bare_renamed : (f : ℕ → ℕ) (s t : ℕ → Bool) (o : PlanOp) → AllByRecursion (λ i. s (f i) ≡ t i) (inputs_of o) → is_bare s (rename f o) ≡ is_bare t o
bare_renamed f s t (p_limit input count) h = ap not h.0
bare_renamed f s t (p_load path delim columns) h = refl
bare_renamed f s t (p_filter input c) h = refl
bare_renamed f s t (p_foreach input block) h = refl
bare_renamed f s t (p_group_all input) h = refl
bare_renamed f s t (p_group inputs) h = refl
bare_renamed f s t (p_join inputs side replicated) h = refl
bare_renamed f s t (p_union inputs) h = refl
bare_renamed f s t (p_distinct input) h = refl
bare_renamed f s t (p_order input keys) h = refl
bare_renamed f s t (p_store input path delim) h = refl
bare_renamed f s t (p_assert input c message) h = refl
bare_renamed f s t (p_rank input keys dense) h = refl

before : (m a : ℕ) → a ≤ m → (a ≡ m → ⊥) → a < m
before m a le differ = elim (eq-or-lt_of_le le) [
  | inl same ↦ absurd (differ same)
  | inr less ↦ less
]

-- ---- a plan with room at a place

module _ (p q : Plan) (valid : IsPlan p) (valid_q : IsPlan q) (room : ℕ) (is : q ≡ roomy room p) (short : room ≤ length p) where
  abbrev f : ℕ → ℕ
  f n = past room n

  short_map : room ≤ length (map (renamed f) p)
  short_map = let long = length-map p (renamed f) in omega (arith, long, short)

  pub size : length q ≡ suc (length p)
  size = ap (λ xs. length xs) is ∙ insert_length idle room (map (renamed f) p) ∙ ap (λ n. suc n) (length-map p (renamed f))

  pub there : (n : ℕ) (v : PlanNode) → slice_get p n ≡ Some v → slice_get q (f n) ≡ Some (renamed f v)
  there n v stands =
      ap (λ xs. slice_get xs (f n)) is
      ∙ insert_there idle room n (map (renamed f) p) (renamed f v) (get_map (renamed f) p n ∙ ap (option_map (renamed f)) stands)

  pub idle_there : slice_get q room ≡ Some idle
  idle_there = ap (λ xs. slice_get xs room) is ∙ insert_new idle room (map (renamed f) p) short_map

  pub data Origin (j : ℕ) (w : PlanNode) : Type 0 where
    added : idle ≡ w → Origin j w
    from_node : (n : ℕ) (v : PlanNode) → slice_get p n ≡ Some v → f n ≡ j → renamed f v ≡ w → Origin j w

  pub origin : (j : ℕ) (w : PlanNode) → slice_get q j ≡ Some w → Origin j w
  origin j w at = by_from (insert_from idle room j (map (renamed f) p) w (sym (ap (λ xs. slice_get xs j) is) ∙ at))
    where
      by_node : (n : ℕ) → past room n ≡ j → (o : Option PlanNode) → slice_get p n ≡ o → option_map (renamed (past room)) o ≡ Some w → Origin j w
      by_node n e None g h = absurd (none-some w h)
      by_node n e (Some v) g h = from_node n v g e (some_same (renamed (past room) v) w h)

      by_from : From idle room (map (renamed (past room)) p) j w → Origin j w
      by_from (new e here) = added e
      by_from (old n e g) = by_node n e (slice_get p n) refl (sym (get_map (renamed (past room)) p n) ∙ g)

  inputs_before : (k : ℕ) (v : PlanNode) → slice_get p k ≡ Some v → AllByRecursion (λ i. f i < f k) (inputs_of v.op)
  inputs_before k v stands =
      each_mapped (λ i. i < f k) f (inputs_of v.op)
      (subst (AllByRecursion (λ i. i < f k)) (inputs_renamed f v.op) (names_lower q valid_q (f k) (renamed f v) (there k v stands)))

  kinds_of : (k : ℕ) (v : PlanNode) → slice_get p k ≡ Some v → AllByRecursion (λ i. kinds_at q (f i) ≡ kinds_at p i) (inputs_of v.op) → kinds_at q (f k) ≡ kinds_at p k
  kinds_of k v stands same =
      let one = each_both (λ i. i < k) (λ i. kinds_at q (f i) ≡ kinds_at p i) (λ i. (i < k) × (kinds_at q (f i) ≡ kinds_at p i)) (λ i a b. (a, b)) (inputs_of v.op) (names_lower p valid k v stands) same in
      let all : AllByRecursion (λ i. at_place None (take (f k) (results kinds_step None q)) (f i) ≡ at_place None (take k (results kinds_step None p)) i) (inputs_of v.op) =
      each_both (λ i. f i < f k) (λ i. (i < k) × (kinds_at q (f i) ≡ kinds_at p i))
      (λ i. at_place None (take (f k) (results kinds_step None q)) (f i) ≡ at_place None (take k (results kinds_step None p)) i)
      (λ i a b. before_is kinds_step None q (f k) (f i) a ∙ b.1 ∙ sym (before_is kinds_step None p k i b.0)) (inputs_of v.op) (inputs_before k v stands) one in
      result_before kinds_step None q (f k) (renamed f v) (there k v stands)
      ∙ ap (λ o. unwrap_or o None) (gives_moved f (at_place None (take (f k) (results kinds_step None q))) (at_place None (take k (results kinds_step None p))) v.op all)
      ∙ sym (result_before kinds_step None p k v stands)

  module _ (inputs : List Input) (kept : List Kept) where
    abbrev Same : ℕ → Type 0
    Same i = IsSame p q f inputs kept i

    node_same : (k : ℕ) (v : PlanNode) → slice_get p k ≡ Some v → AllByRecursion Same (inputs_of v.op) → Same k
    node_same k v stands all =
        let is_there : slice_get q (f k) ≡ Some (renamed f v) = there k v stands in
        record {
          kinds = kinds_of k v stands (each_weaker Same (λ i. kinds_at q (f i) ≡ kinds_at p i) (λ i s. s.kinds) (inputs_of v.op) all);
          sorted = sorted_of_node q valid_q (f k) (renamed f v) is_there
              ∙ sorts_moved f (is_sorted q) (is_sorted p) v.op (each_weaker Same (λ i. is_sorted q (f i) ≡ is_sorted p i) (λ i s. s.sorted) (inputs_of v.op) all)
              ∙ sym (sorted_of_node p valid k v stands);
          rows = meaning_of_node q inputs kept valid_q (f k) (renamed f v) is_there
              ∙ rows_moved f inputs (kept_at kept) (width_at q) (width_at p) (is_sorted q) (is_sorted p) (meaning q inputs kept) (meaning p inputs kept) v.statement v.statement v.op
              (λ bare. refl)
              (each_weaker Same _ (λ i s. record { width = ap (λ o. option_map_or length o 0) s.kinds; sorted = s.sorted; rows = s.rows }) (inputs_of v.op) all)
              ∙ sym (meaning_of_node p inputs kept valid k v stands);
        }

    up_to : (n k : ℕ) (v : PlanNode) → k < n → slice_get p k ≡ Some v → Same k
    up_to zero k v below stands = absurd (omega (arith, below))
    up_to (suc n) k v below stands =
        let within = slice_get_within p k v stands in
        node_same k v stands
        (each_weaker (λ i. i < k) Same (λ i lower. let found = some_at p i (omega (arith, lower, within)) in up_to n i found.0 (omega (arith, lower, below)) found.1)
        (inputs_of v.op) (names_lower p valid k v stands))

    same_at : (k : ℕ) (v : PlanNode) → slice_get p k ≡ Some v → Same k
    same_at k v stands = up_to (suc k) k v (omega arith) stands

    input_same : (k : ℕ) (v : PlanNode) → slice_get p k ≡ Some v → AllByRecursion Same (inputs_of v.op)
    input_same k v stands =
        let within = slice_get_within p k v stands in
        each_weaker (λ i. i < k) Same (λ i lower. let found = some_at p i (omega (arith, lower, within)) in same_at i found.0 found.1) (inputs_of v.op) (names_lower p valid k v stands)

  -- ---- whether it is a list

  abbrev SameList : ℕ → Type 0
  SameList i = (is_sorted q (f i) ≡ is_sorted p i) × (is_list q (f i) ≡ is_list p i)

  lists_up_to : (n k : ℕ) (v : PlanNode) → k < n → slice_get p k ≡ Some v → SameList k
  lists_up_to zero k v below stands = absurd (omega (arith, below))
  lists_up_to (suc n) k v below stands =
      let within = slice_get_within p k v stands in
      let all : AllByRecursion SameList (inputs_of v.op) =
      each_weaker (λ i. i < k) SameList (λ i lower. let found = some_at p i (omega (arith, lower, within)) in lists_up_to n i found.0 (omega (arith, lower, below)) found.1)
      (inputs_of v.op) (names_lower p valid k v stands) in
      let sorted : AllByRecursion (λ i. is_sorted q (f i) ≡ is_sorted p i) (inputs_of v.op) = each_weaker SameList (λ i. is_sorted q (f i) ≡ is_sorted p i) (λ i s. s.0) (inputs_of v.op) all in (
        sorted_of_node q valid_q (f k) (renamed f v) (there k v stands) ∙ sorts_moved f (is_sorted q) (is_sorted p) v.op sorted ∙ sym (sorted_of_node p valid k v stands),
        list_of_node q valid_q (f k) (renamed f v) (there k v stands)
            ∙ lists_moved f (is_list q) (is_list p) (is_sorted q) (is_sorted p) v.op sorted (each_weaker SameList (λ i. is_list q (f i) ≡ is_list p i) (λ i s. s.1) (inputs_of v.op) all)
            ∙ sym (list_of_node p valid k v stands),
      )

  input_lists : (k : ℕ) (v : PlanNode) → slice_get p k ≡ Some v → AllByRecursion SameList (inputs_of v.op)
  input_lists k v stands =
      let within = slice_get_within p k v stands in
      each_weaker (λ i. i < k) SameList (λ i lower. let found = some_at p i (omega (arith, lower, within)) in lists_up_to (suc i) i found.0 (omega arith) found.1)
      (inputs_of v.op) (names_lower p valid k v stands)

  -- ---- live

  to_user : (fuel k : ℕ) (v : PlanNode) → slice_get p k ≡ Some v → length p ≤ k + suc fuel
      → ((m : ℕ) (u : PlanNode) → length p ≤ m + fuel → slice_get p m ≡ Some u → is_live p m ≡ true → is_live q (f m) ≡ true) → User p k → is_live q (f k) ≡ true
  to_user fuel k v stands enough onwards user =
      let behind = user.behind in
      let alive_m : is_live q (f user.m) ≡ true = onwards user.m user.u (omega (arith, enough, behind)) user.stands user.lives in
      let lower : f k < f user.m = member (λ i. f i < f user.m) k (inputs_of user.u.op) (inputs_before user.m user.u user.stands) user.name in
      let name : names (rename f user.u.op) (f k) ≡ true = ap (λ ns. list_any (λ i. i == f k) ns) (inputs_renamed f user.u.op) ∙ goes f k (inputs_of user.u.op) user.name in
      live_input q (f user.m) (renamed f user.u) (there user.m user.u user.stands) alive_m (f k) lower (renamed f v) (there k v stands) name

  lives_on : (fuel k : ℕ) (v : PlanNode) → length p ≤ k + fuel → slice_get p k ≡ Some v → is_live p k ≡ true → is_live q (f k) ≡ true
  lives_on zero k v enough stands lives = let within = slice_get_within p k v stands in absurd (omega (arith, within, enough))
  lives_on (suc fuel) k v enough stands lives = by_store (lives_on fuel) (is_store v.op) refl
    where
      by_store : ((m : ℕ) (u : PlanNode) → length p ≤ m + fuel → slice_get p m ≡ Some u → is_live p m ≡ true → is_live q (past room m) ≡ true) → (b : Bool) → is_store v.op ≡ b → is_live q (past room k) ≡ true
      by_store onwards true e = store_lives q (f k) (renamed f v) (there k v stands) (store_renamed f v.op ∙ e)
      by_store onwards false e = to_user fuel k v stands enough onwards (user_of p k v stands e lives)

  pub stays_live : (k : ℕ) (v : PlanNode) → slice_get p k ≡ Some v → is_live p k ≡ true → is_live q (f k) ≡ true
  stays_live k v stands lives = lives_on (length p) k v (omega arith) stands lives

  nothing_named : (o : PlanOp) (n : ℕ) → inputs_of o ≡ [] → names o n ≡ true → ⊥
  nothing_named o n e h = true≢false (sym h ∙ ap (λ ns. list_any (λ i. i == n) ns) e)

  was_used : (fuel k : ℕ) (v : PlanNode) → slice_get p k ≡ Some v → length q ≤ f k + suc fuel
      → ((m : ℕ) (u : PlanNode) → length q ≤ f m + fuel → slice_get p m ≡ Some u → is_live q (f m) ≡ true → is_live p m ≡ true) → User q (f k) → is_live p k ≡ true
  was_used fuel k v stands enough backwards user = by_origin (origin user.m user.u user.stands)
    where
      by_origin : Origin user.m user.u → is_live p k ≡ true
      by_origin (added e) = absurd (nothing_named user.u.op (f k) (ap (λ w. inputs_of w.op) (sym e)) user.name)
      by_origin (from_node m u at is_m is_u) =
          let behind = user.behind in
          let c = came f (f k) (inputs_of u.op) (ap (λ ns. list_any (λ i. i == f k) ns) (sym (inputs_renamed f u.op)) ∙ ap (λ w. names w.op (f k)) is_u ∙ user.name) in
          let same : c.i ≡ k = past_one room c.i k c.there in
          let name : names u.op k ≡ true = ap (names u.op) (sym same) ∙ c.name in
          let alive_m : is_live p m ≡ true = backwards m u (omega (arith, enough, behind, is_m)) at (ap (is_live q) is_m ∙ user.lives) in
          live_input p m u at alive_m k (member (λ i. i < m) k (inputs_of u.op) (names_lower p valid m u at) name) v stands name

  lives_back : (fuel k : ℕ) (v : PlanNode) → length q ≤ f k + fuel → slice_get p k ≡ Some v → is_live q (f k) ≡ true → is_live p k ≡ true
  lives_back zero k v enough stands lives = let within = slice_get_within q (f k) (renamed f v) (there k v stands) in absurd (omega (arith, within, enough))
  lives_back (suc fuel) k v enough stands lives = by_store (lives_back fuel) (is_store v.op) refl
    where
      by_store : ((m : ℕ) (u : PlanNode) → length q ≤ past room m + fuel → slice_get p m ≡ Some u → is_live q (past room m) ≡ true → is_live p m ≡ true) → (b : Bool) → is_store v.op ≡ b → is_live p k ≡ true
      by_store backwards true e = store_lives p k v stands e
      by_store backwards false e = was_used fuel k v stands enough backwards (user_of q (f k) (renamed f v) (there k v stands) (store_renamed f v.op ∙ e) lives)

  pub was_live : (k : ℕ) (v : PlanNode) → slice_get p k ≡ Some v → is_live q (f k) ≡ true → is_live p k ≡ true
  was_live k v stands lives = lives_back (length q) k v (omega arith) stands lives

  -- ---- the statements of the bare LIMITs

  abbrev bare_p : PlanNode → Bool
  bare_p node = is_bare (is_sorted p) node.op

  abbrev bare_q : PlanNode → Bool
  bare_q node = is_bare (is_sorted q) node.op

  abbrev statement_of : PlanNode → ℕ
  statement_of node = node.statement

  live_same : (k : ℕ) (v : PlanNode) → slice_get p k ≡ Some v → is_live q (f k) ≡ is_live p k
  live_same k v stands = either_way (is_live p k)
      (λ e. stays_live k v stands e ∙ sym e)
      (λ e. either_way (is_live q (f k)) (λ lives. absurd (true≢false (sym (was_live k v stands lives) ∙ e))) (λ dead. dead ∙ sym e))

  bare_same : (k : ℕ) (v : PlanNode) → slice_get p k ≡ Some v → bare_q (renamed f v) ≡ bare_p v
  bare_same k v stands =
      bare_renamed f (is_sorted q) (is_sorted p) v.op
      (each_weaker SameList (λ i. is_sorted q (f i) ≡ is_sorted p i) (λ i s. s.0) (inputs_of v.op) (input_lists k v stands))

  abbrev adds_p : ℕ → List ℕ
  adds_p n = adds (is_live p) (slice_get p) bare_p statement_of (is_live p n) (slice_get p n)

  abbrev adds_q : ℕ → List ℕ
  adds_q n = adds (is_live q) (slice_get q) bare_q statement_of (is_live q n) (slice_get q n)

  adds_same : (n : ℕ) → n < length p → adds_q (f n) ≡ adds_p n
  adds_same n within =
      let found = some_at p n within in
      (λ z. adds (is_live q) (slice_get q) bare_q statement_of (live_same n found.0 found.1 z) (there n found.0 found.1 z))
      ∙ by_live (is_live p n) found.0 (bare_same n found.0 found.1)
      ∙ ap (adds (is_live p) (slice_get p) bare_p statement_of (is_live p n)) (sym found.1)
    where
      by_bare : (b c : Bool) (v : PlanNode) → bare_q (renamed (past room) v) ≡ b → bare_p v ≡ c → b ≡ c
          → adds (is_live q) (slice_get q) bare_q statement_of true (Some (renamed (past room) v)) ≡ adds (is_live p) (slice_get p) bare_p statement_of true (Some v)
      by_bare true true v e g h = is_bare_one (is_live q) (slice_get q) bare_q statement_of (renamed (past room) v) e ∙ sym (is_bare_one (is_live p) (slice_get p) bare_p statement_of v g)
      by_bare false false v e g h = not_bare (is_live q) (slice_get q) bare_q statement_of true (renamed (past room) v) e ∙ sym (not_bare (is_live p) (slice_get p) bare_p statement_of true v g)
      by_bare true false v e g h = absurd (true≢false h)
      by_bare false true v e g h = absurd (true≢false (sym h))

      by_live : (b : Bool) (v : PlanNode) → bare_q (renamed (past room) v) ≡ bare_p v
          → adds (is_live q) (slice_get q) bare_q statement_of b (Some (renamed (past room) v)) ≡ adds (is_live p) (slice_get p) bare_p statement_of b (Some v)
      by_live false v h = refl
      by_live true v h = by_bare (bare_q (renamed (past room) v)) (bare_p v) v refl refl h

  adds_none : adds_q room ≡ []
  adds_none =
      ap (adds (is_live q) (slice_get q) bare_q statement_of (is_live q room)) idle_there
      ∙ not_bare (is_live q) (slice_get q) bare_q statement_of (is_live q room) idle refl

  abbrev listed_p : ℕ → ℕ → List ℕ
  listed_p a n = listing (is_live p) (slice_get p) bare_p statement_of (range_with_len a n)

  abbrev listed_q : ℕ → ℕ → List ℕ
  listed_q a n = listing (is_live q) (slice_get q) bare_q statement_of (range_with_len a n)

  adds_at : (n m : ℕ) → n < length p → past room n ≡ m → adds_q m ≡ adds_p n
  adds_at n m within e = ap adds_q (sym e) ∙ adds_same n within

  listed_behind : (n a : ℕ) → room ≤ a → a + n ≤ length p → listed_q (a + 1) n ≡ listed_p a n
  listed_behind zero a low high = refl
  listed_behind (suc n) a low high =
      next (is_live q) (slice_get q) bare_q statement_of (a + 1) (range_with_len (a + 1 + 1) n)
      ∙ (λ z. adds_at a (a + 1) (omega (arith, high)) (past_behind room a low) z ++ listed_behind n (a + 1) (omega (arith, low)) (omega (arith, high)) z)
      ∙ sym (next (is_live p) (slice_get p) bare_p statement_of a (range_with_len (a + 1) n))

  listed_here : (n a : ℕ) → a ≡ room → a + n ≤ length p → listed_q a (suc n) ≡ listed_p a n
  listed_here n a same high =
      next (is_live q) (slice_get q) bare_q statement_of a (range_with_len (a + 1) n)
      ∙ ap (λ ns. ns ++ listed_q (a + 1) n) (ap adds_q same ∙ adds_none)
      ∙ listed_behind n a (omega (arith, same)) high

  listed_from : (n a : ℕ) → a ≤ room → room ≤ a + n → a + n ≤ length p → listed_q a (suc n) ≡ listed_p a n
  listed_from zero a low high short_n = listed_here zero a (omega (arith, low, high)) short_n
  listed_from (suc n) a low high short_n = either_way (a == room)
      (λ e. listed_here (suc n) a (eqb-true a room e) short_n)
      (λ e.
      let less : a < room = before room a low (λ is. true≢false (sym (eq-eqb a room is) ∙ e)) in
      next (is_live q) (slice_get q) bare_q statement_of a (range_with_len (a + 1) (suc n))
      ∙ (λ z. adds_at a a (omega (arith, short_n)) (past_below room a less) z ++ listed_from n (a + 1) (omega (arith, less)) (omega (arith, high)) (omega (arith, short_n)) z)
      ∙ sym (next (is_live p) (slice_get p) bare_p statement_of a (range_with_len (a + 1) n)))

  limits_same : map (λ node. node.statement) (bare_limits q) ≡ map (λ node. node.statement) (bare_limits p)
  limits_same =
      ap (λ n. listed_q 0 n) size
      ∙ listed_from (length p) 0 (omega arith) (omega (arith, short)) (omega arith)

  -- ---- the ends

  record EndWas (j : ℕ) (o : PlanOp) (statement : ℕ) : Type 0 where
    n : ℕ
    i : ℕ
    stands : slice_get p n ≡ Some (node_with (on i o) statement)
    number : f n ≡ j
    input : f i ≡ input_of o

  end_was : (j : ℕ) (o : PlanOp) (statement : ℕ) → slice_get q j ≡ Some (node_with o statement) → is_end o ≡ true → EndWas j o statement
  end_was j o statement at e = by_origin (origin j (node_with o statement) at)
    where
      by_origin : Origin j (node_with o statement) → EndWas j o statement
      by_origin (added same) = absurd (true≢false (sym e ∙ ap (λ w. is_end w.op) (sym same)))
      by_origin (from_node n v stands is_n is_v) =
          let was : WasEnd (past room) v.op o = was_end (past room) v.op o (ap (λ w. w.op) is_v) e in
          record {
            n = n;
            i = input_of v.op;
            stands = stands ∙ (λ z. Some (node_with (was.was z) ((is_v z).statement)));
            number = is_n;
            input = was.input;
          }

  each_on : (inputs : List Input) (kept : List Kept) → EachIsKept p inputs kept → EachIsKept q inputs kept
  each_on inputs kept each j statement input count at lives unsorted =
      let end : EndWas j (p_limit input count) statement = end_was j (p_limit input count) statement at refl in
      let same : IsSame p q f inputs kept end.i = (input_same inputs kept end.n (node_with (p_limit end.i count) statement) end.stands).0 in
      let bare : is_sorted p end.i ≡ false = sym same.sorted ∙ ap (is_sorted q) end.input ∙ unsorted in
      subst (λ rows. AreKept count rows (kept_at kept statement)) (sym same.rows ∙ ap (meaning q inputs kept) end.input)
      (each end.n statement end.i count end.stands (was_live end.n (node_with (p_limit end.i count) statement) end.stands (ap (is_live q) end.number ∙ lives)) bare)

  each_back : (inputs : List Input) (kept : List Kept) → EachIsKept q inputs kept → EachIsKept p inputs kept
  each_back inputs kept each k statement input count stands lives unsorted =
      let same : IsSame p q f inputs kept input = (input_same inputs kept k (node_with (p_limit input count) statement) stands).0 in
      subst (λ rows. AreKept count rows (kept_at kept statement)) same.rows
      (each (f k) statement (f input) count (there k (node_with (p_limit input count) statement) stands)
      (stays_live k (node_with (p_limit input count) statement) stands lives) (same.sorted ∙ unsorted))

  kept_on : (inputs : List Input) (kept : List Kept) → IsKept p inputs kept → IsKept q inputs kept
  kept_on inputs kept h = record { entries = h.entries ∙ sym limits_same; each = each_on inputs kept h.each }

  kept_back : (inputs : List Input) (kept : List Kept) → IsKept q inputs kept → IsKept p inputs kept
  kept_back inputs kept h = record { entries = h.entries ∙ limits_same; each = each_back inputs kept h.each }

  stores_on : (inputs : List Input) (kept : List Kept) (path : List ℕ) (delim : ℕ) (rows : List (List Tree)) (listed : Bool) → Stores p inputs kept path delim rows listed → Stores q inputs kept path delim rows listed
  stores_on inputs kept path delim rows listed s = record {
    node = f s.node;
    input = f s.input;
    statement = s.statement;
    stands = there s.node (node_with (p_store s.input path delim) s.statement) s.stands;
    rows_are = (same_at inputs kept s.node (node_with (p_store s.input path delim) s.statement) s.stands).rows ∙ s.rows_are;
    list_is = (input_lists s.node (node_with (p_store s.input path delim) s.statement) s.stands).0.1 ∙ s.list_is;
  }

  stores_back : (inputs : List Input) (kept : List Kept) (path : List ℕ) (delim : ℕ) (rows : List (List Tree)) (listed : Bool) → Stores q inputs kept path delim rows listed → Stores p inputs kept path delim rows listed
  stores_back inputs kept path delim rows listed s =
      let end : EndWas s.node (p_store s.input path delim) s.statement = end_was s.node (p_store s.input path delim) s.statement s.stands refl in
      record {
        node = end.n;
        input = end.i;
        statement = s.statement;
        stands = end.stands;
        rows_are = sym (same_at inputs kept end.n (node_with (p_store end.i path delim) s.statement) end.stands).rows ∙ ap (meaning q inputs kept) end.number ∙ s.rows_are;
        list_is = sym ((input_lists end.n (node_with (p_store end.i path delim) s.statement) end.stands).0.1) ∙ ap (is_list q) end.input ∙ s.list_is;
      }

  fails_on : (inputs : List Input) (kept : List Kept) (statement : ℕ) → Fails p inputs kept statement → Fails q inputs kept statement
  fails_on inputs kept statement t =
      let same : IsSame p q f inputs kept t.input = (input_same inputs kept t.node (node_with (p_assert t.input t.cond t.message) statement) t.stands).0 in
      record {
        node = f t.node;
        input = f t.input;
        cond = t.cond;
        message = t.message;
        stands = there t.node (node_with (p_assert t.input t.cond t.message) statement) t.stands;
        lives = stays_live t.node (node_with (p_assert t.input t.cond t.message) statement) t.stands t.lives;
        unmet = ap (list_all (passes t.cond)) same.rows ∙ t.unmet;
      }

  fails_back : (inputs : List Input) (kept : List Kept) (statement : ℕ) → Fails q inputs kept statement → Fails p inputs kept statement
  fails_back inputs kept statement t =
      let end : EndWas t.node (p_assert t.input t.cond t.message) statement = end_was t.node (p_assert t.input t.cond t.message) statement t.stands refl in
      let same : IsSame p q f inputs kept end.i = (input_same inputs kept end.n (node_with (p_assert end.i t.cond t.message) statement) end.stands).0 in
      record {
        node = end.n;
        input = end.i;
        cond = t.cond;
        message = t.message;
        stands = end.stands;
        lives = was_live end.n (node_with (p_assert end.i t.cond t.message) statement) end.stands (ap (is_live q) end.number ∙ t.lives);
        unmet = ap (list_all (passes t.cond)) (sym same.rows ∙ ap (meaning q inputs kept) end.input) ∙ t.unmet;
      }

  pub room_means : SameMeaning p q
  room_means = record {
    kept_on = kept_on;
    kept_back = kept_back;
    goes = λ inputs kept h. record {
      stores = stores_on inputs kept;
      fails = λ statement t. record { first = statement; no_later = omega arith; fails = fails_on inputs kept statement t };
    };
    comes = λ inputs kept h. record {
      stores = stores_back inputs kept;
      fails = λ statement t. record { first = statement; no_later = omega arith; fails = fails_back inputs kept statement t };
    };
  }

  pub room_tidy : IsTidy p → IsTidy q
  room_tidy tidy j w at dead = by_origin (origin j w at)
    where
      by_origin : Origin j w → inputs_of w.op ≡ []
      by_origin (added e) = ap (λ x. inputs_of x.op) (sym e)
      by_origin (from_node n v stands is_n is_v) =
          let was : is_live p n ≡ false = sym (live_same n v stands) ∙ ap (is_live q) is_n ∙ dead in
          ap (λ x. inputs_of x.op) (sym is_v) ∙ inputs_renamed (past room) v.op ∙ ap (map (past room)) (tidy n v stands was)
