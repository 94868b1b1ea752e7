-- A FILTER of several conjuncts is two, one on the other: the plan means what it meant.
use Rattle.std.specs.Prelude.{◌≡◌, ◌<◌, ◌≤◌, ◌+◌, ◌==◌, ◌&&◌, ◌||◌, not, ℕ, suc, Bool, true, false, List, [], ◌∷◌, length, Some, slice_get, slice_set, refl}
use Rattle.std.proofs.Common.{ap, sym, ◌∙◌, subst, arith, cond, true≢false, inl, inr}
use Rattle.std.specs.List.{filter, list_all, list_any}
use Rattle.std.proofs.lemmas.Bool.{eq-eqb, eqb-true}
use Rattle.std.proofs.lemmas.List.{length-map, map-set}
use Rattle.std.proofs.lemmas.Option.{slice_get_within}
use Rattle.pig_value.proofs.list_laws.Bags.{either_way}
use Rattle.pig_value.proofs.list_laws.Indexing.{some_at}
use Rattle.pig_value.proofs.list_laws.Listing.{filter-filter, some_same}
use Rattle.pig_value.specs.declared.inputs.Input.{Input}
use Rattle.pig_value.specs.declared.outcomes.Kept.{Kept}
use Rattle.pig_value.specs.Orders.{bag_of}
use Rattle.pig_value.specs.Trees.{Tree}
use Rattle.pig_typed.specs.Evaluation.{passes}
use Rattle.pig_typed.specs.Typed.{Typed}
use Rattle.pig_plan.proofs.Conjoined.{by_conjuncts}
use Rattle.pig_plan.proofs.Exchanged.{set_length, set_other, set_there}
use Rattle.pig_plan.proofs.Lower.{meaning_of_node, names_lower}
use Rattle.pig_plan.proofs.Meanings.{live_input}
use Rattle.pig_plan.proofs.Rewrites.{Earlier, same_on}
use Rattle.pig_plan.specs.Conjuncts.{conjuncts}
use Rattle.pig_plan.specs.Meaning.{meaning, width_at}
use Rattle.pig_plan.specs.Nodes.{IsOnlyUse, inputs_of, is_live, names}
use Rattle.pig_plan.specs.Operators.{filter_rows}
use Rattle.pig_plan.specs.declared.nodes.Node.{Node}
use Rattle.pig_plan.specs.Plans.{Plan, PlanNode, node_of, p_filter, plan_of}
use Rattle.pig_plan.specs.Renumbered.{IsSame}
use Rattle.pig_plan.specs.Rewrites.{SameMeaning}
use Rattle.pig_plan.specs.Valid.{IsPlan}
use Rattle.pig_plan.proofs.Room.{none_reads, past_behind, past_below}
use Rattle.pig_plan.specs.Room.{idle, roomy}
use Rattle.pig_moves.specs.Pushed.{ArePartsOf, IsParted, IsSplit, IsTidy, chained_where, passes_at}
use Rattle.pig_moves.proofs.Chains.{chained_passes}
use Rattle.pig_moves.proofs.Change.{only_one, itself}
use Rattle.pig_moves.proofs.InPlace.{Gives, InPlace, Reads, by_above, by_inner, in_place_means, in_place_tidy}
use Rattle.pig_moves.proofs.Keeps.{Allowed, is_end, node_with}
use Rattle.pig_moves.proofs.Kept.{filter_kinds}
use Rattle.pig_moves.proofs.Passing.{Rows, filter_sorted}
use Rattle.pig_moves.proofs.Room.{idle_there, room_means, room_tidy, size, there}

-- ---- the rows

module _ (test : Typed → Bool) (row : List Tree) where
  abbrev all : List Typed → Bool
  all cs = list_all (λ c. passes c row) cs

  turn : (a b c : Bool) → ((a && b) && c) ≡ (a && (b && c))
  turn true b c = refl
  turn false b c = refl

  swap : (a b c : Bool) → (a && (b && c)) ≡ (b && (a && c))
  swap true true c = refl
  swap true false c = refl
  swap false true c = refl
  swap false false c = refl

  both_parts : (cs : List Typed) → (all (filter test cs) && all (filter (λ c. not (test c)) cs)) ≡ all cs
  both_parts [] = refl
  both_parts (c ∷ cs) = by_test (test c) (both_parts cs)
    where
      by_test : (b : Bool) → (list_all (λ d. passes d row) (filter test cs) && list_all (λ d. passes d row) (filter (λ d. not (test d)) cs)) ≡ list_all (λ d. passes d row) cs
          → (list_all (λ d. passes d row) (cond b (c ∷ filter test cs) (filter test cs)) && list_all (λ d. passes d row) (cond (not b) (c ∷ filter (λ d. not (test d)) cs) (filter (λ d. not (test d)) cs)))
          ≡ (passes c row && list_all (λ d. passes d row) cs)
      by_test true h = turn (passes c row) (all (filter test cs)) (all (filter (λ d. not (test d)) cs)) ∙ ap (λ b. passes c row && b) h
      by_test false h = swap (all (filter test cs)) (passes c row) (all (filter (λ d. not (test d)) cs)) ∙ ap (λ b. passes c row && b) h

  split_passes : (e : Typed) → (passes (chained_where test e) row && passes (chained_where (λ c. not (test c)) e) row) ≡ passes e row
  split_passes e =
      (λ i. chained_passes row (filter test (conjuncts e)) i && chained_passes row (filter (λ c. not (test c)) (conjuncts e)) i)
      ∙ both_parts (conjuncts e) ∙ sym (by_conjuncts row e)

filter_splits : (test : Typed → Bool) (e : Typed) (rows : Rows)
    → bag_of (filter_rows (chained_where (λ c. not (test c)) e) (bag_of (filter_rows (chained_where test e) rows))) ≡ bag_of (filter_rows e rows)
filter_splits test e rows =
    filter_sorted (passes (chained_where (λ c. not (test c)) e)) (filter (passes (chained_where test e)) rows)
    ∙ ap bag_of (filter-filter (passes (chained_where (λ c. not (test c)) e)) (passes (chained_where test e)) rows)
    ∙ (λ i. bag_of (filter (λ row. split_passes test row e i) rows))

-- ---- the plan

module _ (p q : Plan) (valid : IsPlan p) (k : ℕ) (valid_r : IsPlan (roomy k p)) (valid_q : IsPlan q) (s : IsSplit p q k) (tidy : IsTidy p) where
  abbrev r : Plan
  r = roomy k p

  -- which conjuncts go
  abbrev test : Typed → Bool
  test = passes_at (width_at p) s.parts.below.op s.parts.place

  abbrev low : PlanNode
  low = node_with (p_filter s.input (chained_where test s.cond)) s.statement

  abbrev high : PlanNode
  high = node_with (p_filter k (chained_where (λ c. not (test c)) s.cond)) s.statement

  abbrev whole : PlanNode
  whole = node_with (p_filter s.input s.cond) s.statement

  within : k < length p
  within = slice_get_within p k whole s.parts.above

  lower : s.input < k
  lower = (names_lower p valid k whole s.parts.above).0

  short : k ≤ length p
  short = let less = within in omega (arith, less)

  long : length r ≡ suc (length p)
  long = size p r valid valid_r k refl short

  -- the FILTER stands one higher in the plan with room
  above_r : slice_get r (k + 1) ≡ Some whole
  above_r =
      ap (slice_get r) (sym (past_behind k k (omega arith)))
      ∙ there p r valid valid_r k refl short k whole s.parts.above
      ∙ ap (λ i. Some (node_with (p_filter i s.cond) s.statement)) (past_below k s.input lower)

  at_low : slice_get q k ≡ Some low
  at_low =
      let less = within in
      let size_r = long in
      ap (λ xs. slice_get xs k) s.is
      ∙ set_other (slice_set r k low) (k + 1) k high (λ e. omega (arith, e))
      ∙ set_there r k low (omega (arith, less, size_r))

  at_high : slice_get q (k + 1) ≡ Some high
  at_high =
      let less = within in
      let size_r = long in
      let same = set_length r k low in
      ap (λ xs. slice_get xs (k + 1)) s.is ∙ set_there (slice_set r k low) (k + 1) high (omega (arith, less, size_r, same))

  at_other : (n : ℕ) → (n ≡ k → ⊥) → (n ≡ k + 1 → ⊥) → slice_get q n ≡ slice_get r n
  at_other n a b = ap (λ xs. slice_get xs n) s.is ∙ set_other (slice_set r k low) (k + 1) n high b ∙ set_other r k n low a

  abbrev inner : ℕ → Bool
  inner n = n == k

  is_room : (n : ℕ) → inner n ≡ true → n ≡ k
  is_room n e = eqb-true n k e

  not_room : (n : ℕ) → inner n ≡ false → n ≡ k → ⊥
  not_room n h e = true≢false (sym (eq-eqb n k e) ∙ h)

  tidy_r : IsTidy r
  tidy_r = room_tidy p r valid valid_r k refl short tidy

  reads_nothing_not : (x : ℕ) (xs : List ℕ) → x ∷ xs ≡ [] → ⊥
  reads_nothing_not x xs e = absurd (cc)

  filter_lives : is_live r (k + 1) ≡ true
  filter_lives = either_way (is_live r (k + 1)) (λ e. e) (λ e. absurd (reads_nothing_not s.input [] (tidy_r (k + 1) whole above_r e)))

  in_room : (n : ℕ) (u : PlanNode) → inner n ≡ true → slice_get r n ≡ Some u → u ≡ idle
  in_room n u at stands = some_same u idle (sym stands ∙ ap (slice_get r) (is_room n at) ∙ idle_there p r valid valid_r k refl short)

  is_low : (n : ℕ) (u : PlanNode) → inner n ≡ true → slice_get q n ≡ Some u → u ≡ low
  is_low n u at stands = some_same u low (sym stands ∙ ap (slice_get q) (is_room n at) ∙ at_low)

  -- no node reads what stands in the room
  unread : (n m : ℕ) (u : PlanNode) → inner m ≡ true → slice_get r n ≡ Some u → names u.op m ≡ true → ⊥
  unread n m u at stands name = none_reads p k short n m u stands (is_room m at) name

  in_place : InPlace r q (k + 1) inner whole high
  in_place = record {
    size = ap (λ xs. length xs) s.is ∙ set_length (slice_set r k low) (k + 1) high ∙ set_length r k low;
    above_p = above_r;
    above_q = at_high;
    alive = filter_lives;
    low = λ n at. let is = is_room n at in omega (arith, is);
    other = λ n out other. at_other n (not_room n out) other;
    own = λ n m u at stands name. absurd (unread n m u at stands name);
    near_p = λ n u at stands. inl (ap (λ w. inputs_of w.op) (in_room n u at stands));
    near_q = λ n u at stands. inr (subst (λ l. names (p_filter k (chained_where (λ c. not (test c)) s.cond)) l ≡ true) (sym (is_room n at)) (itself k));
    goes = goes;
    comes = comes;
    end_p = λ n u at stands. ap (λ w. is_end w.op) (in_room n u at stands);
    end_q = λ n u at stands. ap (λ w. is_end w.op) (is_low n u at stands);
    above_end_p = refl;
    above_end_q = refl;
  }
    where
      goes : (n : ℕ) → inner n ≡ false → Reads inner r whole n → Reads inner q high n
      goes n out (by_above name) = by_inner (record { m = k; w = low; within = eq-eqb k k refl; stands = at_low; name = name })
      goes n out (by_inner b) = absurd (true≢false (sym b.name ∙ ap (λ w. names w.op n) (in_room b.m b.w b.within b.stands)))

      comes : (n : ℕ) → inner n ≡ false → Reads inner q high n → Reads inner r whole n
      comes n out (by_above name) = absurd (not_room n out (only_one k n name))
      comes n out (by_inner b) = by_above (ap (λ w. names w.op n) (sym (is_low b.m b.w b.within b.stands)) ∙ b.name)

  split_gives : (inputs : List Input) (kept : List Kept) → Allowed r q inputs kept → Earlier r q (λ j. j) inputs kept inner (k + 1) → Gives r q inputs kept (k + 1)
  split_gives inputs kept allowed earlier =
      let less = lower in
      let named : names (p_filter s.input s.cond) s.input ≡ true = itself s.input in
      let out : inner s.input ≡ false = either_way (inner s.input) (λ e. let is = is_room s.input e in absurd (omega (arith, is, less))) (λ e. e) in
      let found = some_at r s.input (let size_r = long in let room = within in omega (arith, less, size_r, room)) in
      let lives : is_live r s.input ≡ true = live_input r (k + 1) whole above_r filter_lives s.input (omega (arith, less)) found.0 found.1 named in
      let same : IsSame r q (λ j. j) inputs kept s.input = earlier s.input (omega (arith, less)) lives out in
      record {
        kinds = filter_kinds q valid_q (k + 1) k (chained_where (λ c. not (test c)) s.cond) s.statement at_high
            ∙ filter_kinds q valid_q k s.input (chained_where test s.cond) s.statement at_low
            ∙ same.kinds
            ∙ sym (filter_kinds r valid_r (k + 1) s.input s.cond s.statement above_r);
        rows = meaning_of_node q inputs kept valid_q (k + 1) high at_high
            ∙ ap (λ rows. bag_of (filter_rows (chained_where (λ c. not (test c)) s.cond) rows)) (meaning_of_node q inputs kept valid_q k low at_low)
            ∙ ap (λ rows. bag_of (filter_rows (chained_where (λ c. not (test c)) s.cond) (bag_of (filter_rows (chained_where test s.cond) rows)))) same.rows
            ∙ filter_splits test s.cond (meaning r inputs kept s.input)
            ∙ sym (meaning_of_node r inputs kept valid_r (k + 1) whole above_r);
      }

  pub split_means : SameMeaning p q
  split_means =
      same_on p r q (room_means p r valid valid_r k refl short)
      (in_place_means r q valid_r valid_q (k + 1) inner whole high in_place (λ sorted. refl) (λ sorted. refl) (λ sorted listed. refl) (λ sorted listed. refl) split_gives)

  pub split_tidy : IsTidy q
  split_tidy = in_place_tidy r q valid_r valid_q (k + 1) inner whole high in_place tidy_r

-- ---- what the code makes

-- where there are conditions that pass, some do; and where there are others, not all do
pub some_pass_there : (test : Typed → Bool) (cs : List Typed) → 0 < length (filter test cs) → list_any test cs ≡ true
some_pass_there test [] h = absurd (omega (arith, h))
some_pass_there test (c ∷ cs) h = by_test (test c) h (some_pass_there test cs)
  where
    by_test : (b : Bool) → 0 < length (cond b (c ∷ filter test cs) (filter test cs)) → (0 < length (filter test cs) → list_any test cs ≡ true) → (b || list_any test cs) ≡ true
    by_test true h rest = refl
    by_test false h rest = rest h

pub others_there : (test : Typed → Bool) (cs : List Typed) → 0 < length (filter (λ c. not (test c)) cs) → list_all test cs ≡ false
others_there test [] h = absurd (omega (arith, h))
others_there test (c ∷ cs) h = by_test (test c) h (others_there test cs)
  where
    by_test : (b : Bool) → 0 < length (cond (not b) (c ∷ filter (λ d. not (test d)) cs) (filter (λ d. not (test d)) cs)) → (0 < length (filter (λ d. not (test d)) cs) → list_all test cs ≡ false) → (b && list_all test cs) ≡ false
    by_test true h rest = rest h
    by_test false h rest = refl

-- the room that was made is read by none, so the FILTER's parts may stand there and above it
pub room_unread : (plan room : List Node) (k m : ℕ) → k < length plan → plan_of room ≡ roomy k (plan_of plan) → IsOnlyUse (plan_of room) k m
room_unread plan room k m within is = λ n v stands name.
    let long = length-map plan node_of in
    absurd (none_reads (plan_of plan) k (omega (arith, within, long)) n k v (sym (ap (λ p. slice_get p n) is) ∙ stands) refl name)

pub parted : (plan room made : List Node) (k upper : ℕ) (under over : Node) (input statement : ℕ) (c d : Typed)
    → ArePartsOf (plan_of plan) k input statement c d → plan_of room ≡ roomy k (plan_of plan) → IsPlan (plan_of room) → upper ≡ k + 1
    → node_of under ≡ node_with (p_filter input c) statement → node_of over ≡ node_with (p_filter k d) statement
    → made ≡ slice_set (slice_set room k under) upper over → IsParted (plan_of plan) (plan_of made) k
parted plan room made k upper under over input statement c d parts room_is valid next low_is high_is is = record {
  room = subst IsPlan room_is valid;
  split = record {
    input = input;
    cond = parts.cond;
    statement = statement;
    parts = parts.parts;
    is = ap plan_of is ∙ map-set node_of (slice_set room k under) upper over ∙ ap (λ xs. slice_set xs upper (node_of over)) (map-set node_of room k under)
        ∙ (λ i. slice_set (slice_set (room_is i) k (low_is i)) (next i) (high_is i))
        ∙ (λ i. slice_set (slice_set (roomy k (plan_of plan)) k (node_with (p_filter input (parts.low_is i)) statement)) (k + 1) (node_with (p_filter k (parts.high_is i)) statement));
  };
}
