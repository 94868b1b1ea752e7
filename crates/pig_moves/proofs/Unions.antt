-- A FILTER on a UNION keeps the rows of FILTERs on its inputs: the plan means what it meant.
use Rattle.std.specs.Prelude.{◌≡◌, ◌<◌, ◌≤◌, ◌+◌, ◌-◌, ◌==◌, ◌&&◌, ◌||◌, ◌⊎◌, ℕ, zero, suc, Bool, true, false, List, [], ◌∷◌, ◌++◌, map, length, nat_le, nat_lt, Some, None, slice_get, slice_set, refl}
use Rattle.std.proofs.Common.{ap, sym, ◌∙◌, subst, arith, true≢false, inl, inr}
use Rattle.std.specs.List.{AllByRecursion, flat_map, list_any}
use Rattle.std.specs.Option.{option_map, unwrap_or}
use Rattle.std.proofs.lemmas.Bool.{and_from, eq-eqb, eqb-true, le-leb, leb-false, leb-true, lt-ltb, ltb-false, ltb-true}
use Rattle.std.proofs.lemmas.List.{length-map}
use Rattle.std.proofs.lemmas.List.Sorted.{IsPermutation-sym}
use Rattle.std.proofs.lemmas.Option.{slice_get_within}
use Rattle.pig_value.proofs.OrderLaws.{row_same, row_total}
use Rattle.pig_value.proofs.list_laws.Bags.{bag_from_permutation, either_way, sort_permutes}
use Rattle.pig_value.proofs.list_laws.Indexing.{get_map, some_at}
use Rattle.pig_value.proofs.list_laws.Listing.{each_weaker, filter-flat_map, some_same}
use Rattle.pig_value.proofs.list_laws.Permutations.{IsPermutation-flat_map_each}
use Rattle.pig_value.specs.declared.inputs.Input.{Input}
use Rattle.pig_value.specs.declared.outcomes.Kept.{Kept}
use Rattle.pig_value.specs.Orders.{bag_of, row_cmp}
use Rattle.pig_typed.specs.Evaluation.{passes}
use Rattle.pig_typed.specs.Typed.{Typed}
use Rattle.pig_plan.proofs.Exchanged.{set_length, set_other, set_there}
use Rattle.pig_plan.proofs.Lower.{meaning_of_node, names_lower}
use Rattle.pig_plan.proofs.Meanings.{each_both, live_input}
use Rattle.pig_plan.proofs.Rewrites.{Earlier}
use Rattle.pig_plan.specs.Meaning.{meaning}
use Rattle.pig_plan.specs.NodeKinds.{kinds_at}
use Rattle.pig_plan.specs.Nodes.{inputs_of, is_live, names}
use Rattle.pig_plan.specs.Operators.{filter_rows}
use Rattle.pig_plan.specs.Plans.{Plan, PlanNode, PlanOp, p_load, p_filter, p_foreach, p_group_all, p_group, p_join, p_union, p_distinct, p_order, p_limit, p_store, p_assert, p_rank}
use Rattle.pig_plan.specs.Renumbered.{IsSame}
use Rattle.pig_plan.specs.Rewrites.{SameMeaning}
use Rattle.pig_plan.specs.Valid.{IsPlan}
use Rattle.pig_plan.proofs.Living.{came, goes as named_on, member}
use Rattle.pig_plan.proofs.Renumbering.{gives_moved}
use Rattle.pig_plan.specs.Room.{idle}
use Rattle.pig_moves.specs.Pushed.{IsFree, IsTidy, IsUnited, filter_on, filtered, is_load, place_in, put_from}
use Rattle.pig_moves.proofs.Change.{both, itself, one_of, only_one, or_right}
use Rattle.pig_moves.proofs.InPlace.{Gives, InPlace, Reads, by_above, by_inner, in_place_means, in_place_tidy}
use Rattle.pig_moves.proofs.Keeps.{IsInput, inputs_live, is_end, node_with}
use Rattle.pig_moves.proofs.Kept.{filter_kinds, kinds_of_node}
use Rattle.pig_moves.proofs.Passing.{Rows, filter_sorted}

-- ---- lists with several elements changed

module _ {X : Type 0} where
  put_length : (first : ℕ) (ys xs : List X) → length (put_from first ys xs) ≡ length xs
  put_length first [] xs = refl
  put_length first (y ∷ ys) xs = put_length (first + 1) ys (slice_set xs first y) ∙ set_length xs first y

  put_low : (first n : ℕ) (ys xs : List X) → n < first → slice_get (put_from first ys xs) n ≡ slice_get xs n
  put_low first n [] xs h = refl
  put_low first n (y ∷ ys) xs h = put_low (first + 1) n ys (slice_set xs first y) (omega (arith, h)) ∙ set_other xs first n y (λ e. omega (arith, e, h))

  put_high : (first n : ℕ) (ys xs : List X) → first + length ys ≤ n → slice_get (put_from first ys xs) n ≡ slice_get xs n
  put_high first n [] xs h = refl
  put_high first n (y ∷ ys) xs h = put_high (first + 1) n ys (slice_set xs first y) (omega (arith, h)) ∙ set_other xs first n y (λ e. omega (arith, e, h))

  put_there : (first j : ℕ) (ys xs : List X) (y : X) → slice_get ys j ≡ Some y → first + length ys ≤ length xs → slice_get (put_from first ys xs) (first + j) ≡ Some y
  put_there first j [] xs y at h = let within = slice_get_within [] j y at in absurd (omega (arith, within))
  put_there first zero (z ∷ ys) xs y at h =
      let here : first + zero ≡ first = omega arith in
      ap (slice_get (put_from (first + 1) ys (slice_set xs first z))) here
      ∙ put_low (first + 1) first ys (slice_set xs first z) (omega arith)
      ∙ set_there xs first z (omega (arith, h)) ∙ at
  put_there first (suc j) (z ∷ ys) xs y at h =
      let same = set_length xs first z in
      let on : first + suc j ≡ first + 1 + j = omega arith in
      ap (slice_get (put_from (first + 1) ys (slice_set xs first z))) on
      ∙ put_there (first + 1) j ys (slice_set xs first z) y at (omega (arith, same, h))

-- ---- the rows

mapped : {X Y Z : Type 0} (f : Y → List Z) (at : X → Y) (xs : List X) → flat_map f (map at xs) ≡ flat_map (λ x. f (at x)) xs
mapped f at [] = refl
mapped f at (x ∷ xs) = ap (λ zs. f (at x) ++ zs) (mapped f at xs)

flat_each : {X Z : Type 0} (f g : X → List Z) (xs : List X) → AllByRecursion (λ x. f x ≡ g x) xs → flat_map f xs ≡ flat_map g xs
flat_each f g [] h = refl
flat_each f g (x ∷ xs) h = λ i. h.0 i ++ flat_each f g xs h.1 i

filter_below_union : (c : Typed) (rows : ℕ → Rows) (inputs : List ℕ)
    → bag_of (flat_map (λ n. bag_of (filter_rows c (rows n))) inputs) ≡ bag_of (filter_rows c (bag_of (flat_map rows inputs)))
filter_below_union c rows inputs =
    bag_from_permutation row_cmp row_total row_same (flat_map (λ n. bag_of (filter_rows c (rows n))) inputs) (flat_map (λ n. filter_rows c (rows n)) inputs)
    (IsPermutation-flat_map_each (λ n. bag_of (filter_rows c (rows n))) (λ n. filter_rows c (rows n))
    (λ n. IsPermutation-sym (filter_rows c (rows n)) (bag_of (filter_rows c (rows n))) (sort_permutes row_cmp (filter_rows c (rows n)))) inputs)
    ∙ ap bag_of (sym (filter-flat_map (passes c) rows inputs))
    ∙ sym (filter_sorted (passes c) (flat_map rows inputs))

load_reads : (o : PlanOp) → is_load o ≡ true → inputs_of o ≡ []
load_reads (p_load path delim columns) h = refl
load_reads (p_filter input c) h = absurd (true≢false (sym h))
load_reads (p_foreach input block) h = absurd (true≢false (sym h))
load_reads (p_group_all input) h = absurd (true≢false (sym h))
load_reads (p_group inputs) h = absurd (true≢false (sym h))
load_reads (p_join inputs side replicated) h = absurd (true≢false (sym h))
load_reads (p_union inputs) h = absurd (true≢false (sym h))
load_reads (p_distinct input) h = absurd (true≢false (sym h))
load_reads (p_order input keys) h = absurd (true≢false (sym h))
load_reads (p_limit input count) h = absurd (true≢false (sym h))
load_reads (p_store input path delim) h = absurd (true≢false (sym h))
load_reads (p_assert input c message) h = absurd (true≢false (sym h))
load_reads (p_rank input keys dense) h = absurd (true≢false (sym h))

load_ends : (o : PlanOp) → is_load o ≡ true → is_end o ≡ false
load_ends (p_load path delim columns) h = refl
load_ends (p_filter input c) h = refl
load_ends (p_foreach input block) h = refl
load_ends (p_group_all input) h = refl
load_ends (p_group inputs) h = refl
load_ends (p_join inputs side replicated) h = refl
load_ends (p_union inputs) h = refl
load_ends (p_distinct input) h = refl
load_ends (p_order input keys) h = refl
load_ends (p_rank input keys dense) h = refl
load_ends (p_limit input count) h = absurd (true≢false (sym h))
load_ends (p_store input path delim) h = absurd (true≢false (sym h))
load_ends (p_assert input c message) h = absurd (true≢false (sym h))

-- ---- the plan

module _ (p q : Plan) (valid : IsPlan p) (valid_q : IsPlan q) (i k : ℕ) (s : IsUnited p q i k) (tidy : IsTidy p) where
  abbrev at : ℕ → ℕ
  at n = filtered s.first s.each n

  abbrev size : ℕ
  size = length s.each

  abbrev union_node : PlanNode
  union_node = node_with (p_union s.inputs) s.own

  abbrev filter_node : PlanNode
  filter_node = node_with (p_filter i s.cond) s.statement

  abbrev over_node : PlanNode
  over_node = node_with (p_union (map at s.inputs)) s.own

  lower : i < k
  lower = (names_lower p valid k filter_node s.can.above).0

  within_k : k < length p
  within_k = slice_get_within p k filter_node s.can.above

  not_free : (j n : ℕ) → slice_get s.each j ≡ Some n → i ≡ s.first + j → ⊥
  not_free j n e is =
      let f : IsFree p (s.first + j) = s.can.free j n e in
      let same : f.node ≡ union_node = some_same f.node union_node (sym f.stands ∙ ap (slice_get p) (sym is) ∙ s.can.stands) in
      true≢false (sym f.idles ∙ ap (λ v. is_load v.op) same)

  long : length (map (filter_on s.cond s.statement) s.each) ≡ size
  long = length-map s.each (filter_on s.cond s.statement)

  abbrev begun : Plan
  begun = put_from s.first (map (filter_on s.cond s.statement) s.each) p

  same_length : length q ≡ length p
  same_length = ap (λ xs. length xs) s.is ∙ set_length (slice_set begun i idle) k over_node ∙ set_length begun i idle ∙ put_length s.first (map (filter_on s.cond s.statement) s.each) p

  begun_length : length begun ≡ length p
  begun_length = put_length s.first (map (filter_on s.cond s.statement) s.each) p

  at_k : slice_get q k ≡ Some over_node
  at_k =
      let less = within_k in
      let one = set_length begun i idle in
      let two = begun_length in
      ap (λ xs. slice_get xs k) s.is ∙ set_there (slice_set begun i idle) k over_node (omega (arith, less, one, two))

  at_i : slice_get q i ≡ Some idle
  at_i =
      let less = within_k in
      let down = lower in
      let two = begun_length in
      ap (λ xs. slice_get xs i) s.is ∙ set_other (slice_set begun i idle) k i over_node (λ e. omega (arith, e, down)) ∙ set_there begun i idle (omega (arith, less, down, two))

  at_rest : (n : ℕ) → (n ≡ i → ⊥) → (n ≡ k → ⊥) → slice_get q n ≡ slice_get begun n
  at_rest n a b = ap (λ xs. slice_get xs n) s.is ∙ set_other (slice_set begun i idle) k n over_node b ∙ set_other begun i n idle a

  at_filter : (j n : ℕ) → slice_get s.each j ≡ Some n → slice_get q (s.first + j) ≡ Some (filter_on s.cond s.statement n)
  at_filter j n e =
      let inside = slice_get_within s.each j n e in
      let under = s.can.within in
      let less = within_k in
      let size_is = long in
      at_rest (s.first + j) (λ is. not_free j n e (sym is)) (λ is. omega (arith, is, inside, under))
      ∙ put_there s.first j (map (filter_on s.cond s.statement) s.each) p (filter_on s.cond s.statement n)
      (get_map (filter_on s.cond s.statement) s.each j ∙ ap (option_map (filter_on s.cond s.statement)) e) (omega (arith, size_is, under, less))

  -- ---- the inner nodes

  abbrev in_range : ℕ → Bool
  in_range n = nat_le s.first n && nat_lt n (s.first + size)

  abbrev inner : ℕ → Bool
  inner n = (n == i) || in_range n

  record IsFilter (n : ℕ) : Type 0 where
    j : ℕ
    x : ℕ
    is : n ≡ s.first + j
    there : slice_get s.each j ≡ Some x

  inner_is : (n : ℕ) → inner n ≡ true → (n ≡ i) ⊎ IsFilter n
  inner_is n h = elim (one_of (n == i) (in_range n) h) [
    | inl e ↦ inl (eqb-true n i e)
    | inr e ↦
        let two = both (nat_le s.first n) (nat_lt n (s.first + size)) e in
        let low = leb-true s.first n two.0 in
        let high = ltb-true n (s.first + size) two.1 in
        let found = some_at s.each (n - s.first) (omega (arith, low, high)) in
        inr (record { j = n - s.first; x = found.0; is = omega (arith, low); there = found.1 })
  ]

  inner_low : inner i ≡ true
  inner_low = ap (λ b. b || in_range i) (eq-eqb i i refl)

  inner_range : (j x : ℕ) → slice_get s.each j ≡ Some x → inner (s.first + j) ≡ true
  inner_range j x e =
      let inside = slice_get_within s.each j x e in
      or_right ((s.first + j) == i) (in_range (s.first + j))
      (and_from (nat_le s.first (s.first + j)) (nat_lt (s.first + j) (s.first + size)) (le-leb s.first (s.first + j) (omega arith)) (lt-ltb (s.first + j) (s.first + size) (omega (arith, inside))))

  not_low : (n : ℕ) → inner n ≡ false → n ≡ i → ⊥
  not_low n out is = true≢false (sym inner_low ∙ ap inner (sym is) ∙ out)

  other_is : (n : ℕ) → inner n ≡ false → (n ≡ k → ⊥) → slice_get q n ≡ slice_get p n
  other_is n out above =
      let size_is = long in
      at_rest n (not_low n out) above
      ∙ either_way (nat_le s.first n)
      (λ e. either_way (nat_lt n (s.first + size))
      (λ g. absurd (true≢false (sym (or_right (n == i) (in_range n) (and_from (nat_le s.first n) (nat_lt n (s.first + size)) e g)) ∙ out)))
      (λ g. let high = ltb-false n (s.first + size) g in put_high s.first n (map (filter_on s.cond s.statement) s.each) p (omega (arith, high, size_is))))
      (λ e. let low = leb-false s.first n e in put_low s.first n (map (filter_on s.cond s.statement) s.each) p low)

  reads_nothing_not : (x : ℕ) (xs : List ℕ) → x ∷ xs ≡ [] → ⊥
  reads_nothing_not x xs e = absurd (cc)

  filter_lives : is_live p k ≡ true
  filter_lives = either_way (is_live p k) (λ e. e) (λ e. absurd (reads_nothing_not i [] (tidy k filter_node s.can.above e)))

  union_lives : is_live p i ≡ true
  union_lives = live_input p k filter_node s.can.above filter_lives i lower union_node s.can.stands (itself i)

  -- what stands at an inner number
  free_at : (n : ℕ) (u : PlanNode) (f : IsFilter n) → slice_get p n ≡ Some u → is_load u.op ≡ true
  free_at n u f stands =
      let free : IsFree p (s.first + f.j) = s.can.free f.j f.x f.there in
      ap (λ v. is_load v.op) (some_same u free.node (sym stands ∙ ap (slice_get p) f.is ∙ free.stands)) ∙ free.idles

  filter_at : (n : ℕ) (u : PlanNode) (f : IsFilter n) → slice_get q n ≡ Some u → u ≡ filter_on s.cond s.statement f.x
  filter_at n u f stands = some_same u (filter_on s.cond s.statement f.x) (sym stands ∙ ap (slice_get q) f.is ∙ at_filter f.j f.x f.there)

  union_at : (u : PlanNode) (n : ℕ) → n ≡ i → slice_get p n ≡ Some u → u ≡ union_node
  union_at u n is stands = some_same u union_node (sym stands ∙ ap (slice_get p) is ∙ s.can.stands)

  idle_at : (u : PlanNode) (n : ℕ) → n ≡ i → slice_get q n ≡ Some u → u ≡ idle
  idle_at u n is stands = some_same u idle (sym stands ∙ ap (slice_get q) is ∙ at_i)

  at_place : (j x : ℕ) → slice_get s.each j ≡ Some x → at x ≡ s.first + j
  at_place j x e = ap (λ m. s.first + m) (s.can.once j x e).0

  named_filter : (j x : ℕ) → slice_get s.each j ≡ Some x → names (p_union (map at s.inputs)) (s.first + j) ≡ true
  named_filter j x e = ap (names (p_union (map at s.inputs))) (sym (at_place j x e)) ∙ named_on at x s.inputs (s.can.once j x e).1

  in_place : InPlace p q k inner filter_node over_node
  in_place = record {
    size = same_length;
    above_p = s.can.above;
    above_q = at_k;
    alive = filter_lives;
    low = low;
    other = other_is;
    own = own;
    near_p = near_p;
    near_q = near_q;
    goes = goes;
    comes = comes;
    end_p = end_p;
    end_q = end_q;
    above_end_p = refl;
    above_end_q = refl;
  }
    where
      low : (n : ℕ) → inner n ≡ true → n < k
      low n h = elim (inner_is n h) [
        | inl is ↦ (let down = lower in omega (arith, is, down))
        | inr f ↦ (let is = f.is in let under = s.can.within in let inside = slice_get_within s.each f.j f.x f.there in omega (arith, is, under, inside))
      ]

      own : (n l : ℕ) (u : PlanNode) → inner l ≡ true → slice_get p n ≡ Some u → names u.op l ≡ true → (inner n ≡ true) ⊎ (n ≡ k)
      own n l u h stands name = elim (inner_is l h) [
        | inl is ↦ inr (s.can.only n u stands (ap (names u.op) (sym is) ∙ name))
        | inr f ↦ absurd (true≢false (sym name ∙ ap (names u.op) f.is ∙ (s.can.free f.j f.x f.there).unread n u stands))
      ]

      near_p : (n : ℕ) (u : PlanNode) → inner n ≡ true → slice_get p n ≡ Some u → (inputs_of u.op ≡ []) ⊎ (names (p_filter i s.cond) n ≡ true)
      near_p n u h stands = elim (inner_is n h) [
        | inl is ↦ inr (subst (λ l. names (p_filter i s.cond) l ≡ true) (sym is) (itself i))
        | inr f ↦ inl (load_reads u.op (free_at n u f stands))
      ]

      near_q : (n : ℕ) (u : PlanNode) → inner n ≡ true → slice_get q n ≡ Some u → (inputs_of u.op ≡ []) ⊎ (names (p_union (map at s.inputs)) n ≡ true)
      near_q n u h stands = elim (inner_is n h) [
        | inl is ↦ inl (ap (λ w. inputs_of w.op) (idle_at u n is stands))
        | inr f ↦ inr (subst (λ l. names (p_union (map at s.inputs)) l ≡ true) (sym f.is) (named_filter f.j f.x f.there))
      ]

      goes : (n : ℕ) → inner n ≡ false → Reads inner p filter_node n → Reads inner q over_node n
      goes n out (by_above name) = absurd (not_low n out (only_one i n name))
      goes n out (by_inner b) = elim (inner_is b.m b.within) [
        | inl is ↦ by_input (ap (λ w. names w.op n) (sym (union_at b.w b.m is b.stands)) ∙ b.name)
        | inr f ↦ absurd (true≢false (sym b.name ∙ ap (λ ns. list_any (λ l. l == n) ns) (load_reads b.w.op (free_at b.m b.w f b.stands))))
      ]
        where
          by_input : list_any (λ l. l == n) s.inputs ≡ true → Reads inner q over_node n
          by_input name =
              let found : slice_get s.each (place_in s.each n) ≡ Some n = member (λ l. slice_get s.each (place_in s.each l) ≡ Some l) n s.inputs s.can.whole name in
              by_inner (record {
                m = s.first + place_in s.each n;
                w = filter_on s.cond s.statement n;
                within = inner_range (place_in s.each n) n found;
                stands = at_filter (place_in s.each n) n found;
                name = itself n;
              })

      comes : (n : ℕ) → inner n ≡ false → Reads inner q over_node n → Reads inner p filter_node n
      comes n out (by_above name) =
          let c = came at n s.inputs name in
          let found : slice_get s.each (place_in s.each c.i) ≡ Some c.i = member (λ l. slice_get s.each (place_in s.each l) ≡ Some l) c.i s.inputs s.can.whole c.name in
          absurd (true≢false (sym (inner_range (place_in s.each c.i) c.i found) ∙ ap inner c.there ∙ out))
      comes n out (by_inner b) = elim (inner_is b.m b.within) [
        | inl is ↦ absurd (true≢false (sym b.name ∙ ap (λ w. names w.op n) (idle_at b.w b.m is b.stands)))
        | inr f ↦
            let same : n ≡ f.x = only_one f.x n (ap (λ w. names w.op n) (sym (filter_at b.m b.w f b.stands)) ∙ b.name) in
            by_inner (record { m = i; w = union_node; within = inner_low; stands = s.can.stands; name = ap (names (p_union s.inputs)) same ∙ (s.can.once f.j f.x f.there).1 })
      ]

      end_p : (n : ℕ) (u : PlanNode) → inner n ≡ true → slice_get p n ≡ Some u → is_end u.op ≡ false
      end_p n u h stands = elim (inner_is n h) [
        | inl is ↦ ap (λ w. is_end w.op) (union_at u n is stands)
        | inr f ↦ load_ends u.op (free_at n u f stands)
      ]

      end_q : (n : ℕ) (u : PlanNode) → inner n ≡ true → slice_get q n ≡ Some u → is_end u.op ≡ false
      end_q n u h stands = elim (inner_is n h) [
        | inl is ↦ ap (λ w. is_end w.op) (idle_at u n is stands)
        | inr f ↦ ap (λ w. is_end w.op) (filter_at n u f stands)
      ]

  -- ---- its rows

  module _ (inputs : List Input) (kept : List Kept) (earlier : Earlier p q (λ j. j) inputs kept inner k) where
    record Ready (n : ℕ) : Type 0 where
      kinds : kinds_at q (at n) ≡ kinds_at p n
      rows : meaning q inputs kept (at n) ≡ bag_of (filter_rows s.cond (meaning p inputs kept n))

    ready : AllByRecursion Ready s.inputs
    ready =
        each_both (IsInput p i) (λ n. slice_get s.each (place_in s.each n) ≡ Some n) Ready
        (λ n input found.
        let down = lower in
        let less = input.lower in
        let out : inner n ≡ false = either_way (inner n) (λ h. absurd (elim (inner_is n h) [
          | inl is ↦ (omega (arith, is, less))
          | inr f ↦ true≢false (sym (input.name union_node s.can.stands) ∙ ap (names (p_union s.inputs)) f.is ∙ (s.can.free f.j f.x f.there).unread i union_node s.can.stands)
        ])) (λ h. h) in
        let same : IsSame p q (λ j. j) inputs kept n = earlier n (omega (arith, down, less)) input.lives out in
        let there : slice_get q (at n) ≡ Some (filter_on s.cond s.statement n) = at_filter (place_in s.each n) n found in
        record {
          kinds = filter_kinds q valid_q (at n) n s.cond s.statement there ∙ same.kinds;
          rows = meaning_of_node q inputs kept valid_q (at n) (filter_on s.cond s.statement n) there ∙ ap (λ rows. bag_of (filter_rows s.cond rows)) same.rows;
        })
        s.inputs (inputs_live p valid i union_node s.can.stands union_lives) s.can.whole

    union_gives_same : Gives p q inputs kept k
    union_gives_same = record {
      kinds = kinds_of_node q valid_q k over_node at_k
          ∙ ap (λ o. unwrap_or o None) (gives_moved at (kinds_at q) (kinds_at p) (p_union s.inputs) (each_weaker Ready (λ n. kinds_at q (at n) ≡ kinds_at p n) (λ n r. r.kinds) s.inputs ready))
          ∙ sym (kinds_of_node p valid i union_node s.can.stands) ∙ sym (filter_kinds p valid k i s.cond s.statement s.can.above);
      rows = meaning_of_node q inputs kept valid_q k over_node at_k
          ∙ ap bag_of (mapped (meaning q inputs kept) at s.inputs
          ∙ flat_each (λ n. meaning q inputs kept (at n)) (λ n. bag_of (filter_rows s.cond (meaning p inputs kept n))) s.inputs
          (each_weaker Ready (λ n. meaning q inputs kept (at n) ≡ bag_of (filter_rows s.cond (meaning p inputs kept n))) (λ n r. r.rows) s.inputs ready))
          ∙ filter_below_union s.cond (meaning p inputs kept) s.inputs
          ∙ ap (λ rows. bag_of (filter_rows s.cond rows)) (sym (meaning_of_node p inputs kept valid i union_node s.can.stands))
          ∙ sym (meaning_of_node p inputs kept valid k filter_node s.can.above);
    }

  pub union_means : SameMeaning p q
  union_means =
      in_place_means p q valid valid_q k inner filter_node over_node in_place (λ sorted. refl) (λ sorted. refl) (λ sorted listed. refl) (λ sorted listed. refl)
      (λ inputs kept allowed earlier. union_gives_same inputs kept earlier)

  pub union_tidy : IsTidy q
  union_tidy = in_place_tidy p q valid valid_q k inner filter_node over_node in_place tidy
