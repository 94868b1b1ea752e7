-- What the parts of each node are read from, node by node, with the number of the next wave.
use Rattle.std.specs.Prelude.{◌≡◌, ◌<◌, ◌≤◌, ◌+◌, ◌-◌, ◌&&◌, ℕ, zero, suc, Bool, true, false, nat_lt, List, [], ◌∷◌, ◌++◌, length, map, min, Option, Some, None, slice_get, refl}
use Rattle.std.proofs.Common.{ap, sym, ◌∙◌, arith, cond, inl, inr}
use Rattle.std.specs.List.{filter, flat_map, range_with_len}
use Rattle.std.specs.Option.{option_map, option_map_or, unwrap_or}
use Rattle.std.proofs.lemmas.Bool.{cases_lt, le-ltb, lt-ltb}
use Rattle.std.proofs.lemmas.Grind.{flat_map-append}
use Rattle.std.proofs.lemmas.List.{length-append, length-map}
use Rattle.std.proofs.lemmas.List.Elements.{filter-append}
use Rattle.std.proofs.lemmas.List.FromFn.{length-range_with_len, map-range_with_len_more}
use Rattle.std.proofs.lemmas.Option.{slice_get-map, slice_get_past}
use Rattle.pig_value.proofs.list_laws.Elementwise.{range_above}
use Rattle.pig_value.proofs.list_laws.Indexing.{some_at}
use Rattle.pig_value.proofs.list_laws.Listing.{each_weaker, filter_none}
use Rattle.pig_waves.proofs.Counted.{count_of_node, parts_counted}
use Rattle.pig_waves.proofs.Places.{range_at}
use Rattle.pig_plan.specs.Nodes.{is_boundary, is_live, live, live_marks, op_at}
use Rattle.pig_plan.specs.Plans.{Plan, PlanNode, PlanOp, p_load, p_filter, p_foreach, p_group_all, p_group, p_join, p_union, p_distinct, p_order, p_limit, p_store, p_assert, p_rank}
use Rattle.pig_plan.specs.Results.{at_place}
use Rattle.pig_plan.specs.Valid.{IsPlan}
use Rattle.pig_physical.specs.declared.staged.Size.{Size}
use Rattle.pig_physical.specs.Seen.{lengths_in}
use Rattle.pig_physical.specs.Stages.{Stages, first_wave, head_of, heads_at, output_count, parts_at, parts_of, waves_of}
use Rattle.pig_cutter.specs.Tables.{Reading, parts_for, parts_read, r_splits, reading_of, readings, reads, reads_at, waves_behind}
use Rattle.pig_cutter.specs.declared.reading.Source.{Source}

-- ---- the numbers below another one

below_range : (a d m : ℕ) → filter (λ j. nat_lt j (a + d)) (range_with_len a (d + m)) ≡ range_with_len a d
below_range a zero m =
    let e : a + 0 ≡ a = omega arith in
    let z : 0 + m ≡ m = omega arith in
    ap (λ k. filter (λ j. nat_lt j k) (range_with_len a (0 + m))) e ∙ ap (λ n. filter (λ j. nat_lt j a) (range_with_len a n)) z
    ∙ filter_none (λ j. nat_lt j a) (range_with_len a m)
    (each_weaker (λ j. a ≤ j) (λ j. nat_lt j a ≡ false) (λ j above. le-ltb j a above) (range_with_len a m) (range_above a m))
below_range a (suc d) m =
    let n : suc d + m ≡ suc (d + m) = omega arith in
    let e : a + suc d ≡ a + 1 + d = omega arith in
    ap (λ k. filter (λ j. nat_lt j (a + suc d)) (range_with_len a k)) n
    ∙ ap (λ b. cond b (a ∷ filter (λ j. nat_lt j (a + suc d)) (range_with_len (a + 1) (d + m))) (filter (λ j. nat_lt j (a + suc d)) (range_with_len (a + 1) (d + m))))
    (lt-ltb a (a + suc d) (omega arith))
    ∙ ap (λ ks. a ∷ ks) (ap (λ k. filter (λ j. nat_lt j k) (range_with_len (a + 1) (d + m))) e ∙ below_range (a + 1) d m)

filters_swap : (p q : ℕ → Bool) (xs : List ℕ) → filter p (filter q xs) ≡ filter q (filter p xs)
filters_swap p q [] = refl
filters_swap p q (x ∷ xs) =
    by_tests (p x) (q x) refl refl (filters_swap p q xs)
  where
    by_tests : (b c : Bool) → p x ≡ b → q x ≡ c → filter p (filter q xs) ≡ filter q (filter p xs)
        → filter p (cond (q x) (x ∷ filter q xs) (filter q xs)) ≡ filter q (cond (p x) (x ∷ filter p xs) (filter p xs))
    by_tests true true is own rest =
        ap (λ d. filter p (cond d (x ∷ filter q xs) (filter q xs))) own
        ∙ ap (λ d. cond d (x ∷ filter p (filter q xs)) (filter p (filter q xs))) is
        ∙ ap (λ ys. x ∷ ys) rest
        ∙ sym (ap (λ d. filter q (cond d (x ∷ filter p xs) (filter p xs))) is ∙ ap (λ d. cond d (x ∷ filter q (filter p xs)) (filter q (filter p xs))) own)
    by_tests true false is own rest =
        ap (λ d. filter p (cond d (x ∷ filter q xs) (filter q xs))) own
        ∙ rest
        ∙ sym (ap (λ d. filter q (cond d (x ∷ filter p xs) (filter p xs))) is ∙ ap (λ d. cond d (x ∷ filter q (filter p xs)) (filter q (filter p xs))) own)
    by_tests false true is own rest =
        ap (λ d. filter p (cond d (x ∷ filter q xs) (filter q xs))) own
        ∙ ap (λ d. cond d (x ∷ filter p (filter q xs)) (filter p (filter q xs))) is
        ∙ rest
        ∙ sym (ap (λ d. filter q (cond d (x ∷ filter p xs) (filter p xs))) is)
    by_tests false false is own rest =
        ap (λ d. filter p (cond d (x ∷ filter q xs) (filter q xs))) own
        ∙ rest
        ∙ sym (ap (λ d. filter q (cond d (x ∷ filter p xs) (filter p xs))) is)

module _ (plan : Plan) where
  abbrev is_here : ℕ → Bool
  is_here k = option_map_or is_boundary (op_at plan k) false

  -- how many waves the live boundary nodes among some nodes have
  abbrev waves_among : List ℕ → ℕ
  waves_among ns = length (flat_map (heads_at plan) (filter is_here (filter (is_live plan) ns)))

  first_is : (k m : ℕ) → length plan ≡ k + m → first_wave plan k ≡ waves_among (range_with_len 0 k)
  first_is k m size =
      let e : k ≡ 0 + k = omega arith in
      ap (λ ks. length (flat_map (heads_at plan) ks))
      (filters_swap (λ j. nat_lt j k) is_here (live plan)
      ∙ ap (filter is_here) (filters_swap (λ j. nat_lt j k) (is_live plan) (range_with_len 0 (length plan))
      ∙ ap (filter (is_live plan)) (ap (λ n. filter (λ j. nat_lt j k) (range_with_len 0 n)) size ∙ ap (λ l. filter (λ j. nat_lt j l) (range_with_len 0 (k + m))) e ∙ below_range 0 k m)))

  among-append : (xs ys : List ℕ) → waves_among (xs ++ ys) ≡ waves_among xs + waves_among ys
  among-append xs ys =
      ap (λ ks. length (flat_map (heads_at plan) (filter is_here ks))) (filter-append (is_live plan) xs ys)
      ∙ ap (λ ks. length (flat_map (heads_at plan) ks)) (filter-append is_here (filter (is_live plan) xs) (filter (is_live plan) ys))
      ∙ ap length (flat_map-append (heads_at plan) (filter is_here (filter (is_live plan) xs)) (filter is_here (filter (is_live plan) ys)))
      ∙ length-append (flat_map (heads_at plan) (filter is_here (filter (is_live plan) xs))) (flat_map (heads_at plan) (filter is_here (filter (is_live plan) ys)))

  among_one : (k : ℕ) (o : PlanOp) → op_at plan k ≡ Some o → (wave : ℕ) → wave + waves_among (k ∷ []) ≡ waves_behind (is_live plan k) o wave
  among_one k o at wave = by_tests (is_live plan k) (is_boundary o) refl refl
    where
      here : (b : Bool) → is_boundary o ≡ b → is_here k ≡ b
      here b e = ap (λ found. option_map_or is_boundary found false) at ∙ e

      own : heads_at plan k ≡ map (head_of plan k) (waves_of o)
      own = ap (λ found. option_map_or (λ p. map (head_of plan k) (waves_of p)) found []) at

      one : length (flat_map (heads_at plan) (k ∷ [])) ≡ length (waves_of o)
      one =
          let a = length-append (heads_at plan k) [] in
          let b : length (heads_at plan k) ≡ length (waves_of o) = ap length own ∙ length-map (waves_of o) (head_of plan k) in
          omega (arith, a, b)

      by_tests : (b c : Bool) → is_live plan k ≡ b → is_boundary o ≡ c
          → wave + length (flat_map (heads_at plan) (filter is_here (cond (is_live plan k) (k ∷ []) []))) ≡ cond (is_live plan k && is_boundary o) (wave + length (waves_of o)) wave
      by_tests true true lives is =
          ap (λ d. wave + length (flat_map (heads_at plan) (filter is_here (cond d (k ∷ []) [])))) lives
          ∙ ap (λ d. wave + length (flat_map (heads_at plan) (cond d (k ∷ []) []))) (here true is)
          ∙ ap (λ n. wave + n) one
          ∙ sym (ap (λ d. cond (d && is_boundary o) (wave + length (waves_of o)) wave) lives ∙ ap (λ d. cond d (wave + length (waves_of o)) wave) is)
      by_tests true false lives is =
          let none : wave + 0 ≡ wave = omega arith in
          ap (λ d. wave + length (flat_map (heads_at plan) (filter is_here (cond d (k ∷ []) [])))) lives
          ∙ ap (λ d. wave + length (flat_map (heads_at plan) (cond d (k ∷ []) []))) (here false is)
          ∙ none
          ∙ sym (ap (λ d. cond (d && is_boundary o) (wave + length (waves_of o)) wave) lives ∙ ap (λ d. cond d (wave + length (waves_of o)) wave) is)
      by_tests false c lives is =
          let none : wave + 0 ≡ wave = omega arith in
          ap (λ d. wave + length (flat_map (heads_at plan) (filter is_here (cond d (k ∷ []) [])))) lives
          ∙ none
          ∙ sym (ap (λ d. cond (d && is_boundary o) (wave + length (waves_of o)) wave) lives)

  first_next : (k : ℕ) (o : PlanOp) → k < length plan → op_at plan k ≡ Some o → first_wave plan (k + 1) ≡ waves_behind (is_live plan k) o (first_wave plan k)
  first_next k o within at =
      let m = length plan - (k + 1) in
      let size : length plan ≡ k + 1 + m = omega (arith, within) in
      let wide : length plan ≡ k + (m + 1) = omega (arith, within) in
      let more : range_with_len 0 (k + 1) ≡ range_with_len 0 k ++ k ∷ [] = range_more k in
      first_is (k + 1) m size
      ∙ ap waves_among more
      ∙ among-append (range_with_len 0 k) (k ∷ [])
      ∙ ap (λ n. n + waves_among (k ∷ [])) (sym (first_is k (m + 1) wide))
      ∙ among_one k o at (first_wave plan k)
    where
      itself : (ns : List ℕ) → map (λ n. n) ns ≡ ns
      itself [] = refl
      itself (n ∷ ns) = ap (λ ms. n ∷ ms) (itself ns)

      range_more : (k : ℕ) → range_with_len 0 (k + 1) ≡ range_with_len 0 k ++ k ∷ []
      range_more k = sym (itself (range_with_len 0 (k + 1))) ∙ map-range_with_len_more (λ n. n) 0 k k (omega arith) ∙ ap (λ ns. ns ++ k ∷ []) (itself (range_with_len 0 k))

  -- ---- the loop over nodes

  pub first_of_all : 0 ≡ first_wave plan 0
  first_of_all = let e : length plan ≡ 0 + length plan = omega arith in sym (first_is 0 (length plan) e)

  -- a mark at the place of a node
  pub marked : (k : ℕ) (marks : List Bool) → marks ≡ live_marks plan → k < length plan → at_place false marks k ≡ is_live plan k
  marked k marks are within =
      let e : 0 + k ≡ k = omega arith in
      ap (λ ms. at_place false ms k) are
      ∙ ap (λ o. unwrap_or o false) (slice_get-map (is_live plan) (range_with_len 0 (length plan)) k ∙ ap (option_map (is_live plan)) (range_at 0 (length plan) k within))
      ∙ ap (is_live plan) e

  pub next_first : (k : ℕ) (o : PlanOp) (marks : List Bool) (mark : Bool) (wave next : ℕ) → marks ≡ live_marks plan → k < length plan → op_at plan k ≡ Some o
      → mark ≡ at_place false marks k → wave ≡ first_wave plan k → next ≡ waves_behind mark o wave → next ≡ first_wave plan (k + 1)
  next_first k o marks mark wave next are within at is so_far found =
      found ∙ ap (λ b. waves_behind b o wave) (is ∙ marked k marks are within) ∙ ap (waves_behind (is_live plan k) o) so_far ∙ sym (first_next k o within at)

  module _ (sizes : List Size) (counts : List ℕ) where
    pub next_reading : (k : ℕ) (o : PlanOp) (wave n : ℕ) (found next : List Source) (source : Source) → op_at plan k ≡ Some o → wave ≡ first_wave plan k
        → n ≡ at_place 0 counts k → next ≡ found ++ source ∷ [] → reading_of source ≡ reads sizes n wave o
        → map reading_of found ≡ map (reads_at plan sizes counts) (range_with_len 0 k) → map reading_of next ≡ map (reads_at plan sizes counts) (range_with_len 0 (k + 1))
    next_reading k o wave n found next source at first counted adds is so_far =
        ap (map reading_of) adds
        ∙ mapped found
        ∙ ap (λ rs. rs ++ reading_of source ∷ []) so_far
        ∙ ap (λ r. map (reads_at plan sizes counts) (range_with_len 0 k) ++ r ∷ [])
        (is ∙ (λ i. reads sizes (counted i) (first i) o) ∙ sym (ap (λ p. option_map_or (reads sizes (at_place 0 counts k) (first_wave plan k)) p (r_splits [])) at))
        ∙ sym (map-range_with_len_more (reads_at plan sizes counts) 0 k k (omega arith))
      where
        mapped : (xs : List Source) → map reading_of (xs ++ source ∷ []) ≡ map reading_of xs ++ reading_of source ∷ []
        mapped [] = refl
        mapped (x ∷ xs) = ap (λ rs. reading_of x ∷ rs) (mapped xs)

-- ---- parts

module _ (s : Stages) (sizes : List Size) (lengths : s.sizing.lengths ≡ lengths_in sizes) where
  parts_of_op : (k n : ℕ) (o : PlanOp) → n ≡ output_count s o → parts_read s.sizing.split (reads sizes n (first_wave s.plan k) o) ≡ parts_of s k o
  parts_of_op k n (p_load path delim columns) is = λ i. parts_read s.sizing.split (r_splits (sym lengths i path))
  parts_of_op k n (p_filter input test) is = λ i. parts_read s.sizing.split (reads sizes (is i) (first_wave s.plan k) (p_filter input test))
  parts_of_op k n (p_foreach input block) is = λ i. parts_read s.sizing.split (reads sizes (is i) (first_wave s.plan k) (p_foreach input block))
  parts_of_op k n (p_group_all input) is = λ i. parts_read s.sizing.split (reads sizes (is i) (first_wave s.plan k) (p_group_all input))
  parts_of_op k n (p_group inputs) is = λ i. parts_read s.sizing.split (reads sizes (is i) (first_wave s.plan k) (p_group inputs))
  parts_of_op k n (p_join inputs side replicated) is = λ i. parts_read s.sizing.split (reads sizes (is i) (first_wave s.plan k) (p_join inputs side replicated))
  parts_of_op k n (p_union inputs) is = λ i. parts_read s.sizing.split (reads sizes (is i) (first_wave s.plan k) (p_union inputs))
  parts_of_op k n (p_distinct input) is = λ i. parts_read s.sizing.split (reads sizes (is i) (first_wave s.plan k) (p_distinct input))
  parts_of_op k n (p_order input keys) is = λ i. parts_read s.sizing.split (reads sizes (is i) (first_wave s.plan k) (p_order input keys))
  parts_of_op k n (p_limit input count) is = λ i. parts_read s.sizing.split (reads sizes (is i) (first_wave s.plan k) (p_limit input count))
  parts_of_op k n (p_store input path delim) is = λ i. parts_read s.sizing.split (reads sizes (is i) (first_wave s.plan k) (p_store input path delim))
  parts_of_op k n (p_assert input test message) is = λ i. parts_read s.sizing.split (reads sizes (is i) (first_wave s.plan k) (p_assert input test message))
  parts_of_op k n (p_rank input keys dense) is = λ i. parts_read s.sizing.split (reads sizes (is i) (first_wave s.plan k) (p_rank input keys dense))

  seen : (o : Option Source) → option_map_or (λ source. parts_read s.sizing.split (reading_of source)) o [] ≡ option_map_or (parts_read s.sizing.split) (option_map reading_of o) []
  seen None = refl
  seen (Some source) = refl

  -- the parts of each node are told by what stands in the table, where they are below the limit to which they were counted
  pub parts_are : IsPlan s.plan → (limit : ℕ) (counts : List ℕ) → ((k : ℕ) → at_place 0 counts k ≡ min limit (length (parts_at s k)))
      → (table : List Source) → map reading_of table ≡ readings s.plan sizes counts → (k : ℕ) → length (parts_at s k) < limit → parts_for s.sizing.split table k ≡ parts_at s k
  parts_are valid limit counts counted table is k few =
      seen (slice_get table k)
      ∙ ap (λ o. option_map_or (parts_read s.sizing.split) o []) (sym (slice_get-map reading_of table k) ∙ ap (λ rs. slice_get rs k) is)
      ∙ by_place
    where
      reader : ℕ → Reading
      reader = reads_at s.plan sizes counts

      all_counted : at_place 0 counts k ≡ length (parts_at s k)
      all_counted = let cut = counted k in omega (arith, cut, few)

      by_node : (v : PlanNode) → slice_get s.plan k ≡ Some v
          → parts_read s.sizing.split (option_map_or (reads sizes (at_place 0 counts k) (first_wave s.plan k)) (op_at s.plan k) (r_splits [])) ≡ parts_at s k
      by_node v at =
          let op : op_at s.plan k ≡ Some v.op = ap (option_map {T = PlanNode} (λ node. node.op)) at in
          ap (λ o. parts_read s.sizing.split (option_map_or (reads sizes (at_place 0 counts k) (first_wave s.plan k)) o (r_splits []))) op
          ∙ parts_of_op k (at_place 0 counts k) v.op (all_counted ∙ parts_counted s valid k ∙ count_of_node s valid k v at)
          ∙ sym (ap (λ o. option_map_or (parts_of s k) o []) op)

      by_place : option_map_or (parts_read s.sizing.split) (slice_get (map reader (range_with_len 0 (length s.plan))) k) [] ≡ parts_at s k
      by_place = elim (cases_lt k (length s.plan)) [
        | inl within ↦
            let e : 0 + k ≡ k = omega arith in
            let found = some_at s.plan k within in
            ap (λ o. option_map_or (parts_read s.sizing.split) o []) (slice_get-map reader (range_with_len 0 (length s.plan)) k ∙ ap (option_map reader) (range_at 0 (length s.plan) k within ∙ ap Some e))
            ∙ by_node found.0 found.1
        | inr past ↦
            let size : length (map reader (range_with_len 0 (length s.plan))) ≡ length s.plan = length-map (range_with_len 0 (length s.plan)) reader ∙ length-range_with_len 0 (length s.plan) in
            ap (λ o. option_map_or (parts_read s.sizing.split) o []) (slice_get_past (map reader (range_with_len 0 (length s.plan))) k (omega (arith, size, past)))
            ∙ sym (ap (λ o. option_map_or (parts_of s k) (option_map {T = PlanNode} (λ node. node.op) o) []) (slice_get_past s.plan k past))
      ]
