-- The slices of a run are its entries in order, each once; sorted slices of any entries are these sorted; and the points of cuts ascend.
use Rattle.std.proofs.Common.{◌≡◌, zero, suc, ◌<◌, ◌≤◌, ◌+◌, ◌-◌, ◌*◌, ◌/◌, ℕ, Bool, true, false, List, [], ◌∷◌, ◌++◌, map, length, cond, refl, sym, ◌∙◌, ap, arith}
use Rattle.std.specs.Prelude.{not, ◌&&◌, Some, None, slice_get}
use Rattle.std.specs.Cmp.{IsTotalOrder}
use Rattle.std.specs.List.{AllByRecursion, filter, flat_map, range_with_len}
use Rattle.std.specs.Option.{option_map_or}
use Rattle.std.specs.Ordering.{is_lt, is_gt, ordering_reverse}
use Rattle.std.specs.declared.cmp.Ordering.TheVariants.{Less, Equal}
use Rattle.std.proofs.Math.Nat.{le-div_iff_mul-le, div-mul-le_self, mul-le-mul_right}
use Rattle.std.proofs.lemmas.Cmp.{tied_itself}
use Rattle.std.proofs.lemmas.List.{append-nil}
use Rattle.pig_value.specs.Gathering.{Entry}
use Rattle.pig_value.specs.declared.operators.Dir.{Dir}
use Rattle.pig_value.specs.Sorts.{Ascends, sort}
use Rattle.pig_value.proofs.list_laws.Bags.{either_way, gt_is_lt, rises_over, rises_all, filter_ascends, sort-filter, sort_ascends}
use Rattle.pig_value.proofs.list_laws.Indexing.{some_at}
use Rattle.pig_value.proofs.list_laws.Listing.{each_at, each_of_all, each_weaker, filter_all, filter_none, filter-filter, filter-flat_map, flat_map_each}
use Rattle.pig_runs.specs.Cutting.{Point, point_cmp, cut_point, cut_points, in_slice, is_below, is_from, slice_of, stands_before}
use Rattle.pig_runs.specs.Entries.{run_cmp}
use Rattle.pig_runs.proofs.Halving.{stays_above}
use Rattle.pig_runs.proofs.Order.{run_same, run_total}

module _ (ds : List Dir) where
  point_reversed : (x y : Point) → point_cmp ds x y ≡ ordering_reverse (point_cmp ds y x)
  point_reversed None None = refl
  point_reversed None (Some f) = refl
  point_reversed (Some e) None = refl
  point_reversed (Some e) (Some f) = (run_total ds).antisymm e f

  point_trans : (x y z : Point) → point_cmp ds x y ≡ Less → point_cmp ds y z ≡ Less → point_cmp ds x z ≡ Less
  point_trans (Some e) (Some f) (Some g) h k = (run_total ds).trans e f g h k
  point_trans (Some e) y None h k = refl
  point_trans (Some e) None (Some g) h k = absurd (cc)
  point_trans None None z h k = absurd (cc)
  point_trans None (Some f) z h k = absurd (cc)

  point_congr : (x y z : Point) → point_cmp ds x y ≡ Equal → point_cmp ds x z ≡ point_cmp ds y z
  point_congr (Some e) (Some f) (Some g) h = (run_total ds).congr e f g h
  point_congr (Some e) (Some f) None h = refl
  point_congr None None z h = refl
  point_congr None (Some f) z h = absurd (cc)
  point_congr (Some e) None z h = absurd (cc)

  pub point_total : IsTotalOrder (point_cmp ds)
  point_total = record { antisymm = point_reversed; trans = point_trans; congr = point_congr }

  -- what stands not before a point stands not before an earlier one
  not_before : (p q : Point) (e : Entry) → is_gt (point_cmp ds p q) ≡ false → not (stands_before ds q e) ≡ true → not (stands_before ds p e) ≡ true
  not_before p q e h k =
      let later : is_lt (point_cmp ds (Some e) q) ≡ false = turned_back (is_lt (point_cmp ds (Some e) q)) k in
      ap not (sym (gt_is_lt (point_cmp ds) point_total p (Some e)) ∙ rises_over (point_cmp ds) point_total p q (Some e ∷ []) h (gt_is_lt (point_cmp ds) point_total q (Some e) ∙ later))
    where
      turned_back : (b : Bool) → not b ≡ true → b ≡ false
      turned_back true h = sym h
      turned_back false h = refl

  -- sorted entries are those before a point, and then the others
  split : (p : Point) (es : List Entry) → Ascends (run_cmp ds) es → filter (stands_before ds p) es ++ filter (λ e. not (stands_before ds p e)) es ≡ es
  split p [] h = refl
  split p (e ∷ es) h = either_way (stands_before ds p e)
      (λ is. ap (λ b. cond b (e ∷ filter (stands_before ds p) es) (filter (stands_before ds p) es)
      ++ cond (not b) (e ∷ filter (λ f. not (stands_before ds p f)) es) (filter (λ f. not (stands_before ds p f)) es)) is
      ∙ ap (λ l. e ∷ l) (split p es h.1))
      (λ is.
      let all : AllByRecursion (λ f. stands_before ds p f ≡ false) (e ∷ es) =
      (is, each_weaker (λ f. is_gt (run_cmp ds e f) ≡ false) (λ f. stands_before ds p f ≡ false) (λ f k. stays_above (point_cmp ds) point_total (Some e) (Some f) p is k) es (rises_all (run_cmp ds) (run_total ds) e es h.0 h.1))
      in
      λ i. filter_none (stands_before ds p) (e ∷ es) all i
      ++ filter_all (λ f. not (stands_before ds p f)) (e ∷ es) (each_weaker (λ f. stands_before ds p f ≡ false) (λ f. not (stands_before ds p f) ≡ true) (λ f k. ap not k) (e ∷ es) all) i)

  and_true : (b : Bool) → (b && true) ≡ b
  and_true true = refl
  and_true false = refl

  turn_round : (b q : Bool) → (b && q) ≡ (q && (b && true))
  turn_round true true = refl
  turn_round true false = refl
  turn_round false true = refl
  turn_round false false = refl

  follows : (b f q : Bool) → (f ≡ true → q ≡ true) → (b && f) ≡ (q && (b && f))
  follows true true q h = sym (ap (λ r. r && true) (h refl))
  follows true false true h = refl
  follows true false false h = refl
  follows false f true h = refl
  follows false f false h = refl

  -- the slices behind the first are those by the other points, of the entries that stand not before the first point
  later_slice : (p : Point) (ps : List Point) (es : List Entry) → Ascends (point_cmp ds) (p ∷ ps) → (k : ℕ) → k ≤ length ps
      → slice_of ds (p ∷ ps) (suc k) es ≡ slice_of ds ps k (filter (λ e. not (stands_before ds p e)) es)
  later_slice p ps es h zero within =
      (λ i. filter (λ e. turn_round (is_below ds ps zero e) (not (stands_before ds p e)) i) es)
      ∙ sym (filter-filter (in_slice ds ps zero) (λ e. not (stands_before ds p e)) es)
  later_slice p ps es h (suc j) within =
      let found = some_at ps j (omega (arith, within)) in
      let order : is_gt (point_cmp ds p found.0) ≡ false = each_at (λ q. is_gt (point_cmp ds p q) ≡ false) ps j found.0 found.1 (rises_all (point_cmp ds) point_total p ps h.0 h.1) in
      (λ i. filter (λ e. follows (is_below ds ps (suc j) e) (is_from ds ps (suc j) e) (not (stands_before ds p e))
      (λ is. not_before p found.0 e order (sym (ap (λ o. option_map_or (λ q. not (stands_before ds q e)) o true) found.1) ∙ is)) i) es)
      ∙ sym (filter-filter (in_slice ds ps (suc j)) (λ e. not (stands_before ds p e)) es)

  shifted : (f : ℕ → List Entry) (a n : ℕ) → flat_map f (range_with_len (a + 1) n) ≡ flat_map (λ k. f (k + 1)) (range_with_len a n)
  shifted f a zero = refl
  shifted f a (suc n) = ap (λ l. f (a + 1) ++ l) (shifted f (a + 1) n)

  each_number : (P : ℕ → Type 0) (a n : ℕ) → ((k : ℕ) → k < a + n → P k) → AllByRecursion P (range_with_len a n)
  each_number P a zero h = tt
  each_number P a (suc n) h = (h a (omega arith), each_number P (a + 1) n (λ k below. h k (omega (arith, below))))

  pub slices_join : (points : List Point) (es : List Entry) → Ascends (point_cmp ds) points → Ascends (run_cmp ds) es
      → flat_map (λ part. slice_of ds points part es) (range_with_len 0 (length points + 1)) ≡ es
  slices_join [] es h k = append-nil (slice_of ds [] zero es) ∙ filter_all (in_slice ds [] zero) es (each_of_all (λ e. in_slice ds [] zero e ≡ true) (λ e. refl) es)
  slices_join (p ∷ ps) es h k =
      let next : suc (length ps) + 1 ≡ suc (length ps + 1) = omega arith in
      let rest : List Entry = filter (λ e. not (stands_before ds p e)) es in
      ap (λ n. flat_map (λ part. slice_of ds (p ∷ ps) part es) (range_with_len 0 n)) next
      ∙ ((λ i. filter (λ e. and_true (stands_before ds p e) i) es ++ shifted (λ part. slice_of ds (p ∷ ps) part es) 0 (length ps + 1) i)
      ∙ (ap (λ l. filter (stands_before ds p) es ++ l)
      (flat_map_each (λ part. slice_of ds (p ∷ ps) (part + 1) es) (λ part. slice_of ds ps part rest) (range_with_len 0 (length ps + 1))
      (each_number (λ part. slice_of ds (p ∷ ps) (part + 1) es ≡ slice_of ds ps part rest) 0 (length ps + 1)
      (λ part below. let one : part + 1 ≡ suc part = omega arith in ap (λ n. slice_of ds (p ∷ ps) n es) one ∙ later_slice p ps es h part (omega (arith, below))))
      ∙ slices_join ps rest h.1 (filter_ascends (run_cmp ds) (run_total ds) (λ e. not (stands_before ds p e)) es k))
      ∙ split p es k))

  -- the slices of all lists, each sorted
  pub by_points : (points : List Point) (lists : List (List Entry)) → Ascends (point_cmp ds) points
      → flat_map (λ part. sort (run_cmp ds) (flat_map (slice_of ds points part) lists)) (range_with_len 0 (length points + 1)) ≡ sort (run_cmp ds) (flat_map (λ es. es) lists)
  by_points points lists rise =
      let all : List Entry = flat_map (λ es. es) lists in
      let whole : List Entry = sort (run_cmp ds) all in
      let parts : List ℕ = range_with_len 0 (length points + 1) in
      flat_map_each (λ part. sort (run_cmp ds) (flat_map (slice_of ds points part) lists)) (λ part. slice_of ds points part whole) parts
      (each_of_all (λ part. sort (run_cmp ds) (flat_map (slice_of ds points part) lists) ≡ slice_of ds points part whole)
      (λ part. ap (sort (run_cmp ds)) (sym (filter-flat_map (in_slice ds points part) (λ es. es) lists)) ∙ sort-filter (run_cmp ds) (run_total ds) (in_slice ds points part) (run_same ds) all) parts)
      ∙ slices_join points whole rise (sort_ascends (run_cmp ds) (run_total ds) all)

  -- what stands at a later place stands not before what stands at an earlier one
  places_rise : (es : List Entry) (i j : ℕ) → Ascends (run_cmp ds) es → i ≤ j → is_gt (point_cmp ds (slice_get es i) (slice_get es j)) ≡ false
  places_rise [] i j h k = refl
  places_rise (e ∷ es) zero zero h k = ap is_gt (tied_itself (run_total ds) e)
  places_rise (e ∷ es) zero (suc j) h k = first (slice_get es j) refl
    where
      first : (o : Point) → slice_get es j ≡ o → is_gt (point_cmp ds (Some e) o) ≡ false
      first None here = refl
      first (Some f) here = each_at (λ y. is_gt (run_cmp ds e y) ≡ false) es j f here (rises_all (run_cmp ds) (run_total ds) e es h.0 h.1)
  places_rise (e ∷ es) (suc i) zero h k = absurd (omega (arith, k))
  places_rise (e ∷ es) (suc i) (suc j) h k = places_rise es i j h.1 (omega (arith, k))

  place_rises : (n m a : ℕ) → 0 < n → ((a + 1) * m) / n ≤ ((a + 1 + 1) * m) / n
  place_rises n m a some =
      let low : ((a + 1) * m) / n * n ≤ (a + 1) * m = div-mul-le_self ((a + 1) * m) n in
      let more : (a + 1) * m ≤ (a + 1 + 1) * m = mul-le-mul_right m (omega arith) in
      (le-div_iff_mul-le {k = n} {x = ((a + 1) * m) / n} {y = (a + 1 + 1) * m} some).1 (omega (arith, low, more))

  cuts_from : (n : ℕ) (es : List Entry) → 0 < n → Ascends (run_cmp ds) es → (a c : ℕ) → Ascends (point_cmp ds) (map (cut_point n es) (range_with_len a c))
  cuts_from n es some h a zero = tt
  cuts_from n es some h a (suc zero) = (tt, tt)
  cuts_from n es some h a (suc (suc c)) =
      (places_rise es (((a + 1) * length es) / n) (((a + 1 + 1) * length es) / n) h (place_rises n (length es) a some), cuts_from n es some h (a + 1) (suc c))

  pub cuts_rise : (n : ℕ) (es : List Entry) → 0 < n → Ascends (run_cmp ds) es → Ascends (point_cmp ds) (cut_points n es)
  cuts_rise n es some h = cuts_from n es some h 0 (n - 1)
