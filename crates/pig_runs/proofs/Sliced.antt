-- Points and slices of entries.
use Rattle.std.proofs.Common.{◌≡◌, zero, suc, ◌<◌, ◌≤◌, ◌+◌, ◌-◌, ◌*◌, ◌/◌, ℕ, Bool, true, false, List, [], ◌∷◌, ◌++◌, map, length, take, drop, refl, sym, ◌∙◌, ap, subst, arith}
use Rattle.std.specs.Prelude.{not, replicate, Option, Some, None, slice_get}
use Rattle.std.specs.List.{filter, flat_map, range_with_len}
use Rattle.std.specs.Option.{option_map_or}
use Rattle.std.proofs.Math.Logic.{∥∥₁_map, ∥∥₁_elim}
use Rattle.std.proofs.Math.Nat.{div-lt_iff_lt-mul, mul_comm, mul-lt-mul_of_pos_right}
use Rattle.std.proofs.lemmas.Grind.{flat_map-append}
use Rattle.std.proofs.lemmas.List.{append-nil, append_assoc, length-take, drop-append-le, length-map}
use Rattle.pig_value.specs.Gathering.{Entry}
use Rattle.pig_value.specs.declared.operators.Dir.{Dir}
use Rattle.pig_value.specs.Sorts.{Ascends}
use Rattle.pig_value.proofs.list_laws.Bags.{ascends_prop, drop_ascends, take_ascends}
use Rattle.pig_value.proofs.list_laws.Indexing.{some_at, take_one, more_taken}
use Rattle.pig_value.proofs.list_laws.Listing.{each_of_all, each_weaker, filter-filter}
use Rattle.pig_runs.specs.Cutting.{Point, Points, Divides, Leads, cut_point, cut_points, is_below, is_from, picked, points_at, slice_of, stands_before}
use Rattle.pig_runs.specs.Entries.{InDirections, and_entries, no_entries_in, run_cmp}
use Rattle.pig_runs.specs.Packed.{Packed, packed, Held, Stand}
use Rattle.pig_runs.proofs.Halving.{divided, led}

-- ---- copies of entries in a row

pub drop_none : {X : Type 0} (n : ℕ) (xs : List X) → length xs ≤ n → drop n xs ≡ []
drop_none zero [] h = refl
drop_none (suc n) [] h = refl
drop_none zero (x ∷ xs) h = absurd (omega (arith, h))
drop_none (suc n) (x ∷ xs) h = drop_none n xs (omega (arith, h))

pub none_between : {X : Type 0} (from end : ℕ) (xs : List X) → end ≤ from → drop from (take end xs) ≡ []
none_between from end xs h = drop_none from (take end xs) (let size = length-take end xs in omega (arith, size, h))

pub one_copied : (from at : ℕ) (es : List Entry) (b s new : InDirections) → from ≤ at → at < length es → s ≡ and_entries (drop from (take at es)) b
    → new ≡ and_entries (take 1 (drop at es)) s → new ≡ and_entries (drop from (take (at + 1) es)) b
one_copied from at es b s new above within so_far grown =
    let found = some_at es at within in
    let longer : drop from (take (at + 1) es) ≡ drop from (take at es) ++ take 1 (drop at es) =
    ap (drop from) (more_taken es at found.0 found.1)
    ∙ (drop-append-le from (take at es) (found.0 ∷ []) (let size = length-take at es in omega (arith, size, above, within)) ∙ ap (λ l. drop from (take at es) ++ l) (sym (take_one es at found.0 found.1)))
    in
    grown
    ∙ (ap (and_entries (take 1 (drop at es))) so_far
    ∙ ap (λ l. record { dirs = b.dirs; entries = l }) (append_assoc b.entries (drop from (take at es)) (take 1 (drop at es)) ∙ ap (λ l. b.entries ++ l) (sym longer)))

-- ---- bounds of a slice

module _ (ds : List Dir) (es : List Entry) where
  abbrev under : Option Point → Entry → Bool
  under o e = option_map_or (λ point. stands_before ds point e) o true

  pub leads_all : (points : List Point) → Leads (is_from ds points 0) es 0
  leads_all points = record { first = tt; rest = each_of_all (λ e. true ≡ true) (λ e. refl) es }

  pub leads_none : (points : List Point) (part : ℕ) → part ≡ 0 → Leads (is_from ds points part) es 0
  leads_none points part is = subst (λ k. Leads (is_from ds points k) es 0) (sym is) (leads_all points)

  turned : (points : List Point) (j count : ℕ) (point : Point) → slice_get points j ≡ Some point → Divides (is_below ds points j) es count → Leads (is_from ds points (suc j)) es count
  turned points j count point here h =
      let h : Divides (λ e. stands_before ds point e) es count = subst (λ o. Divides (under o) es count) here h in
      subst (λ o. Leads (λ e. option_map_or (λ q. not (stands_before ds q e)) o true) es count) (sym here)
      (record {
        first = each_weaker (λ e. stands_before ds point e ≡ true) (λ e. not (stands_before ds point e) ≡ false) (λ e k. ap not k) (take count es) h.first;
        rest = each_weaker (λ e. stands_before ds point e ≡ false) (λ e. not (stands_before ds point e) ≡ true) (λ e k. ap not k) (drop count es) h.rest;
      })

  pub leads_from : (points : List Point) (part count : ℕ) → 0 < part → part ≤ length points → Divides (is_below ds points (part - 1)) es count → Leads (is_from ds points part) es count
  leads_from points zero count some within h = absurd (omega (arith, some))
  leads_from points (suc j) count some within h =
      let back : suc j - 1 ≡ j = omega arith in
      let found = some_at points j (omega (arith, within)) in
      turned points j count found.0 found.1 (subst (λ k. Divides (is_below ds points k) es count) back h)

  pub slice_is : (points : List Point) (part low high : ℕ) → Divides (is_below ds points part) es high → Leads (is_from ds points part) es low
      → slice_of ds points part es ≡ drop low (take high es)
  slice_is points part low high h k =
      sym (filter-filter (is_from ds points part) (is_below ds points part) es)
      ∙ (ap (filter (is_from ds points part)) (divided (is_below ds points part) es high h) ∙ led (is_from ds points part) es low high k)

pub slice_ascends : (ds : List Dir) (es : List Entry) (low high : ℕ) (b : InDirections) → ∥ Ascends (run_cmp ds) es ∥₁ → b ≡ record { dirs = ds; entries = drop low (take high es) }
    → Ascends (run_cmp b.dirs) b.entries
slice_ascends ds es low high b sorted is =
    subst (λ c. Ascends (run_cmp c.dirs) c.entries) (sym is)
    (∥∥₁_elim sorted (ascends_prop (run_cmp ds) (drop low (take high es))) (λ h. drop_ascends (run_cmp ds) low (take high es) (take_ascends (run_cmp ds) high es h)))

-- what `slice` gives
pub slice_seen : (run lent b : InDirections) (points : List Point) (part low high : ℕ) → b ≡ record { dirs = lent.dirs; entries = drop low (take high lent.entries) } → lent ≡ run
    → Divides (is_below run.dirs points part) run.entries high → Leads (is_from run.dirs points part) run.entries low → b ≡ record { dirs = run.dirs; entries = slice_of run.dirs points part run.entries }
slice_seen run lent b points part low high is same h k =
    is ∙ (ap (cut_out low high) same ∙ ap (with_entries run.dirs) (sym (slice_is run.dirs run.entries points part low high h k)))
  where
    with_entries : List Dir → List Entry → InDirections
    with_entries ds l = record { dirs = ds; entries = l }

    cut_out : ℕ → ℕ → InDirections → InDirections
    cut_out low high r = record { dirs = r.dirs; entries = drop low (take high r.entries) }

-- ---- the points of cuts

pub place_within : (k n m : ℕ) → k + 1 < n → 0 < m → ((k + 1) * m) / n < m
place_within k n m later some =
    (div-lt_iff_lt-mul {k = n} {x = (k + 1) * m} {y = m} (omega (arith, later))).1
    (subst (λ x. (k + 1) * m < x) (mul_comm n m) (mul-lt-mul_of_pos_right {m = k + 1} {n = n} {k = m} later some))

module _ (n : ℕ) (es : List Entry) where
  abbrev at_place : ℕ → List Entry
  at_place k = take 1 (drop (((k + 1) * length es) / n) es)

  range_more : (a c : ℕ) → range_with_len a (c + 1) ≡ range_with_len a c ++ (a + c) ∷ []
  range_more a zero = ap (λ x. x ∷ []) (omega arith)
  range_more a (suc c) =
      let next : suc c + 1 ≡ suc (c + 1) = omega arith in
      let there : a + 1 + c ≡ a + suc c = omega arith in
      ap (range_with_len a) next ∙ ap (λ l. a ∷ l) (range_more (a + 1) c ∙ ap (λ x. range_with_len (a + 1) c ++ x ∷ []) there)

  pub picked_more : (k : ℕ) → picked n es (k + 1) ≡ picked n es k ++ at_place k
  picked_more k =
      ap (flat_map at_place) (range_more 0 k)
      ∙ (flat_map-append at_place (range_with_len 0 k) ((0 + k) ∷ []) ∙ ap (λ l. picked n es k ++ l) (append-nil (at_place (0 + k)) ∙ ap at_place (let same : 0 + k ≡ k = omega arith in same)))

  pub picked_step : (k : ℕ) (b s new : InDirections) → s ≡ and_entries (picked n es k) b → new ≡ and_entries (at_place k) s → new ≡ and_entries (picked n es (k + 1)) b
  picked_step k b s new so_far grown =
      grown
      ∙ (ap (and_entries (at_place k)) so_far
      ∙ ap (λ l. record { dirs = b.dirs; entries = l }) (append_assoc b.entries (picked n es k) (at_place k) ∙ ap (λ l. b.entries ++ l) (sym (picked_more k))))

  picked_points : 0 < length es → (a c : ℕ) → a + c < n → map Some (flat_map at_place (range_with_len a c)) ≡ map (cut_point n es) (range_with_len a c)
  picked_points some a zero below = refl
  picked_points some a (suc c) below =
      let found = some_at es (((a + 1) * length es) / n) (place_within a n (length es) (omega (arith, below)) some) in
      ap (λ l. map Some (l ++ flat_map at_place (range_with_len (a + 1) c))) (take_one es (((a + 1) * length es) / n) found.0 found.1)
      ∙ (λ i. sym found.1 i ∷ picked_points some (a + 1) c (omega (arith, below)) i)

  pub cut_picked : 0 < n → 0 < length es → points_at (picked n es (n - 1)) 0 ≡ cut_points n es
  cut_picked many some = append-nil (map Some (picked n es (n - 1))) ∙ picked_points some 0 (n - 1) (omega (arith, many))

no_points : (n a c : ℕ) → replicate c None ≡ map (cut_point n []) (range_with_len a c)
no_points n a zero = refl
no_points n a (suc c) = ap (λ l. None ∷ l) (no_points n (a + 1) c)

pub held_stand : (ds : List Dir) (es : List Entry) (ps : List Packed) → Stand ds es ps → ∥ Held ds ps ∥₁
held_stand ds es ps h = ∥∥₁_map h.good (λ k. (es, (∣ k ∣₁, h.told)))

pub stand_length : (ds : List Dir) (es : List Entry) (ps : List Packed) → Stand ds es ps → length es ≡ length ps
stand_length ds es ps h = sym (length-map es (packed ds)) ∙ ap length h.told

pub cut_none : (n : ℕ) (es : List Entry) → length es ≡ 0 → points_at [] (n - 1) ≡ cut_points n es
cut_none n [] h = no_points n 0 (n - 1)
cut_none n (e ∷ es) h = absurd (omega (arith, h))

abbrev seen_points : ℕ → InDirections → Points
seen_points ends b = record { dirs = b.dirs; points = points_at b.entries ends }

abbrev with_points : List Dir → List Point → Points
with_points ds ps = record { dirs = ds; points = ps }

-- what `cuts` gives, where there is no entry and where there is one
pub cut_ends : (ds : List Dir) (n : ℕ) (es : List Entry) (ps : List Packed) (b : InDirections) → b ≡ no_entries_in ds → Stand ds es ps → length ps ≡ 0
    → ◌≡◌ {A = Points} (record { dirs = b.dirs; points = points_at b.entries (n - 1) }) (record { dirs = ds; points = cut_points n es })
cut_ends ds n es ps b is stands none =
    ap (seen_points (n - 1)) is ∙ ap (with_points ds) (cut_none n es (stand_length ds es ps stands ∙ none))

pub cut_all : (ds : List Dir) (n : ℕ) (es : List Entry) (ps : List Packed) (b : InDirections) → 0 < n → 0 < length ps → Stand ds es ps → b ≡ and_entries (picked n es (n - 1)) (no_entries_in ds)
    → ◌≡◌ {A = Points} (record { dirs = b.dirs; points = points_at b.entries 0 }) (record { dirs = ds; points = cut_points n es })
cut_all ds n es ps b many some stands is =
    ap (seen_points 0) is
    ∙ ap (with_points ds) (cut_picked n es many (let size = stand_length ds es ps stands in omega (arith, some, size)))
