-- A group for each key, kept as entries are added: one with a key that is there, or with a new one.
use Rattle.std.proofs.Common.{◌≡◌, refl, sym, ap, ◌∙◌, subst, cond, arith, append-nil, true≢false}
use Rattle.std.specs.Prelude.{◌≤◌, ◌+◌, ℕ, zero, suc, true, false, List, [], ◌∷◌, ◌++◌, map, min, Some, slice_get, slice_set}
use Rattle.std.specs.List.{AllByRecursion}
use Rattle.std.specs.List.Sorted.{IsPermutation}
use Rattle.std.specs.Ordering.{is_eq}
use Rattle.std.proofs.lemmas.Cmp.{tied_itself}
use Rattle.std.proofs.lemmas.List.{map-append}
use Rattle.std.proofs.lemmas.List.Elements.{filter-append}
use Rattle.pig_value.specs.Gathering.{Entry, with_key}
use Rattle.pig_value.specs.Orders.{tree_cmp}
use Rattle.pig_value.specs.Sorts.{distinct, times}
use Rattle.pig_value.specs.Trees.{Tree}
use Rattle.pig_value.proofs.OrderLaws.{tree_same, tree_total}
use Rattle.pig_value.proofs.list_laws.Bags.{either_way, eq_is, permutation_from_times, times-append, times-cons, times_from_permutation}
use Rattle.pig_value.proofs.list_laws.Distinct.{distinct_same, times-distinct}
use Rattle.pig_value.proofs.list_laws.Listing.{each-append, filter_none, some_same}
use Rattle.pig_algebra.specs.Cuts.{TypedCut}
use Rattle.pig_combine.specs.Holdings.{AreGroups, Group, rows_under}
use Rattle.pig_combine.specs.Tallies.{found_by}

abbrev key_in : Entry → Tree
key_in e = e.key

abbrev keys_of : List Group → List Tree
keys_of groups = map (λ g. g.key) groups

abbrev IsOther : Tree → Group → Type 0
IsOther k g = is_eq (tree_cmp k g.key) ≡ false

turned : (a b : Tree) → is_eq (tree_cmp a b) ≡ false → is_eq (tree_cmp b a) ≡ false
turned a b h = either_way (is_eq (tree_cmp b a))
    (λ e. absurd (true≢false (sym (ap is_eq (ap (tree_cmp a) (tree_same b a (eq_is (tree_cmp b a) e)) ∙ tied_itself tree_total a)) ∙ h)))
    (λ e. e)

-- ---- rows under a key, with one more entry

rows_more : (k : Tree) (added : List Entry) (e : Entry) → e.key ≡ k → rows_under k (added ++ e ∷ []) ≡ rows_under k added ++ e.row ∷ []
rows_more k added e h =
    ap (map (λ d. d.row)) (filter-append (λ d. is_eq (tree_cmp d.key k)) added (e ∷ []))
    ∙ ap (λ o. map (λ d. d.row) (with_key tree_cmp key_in k added ++ cond (is_eq o) (e ∷ []) [])) (ap (λ l. tree_cmp l k) h ∙ tied_itself tree_total k)
    ∙ map-append (λ d. d.row) (with_key tree_cmp key_in k added) (e ∷ [])

rows_other : (k : Tree) (added : List Entry) (e : Entry) → is_eq (tree_cmp e.key k) ≡ false → rows_under k (added ++ e ∷ []) ≡ rows_under k added
rows_other k added e h =
    ap (map (λ d. d.row)) (filter-append (λ d. is_eq (tree_cmp d.key k)) added (e ∷ []))
    ∙ ap (λ b. map (λ d. d.row) (with_key tree_cmp key_in k added ++ cond b (e ∷ []) [])) h
    ∙ ap (map (λ d. d.row)) (append-nil (with_key tree_cmp key_in k added))

-- ---- how often keys stand

-- a key that stands nowhere
none_there : (k : Tree) (ks : List Tree) → times tree_cmp k ks ≡ 0 → AllByRecursion (λ l. is_eq (tree_cmp k l) ≡ false) ks
none_there k [] h = tt
none_there k (l ∷ ks) h = either_way (is_eq (tree_cmp k l))
    (λ e. absurd (
    let n = times-cons tree_cmp k l ks in
    let one : ◌≡◌ {A = ℕ} (cond (is_eq (tree_cmp k l)) 1 0) 1 = ap (λ b. cond b 1 0) e in
    omega (arith, h, n, one)))
    (λ e. (
      e,
      none_there k ks (
          let n = times-cons tree_cmp k l ks in
          omega (arith, h, n)),
    ))

others_count : (k : Tree) (groups : List Group) → AllByRecursion (IsOther k) groups → times tree_cmp k (keys_of groups) ≡ 0
others_count k [] h = refl
others_count k (g ∷ groups) h =
    let n = times-cons tree_cmp k g.key (keys_of groups) in
    let none : ◌≡◌ {A = ℕ} (cond (is_eq (tree_cmp k g.key)) 1 0) 0 = ap (λ b. cond b 1 0) h.0 in
    let more = others_count k groups h.1 in
    omega (arith, n, none, more)

-- a key that is there
there_at : (groups : List Group) (i : ℕ) (g : Group) (k : Tree) → slice_get groups i ≡ Some g → g.key ≡ k → 1 ≤ times tree_cmp k (keys_of groups)
there_at [] i g k at e = absurd (cc)
there_at (h ∷ groups) zero g k at e =
    let n = times-cons tree_cmp k h.key (keys_of groups) in
    let same : is_eq (tree_cmp k h.key) ≡ true = ap (λ l. is_eq (tree_cmp k l)) (ap (λ x. x.key) (some_same h g at) ∙ e) ∙ ap is_eq (tied_itself tree_total k) in
    let one : ◌≡◌ {A = ℕ} (cond (is_eq (tree_cmp k h.key)) 1 0) 1 = ap (λ b. cond b 1 0) same in
    omega (arith, n, one)
there_at (h ∷ groups) (suc i) g k at e =
    let n = times-cons tree_cmp k h.key (keys_of groups) in
    let more = there_at groups i g k at e in
    omega (arith, n, more)

-- ---- one group changes

keys_stay : (groups : List Group) (i : ℕ) (g w : Group) → slice_get groups i ≡ Some g → w.key ≡ g.key → keys_of (slice_set groups i w) ≡ keys_of groups
keys_stay [] i g w at e = absurd (cc)
keys_stay (h ∷ groups) zero g w at e = ap (λ k. k ∷ keys_of groups) (e ∙ ap (λ x. x.key) (sym (some_same h g at)))
keys_stay (h ∷ groups) (suc i) g w at e = ap (λ ks. h.key ∷ ks) (keys_stay groups i g w at e)

module _ (P Q : Group → Type 0) (k : Tree) (other : (h : Group) → IsOther k h → Q h → P h) where
  all_others : (groups : List Group) → AllByRecursion (λ l. is_eq (tree_cmp k l) ≡ false) (keys_of groups) → AllByRecursion Q groups → AllByRecursion P groups
  all_others [] h q = tt
  all_others (g ∷ groups) h q = (other g h.0 q.0, all_others groups h.1 q.1)

  -- all that have another key, and the one that is put in the place of the key's group
  all_set : (groups : List Group) (i : ℕ) (g w : Group) → slice_get groups i ≡ Some g → g.key ≡ k → times tree_cmp k (keys_of groups) ≤ 1 → AllByRecursion Q groups → P w
      → AllByRecursion P (slice_set groups i w)
  all_set [] i g w at e once q p = absurd (cc)
  all_set (h ∷ groups) zero g w at e once q p =
      let n = times-cons tree_cmp k h.key (keys_of groups) in
      let same : is_eq (tree_cmp k h.key) ≡ true = ap (λ l. is_eq (tree_cmp k l)) (ap (λ x. x.key) (some_same h g at) ∙ e) ∙ ap is_eq (tied_itself tree_total k) in
      let one : ◌≡◌ {A = ℕ} (cond (is_eq (tree_cmp k h.key)) 1 0) 1 = ap (λ b. cond b 1 0) same in
      let none : times tree_cmp k (keys_of groups) ≡ 0 = omega (arith, once, n, one) in
      (p, all_others groups (none_there k (keys_of groups) none) q.1)
  all_set (h ∷ groups) (suc i) g w at e once q p =
      let n = times-cons tree_cmp k h.key (keys_of groups) in
      let more = there_at groups i g k at e in
      let fewer : times tree_cmp k (keys_of groups) ≤ 1 = omega (arith, once, n) in
      let differs : is_eq (tree_cmp k h.key) ≡ false = either_way (is_eq (tree_cmp k h.key))
      (λ same. absurd (let one : ◌≡◌ {A = ℕ} (cond (is_eq (tree_cmp k h.key)) 1 0) 1 = ap (λ b. cond b 1 0) same in omega (arith, once, n, more, one)))
      (λ no_same. no_same) in
      (other h differs q.0, all_set groups i g w at e fewer q.1 p)

-- ---- groups and one more entry

module _ (cuts : List TypedCut) (added : List Entry) (e : Entry) (groups : List Group) (are : AreGroups cuts added groups) where
  abbrev entry_keys : List Tree
  entry_keys = map key_in added

  -- how often a group has a key
  count : (z : Tree) → times tree_cmp z (keys_of groups) ≡ min 1 (times tree_cmp z entry_keys)
  count z = times_from_permutation tree_cmp (keys_of groups) (distinct tree_cmp entry_keys) are.keys z ∙ times-distinct tree_cmp tree_total tree_same z entry_keys

  keys_more : map key_in (added ++ e ∷ []) ≡ entry_keys ++ e.key ∷ []
  keys_more = map-append key_in added (e ∷ [])

  count_more : (z : Tree) → times tree_cmp z (entry_keys ++ e.key ∷ []) ≡ times tree_cmp z entry_keys + cond (is_eq (tree_cmp z e.key)) 1 0
  count_more z =
      let whole = times-append tree_cmp z entry_keys (e.key ∷ []) in
      let one = times-cons tree_cmp z e.key [] in
      omega (arith, whole, one)

  told_other : (h : Group) → IsOther e.key h → h.told ≡ map (found_by (rows_under h.key added)) cuts → h.told ≡ map (found_by (rows_under h.key (added ++ e ∷ []))) cuts
  told_other h differs q = q ∙ ap (λ rows. map (found_by rows) cuts) (sym (rows_other h.key added e differs))

  told_here : (w : Group) → w.key ≡ e.key → w.told ≡ map (found_by (rows_under e.key added ++ e.row ∷ [])) cuts → w.told ≡ map (found_by (rows_under w.key (added ++ e ∷ []))) cuts
  told_here w same q =
      q ∙ ap (λ rows. map (found_by rows) cuts) (sym (rows_more e.key added e refl)) ∙ ap (λ k. map (found_by (rows_under k (added ++ e ∷ []))) cuts) (sym same)

  -- the key is there
  module _ (i : ℕ) (g w : Group) (at : slice_get groups i ≡ Some g) (of_key : g.key ≡ e.key) (same : w.key ≡ g.key)
      (is : w.told ≡ map (found_by (rows_under e.key added ++ e.row ∷ [])) cuts) where
    still_once : (z : Tree) → min 1 (times tree_cmp z entry_keys) ≡ min 1 (times tree_cmp z (entry_keys ++ e.key ∷ []))
    still_once z =
        let more = count_more z in
        either_way (is_eq (tree_cmp z e.key))
        (λ t.
        let one : ◌≡◌ {A = ℕ} (cond (is_eq (tree_cmp z e.key)) 1 0) 1 = ap (λ b. cond b 1 0) t in
        let there = there_at groups i g z at (of_key ∙ sym (tree_same z e.key (eq_is (tree_cmp z e.key) t))) in
        let c = count z in
        omega (arith, more, one, there, c))
        (λ t.
        let none : ◌≡◌ {A = ℕ} (cond (is_eq (tree_cmp z e.key)) 1 0) 0 = ap (λ b. cond b 1 0) t in
        omega (arith, more, none))

    pub added_here : AreGroups cuts (added ++ e ∷ []) (slice_set groups i w)
    added_here = record {
      keys =
          subst (λ ks. IsPermutation ks (distinct tree_cmp (map key_in (added ++ e ∷ [])))) (sym (keys_stay groups i g w at same))
          (subst (IsPermutation (keys_of groups)) (distinct_same tree_cmp tree_total tree_same entry_keys (entry_keys ++ e.key ∷ []) still_once ∙ ap (distinct tree_cmp) (sym keys_more)) are.keys);
      told =
          let once : times tree_cmp e.key (keys_of groups) ≤ 1 = (let c = count e.key in omega (arith, c)) in
          all_set (λ h. h.told ≡ map (found_by (rows_under h.key (added ++ e ∷ []))) cuts) (λ h. h.told ≡ map (found_by (rows_under h.key added)) cuts) e.key told_other
          groups i g w at of_key once are.told (told_here w (same ∙ of_key) is);
    }

  -- the key is new
  module _ (w : Group) (others : AllByRecursion (IsOther e.key) groups) (same : w.key ≡ e.key) (is : w.told ≡ map (found_by (e.row ∷ [])) cuts) where
    none_yet : times tree_cmp e.key entry_keys ≡ 0
    none_yet = let c = count e.key in let none = others_count e.key groups others in omega (arith, c, none)

    no_rows : rows_under e.key added ≡ []
    no_rows = ap (map (λ d. d.row)) (filter_none (λ d. is_eq (tree_cmp d.key e.key)) added (no_keys added (none_there e.key entry_keys none_yet)))
      where
        no_keys : (ds : List Entry) → AllByRecursion (λ l. is_eq (tree_cmp e.key l) ≡ false) (map key_in ds) → AllByRecursion (λ d. is_eq (tree_cmp d.key e.key) ≡ false) ds
        no_keys [] h = tt
        no_keys (d ∷ ds) h = (turned e.key d.key h.0, no_keys ds h.1)

    each_once : (z : Tree) → times tree_cmp z (keys_of groups ++ e.key ∷ []) ≡ times tree_cmp z (distinct tree_cmp (entry_keys ++ e.key ∷ []))
    each_once z =
        let left = times-append tree_cmp z (keys_of groups) (e.key ∷ []) in
        let last = times-cons tree_cmp z e.key [] in
        let right = times-distinct tree_cmp tree_total tree_same z (entry_keys ++ e.key ∷ []) in
        let more = count_more z in
        let c = count z in
        either_way (is_eq (tree_cmp z e.key))
        (λ t.
        let one : ◌≡◌ {A = ℕ} (cond (is_eq (tree_cmp z e.key)) 1 0) 1 = ap (λ b. cond b 1 0) t in
        let none : times tree_cmp z entry_keys ≡ 0 = ap (λ k. times tree_cmp k entry_keys) (tree_same z e.key (eq_is (tree_cmp z e.key) t)) ∙ none_yet in
        omega (arith, left, last, right, more, c, one, none))
        (λ t.
        let no_one : ◌≡◌ {A = ℕ} (cond (is_eq (tree_cmp z e.key)) 1 0) 0 = ap (λ b. cond b 1 0) t in
        omega (arith, left, last, right, more, c, no_one))

    all_keys : keys_of (groups ++ w ∷ []) ≡ keys_of groups ++ e.key ∷ []
    all_keys = map-append (λ g. g.key) groups (w ∷ []) ∙ ap (λ k. keys_of groups ++ k ∷ []) same

    told_before : (hs : List Group) → AllByRecursion (IsOther e.key) hs → AllByRecursion (λ h. h.told ≡ map (found_by (rows_under h.key added)) cuts) hs
        → AllByRecursion (λ h. h.told ≡ map (found_by (rows_under h.key (added ++ e ∷ []))) cuts) hs
    told_before [] h q = tt
    told_before (g ∷ hs) h q = (told_other g h.0 q.0, told_before hs h.1 q.1)

    pub added_new : AreGroups cuts (added ++ e ∷ []) (groups ++ w ∷ [])
    added_new = record {
      keys =
          subst (λ ks. IsPermutation ks (distinct tree_cmp (map key_in (added ++ e ∷ [])))) (sym all_keys)
          (subst (λ ks. IsPermutation (keys_of groups ++ e.key ∷ []) (distinct tree_cmp ks)) (sym keys_more)
          (permutation_from_times tree_cmp tree_total tree_same (keys_of groups ++ e.key ∷ []) (distinct tree_cmp (entry_keys ++ e.key ∷ [])) each_once));
      told =
          each-append (λ h. h.told ≡ map (found_by (rows_under h.key (added ++ e ∷ []))) cuts) groups (w ∷ []) (told_before groups others are.told)
          (told_here w same (is ∙ ap (λ rows. map (found_by (rows ++ e.row ∷ [])) cuts) (sym no_rows)), tt);
    }
