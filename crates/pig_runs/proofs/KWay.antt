-- Sorted lists of items that are merged by the kit's k-way merge, by fronts and bytes.
use Rattle.std.proofs.Common.{◌≡◌, Vec, Global, List, [], ◌∷◌, ◌++◌, length, map, true, sym, ◌∙◌, ap, subst}
use Rattle.std.specs.Prelude.{Bool, All, Option, Result, Ok, Err, IfOk, IsPermutation}
use Rattle.std.specs.Iterator.{AlwaysYields, DrainsIf, YieldsFirst}
use Rattle.std.specs.Iterator.Runs.{Run, WholeRun, YieldsRun}
use Rattle.std.specs.declared.vec.IntoIter.{IntoIter}
use Rattle.std.proofs.iter.Yields.{listed}
use Rattle.std.proofs.IntoIterSteps.{takes, taken, All-taken}
use Rattle.itertools.specs.KMerge.{SourcesGive}
use Rattle.std.specs.List.{AllByRecursion, flat_map}
use Rattle.std.specs.List.Sorted.{IsSortedBy}
use Rattle.std.proofs.lemmas.List.{append-nil}
use Rattle.std.proofs.lemmas.List.Elements.{All-nil, All-cons}
use Rattle.pig_value.specs.Sorts.{sort, Ascends}
use Rattle.pig_value.proofs.list_laws.Listing.{each-append}
use Rattle.pig_runs.specs.Packed.{FrontedEntry, Packed, fronted_entry_cmp, packed_cmp}
use Rattle.pig_runs.proofs.ByFronts.{before, before_each, each_along, items_sorted}

-- calls that went on to the end gave the items
pub run_drains : {S A : Type 0} {steps : S → Option A → S → Type 0} (p : Run steps) → DrainsIf steps (p.whole ≡ true) p.from p.items
unfolding YieldsRun
run_drains p = p.gave.0

-- the items of a list came
pub came : {Y : Type 0} (p : Run (takes {X = Y} {A = Global})) (start : IntoIter Y Global) (all : List Y) → p.from ≡ start → p.whole ≡ true → start.rest.items ≡ all → p.items ≡ all
came p start all from whole is =
    let d = run_drains p in
    All-taken p.from p.items ((d.2 whole).0, (d.0, d.1, (d.2 whole).1)) ∙ (ap (λ s. s.rest.items) from ∙ is)

-- what shows the items that are left gives these
module _ {X : Type 0} where
  abbrev pub shows : List X → Option X → List X → Type 0
  shows = YieldsFirst (λ rest. rest)

  shown : (xs : List X) → AlwaysYields shows (λ x. x) xs xs
  shown = listed {B = X} shows (λ x. x) (λ rest. rest) (λ s t p. ap length p.0) (λ s x t p. p)

  own_give : {gives : List X → List X → Type 0} → ((u j : List X) → gives u j → j ≡ u) → (lists : List (List X)) → SourcesGive gives shows lists lists
  own_give {gives} told [] = tt
  own_give {gives} told (u ∷ lists) = ((λ j g. subst (AlwaysYields shows (λ x. x) j) (told u j g) (shown j)), own_give {gives = gives} told lists)

  pub own_sources : {gives : List X → List X → Type 0} (us lists : List (List X)) → us ≡ lists → ((u j : List X) → gives u j → j ≡ u) → SourcesGive gives shows us lists
  own_sources {gives} us lists is told = subst (λ l. SourcesGive gives shows l lists) (sym is) (own_give {gives = gives} told lists)

-- the lists of a list of lists are its items, and each gives its own items
module _ {X : Type 0} where
  each_gives : {gives : Vec X Global → IntoIter X Global → Type 0} → ((u : Vec X Global) (j : IntoIter X Global) → gives u j → j.rest.items ≡ u.items)
      → (lists : List (Vec X Global)) → SourcesGive gives (takes {X = X} {A = Global}) lists (map (λ l. l.items) lists)
  each_gives {gives} told [] = tt
  each_gives {gives} told (u ∷ lists) = ((λ j g. subst (AlwaysYields takes (λ x. x) j) (told u j g) (taken j)), each_gives {gives = gives} told lists)

  pub sources : {gives : Vec X Global → IntoIter X Global → Type 0} (us lists : List (Vec X Global)) → us ≡ lists
      → ((u : Vec X Global) (j : IntoIter X Global) → gives u j → j.rest.items ≡ u.items) → SourcesGive gives (takes {X = X} {A = Global}) us (map (λ l. l.items) lists)
  sources {gives} us lists is told = subst (λ l. SourcesGive gives takes l (map (λ l. l.items) lists)) (sym is) (each_gives {gives = gives} told lists)

-- what is collected of the items of a run that are shown
pub shown_run : {K M X Y E : Type 0} {steps : K → Option X → K → Type 0} {maps : M → Option Y → M → Type 0} (show : X → Y) (k : K) (m : M) (r : Result (Vec Y Global) E)
    → IfOk r (λ v. WholeRun maps m (λ p. v.items ≡ p.items))
    → ((p : Run maps) → p.from ≡ m → (q : Run steps) × (q.from ≡ k) × (q.whole ≡ p.whole) × (p.items ≡ map show q.items))
    → IfOk r (λ v. WholeRun steps k (λ q. v.items ≡ map show q.items))
shown_run show k m (Err u) all of = tt
shown_run show k m (Ok v) all of = let q = of all.0 all.1 in (q.0, q.1, q.2 ∙ all.2, all.3 ∙ q.3)

-- lists, one behind another
abbrev pub in_turn : {X : Type 0} → List (List X) → List X
in_turn lists = flat_map (λ list. list) lists

module _ {X : Type 0} (fronted : X → FrontedEntry) (found : X → Packed) (Good : X → Type 0)
    (order : (x y : X) → Good x → Good y → fronted_entry_cmp (fronted x) (fronted y) ≡ packed_cmp (found x) (found y)) where
  -- a list of good items that are sorted by what they find
  pub record IsList (list : List X) : Type 0 where
    pub good : AllByRecursion Good list
    pub sorted : Ascends packed_cmp (map found list)

  good_in_turn : (lists : List (List X)) → AllByRecursion IsList lists → AllByRecursion Good (in_turn lists)
  good_in_turn [] h = tt
  good_in_turn (list ∷ lists) h = each-append Good list (in_turn lists) h.0.good (good_in_turn lists h.1)

  pub lists_sorted : (lists : List (List X)) → AllByRecursion IsList lists → All (IsSortedBy (before fronted found Good order)) lists
  lists_sorted [] h = All-nil (IsSortedBy (before fronted found Good order))
  lists_sorted (list ∷ lists) h =
      All-cons (IsSortedBy (before fronted found Good order)) list lists (before_each fronted found Good order list h.0.good h.0.sorted) (lists_sorted lists h.1)

  -- all of the items, in order
  merged_all : (lists : List (List X)) (done rest : List X) → AllByRecursion IsList lists → IsPermutation (in_turn lists) (done ++ rest) → rest ≡ [] → IsSortedBy (before fronted found Good order) done
      → (map found done ≡ sort packed_cmp (map found (in_turn lists))) × IsPermutation (in_turn lists) done
  merged_all lists done rest h moved none sorted =
      let whole : IsPermutation (in_turn lists) done = subst (IsPermutation (in_turn lists)) (ap (λ l. done ++ l) none ∙ append-nil done) moved in
      (items_sorted fronted found Good order (in_turn lists) done (good_in_turn lists h) whole sorted, whole)

  abbrev pub InOrder : List (List X) → Vec X Global → Type 0
  InOrder lists v = map found v.items ≡ sort packed_cmp (map found (in_turn lists))

  abbrev pub AreGood : Vec X Global → Type 0
  AreGood v = AllByRecursion Good v.items

  -- what is collected of a merge
  pub merged_is : {K E : Type 0} (steps : K → Option X → K → Type 0) (m : K) (r : Result (Vec X Global) E) (lists : List (List X)) → AllByRecursion IsList lists
      → ((xs : List X) (whole : Bool) → DrainsIf steps (whole ≡ true) m xs → (rest : List X) × IsPermutation (in_turn lists) (xs ++ rest) × (whole ≡ true → rest ≡ []))
      → ((xs : List X) (whole : Bool) → DrainsIf steps (whole ≡ true) m xs → IsSortedBy (before fronted found Good order) xs)
      → IfOk r (λ v. WholeRun steps m (λ q. v.items ≡ q.items))
      → IfOk r (InOrder lists) × IfOk r AreGood
  merged_is steps m (Err u) lists h gives up runs = (tt, tt)
  merged_is steps m (Ok v) lists h gives up runs =
      let q = runs.0 in
      let drains : DrainsIf steps (q.whole ≡ true) m q.items = subst (λ s. DrainsIf steps (q.whole ≡ true) s q.items) runs.1 (run_drains q) in
      let given = gives q.items q.whole drains in
      let all = merged_all lists q.items given.0 h given.1 (given.2 runs.2) (up q.items q.whole drains) in (
        ap (map found) runs.3 ∙ all.0,
        subst (AllByRecursion Good) (sym runs.3) (each_along Good (in_turn lists) q.items all.1 (good_in_turn lists h)),
      )

  -- what is shown of the items of a merge: of items that are good and in order
  abbrev pub ShowsInOrder : {Y : Type 0} → (X → Y) → List (List X) → Vec Y Global → Type 0
  ShowsInOrder show lists v = (xs : List X) × (v.items ≡ map show xs) × (map found xs ≡ sort packed_cmp (map found (in_turn lists))) × AllByRecursion Good xs

  pub shown_is : {Y K E : Type 0} (show : X → Y) (steps : K → Option X → K → Type 0) (m : K) (r : Result (Vec Y Global) E) (lists : List (List X)) → AllByRecursion IsList lists
      → ((xs : List X) (whole : Bool) → DrainsIf steps (whole ≡ true) m xs → (rest : List X) × IsPermutation (in_turn lists) (xs ++ rest) × (whole ≡ true → rest ≡ []))
      → ((xs : List X) (whole : Bool) → DrainsIf steps (whole ≡ true) m xs → IsSortedBy (before fronted found Good order) xs)
      → IfOk r (λ v. WholeRun steps m (λ q. v.items ≡ map show q.items))
      → IfOk r (ShowsInOrder show lists)
  shown_is show steps m (Err u) lists h gives up runs = tt
  shown_is show steps m (Ok v) lists h gives up runs =
      let q = runs.0 in
      let drains : DrainsIf steps (q.whole ≡ true) m q.items = subst (λ s. DrainsIf steps (q.whole ≡ true) s q.items) runs.1 (run_drains q) in
      let given = gives q.items q.whole drains in
      let all = merged_all lists q.items given.0 h given.1 (given.2 runs.2) (up q.items q.whole drains) in
      (q.items, runs.3, all.0, each_along Good (in_turn lists) q.items all.1 (good_in_turn lists h))
