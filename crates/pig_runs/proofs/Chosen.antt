-- The entry at a place of all entries in order: at most so many stand before it, and more are no greater.
use Rattle.std.proofs.Common.{◌≡◌, ◌<◌, ◌≤◌, ◌+◌, ◌-◌, ◌*◌, ◌/◌, ℕ, zero, suc, Bool, true, false, List, [], ◌∷◌, ◌++◌, cond, length, take, drop, get_or, refl, sym, ◌∙◌, ap, subst, arith}
use Rattle.std.specs.Prelude.{Some, not, slice_get, Option}
use Rattle.std.specs.Cmp.{IsTotalOrder}
use Rattle.std.specs.List.{AllByRecursion, filter}
use Rattle.std.specs.Ordering.{is_gt, is_lt}
use Rattle.std.specs.declared.cmp.Ordering.{Ordering}
use Rattle.std.specs.declared.cmp.Ordering.TheVariants.{Less, Equal, Greater}
use Rattle.std.proofs.lemmas.List.{append-nil, length-append, length-take-le, take_all}
use Rattle.std.proofs.lemmas.List.Sorted.{length_permutation}
use Rattle.std.proofs.lemmas.List.Elements.{filter-append}
use Rattle.std.proofs.lemmas.Option.{slice_get_read}
use Rattle.pig_value.specs.Gathering.{Entry}
use Rattle.pig_value.specs.Sorts.{Ascends, sort}
use Rattle.pig_value.specs.declared.operators.Dir.{Dir}
use Rattle.pig_value.proofs.list_laws.Bags.{either_way, rises_all, sort-filter, sort_ascends, sort_permutes}
use Rattle.pig_value.proofs.list_laws.Indexing.{get-drop, more_taken, some_at, take_one}
use Rattle.pig_value.proofs.list_laws.Listing.{each_at, each_weaker}
use Rattle.pig_runs.specs.Cutting.{Divides, HaveDirections, Points, cut_points, is_up_to, picked, points_at}
use Rattle.pig_runs.specs.Entries.{InDirections, and_entries, entries_of_all, no_entries_in, run_cmp}
use Rattle.pig_runs.proofs.Halving.{divided, stays_behind}
use Rattle.pig_runs.proofs.Merging.{all-append}
use Rattle.pig_runs.proofs.Order.{run_same, run_total}
use Rattle.pig_runs.proofs.Sliced.{cut_picked}

-- what is found among the first so many is found in all
get_taken : {X : Type 0} (n i : ℕ) (xs : List X) → i < n → slice_get (take n xs) i ≡ slice_get xs i
get_taken zero i xs h = absurd (omega (arith, h))
get_taken (suc n) i [] h = refl
get_taken (suc n) zero (x ∷ xs) h = refl
get_taken (suc n) (suc i) (x ∷ xs) h = get_taken n i xs (omega (arith, h))

fewer : {X : Type 0} (p : X → Bool) (xs : List X) → length (filter p xs) ≤ length xs
fewer p [] = omega arith
fewer p (x ∷ xs) = either_way (p x)
    (λ e. let rest = fewer p xs in let size : length (filter p (x ∷ xs)) ≡ suc (length (filter p xs)) = ap (λ b. length (cond b (x ∷ filter p xs) (filter p xs))) e in omega (arith, rest, size))
    (λ e. let rest = fewer p xs in let size : length (filter p (x ∷ xs)) ≡ length (filter p xs) = ap (λ b. length (cond b (x ∷ filter p xs) (filter p xs))) e in omega (arith, rest, size))

neither : (r : Ordering) → is_lt r ≡ false → not (is_gt r) ≡ true → r ≡ Equal
neither Less h k = absurd (cc)
neither Equal h k = refl
neither Greater h k = absurd (cc)

module _ {X : Type 0} (R : X → X → Ordering) (total : IsTotalOrder R) (z : X) where
  -- of sorted elements those up to z stand first
  up_to_first : (equal : Bool) (xs : List X) → Ascends R xs → Divides (λ x. is_up_to equal (R x z)) xs (length (filter (λ x. is_up_to equal (R x z)) xs))
  up_to_first equal [] h = record { first = tt; rest = tt }
  up_to_first equal (x ∷ xs) h = either_way (is_up_to equal (R x z))
      (λ e.
      let all : filter (λ y. is_up_to equal (R y z)) (x ∷ xs) ≡ x ∷ filter (λ y. is_up_to equal (R y z)) xs = ap (λ b. cond b (x ∷ filter (λ y. is_up_to equal (R y z)) xs) (filter (λ y. is_up_to equal (R y z)) xs)) e in
      let rest = up_to_first equal xs h.1 in
      subst (Divides (λ y. is_up_to equal (R y z)) (x ∷ xs)) (sym (ap length all)) (record { first = (e, rest.first); rest = rest.rest }))
      (λ e.
      let none : AllByRecursion (λ y. is_up_to equal (R y z) ≡ false) (x ∷ xs) =
      (e, each_weaker (λ y. is_gt (R x y) ≡ false) (λ y. is_up_to equal (R y z) ≡ false) (λ y k. stays_behind R total equal x y z e k) xs (rises_all R total x xs h.0 h.1))
      in
      subst (Divides (λ y. is_up_to equal (R y z)) (x ∷ xs)) (sym (ap length (nothing (λ y. is_up_to equal (R y z)) (x ∷ xs) none))) (record { first = tt; rest = none }))
    where
      nothing : (p : X → Bool) (ys : List X) → AllByRecursion (λ y. p y ≡ false) ys → filter p ys ≡ []
      nothing p [] k = refl
      nothing p (y ∷ ys) k = ap (λ b. cond b (y ∷ filter p ys) (filter p ys)) k.0 ∙ nothing p ys k.1

  pub chosen : ((x y : X) → R x y ≡ Equal → x ≡ y) → (xs : List X) (place : ℕ) → Ascends R xs → length (filter (λ x. is_up_to false (R x z)) xs) ≤ place → place < length (filter (λ x. is_up_to true (R x z)) xs)
      → slice_get xs place ≡ Some z
  chosen tells xs place up before until =
      let low = length (filter (λ x. is_up_to false (R x z)) xs) in
      let high = length (filter (λ x. is_up_to true (R x z)) xs) in
      let within : place < length xs = let size = fewer (λ x. is_up_to true (R x z)) xs in omega (arith, until, size) in
      let found = some_at xs place within in
      let offset : low + (place - low) ≡ place = omega (arith, before) in
      let behind : slice_get (drop low xs) (place - low) ≡ Some found.0 = get-drop xs low (place - low) ∙ (ap (slice_get xs) offset ∙ found.1) in
      let not_less : is_lt (R found.0 z) ≡ false = each_at (λ x. is_up_to false (R x z) ≡ false) (drop low xs) (place - low) found.0 behind (up_to_first false xs up).rest in
      let not_greater : not (is_gt (R found.0 z)) ≡ true =
      each_at (λ x. is_up_to true (R x z) ≡ true) (take high xs) place found.0 (get_taken high place xs until ∙ found.1) (up_to_first true xs up).first
      in
      found.1 ∙ ap Some (tells found.0 z (neither (R found.0 z) not_less not_greater))

-- ---- counts over all runs

length-sort : (ds : List Dir) (es : List Entry) → length (sort (run_cmp ds) es) ≡ length es
length-sort ds es = length_permutation es (sort (run_cmp ds) es) (sort_permutes (run_cmp ds) es)

-- sorting changes no count
sorted_count : (ds : List Dir) (p : Entry → Bool) (es : List Entry) → length (filter p (sort (run_cmp ds) es)) ≡ length (filter p es)
sorted_count ds p es = sym (ap length (sort-filter (run_cmp ds) (run_total ds) p (run_same ds) es)) ∙ length-sort ds (filter p es)

pub stands_there : (ds : List Dir) (es : List Entry) (f : Entry) (place before until : ℕ) → before ≡ length (filter (λ e. is_up_to false (run_cmp ds e f)) es) → until ≡ length (filter (λ e. is_up_to true (run_cmp ds e f)) es)
    → before ≤ place → place < until → slice_get (sort (run_cmp ds) es) place ≡ Some f
stands_there ds es f place before until low high above below =
    let first = sorted_count ds (λ e. is_up_to false (run_cmp ds e f)) es in
    let last = sorted_count ds (λ e. is_up_to true (run_cmp ds e f)) es in
    chosen (run_cmp ds) (run_total ds) f (run_same ds) (sort (run_cmp ds) es) place (sort_ascends (run_cmp ds) (run_total ds) es) (omega (arith, low, first, above)) (omega (arith, high, last, below))

all_more : (runs : List InDirections) (i : ℕ) (run : InDirections) → i < length runs → run ≡ get_or runs i run → entries_of_all (take (i + 1) runs) ≡ entries_of_all (take i runs) ++ run.entries
all_more runs i run within at =
    ap entries_of_all (more_taken runs i run (slice_get_read runs (length runs) i run refl within at))
    ∙ (all-append (take i runs) (run ∷ []) ∙ ap (λ l. entries_of_all (take i runs) ++ l) (append-nil run.entries))

-- the count of one run more
pub counted_more : (p : Entry → Bool) (runs : List InDirections) (i : ℕ) (run lent : InDirections) (total count new : ℕ) → i < length runs → run ≡ get_or runs i run → lent ≡ run → count ≤ length lent.entries
    → Divides p lent.entries count → total ≡ length (filter p (entries_of_all (take i runs))) → new ≡ total + count → new ≡ length (filter p (entries_of_all (take (i + 1) runs)))
counted_more p runs i run lent total count new within at same bound parts so_far is =
    let own : length (filter p run.entries) ≡ count =
    ap (λ r. length (filter p r.entries)) (sym same) ∙ (ap length (divided p lent.entries count parts) ∙ length-take-le count lent.entries bound)
    in
    let all : length (filter p (entries_of_all (take (i + 1) runs))) ≡ length (filter p (entries_of_all (take i runs))) + length (filter p run.entries) =
    ap (λ es. length (filter p es)) (all_more runs i run within at)
    ∙ (ap length (filter-append p (entries_of_all (take i runs)) run.entries) ∙ length-append (filter p (entries_of_all (take i runs))) (filter p run.entries))
    in
    omega (arith, own, all, so_far, is)

-- the same by what a search in that run says
pub counted_run : (equal : Bool) (other given : InDirections) (at : ℕ) (runs seen : List InDirections) (i : ℕ) (run lent : InDirections) (total count new : ℕ) (f : Entry) → HaveDirections other.dirs runs → seen ≡ runs
    → i < length seen → run ≡ get_or seen i run → lent ≡ run → given ≡ other → count ≤ length lent.entries
    → ((g : Entry) → slice_get given.entries at ≡ Some g → Divides (λ e. is_up_to equal (run_cmp lent.dirs e g)) lent.entries count) → slice_get other.entries at ≡ Some f
    → total ≡ length (filter (λ e. is_up_to equal (run_cmp other.dirs e f)) (entries_of_all (take i seen))) → new ≡ total + count
    → new ≡ length (filter (λ e. is_up_to equal (run_cmp other.dirs e f)) (entries_of_all (take (i + 1) seen)))
counted_run equal other given at runs seen i run lent total count new f alike same_runs within is_at same same_other bound parts here so_far is =
    let found = slice_get_read seen (length seen) i run refl within is_at in
    let dirs : lent.dirs ≡ other.dirs = ap (λ r. r.dirs) same ∙ each_at (λ r. r.dirs ≡ other.dirs) seen i run found (subst (HaveDirections other.dirs) (sym same_runs) alike) in
    let divides = subst (λ ds. Divides (λ e. is_up_to equal (run_cmp ds e f)) lent.entries count) dirs (parts f (ap (λ o. slice_get o.entries at) same_other ∙ here)) in
    counted_more (λ e. is_up_to equal (run_cmp other.dirs e f)) seen i run lent total count new within is_at same bound divides so_far is

-- the count over all of them
pub counted_all : (p : Entry → Bool) (runs seen : List InDirections) (i total : ℕ) → seen ≡ runs → length seen ≤ i → total ≡ length (filter p (entries_of_all (take i seen))) → total ≡ length (filter p (entries_of_all runs))
counted_all p runs seen i total same past is = is ∙ ap (λ rs. length (filter p (entries_of_all rs))) (take_all i seen past ∙ same)

pub entries_more : (runs : List InDirections) (i : ℕ) (run : InDirections) (total count new : ℕ) → i < length runs → run ≡ get_or runs i run → count ≡ length run.entries → total ≡ length (entries_of_all (take i runs))
    → new ≡ total + count → new ≡ length (entries_of_all (take (i + 1) runs))
entries_more runs i run total count new within at size so_far is =
    let all = ap length (all_more runs i run within at) ∙ length-append (entries_of_all (take i runs)) run.entries in
    omega (arith, size, so_far, is, all)

-- ---- the points

-- a copy of the entry that is found is the one at the place
pub chosen_copy : (ds : List Dir) (runs : List InDirections) (number : ℕ) (run lent : InDirections) (at place : ℕ) (b new : InDirections) → HaveDirections ds runs → slice_get runs number ≡ Some run → lent ≡ run
    → at < length run.entries → ((f : Entry) → slice_get run.entries at ≡ Some f → slice_get (sort (run_cmp run.dirs) (entries_of_all runs)) place ≡ Some f) → new ≡ and_entries (take 1 (drop at lent.entries)) b
    → new ≡ and_entries (take 1 (drop place (sort (run_cmp ds) (entries_of_all runs)))) b
chosen_copy ds runs number run lent at place b new alike here same within stands is =
    let found = some_at run.entries at within in
    let dirs : run.dirs ≡ ds = each_at (λ r. r.dirs ≡ ds) runs number run here alike in
    let there : slice_get (sort (run_cmp ds) (entries_of_all runs)) place ≡ Some found.0 = subst (λ d. slice_get (sort (run_cmp d) (entries_of_all runs)) place ≡ Some found.0) dirs (stands found.0 found.1) in
    is
    ∙ (ap (λ r. and_entries (take 1 (drop at r.entries)) b) same
    ∙ ap (λ l. and_entries l b) (take_one run.entries at found.0 found.1 ∙ sym (take_one (sort (run_cmp ds) (entries_of_all runs)) place found.0 there)))

-- one more point
pub chosen_step : (ds : List Dir) (n m k place : ℕ) (es : List Entry) (b new : InDirections) → b.dirs ≡ ds → m ≡ length es → place ≡ ((k + 1) * m) / n → new ≡ and_entries (take 1 (drop place (sort (run_cmp b.dirs) es))) b
    → new ≡ and_entries (take 1 (drop (((k + 1) * length (sort (run_cmp ds) es)) / n) (sort (run_cmp ds) es))) b
chosen_step ds n m k place es b new dirs size is added =
    let all : m ≡ length (sort (run_cmp ds) es) = size ∙ sym (length-sort ds es) in
    added
    ∙ (ap (λ d. and_entries (take 1 (drop place (sort (run_cmp d) es))) b) dirs
    ∙ ap (λ q. and_entries (take 1 (drop q (sort (run_cmp ds) es))) b) (is ∙ ap (λ q. ((k + 1) * q) / n) all))

pub cut_chosen : (ds : List Dir) (n : ℕ) (es : List Entry) (b : InDirections) → 0 < n → 0 < length es → b ≡ and_entries (picked n (sort (run_cmp ds) es) (n - 1)) (no_entries_in ds)
    → ◌≡◌ {A = Points} (record { dirs = b.dirs; points = points_at b.entries 0 }) (record { dirs = ds; points = cut_points n (sort (run_cmp ds) es) })
cut_chosen ds n es b many some is =
    ap seen is ∙ ap with_points (cut_picked n (sort (run_cmp ds) es) many (let size = length-sort ds es in omega (arith, some, size)))
  where
    seen : InDirections → Points
    seen c = record { dirs = c.dirs; points = points_at c.entries 0 }

    with_points : List (Option Entry) → Points
    with_points ps = record { dirs = ds; points = ps }
