-- The entries of runs, one run after another.
use Rattle.std.proofs.Common.{◌≡◌, List, [], ◌∷◌, ◌++◌, map, refl, sym, ◌∙◌, ap}
use Rattle.std.proofs.lemmas.List.{append_assoc}
use Rattle.pig_value.specs.Gathering.{Entry}
use Rattle.pig_value.specs.declared.operators.Dir.{Dir}
use Rattle.std.specs.List.{flat_map}
use Rattle.pig_value.specs.Sorts.{sort}
use Rattle.pig_value.proofs.list_laws.Bags.{sort-append, sorted_is, sort_ascends}
use Rattle.pig_runs.specs.Entries.{InDirections, entries_of_all, run_cmp, run_of}
use Rattle.pig_runs.proofs.Order.{run_total, run_same}

pub all-append : (xs ys : List InDirections) → entries_of_all (xs ++ ys) ≡ entries_of_all xs ++ entries_of_all ys
all-append [] ys = refl
all-append (x ∷ xs) ys = ap (λ l. x.entries ++ l) (all-append xs ys) ∙ sym (append_assoc x.entries (entries_of_all xs) (entries_of_all ys))

-- sorting again what was sorted list by list
sorted_lists : (ds : List Dir) (lists : List (List Entry)) → sort (run_cmp ds) (entries_of_all (map (run_of ds) lists)) ≡ sort (run_cmp ds) (flat_map (λ es. es) lists)
sorted_lists ds [] = refl
sorted_lists ds (es ∷ lists) =
    sort-append (run_cmp ds) (run_total ds) (run_same ds) (sort (run_cmp ds) es) es (entries_of_all (map (run_of ds) lists)) (flat_map (λ fs. fs) lists)
    (sorted_is (run_cmp ds) (sort (run_cmp ds) es) (sort_ascends (run_cmp ds) (run_total ds) es)) (sorted_lists ds lists)

pub merged_is : (ds : List Dir) (lists : List (List Entry)) → run_of ds (entries_of_all (map (run_of ds) lists)) ≡ run_of ds (flat_map (λ es. es) lists)
merged_is ds lists = ap (λ es. record { dirs = ds; entries = es }) (sorted_lists ds lists)
