-- Entries that tasks combine are folded, part by part of the keys, to what the FOREACH makes of the GROUP of all entries.
use Rattle.std.proofs.Common.{◌≡◌, refl, sym, ap, ◌∙◌, subst, cond}
use Rattle.std.specs.Prelude.{◌==◌, ℕ, Bool, true, false, not, List, [], ◌∷◌, ◌++◌, map, drop, Option, Some, None, ⊤}
use Rattle.std.specs.List.{AllByRecursion, filter, flat_map, range_with_len}
use Rattle.std.specs.List.Sorted.{IsPermutation}
use Rattle.std.specs.Option.{is_some, unwrap_or}
use Rattle.std.specs.Ordering.{is_eq}
use Rattle.std.proofs.lemmas.Cmp.{tied_itself}
use Rattle.std.proofs.lemmas.List.Concat.{flat_map_single}
use Rattle.std.proofs.lemmas.List.Folds.{flat_map-map}
use Rattle.std.proofs.lemmas.List.Sorted.{IsPermutation-map, IsPermutation-sym}
use Rattle.pig_value.specs.Functions.{bag_tree}
use Rattle.pig_value.specs.Gathering.{Entry, in_part, with_key}
use Rattle.pig_value.specs.Orders.{row_cmp, tree_cmp}
use Rattle.pig_value.specs.Sorts.{distinct, put, sort}
use Rattle.pig_value.specs.Trees.{Tree, at, or_null}
use Rattle.pig_value.proofs.OrderLaws.{row_same, row_total, tree_same, tree_total}
use Rattle.pig_value.proofs.list_laws.Bags.{bag_from_permutation, eq_is, sort_permutes}
use Rattle.pig_value.proofs.list_laws.Distinct.{distinct_flat, each-distinct, filter-distinct}
use Rattle.pig_value.proofs.list_laws.Listing.{each-append, each-filter, each-map, each_filtered, each_of_all, each_weaker, filter-flat_map, filter-map, filter_all, filter_none, flat_map_each, map-flat_map}
use Rattle.pig_value.proofs.list_laws.Partitions.{by_key_permuted, by_key_tasks}
use Rattle.pig_value.proofs.list_laws.Permutations.{IsPermutation-flat_map_each, IsPermutation-same}
use Rattle.pig_typed.specs.Blocks.{foreach_all, foreach_rows}
use Rattle.pig_typed.specs.Typed.{TypedBlock}
use Rattle.pig_builtins.proofs.Merging.{in_any_order}
use Rattle.pig_algebra.specs.Combining.{CombinersLaw, SortedCombinersLaw, combined, finished, first_rows, folded, grouped, handed_to, parts_by, parts_of_rows}
use Rattle.pig_algebra.specs.Cuts.{TypedCut, c_key, c_part, c_row, cuts_in, cuts_of}
use Rattle.pig_algebra.specs.Parts.{merging}
use Rattle.pig_algebra.proofs.Combined.{all_in, finishes_row}

abbrev Rows : Type 0
Rows = List (List Tree)

-- what parts are made of: a key and its rows
abbrev Making : Type 0
Making = Tree → Rows → List Tree

abbrev key_in : Entry → Tree
key_in e = e.key

abbrev row_in : Entry → List Tree
row_in e = e.row

abbrev under : Tree → List Entry → List Entry
under = with_key tree_cmp key_in

abbrev keys_in : List Entry → List Tree
keys_in es = distinct tree_cmp (map key_in es)

-- ---- one task and one key

abbrev once : Tree → List Entry → List Tree
once k [] = []
once k (u ∷ us) = k ∷ []

have_key : (k : Tree) (es : List Entry) → AllByRecursion (λ e. e.key ≡ k) (under k es)
have_key k es =
    each_weaker (λ e. is_eq (tree_cmp e.key k) ≡ true) (λ e. e.key ≡ k) (λ e h. tree_same e.key k (eq_is (tree_cmp e.key k) h))
    (under k es) (each_filtered (λ e. is_eq (tree_cmp e.key k)) es)

distinct_once : (k : Tree) (us : List Entry) → AllByRecursion (λ e. e.key ≡ k) us → keys_in us ≡ once k us
distinct_once k [] h = refl
distinct_once k (u ∷ us) h =
    let others : filter (λ y. not (is_eq (tree_cmp u.key y))) (keys_in us) ≡ [] =
    filter_none (λ y. not (is_eq (tree_cmp u.key y))) (keys_in us)
    (each-distinct tree_cmp (λ y. not (is_eq (tree_cmp u.key y)) ≡ false) (map key_in us)
    (each-map (λ y. not (is_eq (tree_cmp u.key y)) ≡ false) key_in us
    (each_weaker (λ e. e.key ≡ k) (λ e. not (is_eq (tree_cmp u.key e.key)) ≡ false)
    (λ e q. ap (λ y. not (is_eq (tree_cmp u.key y))) (q ∙ sym h.0) ∙ ap (λ o. not (is_eq o)) (tied_itself tree_total u.key)) us h.1))) in
    ap (put tree_cmp u.key) others ∙ ap (λ y. y ∷ []) h.0

-- the entry of a key
abbrev entry_for : Making → List Entry → Tree → Entry
entry_for parts es k = record { key = k; input = 0; row = parts k (map row_in (under k es)) }

-- what a task combines has one entry for a key that is there, and none for another
under_combined : (parts : Making) (k : Tree) (es : List Entry) → under k (combined parts es) ≡ map (entry_for parts es) (once k (under k es))
under_combined parts k es =
    ap (under k) (flat_map_single (entry_for parts es) (keys_in es))
    ∙ filter-map (λ e. is_eq (tree_cmp e.key k)) (entry_for parts es) (keys_in es)
    ∙ ap (map (entry_for parts es))
    (filter-distinct tree_cmp tree_total tree_same (λ l. is_eq (tree_cmp l k)) (map key_in es)
    ∙ ap (distinct tree_cmp) (filter-map (λ l. is_eq (tree_cmp l k)) key_in es)
    ∙ distinct_once k (under k es) (have_key k es))

-- the parts of entries with the key, where there are any
abbrev shared : Making → Tree → List Entry → Rows
shared parts k [] = []
shared parts k (u ∷ us) = parts k (map row_in (u ∷ us)) ∷ []

rows_once : (parts : Making) (k : Tree) (es us : List Entry) → us ≡ under k es → map row_in (map (entry_for parts es) (once k us)) ≡ shared parts k us
rows_once parts k es [] h = refl
rows_once parts k es (u ∷ us) h = ap (λ vs. parts k (map row_in vs) ∷ []) (sym h)

-- ---- all tasks and one key

abbrev filled : List (List Entry) → List (List Entry)
filled [] = []
filled ([] ∷ lists) = filled lists
filled ((e ∷ es) ∷ lists) = (e ∷ es) ∷ filled lists

shared_filled : (parts : Making) (k : Tree) (lists : List (List Entry)) → flat_map (shared parts k) lists ≡ map (parts k) (map (map row_in) (filled lists))
shared_filled parts k [] = refl
shared_filled parts k ([] ∷ lists) = shared_filled parts k lists
shared_filled parts k ((e ∷ es) ∷ lists) = ap (λ ps. parts k (map row_in (e ∷ es)) ∷ ps) (shared_filled parts k lists)

all_filled : (lists : List (List Entry)) → all_in (filled lists) ≡ all_in lists
all_filled [] = refl
all_filled ([] ∷ lists) = all_filled lists
all_filled ((e ∷ es) ∷ lists) = ap (λ ds. (e ∷ es) ++ ds) (all_filled lists)

-- the entries with a key, task by task
abbrev lists_under : Tree → List (List Entry) → List (List Entry)
lists_under k tasks = map (under k) tasks

parts_of_tasks : (parts : Making) (k : Tree) (tasks : List (List Entry))
    → map row_in (under k (flat_map (combined parts) tasks)) ≡ map (parts k) (map (map row_in) (filled (lists_under k tasks)))
parts_of_tasks parts k tasks =
    ap (map row_in) (filter-flat_map (λ e. is_eq (tree_cmp e.key k)) (combined parts) tasks)
    ∙ map-flat_map row_in (λ es. under k (combined parts es)) tasks
    ∙ flat_map_each (λ es. map row_in (under k (combined parts es))) (λ es. shared parts k (under k es)) tasks
    (each_of_all (λ es. map row_in (under k (combined parts es)) ≡ shared parts k (under k es))
    (λ es. ap (map row_in) (under_combined parts k es) ∙ rows_once parts k es (under k es) refl) tasks)
    ∙ sym (flat_map-map (shared parts k) (under k) tasks)
    ∙ shared_filled parts k (lists_under k tasks)

rows_of_tasks : (k : Tree) (tasks : List (List Entry)) → all_in (map (map row_in) (filled (lists_under k tasks))) ≡ map row_in (under k (all_in tasks))
rows_of_tasks k tasks =
    flat_map-map (λ rows. rows) (map row_in) (filled (lists_under k tasks))
    ∙ sym (map-flat_map row_in (λ es. es) (filled (lists_under k tasks)))
    ∙ ap (map row_in)
    (all_filled (lists_under k tasks)
    ∙ flat_map-map (λ es. es) (under k) tasks
    ∙ sym (filter-flat_map (λ e. is_eq (tree_cmp e.key k)) (λ es. es) tasks))

abbrev IsHere : {X : Type 0} → List X → Type 0
IsHere [] = ⊥
IsHere (x ∷ xs) = ⊤

here_mapped : (es : List Entry) → IsHere es → IsHere (map row_in es)
here_mapped [] h = h
here_mapped (e ∷ es) h = tt

module _ (block : TypedBlock) (cuts : List TypedCut) (has : cuts_of block ≡ Some cuts) where
  of_filled : (k : Tree) (lists : List (List Entry)) (given whole : Rows) → given ≡ map (parts_by cuts k) (map (map row_in) lists) → all_in (map (map row_in) lists) ≡ whole → IsHere whole
      → finished cuts k given ∷ [] ≡ foreach_rows block (k ∷ bag_tree whole ∷ [])
  of_filled k [] given whole p q h = absurd (subst IsHere (sym q) h)
  of_filled k (l ∷ lists) given whole p q h =
      ap (λ ps. finished cuts k ps ∷ []) p
      ∙ sym (finishes_row block cuts has k (map row_in l) (map (map row_in) lists))
      ∙ ap (λ rows. foreach_rows block (k ∷ bag_tree rows ∷ [])) q

  of_key : (k : Tree) (tasks : List (List Entry)) → IsHere (under k (all_in tasks))
      → finished cuts k (map row_in (under k (flat_map (combined (parts_by cuts)) tasks))) ∷ [] ≡ foreach_rows block (k ∷ bag_tree (map row_in (under k (all_in tasks))) ∷ [])
  of_key k tasks h =
      of_filled k (filled (lists_under k tasks)) (map row_in (under k (flat_map (combined (parts_by cuts)) tasks))) (map row_in (under k (all_in tasks)))
      (parts_of_tasks (parts_by cuts) k tasks) (rows_of_tasks k tasks) (here_mapped (under k (all_in tasks)) h)

-- ---- the keys

keys_alone : (parts : Making) (es : List Entry) (ks : List Tree) → map key_in (flat_map (λ k. entry_for parts es k ∷ []) ks) ≡ ks
keys_alone parts es [] = refl
keys_alone parts es (k ∷ ks) = ap (λ ls. k ∷ ls) (keys_alone parts es ks)

keys_of_tasks : (parts : Making) (tasks : List (List Entry)) → keys_in (flat_map (combined parts) tasks) ≡ keys_in (all_in tasks)
keys_of_tasks parts tasks =
    ap (distinct tree_cmp)
    (map-flat_map key_in (combined parts) tasks
    ∙ flat_map_each (λ es. map key_in (combined parts es)) keys_in tasks
    (each_of_all (λ es. map key_in (combined parts es) ≡ keys_in es) (λ es. keys_alone parts es (keys_in es)) tasks)
    ∙ sym (flat_map-map (distinct tree_cmp) (map key_in) tasks))
    ∙ distinct_flat tree_cmp tree_total tree_same (map (map key_in) tasks)
    ∙ ap (distinct tree_cmp) (flat_map-map (λ ks. ks) (map key_in) tasks ∙ sym (map-flat_map key_in (λ es. es) tasks))

here_more : (test : Entry → Bool) (e : Entry) (es : List Entry) → IsHere (filter test es) → IsHere (filter test (e ∷ es))
here_more test e es h = kept (test e)
  where
    kept : (b : Bool) → IsHere (cond b (e ∷ filter test es) (filter test es))
    kept true = tt
    kept false = h

each_there : (es : List Entry) → AllByRecursion (λ e. IsHere (under e.key es)) es
each_there [] = tt
each_there (e ∷ es) = (
  subst (λ o. IsHere (cond (is_eq o) (e ∷ under e.key es) (under e.key es))) (sym (tied_itself tree_total e.key)) tt,
  each_weaker (λ d. IsHere (under d.key es)) (λ d. IsHere (under d.key (e ∷ es))) (λ d h. here_more (λ x. is_eq (tree_cmp x.key d.key)) e es h) es (each_there es),
)

keys_there : (es : List Entry) → AllByRecursion (λ k. IsHere (under k es)) (keys_in es)
keys_there es = each-distinct tree_cmp (λ k. IsHere (under k es)) (map key_in es) (each-map (λ k. IsHere (under k es)) key_in es (each_there es))

-- ---- all keys

abbrev OfOneInput : List Entry → Type 0
OfOneInput = AllByRecursion (λ e. e.input ≡ 0)

all_of_one : (tasks : List (List Entry)) → AllByRecursion OfOneInput tasks → OfOneInput (all_in tasks)
all_of_one [] h = tt
all_of_one (es ∷ tasks) h = each-append (λ e. e.input ≡ 0) es (all_in tasks) h.0 (all_of_one tasks h.1)

first_of_one : (k : Tree) (es : List Entry) → OfOneInput es → first_rows (under k es) ≡ map row_in (under k es)
first_of_one k es h =
    ap (map row_in)
    (filter_all (λ e. e.input == 0) (under k es)
    (each_weaker (λ e. e.input ≡ 0) (λ e. (e.input == 0) ≡ true) (λ e q. ap (λ i. i == 0) q) (under k es)
    (each-filter (λ e. is_eq (tree_cmp e.key k)) (λ e. e.input ≡ 0) es h)))

-- the group of a key
abbrev group_for : List Entry → Tree → List Tree
group_for es k = k ∷ bag_tree (first_rows (under k es)) ∷ []

module _ (block : TypedBlock) (has : cuts_of block ≡ Some (cuts_in block)) where
  abbrev finished_for : List Entry → Tree → Rows
  finished_for es k = finished (cuts_in block) k (map row_in (under k es)) ∷ []

  folds_tasks : (tasks : List (List Entry)) → OfOneInput (all_in tasks)
      → folded block (flat_map (combined (parts_of_rows block)) tasks) ≡ foreach_all block (grouped (all_in tasks))
  folds_tasks tasks h =
      let all : List Entry = all_in tasks in
      let shares : List Entry = flat_map (combined (parts_of_rows block)) tasks in
      ap (flat_map (finished_for shares)) (keys_of_tasks (parts_of_rows block) tasks)
      ∙ flat_map_each (finished_for shares) (λ k. foreach_rows block (group_for all k)) (keys_in all)
      (each_weaker (λ k. IsHere (under k all)) (λ k. finished_for shares k ≡ foreach_rows block (group_for all k))
      (λ k there. of_key block (cuts_in block) has k tasks there ∙ ap (λ rows. foreach_rows block (k ∷ bag_tree rows ∷ [])) (sym (first_of_one k all h)))
      (keys_in all) (keys_there all))
      ∙ sym (ap (flat_map (foreach_rows block)) (flat_map_single (group_for all) (keys_in all)) ∙ flat_map-map (foreach_rows block) (group_for all) (keys_in all))

-- parts are finished in any order
finished_permuted : (cuts : List TypedCut) (key : Tree) (ps qs : Rows) → IsPermutation ps qs → finished cuts key ps ≡ finished cuts key qs
finished_permuted [] key ps qs h = refl
finished_permuted (c_key e ∷ cuts) key ps qs h = λ i. Rattle.pig_typed.specs.Evaluation.ev e (key ∷ []) [] ∷ finished_permuted cuts key ps qs h i
finished_permuted (c_row ∷ cuts) key ps qs h = λ i. key ∷ finished_permuted cuts key (map (drop 1) ps) (map (drop 1) qs) (IsPermutation-map (drop 1) ps qs h) i
finished_permuted (c_part function columns ∷ cuts) key ps qs h = λ i.
    or_null (in_any_order (merging function) (map (at 0) ps) (map (at 0) qs) (IsPermutation-map (at 0) ps qs h) i)
    ∷ finished_permuted cuts key (map (drop 1) ps) (map (drop 1) qs) (IsPermutation-map (drop 1) ps qs h) i

has_cuts : (o : Option (List TypedCut)) → is_some o ≡ true → o ≡ Some (unwrap_or o [])
has_cuts (Some cuts) h = refl
has_cuts None h = absurd (cc)

pub combiners_law : CombinersLaw
combiners_law block h part n below tasks inputs given shuffled =
    let make : Tree → List Entry → Rows = λ k es. finished (cuts_in block) k (map row_in es) ∷ [] in
    let alike : (k : Tree) (us vs : List Entry) → IsPermutation us vs → make k us ≡ make k vs =
    λ k us vs q. ap (λ row. row ∷ []) (finished_permuted (cuts_in block) k (map row_in us) (map row_in vs) (IsPermutation-map row_in us vs q)) in
    let shares : List (List Entry) = map (combined (parts_of_rows block)) tasks in
    let to_part : ℕ → List Entry → List Entry = λ p. in_part (λ e. part e.key) p in
    let whole : Rows = foreach_all block (grouped (all_in tasks)) in
    let by_parts : IsPermutation (flat_map (λ p. folded block (flat_map (to_part p) shares)) (range_with_len 0 n)) whole =
    subst (IsPermutation (flat_map (λ p. folded block (flat_map (to_part p) shares)) (range_with_len 0 n)))
    (ap (folded block) (flat_map-map (λ es. es) (combined (parts_of_rows block)) tasks) ∙ folds_tasks block (has_cuts (cuts_of block) h) tasks (all_of_one tasks inputs))
    (by_key_tasks tree_cmp tree_total tree_same key_in make part n below alike shares (all_in shares) (IsPermutation-same (all_in shares) (all_in shares) refl)) in
    let one : (p : ℕ) → folded block (given p) ≡ folded block (flat_map (to_part p) shares) =
    λ p. by_key_permuted tree_cmp tree_total tree_same key_in make alike (given p) (flat_map (to_part p) shares)
    (subst (IsPermutation (given p)) (sym (flat_map-map (to_part p) (combined (parts_of_rows block)) tasks)) (shuffled p)) in
    bag_from_permutation row_cmp row_total row_same (flat_map (λ p. folded block (given p)) (range_with_len 0 n)) whole
    (subst (λ us. IsPermutation us whole)
    (sym (flat_map_each (λ p. folded block (given p)) (λ p. folded block (flat_map (to_part p) shares)) (range_with_len 0 n)
    (each_of_all (λ p. folded block (given p) ≡ folded block (flat_map (to_part p) shares)) one (range_with_len 0 n))))
    by_parts)

pub sorted_law : SortedCombinersLaw
sorted_law block h part n below order tasks inputs =
    combiners_law block h part n below tasks inputs (λ p. flat_map (λ es. sort order (handed_to block part p es)) tasks)
    (λ p. IsPermutation-flat_map_each (λ es. sort order (handed_to block part p es)) (handed_to block part p)
    (λ es. IsPermutation-sym (handed_to block part p es) (sort order (handed_to block part p es)) (sort_permutes order (handed_to block part p es))) tasks)
