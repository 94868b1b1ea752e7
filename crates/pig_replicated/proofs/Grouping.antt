-- Rows that ascend by their keys, cut into runs of one key each.
use Rattle.std.specs.Prelude.{◌≡◌, ◌<◌, ◌≤◌, ◌+◌, ◌-◌, ℕ, suc, Bool, true, false, List, [], ◌∷◌, ◌++◌, map, length, take, drop, get_or, refl}
use Rattle.std.proofs.Common.{ap, sym, ◌∙◌, subst, arith, cond, true≢false, append_assoc, append-nil}
use Rattle.std.specs.List.{AllByRecursion, prefix_len}
use Rattle.std.specs.Ordering.{is_eq, is_gt, ordering_reverse, ordering_then}
use Rattle.std.specs.declared.cmp.Ordering.{Ordering}
use Rattle.std.specs.declared.cmp.Ordering.TheVariants.{Less, Equal, Greater}
use Rattle.std.proofs.lemmas.Cmp.{tied_itself}
use Rattle.std.proofs.lemmas.List.{drop-map, length-drop, take-append-drop, take-map}
use Rattle.std.proofs.lemmas.List.Concat.{flat_map-append}
use Rattle.std.proofs.lemmas.Simd.{map-map}
use Rattle.pig_value.specs.Gathering.{HaveGreater, HaveKey}
use Rattle.pig_value.specs.Orders.{bag_of, row_cmp, tree_cmp}
use Rattle.pig_value.specs.Sorts.{Ascends}
use Rattle.pig_value.specs.Trees.{Tree, row_tree, rows_tree, tree}
use Rattle.pig_value.proofs.OrderLaws.{tree_same, tree_total}
use Rattle.pig_value.proofs.list_laws.Bags.{drop_ascends, either_way, eq_is, rises_all, sorted_is, take_ascends}
use Rattle.pig_value.proofs.list_laws.Listing.{each-append, each-drop, each_weaker}
use Rattle.pig_replicated.specs.declared.building.Held.{Held}
use Rattle.pig_replicated.specs.declared.groups.Group.{Group}
use Rattle.pig_replicated.specs.Grouped.{AreGrouped, held_in, rows_in}
use Rattle.pig_replicated.specs.Held.{keyed_of}
use Rattle.pig_replicated.specs.Holding.{KeyedRow, keyed_cmp}
use Rattle.pig_replicated.proofs.Held.{keyed_total}

abbrev pub key_of_row : KeyedRow → Tree
key_of_row r = r.key

-- ---- orders

then_le : (r s : Ordering) → is_gt (ordering_then r s) ≡ false → is_gt r ≡ false
then_le Less s h = refl
then_le Equal s h = refl
then_le Greater s h = h

less_is : (r s : Ordering) → r ≡ ordering_reverse s → is_gt r ≡ false → is_eq s ≡ false → r ≡ Less
less_is r Greater e h k = e
less_is r Equal e h k = absurd (true≢false k)
less_is r Less e h k = absurd (true≢false (sym (ap is_gt e) ∙ h))

less_on : (x y z : Tree) → tree_cmp x y ≡ Less → is_gt (tree_cmp y z) ≡ false → tree_cmp x z ≡ Less
less_on x y z low high = by_order (tree_cmp y z) refl high
  where
    by_order : (r : Ordering) → tree_cmp y z ≡ r → is_gt r ≡ false → tree_cmp x z ≡ Less
    by_order Less e h = tree_total.trans x y z low e
    by_order Equal e h = ap (tree_cmp x) (sym (tree_same y z e)) ∙ low
    by_order Greater e h = absurd (true≢false h)

-- ---- the run at the front

module _ (k : Tree) where
  abbrev has : KeyedRow → Bool
  has r = is_eq (tree_cmp r.key k)

  run_on : (e : KeyedRow) (es : List KeyedRow) → has e ≡ true → prefix_len has (e ∷ es) ≡ suc (prefix_len has es)
  run_on e es t = ap (λ b. cond b (1 + prefix_len has es) 0) t ∙ omega arith

  run_ends : (e : KeyedRow) (es : List KeyedRow) → has e ≡ false → prefix_len has (e ∷ es) ≡ 0
  run_ends e es t = ap (λ b. cond b (1 + prefix_len has es) 0) t

  run_has : (es : List KeyedRow) → HaveKey key_of_row k (take (prefix_len has es) es)
  run_has [] = tt
  run_has (e ∷ es) = either_way (has e)
      (λ t. subst (λ n. HaveKey key_of_row k (take n (e ∷ es))) (sym (run_on e es t)) (tree_same e.key k (eq_is (tree_cmp e.key k) t), run_has es))
      (λ t. subst (λ n. HaveKey key_of_row k (take n (e ∷ es))) (sym (run_ends e es t)) tt)

  -- behind the run all keys are greater
  behind_run : (es : List KeyedRow) → AllByRecursion (λ e. is_gt (tree_cmp k e.key) ≡ false) es → Ascends keyed_cmp es
      → HaveGreater tree_cmp key_of_row k (drop (prefix_len has es) es)
  behind_run [] h a = tt
  behind_run (e ∷ es) h a = either_way (has e)
      (λ t. subst (λ n. HaveGreater tree_cmp key_of_row k (drop n (e ∷ es))) (sym (run_on e es t)) (behind_run es h.1 a.1))
      (λ t.
      let less : tree_cmp k e.key ≡ Less = less_is (tree_cmp k e.key) (tree_cmp e.key k) (tree_total.antisymm k e.key) h.0 t in
      subst (λ n. HaveGreater tree_cmp key_of_row k (drop n (e ∷ es))) (sym (run_ends e es t)) (
        less,
        each_weaker (λ f. is_gt (keyed_cmp e f) ≡ false) (λ f. tree_cmp k f.key ≡ Less)
            (λ f up. less_on k e.key f.key less (then_le (tree_cmp e.key f.key) (row_cmp e.row f.row) up)) es (rises_all keyed_cmp keyed_total e es a.0 a.1),
      ))

  -- the rows of a run ascend
  rows_ascend : (es : List KeyedRow) → HaveKey key_of_row k es → Ascends keyed_cmp es → Ascends row_cmp (map (λ r. r.row) es)
  rows_ascend [] h a = tt
  rows_ascend (e ∷ []) h a = (tt, tt)
  rows_ascend (e ∷ f ∷ es) h a =
      let alike : tree_cmp e.key f.key ≡ Equal = (λ i. tree_cmp (h.0 i) (h.1.0 i)) ∙ tied_itself tree_total k in
      (ap (λ r. is_gt (ordering_then r (row_cmp e.row f.row))) (sym alike) ∙ a.0, rows_ascend (f ∷ es) h.1 a.1)

  -- and with the key they are the run
  with_it : (es : List KeyedRow) → HaveKey key_of_row k es → map (λ row. record { key = k; row = row }) (map (λ r. r.row) es) ≡ es
  with_it [] h = refl
  with_it (e ∷ es) h = λ i. record { key = sym h.0 i; row = e.row } ∷ with_it es h.1 i

-- ---- groups and a further one

grouped_more : (groups : List Group) (group : Group) → AreGrouped groups → AllByRecursion (λ g. tree_cmp (tree g.key) (tree group.key) ≡ Less) groups
    → bag_of (rows_tree group.rows) ≡ rows_tree group.rows → AreGrouped (groups ++ group ∷ [])
grouped_more [] group h low bag = (bag, tt, tt)
grouped_more (g ∷ groups) group h low bag =
    (h.0, each-append (λ other. tree_cmp (tree g.key) (tree other.key) ≡ Less) groups (group ∷ []) h.1 (low.0, tt), grouped_more groups group h.2 low.1 bag)

-- ---- the loop

-- The groups of what stands before, and what is left of the rows.
pub record IsCutUpTo (groups : List Group) (left all : List KeyedRow) : Type 0 where
  pub rows : held_in groups ++ left ≡ all
  pub grouped : AreGrouped groups
  pub before : AllByRecursion (λ g. HaveGreater tree_cmp key_of_row (tree g.key) left) groups
  pub ascends : Ascends keyed_cmp left

pub begun : (all : List KeyedRow) → Ascends keyed_cmp all → IsCutUpTo [] all all
begun all a = record { rows = refl; grouped = tt; before = tt; ascends = a }

-- of what stands before, the first of what is left
first_behind : (first : KeyedRow) (more : List KeyedRow) (groups : List Group) → AllByRecursion (λ g. HaveGreater tree_cmp key_of_row (tree g.key) (first ∷ more)) groups
    → AllByRecursion (λ g. tree_cmp (tree g.key) first.key ≡ Less) groups
first_behind first more groups h =
    each_weaker (λ g. HaveGreater tree_cmp key_of_row (tree g.key) (first ∷ more)) (λ g. tree_cmp (tree g.key) first.key ≡ Less) (λ g greater. greater.0) groups h

module _ (groups : List Group) (group : Group) (first : KeyedRow) (more all : List KeyedRow) (so_far : IsCutUpTo groups (first ∷ more) all)
    (key : tree group.key ≡ first.key) (rows : rows_tree group.rows ≡ map (λ r. r.row) (take (prefix_len (has first.key) (first ∷ more)) (first ∷ more))) where
  abbrev left : List KeyedRow
  left = first ∷ more

  abbrev count : ℕ
  count = prefix_len (has first.key) left

  run_is : rows_in group ≡ take count left
  run_is =
      sym (map-map (λ row. record { key = tree group.key; row = row }) row_tree group.rows)
      ∙ (λ i. map (λ row. record { key = key i; row = row }) (rows i))
      ∙ with_it first.key (take count left) (run_has first.key left)

  none_less : AllByRecursion (λ e. is_gt (tree_cmp first.key e.key) ≡ false) left
  none_less = (
    ap is_gt (tied_itself tree_total first.key),
    each_weaker (λ f. is_gt (keyed_cmp first f) ≡ false) (λ f. is_gt (tree_cmp first.key f.key) ≡ false)
        (λ f up. then_le (tree_cmp first.key f.key) (row_cmp first.row f.row) up) more (rises_all keyed_cmp keyed_total first more so_far.ascends.0 so_far.ascends.1),
  )

  sorted_rows : bag_of (rows_tree group.rows) ≡ rows_tree group.rows
  sorted_rows =
      sorted_is row_cmp (rows_tree group.rows)
      (subst (Ascends row_cmp) (sym rows) (rows_ascend first.key (take count left) (run_has first.key left) (take_ascends keyed_cmp count left so_far.ascends)))

  lower : AllByRecursion (λ g. tree_cmp (tree g.key) (tree group.key) ≡ Less) groups
  lower = subst (λ k. AllByRecursion (λ g. tree_cmp (tree g.key) k ≡ Less) groups) (sym key) (first_behind first more groups so_far.before)

  pub cut_further : IsCutUpTo (groups ++ group ∷ []) (drop count left) all
  cut_further = record {
    rows = ap (λ rs. rs ++ drop count left) (flat_map-append rows_in groups (group ∷ []) ∙ ap (λ rs. held_in groups ++ rs) (append-nil (rows_in group) ∙ run_is))
        ∙ append_assoc (held_in groups) (take count left) (drop count left)
        ∙ ap (λ rs. held_in groups ++ rs) (take-append-drop count left)
        ∙ so_far.rows;
    grouped = grouped_more groups group so_far.grouped lower sorted_rows;
    before = each-append (λ g. HaveGreater tree_cmp key_of_row (tree g.key) (drop count left)) groups (group ∷ [])
        (each_weaker (λ g. HaveGreater tree_cmp key_of_row (tree g.key) left) (λ g. HaveGreater tree_cmp key_of_row (tree g.key) (drop count left))
        (λ g greater. each-drop (λ r. tree_cmp (tree g.key) r.key ≡ Less) count left greater) groups so_far.before)
        (subst (λ k. HaveGreater tree_cmp key_of_row k (drop count left)) (sym key) (behind_run first.key left none_less so_far.ascends), tt);
    ascends = drop_ascends keyed_cmp count left so_far.ascends;
  }

-- ---- of rows where they stand

same_run : (k : Tree) (held : List Held) → prefix_len (λ h. is_eq (tree_cmp (tree h.key) k)) held ≡ prefix_len (has k) (map keyed_of held)
same_run k [] = refl
same_run k (h ∷ held) = ap (λ n. cond (is_eq (tree_cmp (tree h.key) k)) (1 + n) 0) (same_run k held)

-- what begins with an element
opened : (xs : List Held) (x : Held) → 1 ≤ length xs → x ≡ get_or xs 0 x → xs ≡ x ∷ drop 1 xs
opened [] x some is = absurd (omega (arith, some))
opened (y ∷ xs) x some is = ap (λ z. z ∷ xs) (sym is)

-- fewer rows are left
pub fewer_left : (left rest : List Held) (first : Held) (n : ℕ) → 1 ≤ length left → first ≡ get_or left 0 first
    → n ≡ prefix_len (λ h. is_eq (tree_cmp (tree h.key) (tree first.key))) left → rest ≡ drop n left → length rest < length left
fewer_left left rest first n some starts is ends =
    let more = drop 1 left in
    let split = opened left first some starts in
    let one : n ≡ suc (prefix_len (has (tree first.key)) (map keyed_of more)) =
    is ∙ ap (prefix_len (λ h. is_eq (tree_cmp (tree h.key) (tree first.key)))) split ∙ same_run (tree first.key) (first ∷ more)
    ∙ run_on (tree first.key) (keyed_of first) (map keyed_of more) (ap is_eq (tied_itself tree_total (tree first.key)))
    in
    let size : length rest ≡ length left - n = ap length ends ∙ length-drop n left in
    omega (arith, some, one, size)

pub next_cut : (groups : List Group) (group : Group) (first : Held) (left run rest : List Held) (all : List KeyedRow) (n : ℕ) → 1 ≤ length left → first ≡ get_or left 0 first
    → n ≡ prefix_len (λ h. is_eq (tree_cmp (tree h.key) (tree first.key))) left → group.key ≡ first.key → group.rows ≡ map (λ h. h.row.now) run → run ≡ take n left → rest ≡ drop n left
    → IsCutUpTo groups (map keyed_of left) all → IsCutUpTo (groups ++ group ∷ []) (map keyed_of rest) all
next_cut groups group first left run rest all n some starts is key rows begins ends so_far =
    let more = drop 1 left in
    let split = opened left first some starts in
    let count : n ≡ prefix_len (has (tree first.key)) (keyed_of first ∷ map keyed_of more) = is ∙ ap (prefix_len (λ h. is_eq (tree_cmp (tree h.key) (tree first.key)))) split ∙ same_run (tree first.key) (first ∷ more) in
    let held : rows_tree group.rows ≡ map (λ r. r.row) (take n (map keyed_of (first ∷ more))) =
    ap rows_tree (rows ∙ ap (map (λ h. h.row.now)) begins) ∙ map-map row_tree (λ h. h.row.now) (take n left) ∙ sym (map-map (λ r. r.row) keyed_of (take n left)) ∙ ap (map (λ r. r.row)) (sym (take-map keyed_of n left) ∙ ap (λ hs. take n (map keyed_of hs)) split)
    in
    let stays : map keyed_of rest ≡ drop (prefix_len (has (tree first.key)) (keyed_of first ∷ map keyed_of more)) (map keyed_of (first ∷ more)) =
    ap (map keyed_of) ends ∙ sym (drop-map keyed_of n left) ∙ (λ i. drop (count i) (map keyed_of (split i)))
    in
    subst (λ rs. IsCutUpTo (groups ++ group ∷ []) rs all) (sym stays)
    (cut_further groups group (keyed_of first) (map keyed_of more) all (subst (λ hs. IsCutUpTo groups (map keyed_of hs) all) split so_far) (ap tree key)
    (held ∙ ap (λ m. map (λ r. r.row) (take m (map keyed_of (first ∷ more)))) count))
