-- What expressions keep of values, and what holds of what a LOAD reads, holds of the rows of every operator.
use Rattle.std.specs.Prelude.{◌≡◌, ◌+◌, ◌==◌, ℕ, ℤ, Bool, true, false, not, ◌&&◌, List, [], ◌∷◌, ◌++◌, length, map, codes, Option, None, Some, slice_get, refl, if◌then◌else◌, ⊤}
use Rattle.std.proofs.Common.{subst, cond, zero, suc}
use Rattle.std.specs.List.{AllByRecursion, filter, flat_map, range_with_len}
use Rattle.std.specs.Option.{is_some, option_map_or}
use Rattle.std.proofs.lemmas.Bool.{eqb-true}
use Rattle.pig_value.specs.declared.operators.Side.{Side}
use Rattle.pig_value.specs.declared.operators.Side.TheVariants as side
use Rattle.pig_value.specs.Functions.{long_of}
use Rattle.pig_value.specs.Gathering.{Entry, with_key}
use Rattle.pig_value.specs.Orders.{bag_of, row_cmp, tree_cmp}
use Rattle.pig_value.specs.Sorts.{distinct}
use Rattle.pig_value.specs.Trees.{Tree, at, or_null, tuples_of, v_bag, v_chars, v_null}
use Rattle.pig_value.proofs.OrderLaws.{row_total}
use Rattle.pig_value.proofs.list_laws.Bags.{bag_once, each-sort}
use Rattle.pig_value.proofs.list_laws.Distinct.{each-distinct}
use Rattle.pig_value.proofs.list_laws.Listing.{each-append, each-filter, each-map, each-take, each_at, each_of_all, each_weaker}
use Rattle.pig_typed.specs.declared.blocks.SortKey.{SortKey}
use Rattle.pig_typed.specs.Blocks.{foreach_rows, keys_cmp}
use Rattle.pig_typed.specs.Evaluation.{ev, passes}
use Rattle.pig_typed.specs.Literals.{LiteralsAre}
use Rattle.pig_typed.specs.Products.{joined, product}
use Rattle.pig_typed.specs.Typed.{Typed}
use Rattle.pig_typed.proofs.Carried.{IsCarried, block_carried, carried}
use Rattle.pig_plan.specs.ByKey.{all_there, alone, as_bag, bags_of, cogroup_of, entries_of_input, gathered, group_of, holds_null, is_empty, join_of, keeps_left, keeps_right, kept_where, key_of, nulls, outer_of, rows_of}
use Rattle.pig_plan.specs.Entries.{entries_of, key_at, keyed_at, made_by, sort_key_of}
use Rattle.pig_plan.specs.Laws.{KeyLiteralsAre, OpLiteralsAre}
use Rattle.pig_plan.specs.Nodes.{inputs_of}
use Rattle.pig_plan.specs.Operators.{Setting, group_all, group_rows, join_rows, key_fields, keyed_entries, keys_of, limit_rows, load_rows, operator_rows, rank_of, rank_rows}
use Rattle.pig_plan.specs.Plans.{Keyed, PlanOp, p_load, p_filter, p_foreach, p_group_all, p_group, p_join, p_union, p_distinct, p_order, p_limit, p_store, p_assert, p_rank}
use Rattle.pig_plan.specs.Steps.{Folding, step_rows}

-- ---- lists

pub each-flat_map : {X Y : Type 0} (Q : Y → Type 0) (f : X → List Y) (xs : List X) → AllByRecursion (λ x. AllByRecursion Q (f x)) xs → AllByRecursion Q (flat_map f xs)
each-flat_map Q f [] h = tt
each-flat_map Q f (x ∷ xs) h = each-append Q (f x) (flat_map f xs) h.0 (each-flat_map Q f xs h.1)

pub each_either : {X : Type 0} (Q : X → Type 0) (b : Bool) (us vs : List X) → AllByRecursion Q us → AllByRecursion Q vs → AllByRecursion Q (if b then us else vs)
each_either Q true us vs h g = h
each_either Q false us vs h g = g

pub each_kept : (Q : List Tree → Type 0) (b : Bool) (row : List Tree) → Q row → AllByRecursion Q (kept_where b row)
each_kept Q true row h = (h, tt)
each_kept Q false row h = tt

-- ---- by key

-- a bag of rows
pub record IsBag (E : List Tree → Type 0) (rows : List (List Tree)) : Type 0 where
  pub each : AllByRecursion E rows
  pub once : bag_of rows ≡ rows

-- the keys of the entries are K, and their rows E, by the numbers of their inputs
module _ (K : Tree → Type 0) (E : ℕ → List Tree → Type 0) where
  abbrev pub IsEntry : Entry → Type 0
  IsEntry e = K e.key × E e.input e.row

  of_input : (i : ℕ) (entries : List Entry) → AllByRecursion IsEntry entries → AllByRecursion (λ e. E i e.row) (filter (λ e. e.input == i) entries)
  of_input i [] h = tt
  of_input i (e ∷ entries) h = by_test (e.input == i) (λ t. subst (λ j. E j e.row) (eqb-true e.input i t) h.0.1) (of_input i entries h.1)
    where
      by_test : (b : Bool) → (b ≡ true → E i e.row) → AllByRecursion (λ d. E i d.row) (filter (λ d. d.input == i) entries)
          → AllByRecursion (λ d. E i d.row) (cond b (e ∷ filter (λ d. d.input == i) entries) (filter (λ d. d.input == i) entries))
      by_test true here more = (here refl, more)
      by_test false here more = more

  rows_bag : (entries : List Entry) → AllByRecursion IsEntry entries → (i : ℕ) → IsBag (E i) (rows_of entries i)
  rows_bag entries h i =
      let rows : List (List Tree) = map (λ e. e.row) (filter (λ e. e.input == i) entries) in
      record {
        each = each-sort row_cmp (E i) rows (each-map (E i) (λ e. e.row) (filter (λ e. e.input == i) entries) (of_input i entries h));
        once = bag_once row_cmp row_total rows;
      }

  pub each_gathered : (Q : List Tree → Type 0) (make : Tree → (ℕ → List (List Tree)) → List (List Tree))
      → ((k : Tree) → K k → (rows : ℕ → List (List Tree)) → ((i : ℕ) → IsBag (E i) (rows i)) → AllByRecursion Q (make k rows))
      → (entries : List Entry) → AllByRecursion IsEntry entries → AllByRecursion Q (gathered make entries)
  each_gathered Q make makes entries h =
      let keys : List Tree = distinct tree_cmp (map (λ e. e.key) entries) in
      each-flat_map Q (λ k. make k (rows_of (with_key tree_cmp (λ e. e.key) k entries))) keys
      (each_weaker K (λ k. AllByRecursion Q (make k (rows_of (with_key tree_cmp (λ e. e.key) k entries))))
      (λ k ok. makes k ok (rows_of (with_key tree_cmp (λ e. e.key) k entries)) (rows_bag (with_key tree_cmp (λ e. e.key) k entries) (each-filter _ IsEntry entries h)))
      keys (each-distinct tree_cmp K (map (λ e. e.key) entries) (each-map K (λ e. e.key) entries (each_weaker IsEntry (λ e. K e.key) (λ e i. i.0) entries h))))

-- ---- values

module _ (P : Tree → Type 0) (c : IsCarried P) (long : (z : ℤ) → P (long_of z)) (word : P (v_chars (codes "all"))) where
  abbrev pub Row : List Tree → Type 0
  Row = AllByRecursion P

  bag_held : (rows : List (List Tree)) → IsBag Row rows → P (as_bag rows)
  bag_held rows h = subst (λ rs. P (v_bag (tuples_of rs))) h.once (c.bag rows h.each)

  nothing : IsBag Row []
  nothing = record { each = tt; once = refl }

  alone_held : (i : ℕ) (rows : ℕ → List (List Tree)) → ((j : ℕ) → IsBag Row (rows j)) → (j : ℕ) → IsBag Row (alone i rows j)
  alone_held i rows h j = by_test (j == i)
    where
      by_test : (b : Bool) → IsBag Row (if b then rows j else [])
      by_test true = h j
      by_test false = nothing

  bags_held : (n : ℕ) (k : Tree) (rows : ℕ → List (List Tree)) → P k → ((j : ℕ) → IsBag Row (rows j)) → Row (bags_of n k rows)
  bags_held n k rows h g =
      (h, each-map P (λ i. as_bag (rows i)) (range_with_len 0 n) (each_of_all (λ i. P (as_bag (rows i))) (λ i. bag_held (rows i) (g i)) (range_with_len 0 n)))

  group_held : (k : Tree) → P k → (rows : ℕ → List (List Tree)) → ((i : ℕ) → IsBag Row (rows i)) → AllByRecursion Row (group_of k rows)
  group_held k h rows g = ((h, (bag_held (rows 0) (g 0), tt)), tt)

  cogroup_held : (inner : List Bool) (n : ℕ) (k : Tree) → P k → (rows : ℕ → List (List Tree)) → ((i : ℕ) → IsBag Row (rows i)) → AllByRecursion Row (cogroup_of inner n k rows)
  cogroup_held inner n k h rows g =
      each_either Row (holds_null k)
      (flat_map (λ i. kept_where (not (is_empty (rows i)) && all_there inner 0 (alone i rows)) (bags_of n k (alone i rows))) (range_with_len 0 n))
      (kept_where (all_there inner 0 rows) (bags_of n k rows))
      (each-flat_map Row (λ i. kept_where (not (is_empty (rows i)) && all_there inner 0 (alone i rows)) (bags_of n k (alone i rows))) (range_with_len 0 n)
      (each_of_all _ (λ i. each_kept Row (not (is_empty (rows i)) && all_there inner 0 (alone i rows)) (bags_of n k (alone i rows)) (bags_held n k (alone i rows) h (alone_held i rows g))) (range_with_len 0 n)))
      (each_kept Row (all_there inner 0 rows) (bags_of n k rows) (bags_held n k rows h g))

  joined_held : (xs ys : List (List Tree)) → AllByRecursion Row xs → AllByRecursion Row ys → AllByRecursion Row (joined xs ys)
  joined_held xs ys h g =
      each-flat_map Row (λ x. map (λ y. x ++ y) ys) xs
      (each_weaker Row (λ x. AllByRecursion Row (map (λ y. x ++ y) ys))
      (λ x i. each-map Row (λ y. x ++ y) ys (each_weaker Row (λ y. Row (x ++ y)) (λ y j. each-append P x y i j) ys g)) xs h)

  product_held : (parts : List (List (List Tree))) → AllByRecursion (AllByRecursion Row) parts → AllByRecursion Row (product parts)
  product_held [] h = (tt, tt)
  product_held (xs ∷ parts) h = joined_held xs (product parts) h.0 (product_held parts h.1)

  join_held : (n : ℕ) (k : Tree) → P k → (rows : ℕ → List (List Tree)) → ((i : ℕ) → IsBag Row (rows i)) → AllByRecursion Row (join_of n k rows)
  join_held n k h rows g =
      each_either Row (holds_null k) [] (product (map rows (range_with_len 0 n))) tt
      (product_held (map rows (range_with_len 0 n)) (each-map (AllByRecursion Row) rows (range_with_len 0 n) (each_of_all _ (λ i. (g i).each) (range_with_len 0 n))))

  nulls_held : (n : ℕ) → Row (nulls n)
  nulls_held zero = tt
  nulls_held (suc n) = (c.null, nulls_held n)

  outer_held : (s : Side) (m n : ℕ) (k : Tree) → P k → (rows : ℕ → List (List Tree)) → ((i : ℕ) → IsBag Row (rows i)) → AllByRecursion Row (outer_of s m n k rows)
  outer_held s m n k h rows g =
      let left : List (List Tree) = map (λ row. row ++ nulls n) (rows 0) in
      let right : List (List Tree) = map (λ row. nulls m ++ row) (rows 1) in
      each_either Row _ ((if keeps_left s then left else []) ++ (if keeps_right s then right else [])) (product (rows 0 ∷ rows 1 ∷ []))
      (each-append Row (if keeps_left s then left else []) (if keeps_right s then right else [])
      (each_either Row (keeps_left s) left [] (each-map Row (λ row. row ++ nulls n) (rows 0) (each_weaker Row _ (λ row i. each-append P row (nulls n) i (nulls_held n)) (rows 0) (g 0).each)) tt)
      (each_either Row (keeps_right s) right [] (each-map Row (λ row. nulls m ++ row) (rows 1) (each_weaker Row _ (λ row i. each-append P (nulls m) row (nulls_held m) i) (rows 1) (g 1).each)) tt))
      (product_held (rows 0 ∷ rows 1 ∷ []) ((g 0).each, ((g 1).each, tt)))

  -- ---- keys and entries

  keys_held : (keys : List Typed) (row : List Tree) → AllByRecursion (LiteralsAre P) keys → Row row → Row (keys_of keys row)
  keys_held keys row ok h = each-map P (λ e. ev e row []) keys (each_weaker (LiteralsAre P) (λ e. P (ev e row [])) (λ e i. carried P c row [] h tt e i) keys ok)

  key_held : (vs : List Tree) → Row vs → P (key_of vs)
  key_held [] h = c.tuple [] h
  key_held (v ∷ []) h = h.0
  key_held (v ∷ w ∷ vs) h = c.tuple (v ∷ w ∷ vs) h

  entries_held : (rows : ℕ → List (List Tree)) → (i : ℕ) (inputs : List Keyed) → KeyLiteralsAre P inputs → AllByRecursion (λ k. AllByRecursion Row (rows k)) (map (λ k. k.input) inputs)
      → AllByRecursion (IsEntry P (λ j. Row)) (keyed_entries i inputs rows)
  entries_held rows i [] ok h = tt
  entries_held rows i (k ∷ inputs) ok h =
      each-append (IsEntry P (λ j. Row)) (entries_of_input (λ row. key_of (keys_of k.keys row)) i (rows k.input)) (keyed_entries (i + 1) inputs rows)
      (each-map (IsEntry P (λ j. Row)) (λ row. record { key = key_of (keys_of k.keys row); input = i; row = row }) (rows k.input)
      (each_weaker Row _ (λ row j. (key_held (keys_of k.keys row) (keys_held k.keys row ok.0 j), j)) (rows k.input) h.0))
      (entries_held rows (i + 1) inputs ok.1 h.1)

  -- ---- operators

  abbrev pub Made : (Tree → (ℕ → List (List Tree)) → List (List Tree)) → Type 0
  Made make = (k : Tree) → P k → (rows : ℕ → List (List Tree)) → ((i : ℕ) → IsBag Row (rows i)) → AllByRecursion Row (make k rows)

  module _ (rows : ℕ → List (List Tree)) where
    abbrev Held : ℕ → Type 0
    Held i = AllByRecursion Row (rows i)

    gathered_held : (make : Tree → (ℕ → List (List Tree)) → List (List Tree)) → Made make → (inputs : List Keyed) → KeyLiteralsAre P inputs → AllByRecursion Held (map (λ k. k.input) inputs)
        → AllByRecursion Row (gathered make (keyed_entries 0 inputs rows))
    gathered_held make makes inputs ok h = each_gathered P (λ j. Row) Row make makes (keyed_entries 0 inputs rows) (entries_held rows 0 inputs ok h)

    groups_held : (inputs : List Keyed) → KeyLiteralsAre P inputs → AllByRecursion Held (map (λ k. k.input) inputs) → AllByRecursion Row (group_rows inputs rows)
    groups_held [] ok h = gathered_held (cogroup_of [] 0) (cogroup_held [] 0) [] ok h
    groups_held (i ∷ []) ok h = gathered_held group_of group_held (i ∷ []) ok h
    groups_held (i ∷ j ∷ inputs) ok h =
        gathered_held (cogroup_of (map (λ k. k.inner) (i ∷ j ∷ inputs)) (length (i ∷ j ∷ inputs))) (cogroup_held (map (λ k. k.inner) (i ∷ j ∷ inputs)) (length (i ∷ j ∷ inputs))) (i ∷ j ∷ inputs) ok h

    joins_held : (s : Side) (width : ℕ → ℕ) (inputs : List Keyed) → KeyLiteralsAre P inputs → AllByRecursion Held (map (λ k. k.input) inputs) → AllByRecursion Row (join_rows s width inputs rows)
    joins_held side.Inner width inputs ok h = gathered_held (join_of (length inputs)) (join_held (length inputs)) inputs ok h
    joins_held side.Left width [] ok h = tt
    joins_held side.Right width [] ok h = tt
    joins_held side.Full width [] ok h = tt
    joins_held side.Left width (a ∷ []) ok h = tt
    joins_held side.Right width (a ∷ []) ok h = tt
    joins_held side.Full width (a ∷ []) ok h = tt
    joins_held side.Left width (a ∷ b ∷ more) ok h = gathered_held (outer_of side.Left (width a.input) (width b.input)) (outer_held side.Left (width a.input) (width b.input)) (a ∷ b ∷ more) ok h
    joins_held side.Right width (a ∷ b ∷ more) ok h = gathered_held (outer_of side.Right (width a.input) (width b.input)) (outer_held side.Right (width a.input) (width b.input)) (a ∷ b ∷ more) ok h
    joins_held side.Full width (a ∷ b ∷ more) ok h = gathered_held (outer_of side.Full (width a.input) (width b.input)) (outer_held side.Full (width a.input) (width b.input)) (a ∷ b ∷ more) ok h

    bag_rows_held : (found : List (List Tree)) → AllByRecursion Row found → AllByRecursion Row (bag_of found)
    bag_rows_held found h = each-sort row_cmp Row found h

    limit_held : (b : Bool) (count : ℕ) (kept found : List (List Tree)) → (b ≡ false → AllByRecursion Row kept) → AllByRecursion Row found → AllByRecursion Row (limit_rows b count kept found)
    limit_held true count kept found h g = each-take Row count found g
    limit_held false count kept found h g = bag_rows_held kept (h refl)

    -- what is asked besides of the rows that a LOAD reads, and of those that a bare LIMIT kept
    abbrev pub OwnAre : Setting → ℕ → PlanOp → Type 0
    OwnAre s statement (p_load path delim columns) = AllByRecursion Row (load_rows s.inputs path delim columns)
    OwnAre s statement (p_limit input count) = s.sorted input ≡ false → AllByRecursion Row (s.kept statement)
    OwnAre s statement o = ⊤

    pub operator_held : (s : Setting) (statement : ℕ) (o : PlanOp) → OpLiteralsAre P o → OwnAre s statement o → AllByRecursion Held (inputs_of o) → AllByRecursion Row (operator_rows s statement o rows)
    operator_held s statement (p_load path delim columns) ok own h = bag_rows_held (load_rows s.inputs path delim columns) own
    operator_held s statement (p_filter input test) ok own h = bag_rows_held (filter (passes test) (rows input)) (each-filter (passes test) Row (rows input) h.0)
    operator_held s statement (p_foreach input block) ok own h =
        bag_rows_held (flat_map (foreach_rows block) (rows input))
        (each-flat_map Row (foreach_rows block) (rows input) (each_weaker Row (λ row. AllByRecursion Row (foreach_rows block row)) (λ row i. block_carried P c block row ok i) (rows input) h.0))
    operator_held s statement (p_group_all input) ok own h =
        bag_rows_held (group_all (rows input))
        (each_gathered P (λ j. Row) Row group_of group_held (entries_of_input (λ row. v_chars (codes "all")) 0 (rows input))
        (each-map (IsEntry P (λ j. Row)) (λ row. record { key = v_chars (codes "all"); input = 0; row = row }) (rows input) (each_weaker Row _ (λ row i. (word, i)) (rows input) h.0)))
    operator_held s statement (p_group inputs) ok own h = bag_rows_held (group_rows inputs rows) (groups_held inputs ok h)
    operator_held s statement (p_join inputs sd replicated) ok own h = bag_rows_held (join_rows sd s.width inputs rows) (joins_held sd s.width inputs ok h)
    operator_held s statement (p_union inputs) ok own h = bag_rows_held (flat_map rows inputs) (each-flat_map Row rows inputs h)
    operator_held s statement (p_distinct input) ok own h = each-distinct row_cmp Row (rows input) h.0
    operator_held s statement (p_order input keys) ok own h = each-sort (keys_cmp keys) Row (rows input) h.0
    operator_held s statement (p_limit input count) ok own h = limit_held (s.sorted input) count (s.kept statement) (rows input) own h.0
    operator_held s statement (p_store input path delim) ok own h = h.0
    operator_held s statement (p_assert input test message) ok own h = h.0
    operator_held s statement (p_rank input keys dense) ok own h =
        bag_rows_held (rank_rows keys dense (rows input))
        (each-map Row (λ row. rank_of keys dense (rows input) row ∷ row) (rows input) (each_weaker Row _ (λ row i. (long _, i)) (rows input) h.0))

  -- ---- the same of single steps: entries of any rows, what is made of any entries, and a step of any rows

  at_held : (row : List Tree) → Row row → (n : ℕ) → P (at n row)
  at_held row h n = by_found (slice_get row n) refl
    where
      by_found : (o : Option Tree) → slice_get row n ≡ o → P (or_null o)
      by_found None e = c.null
      by_found (Some v) e = each_at P row n v e h

  sort_key_held : (keys : List SortKey) (row : List Tree) → Row row → P (sort_key_of keys row)
  sort_key_held keys row h = c.tuple (key_fields keys row) (each-map P (λ key. at key.position row) keys (each_of_all _ (λ key. at_held row h key.position) keys))

  keyed_at_held : (inputs : List Keyed) → KeyLiteralsAre P inputs → (i : ℕ) (row : List Tree) → Row row → P (keyed_at inputs i row)
  keyed_at_held inputs ok i row h = by_found (slice_get inputs i) refl
    where
      by_found : (o : Option Keyed) → slice_get inputs i ≡ o → P (option_map_or (λ input. key_of (keys_of input.keys row)) o v_null)
      by_found None e = c.null
      by_found (Some input) e = key_held (keys_of input.keys row) (keys_held input.keys row (each_at (λ k. AllByRecursion (LiteralsAre P) k.keys) inputs i input e ok) h)

  -- the key of a row
  pub key_at_held : (o : PlanOp) → OpLiteralsAre P o → (i : ℕ) (row : List Tree) → Row row → P (key_at o i row)
  key_at_held (p_group_all input) ok i row h = word
  key_at_held (p_group inputs) ok i row h = keyed_at_held inputs ok i row h
  key_at_held (p_join inputs sd replicated) ok i row h = keyed_at_held inputs ok i row h
  key_at_held (p_distinct input) ok i row h = c.tuple row h
  key_at_held (p_order input keys) ok i row h = sort_key_held keys row h
  key_at_held (p_rank input keys dense) ok i row h = sort_key_held keys row h
  key_at_held (p_load path delim columns) ok i row h = c.null
  key_at_held (p_filter input test) ok i row h = c.null
  key_at_held (p_foreach input block) ok i row h = c.null
  key_at_held (p_union inputs) ok i row h = c.null
  key_at_held (p_limit input count) ok i row h = c.null
  key_at_held (p_store input path delim) ok i row h = c.null
  key_at_held (p_assert input test message) ok i row h = c.null

  pub entries_of_held : (o : PlanOp) → OpLiteralsAre P o → (i : ℕ) (rows : List (List Tree)) → AllByRecursion Row rows → AllByRecursion (IsEntry P (λ j. Row)) (entries_of o i rows)
  entries_of_held o ok i rows h =
      each-map (IsEntry P (λ j. Row)) (λ row. record { key = key_at o i row; input = i; row = row }) rows (each_weaker Row _ (λ row is. (key_at_held o ok i row is, is)) rows h)

  -- what is made of a key and its bags
  pub made_held : (width : ℕ → ℕ) (o : PlanOp) → Made (made_by width o)
  made_held width (p_group_all input) = group_held
  made_held width (p_group []) = cogroup_held [] 0
  made_held width (p_group (i ∷ [])) = group_held
  made_held width (p_group (i ∷ j ∷ inputs)) = cogroup_held (map (λ k. k.inner) (i ∷ j ∷ inputs)) (length (i ∷ j ∷ inputs))
  made_held width (p_join inputs side.Inner replicated) = join_held (length inputs)
  made_held width (p_join [] side.Left replicated) = λ k h rows g. tt
  made_held width (p_join [] side.Right replicated) = λ k h rows g. tt
  made_held width (p_join [] side.Full replicated) = λ k h rows g. tt
  made_held width (p_join (a ∷ []) side.Left replicated) = λ k h rows g. tt
  made_held width (p_join (a ∷ []) side.Right replicated) = λ k h rows g. tt
  made_held width (p_join (a ∷ []) side.Full replicated) = λ k h rows g. tt
  made_held width (p_join (a ∷ b ∷ more) side.Left replicated) = outer_held side.Left (width a.input) (width b.input)
  made_held width (p_join (a ∷ b ∷ more) side.Right replicated) = outer_held side.Right (width a.input) (width b.input)
  made_held width (p_join (a ∷ b ∷ more) side.Full replicated) = outer_held side.Full (width a.input) (width b.input)
  made_held width (p_load path delim columns) = λ k h rows g. tt
  made_held width (p_filter input test) = λ k h rows g. tt
  made_held width (p_foreach input block) = λ k h rows g. tt
  made_held width (p_union inputs) = λ k h rows g. tt
  made_held width (p_distinct input) = λ k h rows g. tt
  made_held width (p_order input keys) = λ k h rows g. tt
  made_held width (p_limit input count) = λ k h rows g. tt
  made_held width (p_store input path delim) = λ k h rows g. tt
  made_held width (p_assert input test message) = λ k h rows g. tt
  made_held width (p_rank input keys dense) = λ k h rows g. tt

  pub gathered_rows_held : (width : ℕ → ℕ) (o : PlanOp) (entries : List Entry) → AllByRecursion (IsEntry P (λ j. Row)) entries → AllByRecursion Row (gathered (made_by width o) entries)
  gathered_rows_held width o entries h = each_gathered P (λ j. Row) Row (made_by width o) (made_held width o) entries h

  -- a step of a node that works row by row
  pub step_held : (folding : Folding) (o : PlanOp) → OpLiteralsAre P o → (rows : List (List Tree)) → AllByRecursion Row rows → AllByRecursion Row (step_rows folding o rows)
  step_held folding (p_filter input test) ok rows h = each-filter (passes test) Row rows h
  step_held folding (p_foreach input block) ok rows h = by_test (is_some (folding input))
    where
      by_test : (b : Bool) → AllByRecursion Row (cond b rows (flat_map (foreach_rows block) rows))
      by_test true = h
      by_test false = each-flat_map Row (foreach_rows block) rows (each_weaker Row (λ row. AllByRecursion Row (foreach_rows block row)) (λ row i. block_carried P c block row ok i) rows h)
  step_held folding (p_load path delim columns) ok rows h = h
  step_held folding (p_group_all input) ok rows h = h
  step_held folding (p_group inputs) ok rows h = h
  step_held folding (p_join inputs sd replicated) ok rows h = h
  step_held folding (p_union inputs) ok rows h = h
  step_held folding (p_distinct input) ok rows h = h
  step_held folding (p_order input keys) ok rows h = h
  step_held folding (p_limit input count) ok rows h = h
  step_held folding (p_store input path delim) ok rows h = h
  step_held folding (p_assert input test message) ok rows h = h
  step_held folding (p_rank input keys dense) ok rows h = h
