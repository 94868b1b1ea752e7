-- A FILTER on an operator's rows keeps what the operator makes of the rows that a FILTER below it keeps.
use Rattle.std.specs.Prelude.{◌≡◌, ◌≤◌, ◌==◌, ◌-◌, ℕ, zero, suc, Bool, true, false, ◌&&◌, List, [], ◌∷◌, ◌++◌, map, length, nat_lt, Option, Some, None, ⊤, refl, if◌then◌else◌}
use Rattle.std.proofs.Common.{ap, sym, ◌∙◌, arith, cond, true≢false, append-nil}
use Rattle.std.specs.List.{AllByRecursion, filter, flat_map, list_all}
use Rattle.std.specs.Option.{is_some, option_and_then, unwrap_or}
use Rattle.std.proofs.lemmas.Bool.{eqb-false, eqb-true, ltb-false}
use Rattle.std.proofs.lemmas.List.Elements.{filter-append}
use Rattle.std.proofs.lemmas.List.Folds.{list_all-append}
use Rattle.std.proofs.lemmas.List.Sorted.{IsPermutation-sym}
use Rattle.std.proofs.lemmas.Option.{none-some}
use Rattle.pig_value.proofs.KindLaws.{rows_of_each}
use Rattle.pig_value.proofs.OfRead.{OfRead}
use Rattle.pig_value.proofs.OrderLaws.{row_same, row_total}
use Rattle.pig_value.proofs.list_laws.Bags.{bag_from_permutation, bag_once, sort-filter, sort_permutes, sorted_is}
use Rattle.pig_value.proofs.list_laws.Distinct.{distinct_ascends, distinct_permuted, filter-distinct}
use Rattle.pig_value.proofs.list_laws.Listing.{each-append, each-map, each_of_all, each_weaker, filter-filter, filter_all, filter_none, some_same}
use Rattle.pig_value.proofs.list_laws.Permutations.{IsPermutation-flat_map}
use Rattle.pig_value.specs.Kinds.{AreRowsOf, IsRowOf}
use Rattle.pig_value.specs.Orders.{bag_of, row_cmp}
use Rattle.pig_value.specs.Sorts.{distinct}
use Rattle.pig_value.specs.Trees.{KindTree, Tree, at}
use Rattle.pig_typed.specs.BlockKinds.{given_kinds, item_kinds, items_kinds, of_width, row_kinds, steps_kinds}
use Rattle.pig_typed.specs.Blocks.{flattened, foreach_all, foreach_rows, item_lists, steps_values}
use Rattle.pig_typed.specs.Evaluation.{ev, passes}
use Rattle.pig_typed.specs.ExprKinds.{expr_kind}
use Rattle.pig_typed.specs.Operators.{is_true}
use Rattle.pig_typed.specs.Premises.{FunctionsKeepKinds}
use Rattle.pig_typed.specs.Products.{joined, product}
use Rattle.pig_typed.specs.Typed.{Typed, TypedBlock, TypedItem, TypedStep, x_null, x_bool, x_int, x_long, x_chars, x_field, x_local, x_chain, x_compare, x_is_null, x_not, x_minus, x_choose, x_cast, x_project, x_look, x_call, TypedArgs, TypedLinks, no_links, more_links, no_args, more_args}
use Rattle.pig_typed.proofs.BlocksKept.{block_kept}
use Rattle.pig_typed.proofs.Found.{found_is, of_found, tested, then_found}
use Rattle.pig_plan.proofs.Conjoined.{by_conjuncts}
use Rattle.pig_plan.proofs.Meanings.{each_both}
use Rattle.pig_plan.proofs.Moved.{puts}
use Rattle.pig_plan.specs.Conjuncts.{conjuncts}
use Rattle.pig_plan.specs.Moves.{arg_fields, field_of, fields_in, link_fields, plain_at, put}
use Rattle.pig_plan.specs.Operators.{filter_rows}
use Rattle.pig_moves.proofs.Chains.{chained_passes}
use Rattle.pig_moves.specs.Pushed.{conjoined, each_arg, each_field, each_link, handed_on, hands_all, is_handed}

abbrev pub Rows : Type 0
Rows = List (List Tree)

-- ---- two FILTERs

conjoined_passes : (a b : Typed) (row : List Tree) → passes (conjoined a b) row ≡ (passes a row && passes b row)
conjoined_passes a b row =
    chained_passes row (conjuncts a ++ conjuncts b)
    ∙ list_all-append (λ c. passes c row) (conjuncts a) (conjuncts b)
    ∙ (λ i. sym (by_conjuncts row a) i && sym (by_conjuncts row b) i)

-- sorting before a FILTER changes nothing
pub filter_sorted : (p : List Tree → Bool) (rows : Rows) → bag_of (filter p (bag_of rows)) ≡ bag_of (filter p rows)
filter_sorted p rows =
    ap bag_of (sym (sort-filter row_cmp row_total p row_same rows)) ∙ bag_once row_cmp row_total (filter p rows)

pub filter_joins : (a b : Typed) (rows : Rows) → bag_of (filter_rows (conjoined a b) rows) ≡ bag_of (filter_rows b (bag_of (filter_rows a rows)))
filter_joins a b rows =
    (λ i. bag_of (filter (λ row. conjoined_passes a b row i) rows))
    ∙ ap bag_of (sym (filter-filter (passes b) (passes a) rows))
    ∙ sym (filter_sorted (passes b) (filter (passes a) rows))

-- ---- DISTINCT

pub filter_below_distinct : (c : Typed) (rows : Rows) → distinct row_cmp (bag_of (filter_rows c rows)) ≡ bag_of (filter_rows c (distinct row_cmp rows))
filter_below_distinct c rows =
    distinct_permuted row_cmp row_total row_same (bag_of (filter (passes c) rows)) (filter (passes c) rows)
    (IsPermutation-sym (filter (passes c) rows) (bag_of (filter (passes c) rows)) (sort_permutes row_cmp (filter (passes c) rows)))
    ∙ sym (sorted_is row_cmp (distinct row_cmp (filter (passes c) rows)) (distinct_ascends row_cmp row_total (filter (passes c) rows)))
    ∙ ap bag_of (sym (filter-distinct row_cmp row_total row_same (passes c) rows))

-- ---- what is made of each row

kept_or_not : {X : Type 0} (p : X → Bool) (b : Bool) (xs : List X) → AllByRecursion (λ x. p x ≡ b) xs → filter p xs ≡ cond b xs []
kept_or_not p true xs h = filter_all p xs h
kept_or_not p false xs h = filter_none p xs h

module _ {X Y : Type 0} (f : X → List Y) (p : Y → Bool) (t : X → Bool) where
  one_kept : (b : Bool) (x : X) (xs : List X) → cond b (f x) [] ++ flat_map f xs ≡ flat_map f (cond b (x ∷ xs) xs)
  one_kept true x xs = refl
  one_kept false x xs = refl

  pub filter_goes_within : (xs : List X) → AllByRecursion (λ x. AllByRecursion (λ y. p y ≡ t x) (f x)) xs → filter p (flat_map f xs) ≡ flat_map f (filter t xs)
  filter_goes_within [] goes = refl
  filter_goes_within (x ∷ xs) goes =
      filter-append p (f x) (flat_map f xs)
      ∙ (λ i. kept_or_not p (t x) (f x) goes.0 i ++ filter_goes_within xs goes.1 i)
      ∙ one_kept (t x) x (filter t xs)

  pub filter_goes_in : ((x : X) → AllByRecursion (λ y. p y ≡ t x) (f x)) → (xs : List X) → filter p (flat_map f xs) ≡ flat_map f (filter t xs)
  filter_goes_in goes xs = filter_goes_within xs (each_of_all (λ x. AllByRecursion (λ y. p y ≡ t x) (f x)) goes xs)

made_sorted : (f : List Tree → Rows) (rows : Rows) → bag_of (flat_map f (bag_of rows)) ≡ bag_of (flat_map f rows)
made_sorted f rows =
    sym (bag_from_permutation row_cmp row_total row_same (flat_map f rows) (flat_map f (bag_of rows)) (IsPermutation-flat_map f rows (bag_of rows) (sort_permutes row_cmp rows)))

filter_below_made : (f : List Tree → Rows) (c d : Typed) (rows : Rows) → AllByRecursion (λ row. AllByRecursion (λ made. passes c made ≡ passes d row) (f row)) rows
    → bag_of (flat_map f (bag_of (filter_rows d rows))) ≡ bag_of (filter_rows c (bag_of (flat_map f rows)))
filter_below_made f c d rows goes =
    made_sorted f (filter (passes d) rows)
    ∙ ap bag_of (sym (filter_goes_within f (passes c) (passes d) rows goes))
    ∙ sym (filter_sorted (passes c) (flat_map f rows))

-- ---- FOREACH

pub field_is : (e : Typed) (m : ℕ) (row locals : List Tree) → field_of e ≡ Some m → ev e row locals ≡ at m row
field_is (x_field n) m row locals h = ap (λ k. at k row) (some_same n m h)
field_is x_null m row locals h = absurd (none-some m h)
field_is (x_bool b) m row locals h = absurd (none-some m h)
field_is (x_int z) m row locals h = absurd (none-some m h)
field_is (x_long z) m row locals h = absurd (none-some m h)
field_is (x_chars text) m row locals h = absurd (none-some m h)
field_is (x_local n) m row locals h = absurd (none-some m h)
field_is (x_chain first links) m row locals h = absurd (none-some m h)
field_is (x_compare r a b) m row locals h = absurd (none-some m h)
field_is (x_is_null a negated) m row locals h = absurd (none-some m h)
field_is (x_not a) m row locals h = absurd (none-some m h)
field_is (x_minus a) m row locals h = absurd (none-some m h)
field_is (x_choose test a b) m row locals h = absurd (none-some m h)
field_is (x_cast to a) m row locals h = absurd (none-some m h)
field_is (x_project a ns single) m row locals h = absurd (none-some m h)
field_is (x_look a key) m row locals h = absurd (none-some m h)
field_is (x_call function args) m row locals h = absurd (none-some m h)

-- what stands behind so many values
pub at_after : (a b : List Tree) (n : ℕ) → length a ≤ n → at n (a ++ b) ≡ at (n - length a) b
at_after [] b n h = let e : n ≡ n - 0 = omega arith in ap (λ m. at m b) e
at_after (v ∷ a) b zero h = absurd (omega (arith, h))
at_after (v ∷ a) b (suc n) h = at_after a b n (omega (arith, h)) ∙ (let e : n - length a ≡ suc n - suc (length a) = omega arith in ap (λ m. at m b) e)

-- all rows that begin with one of some lists
all_begun : (P : List Tree → Type 0) (xs ys : Rows) → AllByRecursion (λ x. AllByRecursion (λ y. P (x ++ y)) ys) xs → AllByRecursion P (joined xs ys)
all_begun P [] ys h = tt
all_begun P (x ∷ xs) ys h = each-append P (map (λ y. x ++ y) ys) (joined xs ys) (each-map P (λ y. x ++ y) ys h.0) (all_begun P xs ys h.1)

-- and lists that begin rows with nothing behind them
begin_all : (P : List Tree → Type 0) (xs : Rows) → AllByRecursion P (joined xs ([] ∷ [])) → AllByRecursion (λ x. P (x ++ [])) xs
begin_all P [] h = tt
begin_all P (x ∷ xs) h = (h.0, begin_all P xs h.1)

module _ (row locals : List Tree) where
  abbrev made_of : List TypedItem → Rows
  made_of items = product (map (λ item. item_lists item row locals) items)

  -- each list that an item gives has as many fields as it says
  abbrev pub IsWide : TypedItem → Type 0
  IsWide item = AllByRecursion (λ x. length x ≡ item.width) (item_lists item row locals)

  -- what is given behind lists of one width
  given_behind : (lists others : Rows) (width n m : ℕ) → width ≤ n → AllByRecursion (λ x. length x ≡ width) lists → AllByRecursion (λ y. at (n - width) y ≡ at m row) others
      → AllByRecursion (λ made. at n made ≡ at m row) (joined lists others)
  given_behind lists others width n m le wide given =
      all_begun (λ made. at n made ≡ at m row) lists others
      (each_weaker (λ x. length x ≡ width) (λ x. AllByRecursion (λ y. at n (x ++ y) ≡ at m row) others)
      (λ x long. each_weaker (λ y. at (n - width) y ≡ at m row) (λ y. at n (x ++ y) ≡ at m row)
      (λ y same. at_after x y n (omega (arith, long, le)) ∙ ap (λ w. at (n - w) y) long ∙ same) others given)
      lists wide)

  -- the field that an item hands on, in each row that is made
  plain_given : (items : List TypedItem) → AllByRecursion IsWide items → (n m : ℕ) → plain_at items n ≡ Some m → AllByRecursion (λ made. at n made ≡ at m row) (made_of items)
  plain_given [] wide n m h = absurd (none-some m h)
  plain_given (item ∷ items) wide n m h = by_flat item.flatten wide.0 (λ k e. plain_given items wide.1 k m e) h
    where
      by_place : (b : Bool) → (n == 0) ≡ b → ((k : ℕ) → plain_at items k ≡ Some m → AllByRecursion (λ made. at k made ≡ at m row) (made_of items))
          → (if b then field_of item.value else plain_at items (n - 1)) ≡ Some m → AllByRecursion (λ made. at n made ≡ at m row) (joined ((ev item.value row locals ∷ []) ∷ []) (made_of items))
      by_place true is rest e =
          let first : AllByRecursion (λ y. at n (ev item.value row locals ∷ y) ≡ at m row) (made_of items) =
          each_of_all (λ y. at n (ev item.value row locals ∷ y) ≡ at m row)
          (λ y. ap (λ k. at k (ev item.value row locals ∷ y)) (eqb-true n 0 is) ∙ field_is item.value m row locals e) (made_of items) in
          all_begun (λ made. at n made ≡ at m row) ((ev item.value row locals ∷ []) ∷ []) (made_of items) (first, tt)
      by_place false is rest e =
          given_behind ((ev item.value row locals ∷ []) ∷ []) (made_of items) 1 n m (omega (arith, eqb-false n 0 is)) (refl, tt) (rest (n - 1) e)

      by_width : (b : Bool) → nat_lt n item.width ≡ b → AllByRecursion (λ x. length x ≡ item.width) (flattened item.width (ev item.value row locals))
          → ((k : ℕ) → plain_at items k ≡ Some m → AllByRecursion (λ made. at k made ≡ at m row) (made_of items))
          → (if b then None else plain_at items (n - item.width)) ≡ Some m → AllByRecursion (λ made. at n made ≡ at m row) (joined (flattened item.width (ev item.value row locals)) (made_of items))
      by_width true is long rest e = absurd (none-some m e)
      by_width false is long rest e =
          given_behind (flattened item.width (ev item.value row locals)) (made_of items) item.width n m (ltb-false n item.width is) long (rest (n - item.width) e)

      by_flat : (b : Bool) → AllByRecursion (λ x. length x ≡ item.width) (if b then flattened item.width (ev item.value row locals) else (ev item.value row locals ∷ []) ∷ [])
          → ((k : ℕ) → plain_at items k ≡ Some m → AllByRecursion (λ made. at k made ≡ at m row) (made_of items))
          → (if b then (if nat_lt n item.width then None else plain_at items (n - item.width)) else (if n == 0 then field_of item.value else plain_at items (n - 1))) ≡ Some m
          → AllByRecursion (λ made. at n made ≡ at m row) (joined (if b then flattened item.width (ev item.value row locals) else (ev item.value row locals ∷ []) ∷ []) (made_of items))
      by_flat true long rest e = by_width (nat_lt n item.width) refl long rest e
      by_flat false long rest e = by_place (n == 0) refl rest e

-- ---- items of a block that is typed are as wide as they say

pub length_of : (row : List Tree) (ks : List KindTree) → IsRowOf row ks → length row ≡ length ks
length_of [] [] h = refl
length_of [] (k ∷ ks) h = absurd h
length_of (v ∷ row) [] h = absurd h
length_of (v ∷ row) (k ∷ ks) h = ap (λ n. suc n) (length_of row ks h.1)

as_many : (item : TypedItem) (ks ls : List KindTree) → OfRead (λ kinds. length kinds ≡ item.width) (item_kinds item ks ls)
as_many item ks ls =
    then_found (λ k. ⊤) (λ kinds. length kinds ≡ item.width) _
    (λ k _. then_found (λ kinds. ⊤) (λ kinds. length kinds ≡ item.width) (of_width item.width)
    (λ kinds _. tested (λ found. length found ≡ item.width) (length kinds == item.width) (Some kinds) (λ e. eqb-true (length kinds) item.width e))
    (given_kinds item.flatten k) (of_found (λ kinds. ⊤) (given_kinds item.flatten k) (λ kinds _. tt)))
    (expr_kind item.value ks ls) (of_found (λ k. ⊤) (expr_kind item.value ks ls) (λ k _. tt))

module _ (functions : FunctionsKeepKinds) (row : List Tree) (ks : List KindTree) (h : IsRowOf row ks) (steps : List TypedStep) where
  abbrev alone : TypedItem → TypedBlock
  alone item = record { steps = steps; items = item ∷ [] }

  -- a block of the one item makes of the row what the item gives
  item_wide : (item : TypedItem) (ls kinds : List KindTree) → steps_kinds steps ks [] ≡ Some ls → item_kinds item ks ls ≡ Some kinds → IsWide row (steps_values steps row []) item
  item_wide item ls kinds steps_are item_is =
      let typed : row_kinds (alone item) ks ≡ Some (kinds ++ []) =
      ap (option_and_then (λ found. items_kinds (item ∷ []) ks found)) steps_are ∙ ap (option_and_then (λ found. Some (found ++ []))) item_is in
      let made : AreRowsOf (foreach_rows (alone item) row) (kinds ++ []) =
      found_is (AreRowsOf (foreach_rows (alone item) row)) (row_kinds (alone item) ks) (kinds ++ []) typed (block_kept functions row ks h (alone item)) in
      let many : length kinds ≡ item.width = found_is (λ found. length found ≡ item.width) (item_kinds item ks ls) kinds item_is (as_many item ks ls) in
      each_weaker (λ x. IsRowOf (x ++ []) (kinds ++ [])) (λ x. length x ≡ item.width)
      (λ x is. ap (λ xs. length xs) (sym (append-nil x)) ∙ length_of (x ++ []) (kinds ++ []) is ∙ ap (λ xs. length xs) (append-nil kinds) ∙ many)
      (item_lists item row (steps_values steps row []))
      (begin_all (λ x. IsRowOf x (kinds ++ [])) (item_lists item row (steps_values steps row [])) (rows_of_each (kinds ++ []) (foreach_rows (alone item) row) made))

  items_wide : (ls : List KindTree) → steps_kinds steps ks [] ≡ Some ls → (items : List TypedItem) → is_some (items_kinds items ks ls) ≡ true
      → AllByRecursion (IsWide row (steps_values steps row [])) items
  items_wide ls steps_are [] typed = tt
  items_wide ls steps_are (item ∷ items) typed = by_kinds (item_kinds item ks ls) refl (items_kinds items ks ls) refl (λ e. items_wide ls steps_are items e) typed
    where
      by_kinds : (o : Option (List KindTree)) → item_kinds item ks ls ≡ o → (more : Option (List KindTree)) → items_kinds items ks ls ≡ more
          → (is_some (items_kinds items ks ls) ≡ true → AllByRecursion (IsWide row (steps_values steps row [])) items)
          → is_some (option_and_then (λ kinds. option_and_then (λ rest. Some (kinds ++ rest)) more) o) ≡ true → AllByRecursion (IsWide row (steps_values steps row [])) (item ∷ items)
      by_kinds None e more f below g = absurd (true≢false (sym g))
      by_kinds (Some kinds) e None f below g = absurd (true≢false (sym g))
      by_kinds (Some kinds) e (Some rest) f below g = (item_wide item ls kinds steps_are e, below (ap is_some f))

block_wide : FunctionsKeepKinds → (row : List Tree) (ks : List KindTree) → IsRowOf row ks → (block : TypedBlock) → is_some (row_kinds block ks) ≡ true
    → AllByRecursion (IsWide row (steps_values block.steps row [])) block.items
block_wide functions row ks h block typed = by_steps (steps_kinds block.steps ks []) refl typed
  where
    by_steps : (o : Option (List KindTree)) → steps_kinds block.steps ks [] ≡ o → is_some (option_and_then (λ ls. items_kinds block.items ks ls) o) ≡ true
        → AllByRecursion (IsWide row (steps_values block.steps row [])) block.items
    by_steps None e g = absurd (true≢false (sym g))
    by_steps (Some ls) e g = items_wide functions row ks h block.steps ls e block.items g

-- ---- a condition on what is handed on

one_is : (b : Bool) → b ≡ (b && true)
one_is true = refl
one_is false = refl

-- a test of each column is one of all in turn
mutual
  pub each_is : (p : ℕ → Bool) (e : Typed) → each_field p e ≡ list_all p (fields_in e)
  each_is p (x_field n) = one_is (p n)
  each_is p (x_chain first links) = (λ i. each_is p first i && links_are p links i) ∙ sym (list_all-append p (fields_in first) (link_fields links))
  each_is p (x_compare r a b) = (λ i. each_is p a i && each_is p b i) ∙ sym (list_all-append p (fields_in a) (fields_in b))
  each_is p (x_is_null a negated) = each_is p a
  each_is p (x_not a) = each_is p a
  each_is p (x_minus a) = each_is p a
  each_is p (x_choose test a b) =
      (λ i. each_is p test i && (each_is p a i && each_is p b i)) ∙ ap (λ t. list_all p (fields_in test) && t) (sym (list_all-append p (fields_in a) (fields_in b)))
      ∙ sym (list_all-append p (fields_in test) (fields_in a ++ fields_in b))
  each_is p (x_cast to a) = each_is p a
  each_is p (x_project a ns single) = each_is p a
  each_is p (x_look a key) = each_is p a
  each_is p (x_call function args) = args_are p args
  each_is p x_null = refl
  each_is p (x_bool b) = refl
  each_is p (x_int z) = refl
  each_is p (x_long z) = refl
  each_is p (x_chars text) = refl
  each_is p (x_local n) = refl

  links_are : (p : ℕ → Bool) (links : TypedLinks) → each_link p links ≡ list_all p (link_fields links)
  links_are p no_links = refl
  links_are p (more_links operator a links) = (λ i. each_is p a i && links_are p links i) ∙ sym (list_all-append p (fields_in a) (link_fields links))

  args_are : (p : ℕ → Bool) (args : TypedArgs) → each_arg p args ≡ list_all p (arg_fields args)
  args_are p no_args = refl
  args_are p (more_args e args) = (λ i. each_is p e i && args_are p args i) ∙ sym (list_all-append p (fields_in e) (arg_fields args))

both : (a b : Bool) → (a && b) ≡ true → (a ≡ true) × (b ≡ true)
both true b e = (refl, e)
both false b e = absurd (true≢false (sym e))

module _ (block : TypedBlock) (row : List Tree) (wide : AllByRecursion (IsWide row (steps_values block.steps row [])) block.items) where
  handed : (n : ℕ) → is_some (plain_at block.items n) ≡ true → AllByRecursion (λ made. ev (handed_on block n) row [] ≡ at n made) (foreach_rows block row)
  handed n h = by_found (plain_at block.items n) refl h
    where
      by_found : (o : Option ℕ) → plain_at block.items n ≡ o → is_some o ≡ true → AllByRecursion (λ made. ev (handed_on block n) row [] ≡ at n made) (foreach_rows block row)
      by_found None e g = absurd (true≢false (sym g))
      by_found (Some m) e g =
          each_weaker (λ made. at n made ≡ at m row) (λ made. ev (handed_on block n) row [] ≡ at n made)
          (λ made same. ap (λ o. at (unwrap_or o n) row) e ∙ sym same)
          (foreach_rows block row) (plain_given row (steps_values block.steps row []) block.items wide n m e)

  all_handed : (fields : List ℕ) → list_all (λ n. is_some (plain_at block.items n)) fields ≡ true
      → AllByRecursion (λ made. AllByRecursion (λ n. ev (handed_on block n) row [] ≡ at n made) fields) (foreach_rows block row)
  all_handed [] h = each_of_all (λ made. AllByRecursion (λ n. ev (handed_on block n) row [] ≡ at n made) []) (λ made. tt) (foreach_rows block row)
  all_handed (n ∷ fields) h =
      let two = both (is_some (plain_at block.items n)) (list_all (λ k. is_some (plain_at block.items k)) fields) h in
      each_both (λ made. ev (handed_on block n) row [] ≡ at n made) (λ made. AllByRecursion (λ k. ev (handed_on block k) row [] ≡ at k made) fields)
      (λ made. AllByRecursion (λ k. ev (handed_on block k) row [] ≡ at k made) (n ∷ fields)) (λ made a b. (a, b))
      (foreach_rows block row) (handed n two.0) (all_handed fields two.1)

  passes_made : (c : Typed) → hands_all block c ≡ true → AllByRecursion (λ made. passes c made ≡ passes (put (handed_on block) c) row) (foreach_rows block row)
  passes_made c h =
      each_weaker (λ made. AllByRecursion (λ n. ev (handed_on block n) row [] ≡ at n made) (fields_in c)) (λ made. passes c made ≡ passes (put (handed_on block) c) row)
      (λ made gives. ap is_true (sym (puts (handed_on block) row made [] c gives)))
      (foreach_rows block row) (all_handed (fields_in c) (sym (each_is (is_handed block.items) c) ∙ h))

-- over rows of kinds for which the block is typed
pub filter_below_foreach : FunctionsKeepKinds → (ks : List KindTree) (block : TypedBlock) → is_some (row_kinds block ks) ≡ true → (c : Typed) → hands_all block c ≡ true
    → (rows : Rows) → AllByRecursion (λ row. IsRowOf row ks) rows
    → bag_of (foreach_all block (bag_of (filter_rows (put (handed_on block) c) rows))) ≡ bag_of (filter_rows c (bag_of (foreach_all block rows)))
filter_below_foreach functions ks block typed c h rows of_kinds =
    filter_below_made (foreach_rows block) c (put (handed_on block) c) rows
    (each_weaker (λ row. IsRowOf row ks) (λ row. AllByRecursion (λ made. passes c made ≡ passes (put (handed_on block) c) row) (foreach_rows block row))
    (λ row is. passes_made block row (block_wide functions row ks is block typed) c h) rows of_kinds)
