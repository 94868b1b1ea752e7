-- The rows of COGROUP, input by input.
use Rattle.std.proofs.Common.{◌≡◌, zero, suc, ◌<◌, ◌≤◌, ◌+◌, ◌==◌, ℕ, Bool, true, false, List, [], ◌∷◌, ◌++◌, map, length, drop, get_or, refl, sym, ◌∙◌, ap, arith, append-nil, rules}
use Rattle.std.specs.Prelude.{Some, not, ◌&&◌, if◌then◌else◌, slice_get}
use Rattle.std.specs.List.{flat_map, range_with_len}
use Rattle.std.proofs.lemmas.List.{map-id}
use Rattle.std.proofs.lemmas.List.Concat.{flat_map-append}
use Rattle.std.proofs.lemmas.List.FromFn.{map-range_with_len_more}
use Rattle.std.proofs.lemmas.List.{map-append}
use Rattle.pig_value.specs.declared.values.Value.{Value}
use Rattle.pig_value.specs.Trees.{Tree, row_tree, rows_tree}
use Rattle.pig_value.proofs.list_laws.Bags.{either_way}
use Rattle.pig_value.proofs.list_laws.Indexing.{dropped}
use Rattle.pig_plan.specs.ByKey.{all_there, alone, bags_of, is_empty, kept_where}
use Rattle.pig_operators.specs.Groups.{apart_rows, between, lone_rows, no_other, rows_alone}

-- numbers up to the next
pub numbers_more : (n : ℕ) → range_with_len 0 (n + 1) ≡ range_with_len 0 n ++ n ∷ []
numbers_more n = sym (map-id (range_with_len 0 (n + 1))) ∙ (map-range_with_len_more (λ x. x) 0 n n (omega arith) ∙ ap (λ l. l ++ n ∷ []) (map-id (range_with_len 0 n)))

pub each_more : {Y : Type 0} (f : ℕ → List Y) (n : ℕ) → flat_map f (range_with_len 0 (n + 1)) ≡ flat_map f (range_with_len 0 n) ++ f n
each_more f n = ap (flat_map f) (numbers_more n) ∙ (flat_map-append f (range_with_len 0 n) (n ∷ []) ∙ ap (λ l. flat_map f (range_with_len 0 n) ++ l) (append-nil (f n)))

numbers_same : (i j : ℕ) → (i == j) ≡ true → i ≡ j
numbers_same i j h = search rules

other_numbers : (i j : ℕ) → (i ≡ j → ⊥) → (i == j) ≡ false
other_numbers i j h = search rules

next_numbers : (a b : ℕ) → (a == b) ≡ (suc a == suc b)
next_numbers a b = either_way (a == b)
    (λ e. e ∙ sym (same_numbers (suc a) (suc b) (ap suc (numbers_same a b e))))
    (λ e. e ∙ sym (other_numbers (suc a) (suc b) (λ same. numbers_differ a b e (omega (arith, same)))))
  where
    same_numbers : (i j : ℕ) → i ≡ j → (i == j) ≡ true
    same_numbers i j h = search rules

    numbers_differ : (i j : ℕ) → (i == j) ≡ false → i ≡ j → ⊥
    numbers_differ i j h = search rules

-- no row stands from a place up to another exactly where the places are the same
pub none_between : {X : Type 0} (f : X → List Tree) (a b : ℕ) (xs : List X) → a ≤ b → b ≤ length xs → is_empty (map f (between a b xs)) ≡ (a == b)
none_between f zero zero xs h k = refl
none_between f zero (suc b) [] h k = absurd (omega (arith, k))
none_between f zero (suc b) (x ∷ xs) h k = sym (other_numbers 0 (suc b) (λ e. omega (arith, e)))
none_between f (suc a) zero xs h k = absurd (omega (arith, h))
none_between f (suc a) (suc b) [] h k = absurd (omega (arith, k))
none_between f (suc a) (suc b) (x ∷ xs) h k = none_between f a b xs (omega (arith, h)) (omega (arith, k)) ∙ next_numbers a b

-- ---- inputs together

pub flag_at : (inner : List Bool) (i : ℕ) → i < length inner → slice_get inner i ≡ Some (get_or inner i false)
flag_at [] i h = absurd (omega (arith, h))
flag_at (flag ∷ inner) zero h = refl
flag_at (flag ∷ inner) (suc i) h = flag_at inner i (omega (arith, h))

module _ (rows : ℕ → List (List Tree)) where
  there_is : (inner : List Bool) (i : ℕ) (flag : Bool) → slice_get inner i ≡ Some flag → all_there (drop i inner) i rows ≡ (not (flag && is_empty (rows i)) && all_there (drop (i + 1) inner) (i + 1) rows)
  there_is inner i flag here = ap (λ l. all_there l i rows) (dropped inner i flag here)

  pub there_next : (inner : List Bool) (i : ℕ) (flag : Bool) → slice_get inner i ≡ Some flag → (flag && is_empty (rows i)) ≡ false → all_there (drop (i + 1) inner) (i + 1) rows ≡ all_there (drop i inner) i rows
  there_next inner i flag here test = sym (there_is inner i flag here ∙ ap (λ b. not b && all_there (drop (i + 1) inner) (i + 1) rows) test)

  pub there_not : (inner : List Bool) (i : ℕ) (flag : Bool) → slice_get inner i ≡ Some flag → (flag && is_empty (rows i)) ≡ true → all_there (drop i inner) i rows ≡ false
  there_not inner i flag here test = there_is inner i flag here ∙ ap (λ b. not b && all_there (drop (i + 1) inner) (i + 1) rows) test

-- ---- each input alone

module _ (i : ℕ) (bag : List (List Tree)) where
  alone_at : (rows : ℕ → List (List Tree)) → rows i ≡ bag → (j : ℕ) → alone i rows j ≡ rows_alone i bag j
  alone_at rows is j = either_way (j == i)
      (λ e. (λ m. if e m then rows j else []) ∙ (ap rows (numbers_same j i e) ∙ is) ∙ sym (λ m. if e m then bag else []))
      (λ e. (λ m. if e m then rows j else []) ∙ sym (λ m. if e m then bag else []))

  alone_is : (rows : ℕ → List (List Tree)) → rows i ≡ bag → alone i rows ≡ rows_alone i bag
  alone_is rows is = λ m j. alone_at rows is j m

  only_empty : is_empty bag ≡ false → (j : ℕ) → is_empty (rows_alone i bag j) ≡ not (j == i)
  only_empty some j = either_way (j == i)
      (λ e. (λ m. is_empty (if e m then bag else [])) ∙ some ∙ sym (ap not e))
      (λ e. (λ m. is_empty (if e m then bag else [])) ∙ sym (ap not e))

  others_there : is_empty bag ≡ false → (inner : List Bool) (j : ℕ) → all_there inner j (rows_alone i bag) ≡ no_other inner j i
  others_there some [] j = refl
  others_there some (flag ∷ inner) j = λ m. not (flag && only_empty some j m) && others_there some inner (j + 1) m

  kept_test : (inner : List Bool) → (not (is_empty bag) && all_there inner 0 (rows_alone i bag)) ≡ (not (is_empty bag) && no_other inner 0 i)
  kept_test inner = either_way (is_empty bag)
      (λ e. (λ m. not (e m) && all_there inner 0 (rows_alone i bag)) ∙ sym (λ m. not (e m) && no_other inner 0 i))
      (λ e. ap (λ b. not (is_empty bag) && b) (others_there e inner 0))

  -- the rows of the inputs up to the next
  pub apart_next : (inner : List Bool) (k : Tree) (rows : ℕ → List (List Tree)) → rows i ≡ bag → apart_rows inner k rows (i + 1) ≡ apart_rows inner k rows i ++ lone_rows inner k i bag
  apart_next inner k rows is =
      each_more (λ j. kept_where (not (is_empty (rows j)) && all_there inner 0 (alone j rows)) (bags_of (length inner) k (alone j rows))) i
      ∙ ap (λ l. apart_rows inner k rows i ++ l)
      ((λ m. kept_where (not (is_empty (is m)) && all_there inner 0 (alone_is rows is m)) (bags_of (length inner) k (alone_is rows is m)))
      ∙ ap (λ b. kept_where b (bags_of (length inner) k (rows_alone i bag))) (kept_test inner))

-- the row of an input alone, where it has one
module _ {X : Type 0} (f : X → List Tree) (xs : List X) (inner : List Bool) (k : Tree) (i from end : ℕ) (order : from ≤ end) (within : end ≤ length xs) (own : Bool) (told : own ≡ (not (from == end) && no_other inner 0 i)) where
  abbrev bag : List (List Tree)
  bag = map f (between from end xs)

  pub lone_is : lone_rows inner k i bag ≡ kept_where own (bags_of (length inner) k (rows_alone i bag))
  lone_is = ap (λ b. kept_where b (bags_of (length inner) k (rows_alone i bag))) ((λ m. not (none_between f from end xs order within m) && no_other inner 0 i) ∙ sym told)

  pub lone_added : own ≡ true → (old new : List (List Value)) (row : List Value) → row_tree row ≡ bags_of (length inner) k (rows_alone i bag) → new ≡ old ++ row ∷ [] → rows_tree new ≡ rows_tree old ++ lone_rows inner k i bag
  lone_added has old new row is grown =
      ap rows_tree grown
      ∙ (map-append row_tree old (row ∷ [])
      ∙ ap (λ l. rows_tree old ++ l) (ap (λ r. r ∷ []) is ∙ sym (lone_is ∙ ap (λ b. kept_where b (bags_of (length inner) k (rows_alone i bag))) has)))

  pub lone_none : own ≡ false → (old : List (List Tree)) → old ≡ old ++ lone_rows inner k i bag
  lone_none none old = sym (append-nil old) ∙ ap (λ l. old ++ l) (sym (lone_is ∙ ap (λ b. kept_where b (bags_of (length inner) k (rows_alone i bag))) none))

-- an input that is INNER and has no row
pub missing_is : {X : Type 0} (f : X → List Tree) (xs : List X) (flag missing : Bool) (from end : ℕ) (rows : List (List Tree)) → from ≤ end → end ≤ length xs → missing ≡ (flag && (from == end))
    → rows ≡ map f (between from end xs) → (flag && is_empty rows) ≡ missing
missing_is f xs flag missing from end rows order within told is = (λ m. flag && (ap is_empty is ∙ none_between f from end xs order within) m) ∙ sym told
