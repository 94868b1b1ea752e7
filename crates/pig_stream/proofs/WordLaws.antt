-- The words of a text, and the blocks that make them.
use Rattle.std.proofs.Common.{◌≡◌, ◌<◌, ◌≤◌, ◌+◌, ◌-◌, ℕ, List, [], ◌∷◌, length, take, drop, get_or, map, refl, sym, ap, ◌∙◌, subst, arith, true≢false}
use Rattle.std.specs.Prelude.{◌==◌, true, false, Option, Some, nat_lt, slice_get, slice_range, slice_set}
use Rattle.std.specs.List.{position_or_len}
use Rattle.std.specs.Option.{option_map}
use Rattle.std.specs.Ordering.{ordering_then}
use Rattle.std.specs.Str.{IsUtf8, IsCharBoundary}
use Rattle.std.specs.declared.cmp.Ordering.{Ordering}
use Rattle.std.specs.declared.cmp.Ordering.TheVariants.{Less, Equal, Greater}
use Rattle.std.proofs.lemmas.List.{append-nil}
use Rattle.std.proofs.lemmas.Bool.{ne_eqb, ltb-true, ltb-false}
use Rattle.std.proofs.lemmas.List.Sums.{passes_at_first, fails_before_first}
use Rattle.std.proofs.lemmas.List.Splits.{slice_split_first, slice_split_none}
use Rattle.std.proofs.lemmas.List.Elements.{All-from_get_or}
use Rattle.std.proofs.lemmas.Str.{IsCharBoundary-before_ascii, IsCharBoundary-after_ascii}
use Rattle.pig_value.specs.Functions.{is_separator, text_in}
use Rattle.pig_value.specs.Orders.{row_cmp, text_cmp}
use Rattle.pig_value.specs.Trees.{at, or_null, tree, Tree, v_null, v_bool, v_int, v_long, v_chars, v_bytes, v_tuple, v_bag, v_listed, v_map}
use Rattle.pig_value.specs.declared.values.Value.{Value}
use Rattle.pig_value.proofs.TreeLaws.{at_map, tuples_back}
use Rattle.pig_value.proofs.list_laws.Bags.{either_way}
use Rattle.pig_typed.specs.declared.blocks.Block.{Block}
use Rattle.pig_typed.specs.declared.blocks.BlockItem.{BlockItem}
use Rattle.pig_typed.specs.Blocks.{item_lists, steps_values}
use Rattle.pig_typed.specs.Products.{joined, product}
use Rattle.pig_typed.specs.Typed.{block_typed, item_typed, step_typed}
use Rattle.pig_stream.specs.WordRows.{MakesWords, pieces, text_words, word_row, word_rows}

-- ---- blocks

pub only_item : (items : List BlockItem) (item : BlockItem) → length items ≡ 1 → item ≡ get_or items 0 item → items ≡ item ∷ []
only_item [] item one is = absurd (omega (arith, one))
only_item (first ∷ []) item one is = ap (λ i. i ∷ []) (sym is)
only_item (first ∷ second ∷ more) item one is = absurd (omega (arith, one))

before_none : (xs : List (List Tree)) → joined xs ([] ∷ []) ≡ xs
before_none [] = refl
before_none (x ∷ xs) = λ i. append-nil x i ∷ before_none xs i

-- one item without steps makes what the item gives
pub makes_words : (block : Block) (item : BlockItem) (n : ℕ) → block.steps ≡ [] → block.items ≡ item ∷ [] → ((row : List Tree) → item_lists (item_typed item) row [] ≡ word_rows (at n row)) → MakesWords (block_typed block) n
makes_words block item n none one is row =
    (λ i. product (map (λ it. item_lists it row (steps_values (map step_typed (none i)) row [])) (map item_typed (one i))))
    ∙ before_none (item_lists (item_typed item) row [])
    ∙ is row

-- ---- rows

words_of_text : (v : Tree) → text_words (text_in v) ≡ word_rows v
words_of_text v_null = refl
words_of_text (v_bool b) = refl
words_of_text (v_int z) = refl
words_of_text (v_long z) = refl
words_of_text (v_chars text) = sym (tuples_back (text_words (Some text)))
words_of_text (v_bytes bytes) = refl
words_of_text (v_tuple vs) = refl
words_of_text (v_bag rs) = refl
words_of_text (v_listed rs) = refl
words_of_text (v_map ps) = refl

pub words_in_field : (row : List Value) (place : ℕ) (found : Option Value) (text : Option (List ℕ)) → found ≡ slice_get row place → text ≡ text_in (or_null (option_map tree found)) → text_words text ≡ word_rows (at place (map tree row))
words_in_field row place found text is told =
    ap text_words (told ∙ ap (λ o. text_in (or_null (option_map tree o))) is ∙ ap text_in (sym (at_map row place)))
    ∙ words_of_text (at place (map tree row))

-- the one field of a row, put in the place of another
pub one_over : (row between made : List Value) (old value : Value) (text : List ℕ) → length row ≡ 1 → between ≡ slice_set row 0 old → made ≡ slice_set between 0 value → tree value ≡ v_chars text → map tree made ≡ word_row text
one_over [] between made old value text one first second is = absurd (omega (arith, one))
one_over (v ∷ []) between made old value text one first second is = ap (map tree) (second ∙ ap (λ r. slice_set r 0 value) first) ∙ ap (λ w. w ∷ []) is
one_over (v ∷ w ∷ more) between made old value text one first second is = absurd (omega (arith, one))

-- ---- order

then_equal : (o : Ordering) → o ≡ ordering_then o Equal
then_equal Less = refl
then_equal Equal = refl
then_equal Greater = refl

pub order_of_words : (a b : List ℕ) → text_cmp a b ≡ row_cmp (word_row a) (word_row b)
order_of_words a b = then_equal (text_cmp a b)

-- ---- cuts

-- a separator is ASCII
other : (b : ℕ) → 128 ≤ b → is_separator b ≡ false
other b h =
    let differs : (c : ℕ) → c < 128 → (b == c) ≡ false = λ c k. ne_eqb b c (λ e. omega (arith, e)) in
    rw (differs 32 (omega arith), differs 34 (omega arith), differs 44 (omega arith), differs 40 (omega arith), differs 41 (omega arith), differs 42 (omega arith)) refl

ascii : (b : ℕ) → is_separator b ≡ true → b < 128
ascii b h = either_way (nat_lt b 128) (λ e. ltb-true b 128 e) (λ e. absurd (true≢false (sym h ∙ other b (ltb-false b 128 e))))

module _ (text : List ℕ) (end : ℕ) (is : end ≡ position_or_len is_separator text) (within : end < length text) where
  here : position_or_len is_separator text < length text
  here = subst (λ n. n < length text) is within

  at_end : get_or text end 0 < 128
  at_end = ascii (get_or text end 0) (ap (λ n. is_separator (get_or text n 0)) is ∙ passes_at_first is_separator text 0 here)

  pub cut_there : pieces text ≡ take end text ∷ pieces (drop (end + 1) text)
  cut_there = slice_split_first is_separator text 0 here ∙ ap (λ n. take n text ∷ pieces (drop (n + 1) text)) (sym is)

  pub edge_before : IsCharBoundary text end
  edge_before = IsCharBoundary-before_ascii text end within at_end

  pub edge_after : IsUtf8 text → IsCharBoundary text (end + 1)
  edge_after u = IsCharBoundary-after_ascii text end u within at_end

pub front_is : (text : List ℕ) (end : ℕ) → slice_range text 0 end ≡ take end text
front_is text end = let e : end - 0 ≡ end = omega arith in ap (λ n. take n text) e

pub uncut : (text : List ℕ) → length text ≡ position_or_len is_separator text → pieces text ≡ text ∷ []
uncut text past =
    slice_split_none is_separator text (All-from_get_or (λ x. is_separator x ≡ false) text 0
    (λ k h. fails_before_first is_separator text k 0 (omega (arith, past, h))))
