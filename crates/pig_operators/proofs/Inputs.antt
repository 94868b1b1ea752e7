-- The inputs of a group, one after another.
use Rattle.std.proofs.Common.{◌≡◌, ◌<◌, ◌≤◌, ◌+◌, ◌==◌, ℕ, true, false, List, [], ◌∷◌, ◌++◌, map, refl, sym, ◌∙◌, ap, subst, arith, rules}
use Rattle.std.specs.Prelude.{Some, option_map, slice_get}
use Rattle.std.specs.List.{AllByRecursion, filter}
use Rattle.std.specs.Ordering.{nat_cmp, is_gt}
use Rattle.std.specs.declared.cmp.Ordering.TheVariants.{Less}
use Rattle.std.proofs.lemmas.Cmp.{tied_itself, nat_cmp_total}
use Rattle.std.proofs.lemmas.List.{append-nil}
use Rattle.std.proofs.lemmas.List.Elements.{filter-append}
use Rattle.pig_value.specs.Gathering.{Entry}
use Rattle.pig_value.specs.Orders.{row_cmp, bag_of}
use Rattle.pig_value.specs.Sorts.{Ascends}
use Rattle.pig_value.proofs.list_laws.Bags.{sorted_is}
use Rattle.pig_value.proofs.list_laws.Listing.{each_weaker, filter_all, filter_none}
use Rattle.pig_plan.specs.ByKey.{rows_of}
use Rattle.pig_runs.specs.Entries.{InDirections}
use Rattle.pig_operators.specs.Groups.{between, IsInput}
use Rattle.pig_operators.proofs.Between.{ascends_before, ascends_behind, between_parts, each_behind, each_between, first_between}
use Rattle.pig_operators.proofs.Sorted.{ascends_where, behind_key, by_input, first_not_greater, second_not_greater}

abbrev input_is : ℕ → Entry → Type 0
input_is i e = e.input ≡ i

abbrev from_input : ℕ → Entry → Type 0
from_input i e = i ≤ e.input

same_test : (i j : ℕ) → i ≡ j → (i == j) ≡ true
same_test i j h = search rules

other_test : (i j : ℕ) → (i ≡ j → ⊥) → (i == j) ≡ false
other_test i j h = search rules

-- the rows of an input, over two parts of the entries
rows_kept : (i : ℕ) (es fs : List Entry) → filter (λ e. e.input == i) (es ++ fs) ≡ filter (λ e. e.input == i) es ++ filter (λ e. e.input == i) fs
rows_kept i es fs = filter-append (λ e. e.input == i) es fs

none_of_input : (i : ℕ) (es : List Entry) → AllByRecursion (λ e. e.input ≡ i → ⊥) es → filter (λ e. e.input == i) es ≡ []
none_of_input i es h = filter_none (λ e. e.input == i) es (each_weaker (λ e. e.input ≡ i → ⊥) (λ e. (e.input == i) ≡ false) (λ e k. other_test e.input i k) es h)

all_of_input : (i : ℕ) (es : List Entry) → AllByRecursion (input_is i) es → filter (λ e. e.input == i) es ≡ es
all_of_input i es h = filter_all (λ e. e.input == i) es (each_weaker (input_is i) (λ e. (e.input == i) ≡ true) (λ e k. same_test e.input i k) es h)

-- what is left without entries of other inputs
pub rows_left : (j : ℕ) (es fs : List Entry) → AllByRecursion (λ e. e.input ≡ j → ⊥) es → rows_of (es ++ fs) j ≡ rows_of fs j
rows_left j es fs h = ap (λ l. bag_of (map (λ e. e.row) l)) (rows_kept j es fs ∙ ap (λ l. l ++ filter (λ e. e.input == j) fs) (none_of_input j es h))

rows_ascend : (i : ℕ) (es : List Entry) → AllByRecursion (input_is i) es → Ascends behind_key es → Ascends row_cmp (map (λ e. e.row) es)
rows_ascend i [] h k = tt
rows_ascend i (e ∷ []) h k = (tt, tt)
rows_ascend i (e ∷ f ∷ es) h k = (
  second_not_greater (nat_cmp e.input f.input) (row_cmp e.row f.row) (ap (λ n. nat_cmp n f.input) (h.0 ∙ sym h.1.0) ∙ tied_itself nat_cmp_total f.input) k.0,
  rows_ascend i (f ∷ es) h.1 k.1,
)

-- the first entries are the input's, and those behind them are of other inputs: the first ones' rows are the input's bag
pub rows_first : (i : ℕ) (es fs : List Entry) → AllByRecursion (input_is i) es → AllByRecursion (λ e. e.input ≡ i → ⊥) fs → Ascends behind_key es → rows_of (es ++ fs) i ≡ map (λ e. e.row) es
rows_first i es fs h k up =
    ap (λ l. bag_of (map (λ e. e.row) l)) (rows_kept i es fs ∙ (λ m. all_of_input i es h m ++ none_of_input i fs k m) ∙ append-nil es)
    ∙ sorted_is row_cmp (map (λ e. e.row) es) (rows_ascend i es h up)

-- ---- by places

-- the entries of a group from a place on, those before being of lower inputs
pub record Remains (es : List Entry) (from at end i : ℕ) : Type 0 where
  pub order : from ≤ at
  pub within : at ≤ end
  pub high : AllByRecursion (from_input i) (between at end es)
  pub rest : (j : ℕ) → i ≤ j → rows_of (between from end es) j ≡ rows_of (between at end es) j

pub remains_all : (es : List Entry) (from end : ℕ) → from ≤ end → Remains es from from end 0
remains_all es from end h = record {
  order = omega arith;
  within = h;
  high = each_between (from_input 0) from end es (λ k x low high here. omega arith);
  rest = λ j low. refl;
}

-- the entries of a group behind those of an input are of greater ones
all_greater : (i : ℕ) (fs : List Entry) → AllByRecursion (from_input i) fs → Ascends by_input fs → ((e : Entry) → slice_get fs 0 ≡ Some e → e.input ≡ i → ⊥) → AllByRecursion (from_input (i + 1)) fs
all_greater i [] h up other = tt
all_greater i (e ∷ fs) h up other = rising e (let low = h.0 in omega (arith, low, first)) fs h.1 up
  where
    first : e.input ≡ i → ⊥
    first = other e refl

    rising : (d : Entry) → i + 1 ≤ d.input → (gs : List Entry) → AllByRecursion (from_input i) gs → Ascends by_input (d ∷ gs) → AllByRecursion (from_input (i + 1)) (d ∷ gs)
    rising d low [] k asc = (low, tt)
    rising d low (g ∷ gs) k asc = (low, rising g (let step : d.input ≤ g.input = not_greater d.input g.input asc.0 in omega (arith, low, step)) gs k.1 asc.1)
      where
        not_greater : (m n : ℕ) → is_gt (nat_cmp m n) ≡ false → m ≤ n
        not_greater m n e = search rules

some_same : {X : Type 0} {x y : X} → Some x ≡ Some y → x ≡ y
some_same h = cc

-- the next input's entries, and what remains behind them
module _ (run : InDirections) (from at end i next : ℕ) (left : Remains run.entries from at end i) (found : IsInput run at end i next) (up : Ascends behind_key (between from end run.entries)) where
  parts : between at end run.entries ≡ between at next run.entries ++ between next end run.entries
  parts = between_parts at next end run.entries found.order found.within

  here : AllByRecursion (input_is i) (between at next run.entries)
  here = each_between (input_is i) at next run.entries (λ k x low high is. some_same (sym (ap (option_map (λ e. e.input)) is) ∙ found.same k low high))

  up_here : Ascends behind_key (between at next run.entries ++ between next end run.entries)
  up_here = subst (Ascends behind_key) parts (ascends_behind behind_key (between from at run.entries) (between at end run.entries) (subst (Ascends behind_key) (between_parts from at end run.entries left.order left.within) up))

  high_behind : AllByRecursion (from_input i) (between next end run.entries)
  high_behind = each_behind (from_input i) (between at next run.entries) (between next end run.entries) (subst (AllByRecursion (from_input i)) parts left.high)

  inputs_up : Ascends by_input (between next end run.entries)
  inputs_up =
      ascends_where behind_key by_input (from_input i) (λ e f _ _ h. first_not_greater (nat_cmp e.input f.input) (row_cmp e.row f.row) h) (between next end run.entries) high_behind
      (ascends_behind behind_key (between at next run.entries) (between next end run.entries) up_here)

  behind : AllByRecursion (from_input (i + 1)) (between next end run.entries)
  behind = all_greater i (between next end run.entries) high_behind inputs_up
      (λ e is same. let first = first_between next end run.entries e is in found.other first.0 (ap (option_map (λ e. e.input)) first.1 ∙ ap Some same))

  others : AllByRecursion (λ e. e.input ≡ i → ⊥) (between next end run.entries)
  others = each_weaker (from_input (i + 1)) (λ e. e.input ≡ i → ⊥) (λ e low same. omega (arith, low, same)) (between next end run.entries) behind

  pub input_rows : rows_of (between from end run.entries) i ≡ map (λ e. e.row) (between at next run.entries)
  input_rows =
      left.rest i (omega arith)
      ∙ (ap (λ l. rows_of l i) parts
      ∙ rows_first i (between at next run.entries) (between next end run.entries) here others (ascends_before behind_key (between at next run.entries) (between next end run.entries) up_here))

  pub input_behind : Remains run.entries from next end (i + 1)
  input_behind = record {
    order = let a = left.order in let b = found.order in omega (arith, a, b);
    within = found.within;
    high = behind;
    rest = λ j low.
        left.rest j (omega (arith, low))
        ∙ (ap (λ l. rows_of l j) parts
        ∙ rows_left j (between at next run.entries) (between next end run.entries)
        (each_weaker (input_is i) (λ e. e.input ≡ j → ⊥) (λ e is same. omega (arith, is, same, low)) (between at next run.entries) here));
  }
