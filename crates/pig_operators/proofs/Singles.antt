-- Groups with one entry of each input: their rows, joined, are one row.
use Rattle.std.proofs.Common.{◌≡◌, zero, suc, ◌<◌, ◌≤◌, ◌+◌, ℕ, List, [], ◌∷◌, ◌++◌, map, length, take, refl, sym, ◌∙◌, ap, arith, append-nil}
use Rattle.std.specs.Prelude.{⊤, Some, option_map, slice_get}
use Rattle.std.specs.List.{AllByRecursion, flat_map, range_with_len}
use Rattle.std.proofs.lemmas.List.{length-drop, length-take, map-append}
use Rattle.std.proofs.lemmas.List.Concat.{flat_map-append}
use Rattle.pig_value.specs.Gathering.{Entry}
use Rattle.pig_value.specs.declared.values.Value.{Value}
use Rattle.pig_value.specs.Trees.{tree, row_tree, rows_tree}
use Rattle.pig_value.proofs.list_laws.Indexing.{get-drop, some_at}
use Rattle.pig_value.proofs.list_laws.Listing.{each_weaker, map_each}
use Rattle.pig_plan.specs.ByKey.{rows_of}
use Rattle.pig_typed.specs.Products.{product}
use Rattle.pig_runs.specs.Entries.{InDirections}
use Rattle.pig_operators.specs.Groups.{HasOneEach, between, group_entries}
use Rattle.pig_operators.proofs.Between.{between_more}
use Rattle.pig_operators.proofs.Inputs.{rows_first, rows_left}

some_same : {X : Type 0} {x y : X} → Some x ≡ Some y → x ≡ y
some_same h = cc

-- the entries are of this input, the next one, and so on
abbrev Numbered : ℕ → List Entry → Type 0
Numbered i [] = ⊤
Numbered i (e ∷ es) = (e.input ≡ i) × Numbered (i + 1) es

numbered : (i : ℕ) (es : List Entry) → ((k : ℕ) → k < length es → option_map (λ e. e.input) (slice_get es k) ≡ Some (i + k)) → Numbered i es
numbered i [] h = tt
numbered i (e ∷ es) h = (
  some_same (h 0 (omega arith)) ∙ (let same : i + 0 ≡ i = omega arith in same),
  numbered (i + 1) es (λ k low. h (suc k) (omega (arith, low)) ∙ (let same : i + suc k ≡ i + 1 + k = omega arith in ap Some same)),
)

numbered_from : (i : ℕ) (es : List Entry) → Numbered i es → AllByRecursion (λ e. i ≤ e.input) es
numbered_from i [] h = tt
numbered_from i (e ∷ es) h = (
  (let same = h.0 in omega (arith, same)),
  each_weaker (λ f. i + 1 ≤ f.input) (λ f. i ≤ f.input) (λ f low. omega (arith, low)) es (numbered_from (i + 1) es h.1),
)

range_from : (i n : ℕ) → AllByRecursion (λ j. i ≤ j) (range_with_len i n)
range_from i zero = tt
range_from i (suc n) = (omega arith, each_weaker (λ j. i + 1 ≤ j) (λ j. i ≤ j) (λ j low. omega (arith, low)) (range_with_len (i + 1) n) (range_from (i + 1) n))

-- the bag of each input is its one row
bags_alone : (i : ℕ) (es : List Entry) → Numbered i es → map (rows_of es) (range_with_len i (length es)) ≡ map (λ e. e.row ∷ []) es
bags_alone i [] h = refl
bags_alone i (e ∷ es) h =
    let own = h.0 in
    let first : rows_of (e ∷ es) i ≡ e.row ∷ [] =
    rows_first i (e ∷ []) es (own, tt) (each_weaker (λ f. i + 1 ≤ f.input) (λ f. f.input ≡ i → ⊥) (λ f low same. omega (arith, low, same)) es (numbered_from (i + 1) es h.1)) (tt, tt)
    in
    let others : map (rows_of (e ∷ es)) (range_with_len (i + 1) (length es)) ≡ map (rows_of es) (range_with_len (i + 1) (length es)) =
    map_each (rows_of (e ∷ es)) (rows_of es) (range_with_len (i + 1) (length es))
    (each_weaker (λ j. i + 1 ≤ j) (λ j. rows_of (e ∷ es) j ≡ rows_of es j)
    (λ j low. rows_left j (e ∷ []) es ((λ same. omega (arith, own, low, same)), tt)) (range_with_len (i + 1) (length es)) (range_from (i + 1) (length es)))
    in
    λ m. first m ∷ (others ∙ bags_alone (i + 1) es h.1) m

product_alone : (es : List Entry) → product (map (λ e. e.row ∷ []) es) ≡ flat_map (λ e. e.row) es ∷ []
product_alone [] = refl
product_alone (e ∷ es) = append-nil (map (λ y. e.row ++ y) (product (map (λ f. f.row ∷ []) es))) ∙ ap (map (λ y. e.row ++ y)) (product_alone es)

-- ---- by places

get_taken : {X : Type 0} (n i : ℕ) (xs : List X) → i < n → slice_get (take n xs) i ≡ slice_get xs i
get_taken zero i xs h = absurd (omega (arith, h))
get_taken (suc n) i [] h = refl
get_taken (suc n) zero (x ∷ xs) h = refl
get_taken (suc n) (suc i) (x ∷ xs) h = get_taken n i xs (omega (arith, h))

between_length : {X : Type 0} (from n : ℕ) (xs : List X) → from + n ≤ length xs → length (between from (from + n) xs) ≡ n
between_length from n xs h =
    let size = length-take (from + n) xs in
    let cut = length-drop from (take (from + n) xs) in
    omega (arith, h, size, cut)

module _ (run : InDirections) (from end inputs : ℕ) (within : end ≤ length run.entries) (one : HasOneEach run from end inputs) where
  in_order : Numbered 0 (between from (from + inputs) run.entries)
  in_order = numbered 0 (between from (from + inputs) run.entries)
      (λ k low.
      let count = one.count in
      let size : length (between from (from + inputs) run.entries) ≡ inputs = between_length from inputs run.entries (omega (arith, within, count)) in
      let high : k < inputs = omega (arith, low, size) in
      ap (option_map (λ e. e.input)) (get-drop (take (from + inputs) run.entries) from k ∙ get_taken (from + inputs) (from + k) run.entries (omega (arith, high)))
      ∙ (one.each k high ∙ (let same : k ≡ 0 + k = omega arith in ap Some same)))

  pub partners_alone : product (map (rows_of (group_entries run from end)) (range_with_len 0 inputs)) ≡ flat_map (λ e. e.row) (between from end run.entries) ∷ []
  partners_alone =
      let count = one.count in
      let size : length (between from (from + inputs) run.entries) ≡ inputs = between_length from inputs run.entries (omega (arith, within, count)) in
      ((λ i. product (map (rows_of (group_entries run from (count i))) (range_with_len 0 (sym size i))))
      ∙ (ap product (bags_alone 0 (between from (from + inputs) run.entries) in_order)
      ∙ (product_alone (between from (from + inputs) run.entries) ∙ (λ i. flat_map (λ e. e.row) (between from (sym count i) run.entries) ∷ []))))

-- the fields of one more row
pub fields_joined : (es : List Entry) (from at : ℕ) (fields new more : List Value) → from ≤ at → at < length es → option_map (λ e. e.row) (slice_get es at) ≡ Some (row_tree more)
    → row_tree fields ≡ flat_map (λ e. e.row) (between from at es) → new ≡ fields ++ more → row_tree new ≡ flat_map (λ e. e.row) (between from (at + 1) es)
fields_joined es from at fields new more low high here so_far is =
    let found = some_at es at high in
    let same : found.0.row ≡ row_tree more = some_same (sym (ap (option_map (λ e. e.row)) found.1) ∙ here) in
    ap row_tree is
    ∙ (map-append tree fields more
    ∙ ((λ i. so_far i ++ (sym same ∙ sym (append-nil found.0.row)) i)
    ∙ (sym (flat_map-append (λ e. e.row) (between from at es) (found.0 ∷ [])) ∙ ap (flat_map (λ e. e.row)) (sym (between_more from at es found.0 low high found.1)))))

-- what is added is the one joined row
pub alone_added : (run : InDirections) (from end inputs : ℕ) → end ≤ length run.entries → HasOneEach run from end inputs → (old new : List (List Value)) (row : List Value)
    → row_tree row ≡ flat_map (λ e. e.row) (between from end run.entries) → new ≡ old ++ row ∷ [] → rows_tree new ≡ rows_tree old ++ product (map (rows_of (group_entries run from end)) (range_with_len 0 inputs))
alone_added run from end inputs within one old new row is grown =
    ap rows_tree grown ∙ (map-append row_tree old (row ∷ []) ∙ ap (λ l. rows_tree old ++ l) (ap (λ r. r ∷ []) is ∙ sym (partners_alone run from end inputs within one)))
