-- A plain row is read again from its text.
use Rattle.std.proofs.Common.{◌≡◌, ◌≢◌, ◌==◌, ◌-◌, ℕ, zero, suc, false, cond, List, [], ◌∷◌, length, map, take, drop, Some, refl, ◌∙◌, ap}
use Rattle.std.specs.List.{All, slice_get, slice_index}
use Rattle.std.specs.Option.{option_map_or}
use Rattle.std.specs.Str.Lines.{strip_carriage_return}
use Rattle.std.proofs.lemmas.Bool.{ne_eqb}
use Rattle.std.proofs.lemmas.Bool.Decides.{Decides-eqb}
use Rattle.std.proofs.lemmas.List.Elements.{All-head, All-tail, All-weaker}
use Rattle.std.proofs.lemmas.List.Splits.{slice_split_at, slice_split_none}
use Rattle.pig_value.specs.declared.inputs.Column.{Column}
use Rattle.pig_value.specs.FieldReader.{field_value}
use Rattle.pig_value.specs.FieldRows.{column_of, pieces, row_of}
use Rattle.pig_value.specs.Lines.{lines}
use Rattle.pig_value.specs.Texts.{AreLineFreeRows, IsLineFreeRow, row_text, rows_text, text_of}
use Rattle.pig_value.specs.Trees.{Tree, v_null, KindTree, kind_tree}
use Rattle.pig_cast.proofs.ReadBack.{field_back}
use Rattle.pig_storage.specs.ReadBack.{EndsInNoCr, IsPlainBetween, IsPlainLine, IsPlainRow, StandInTurn}
use Rattle.pig_storage.proofs.StoredRows.{rows_stored}

-- texts without the delimiter are the pieces again
other_byte : (d b : ℕ) → b ≢ d → (b == d) ≡ false
other_byte d b other = ne_eqb b d other

pieces_back : (d : ℕ) (v : Tree) (vs : List Tree) → All (IsPlainBetween d) (v ∷ vs) → pieces d (row_text d (v ∷ vs)) ≡ map text_of (v ∷ vs)
pieces_back d v [] plain =
    slice_split_none (λ b. b == d) (text_of v) (All-weaker (λ b. b ≢ d) (λ b. (b == d) ≡ false) (other_byte d) (text_of v) (All-head (IsPlainBetween d) v [] plain).1)
pieces_back d v (w ∷ vs) plain =
    let free : All (λ b. (b == d) ≡ false) (text_of v) = All-weaker (λ b. b ≢ d) (λ b. (b == d) ≡ false) (other_byte d) (text_of v) (All-head (IsPlainBetween d) v (w ∷ vs) plain).1 in
    slice_split_at (λ b. b == d) (text_of v) d (row_text d (w ∷ vs)) free ((Decides-eqb d d).1 refl) ∙ ap (λ l. text_of v ∷ l) (pieces_back d w vs (All-tail (IsPlainBetween d) v (w ∷ vs) plain))

-- the first of what is left of a list stands at its place
at_place : {X : Type 0} (xs : List X) (i : ℕ) (x : X) (rest : List X) → drop i xs ≡ x ∷ rest → (slice_get xs i ≡ Some x) × (drop (suc i) xs ≡ rest)
at_place [] zero x rest e = absurd (cc)
at_place [] (suc i) x rest e = absurd (cc)
at_place (y ∷ ys) zero x rest e =
    let first : y ≡ x = cc in
    (ap Some first, ap (drop 1) e)
at_place (y ∷ ys) (suc i) x rest e = at_place ys i x rest e

columns_back : (d : ℕ) (fields : List (List ℕ)) (i : ℕ) (columns : List Column) (row : List Tree) → StandInTurn i columns → IsPlainRow columns d row → drop i fields ≡ map text_of row → map (column_of fields) columns ≡ row
columns_back d fields i [] [] turn plain left = refl
columns_back d fields i [] (v ∷ vs) turn plain left = absurd plain.0
columns_back d fields i (c ∷ cs) [] turn plain left = absurd plain.0
columns_back d fields i (c ∷ cs) (v ∷ vs) turn plain left =
    let k : KindTree = kind_tree c.kind in
    let place = at_place fields i (text_of v) (map text_of vs) left in
    let own = All-head (IsPlainBetween d) v vs plain.2 in
    let found : slice_get fields c.position ≡ Some (text_of v) = ap (slice_get fields) turn.0 ∙ place.0 in
    let here : column_of fields c ≡ v = ap (λ o. option_map_or (field_value k) o v_null) found ∙ field_back k v plain.0.0 plain.1.0 own.0 in
    let more = columns_back d fields (suc i) cs vs turn.1 (plain.0.1, plain.1.1, All-tail (IsPlainBetween d) v vs plain.2) place.1 in
    λ i. here i ∷ more i

pub row_back : (columns : List Column) (d : ℕ) (row : List Tree) → StandInTurn 0 columns → IsPlainRow columns d row → row_of columns d (row_text d row) ≡ row
row_back [] d [] turn plain = refl
row_back (c ∷ cs) d [] turn plain = absurd plain.0
row_back columns d (v ∷ vs) turn plain = columns_back d (pieces d (row_text d (v ∷ vs))) 0 columns (v ∷ vs) turn plain (pieces_back d v vs plain.2)

-- so are all rows of an output
not_stripped : (bytes : List ℕ) → EndsInNoCr bytes → strip_carriage_return bytes ≡ bytes
not_stripped bytes ends = ap (λ t. cond t (take (length bytes - 1) bytes) bytes) (ne_eqb (slice_index bytes (length bytes - 1)) 13 ends)

each_back : (columns : List Column) (d : ℕ) (rows : List (List Tree)) → StandInTurn 0 columns → All (IsPlainLine columns d) rows → map (row_of columns d) (map strip_carriage_return (map (row_text d) rows)) ≡ rows
each_back columns d [] turn plain = refl
each_back columns d (row ∷ rows) turn plain =
    let own = All-head (IsPlainLine columns d) row rows plain in
    let here : row_of columns d (strip_carriage_return (row_text d row)) ≡ row = ap (row_of columns d) (not_stripped (row_text d row) own.2) ∙ row_back columns d row turn own.0 in
    let more = each_back columns d rows turn (All-tail (IsPlainLine columns d) row rows plain) in
    λ i. here i ∷ more i

pub rows_back : (columns : List Column) (d : ℕ) (rows : List (List Tree)) → StandInTurn 0 columns → d ≢ 10 → All (IsPlainLine columns d) rows → map (row_of columns d) (lines (rows_text d rows)) ≡ rows
rows_back columns d rows turn other plain =
    let free : AreLineFreeRows rows = All-weaker (IsPlainLine columns d) IsLineFreeRow (λ row h. h.1) rows plain in
    ap (λ ls. map (row_of columns d) (map strip_carriage_return ls)) (rows_stored d other rows free) ∙ each_back columns d rows turn plain
