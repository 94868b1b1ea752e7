-- What is found for a cut in no rows, and in rows with one more.
use Rattle.std.proofs.Common.{◌≡◌, refl, sym, ap, ◌∙◌, subst, cond}
use Rattle.std.specs.Prelude.{ℕ, List, [], ◌∷◌, ◌++◌, drop, length, map, take, Option, Some, None, slice_get}
use Rattle.std.proofs.Math.Seq.{take-append_seam}
use Rattle.std.proofs.lemmas.List.{map-append}
use Rattle.pig_value.specs.Functions.{column_found, looked_at}
use Rattle.pig_value.specs.Trees.{Tree, at, or_null}
use Rattle.pig_value.specs.Valid.{IsRow, IsValue}
use Rattle.pig_value.specs.declared.functions.Function.{Function}
use Rattle.pig_value.proofs.ValidLaws.{valid_field}
use Rattle.pig_value.proofs.list_laws.Bags.{either_way}
use Rattle.pig_builtins.specs.Folds.{is_algebraic, merge_found}
use Rattle.pig_builtins.proofs.Merging.{merged}
use Rattle.pig_typed.specs.Operators.{pick}
use Rattle.pig_algebra.specs.Combining.{seen_in}
use Rattle.pig_algebra.specs.Cuts.{c_part}
use Rattle.pig_algebra.specs.Cuts.{cut_typed}
use Rattle.pig_algebra.specs.declared.cuts.Cut.{Cut}
use Rattle.pig_combine.specs.Tallies.{found_by, seen_row, t_found, t_other, told, told_more}
use Rattle.pig_combine.specs.declared.tally.Tally.{Tally}

-- the columns of no rows
none_seen : (columns : Option (List ℕ)) → seen_in columns [] ≡ []
none_seen None = refl
none_seen (Some fields) = refl

pub none_found : (function : Function) (columns : Option (List ℕ)) → found_by [] (c_part function columns) ≡ cond (is_algebraic function) (t_found function (column_found function [])) t_other
none_found function columns = ap (λ rows. cond (is_algebraic function) (t_found function (column_found function (map (looked_at function) rows))) t_other) (none_seen columns)

-- what a function looks at in rows and one more
looked_more : (function : Function) (columns : Option (List ℕ)) (rows : List (List Tree)) (row : List Tree)
    → map (looked_at function) (seen_in columns (rows ++ row ∷ [])) ≡ map (looked_at function) (seen_in columns rows) ++ looked_at function (seen_row columns row) ∷ []
looked_more function None rows row = map-append (looked_at function) rows (row ∷ [])
looked_more function (Some fields) rows row =
    ap (map (looked_at function)) (map-append (pick fields) rows (row ∷ [])) ∙ map-append (looked_at function) (map (pick fields) rows) (pick fields row ∷ [])

pub more_found : (function : Function) (columns : Option (List ℕ)) (rows : List (List Tree)) (row : List Tree)
    → told_more (found_by rows (c_part function columns)) (looked_at function (seen_row columns row)) ≡ found_by (rows ++ row ∷ []) (c_part function columns)
more_found function columns rows row =
    let us : List Tree = map (looked_at function) (seen_in columns rows) in
    let v : Tree = looked_at function (seen_row columns row) in
    let ws : List Tree = map (looked_at function) (seen_in columns (rows ++ row ∷ [])) in
    let found : column_found function ws ≡ merge_found function (column_found function us) (column_found function (v ∷ [])) =
    ap (column_found function) (looked_more function columns rows row) ∙ merged function us (v ∷ []) in
    either_way (is_algebraic function)
    (λ e. subst (λ b. told_more (cond b (t_found function (column_found function us)) t_other) v ≡ cond b (t_found function (column_found function ws)) t_other) (sym e) (ap (t_found function) (sym found)))
    (λ e. subst (λ b. told_more (cond b (t_found function (column_found function us)) t_other) v ≡ cond b (t_found function (column_found function ws)) t_other) (sym e) refl)

-- the field of a row of values
pub at_value : (row : List Tree) (place : ℕ) → IsRow row → IsValue (at place row)
at_value row place h = by (slice_get row place) refl
  where
    by : (o : Option Tree) → slice_get row place ≡ o → IsValue (or_null o)
    by None e = tt
    by (Some v) e = valid_field row place v e h

-- a row of values with one more
pub row_more : (row : List Tree) (v : Tree) → IsRow row → IsValue v → IsRow (row ++ v ∷ [])
row_more [] v h k = (k, tt)
row_more (w ∷ row) v h k = (h.0, row_more row v h.1 k)

-- ---- a row for the first cut and for those behind it

heads : {X : Type 0} (x y : X) (xs ys : List X) → x ∷ xs ≡ y ∷ ys → x ≡ y
heads {X = X} x y xs ys h = ap (first_or x) h
  where
    first_or : X → List X → X
    first_or d [] = d
    first_or d (z ∷ zs) = z

tails : {X : Type 0} (x y : X) (xs ys : List X) → x ∷ xs ≡ y ∷ ys → xs ≡ ys
tails x y xs ys h = ap (drop 1) h

pub row_added : (rows : List (List Tree)) (row : List Tree) (cuts more : List Cut) (cut : Cut) (tallies rest last : List Tally) (tally now : Tally)
    → cuts ≡ cut ∷ more → tallies ≡ tally ∷ rest
    → (told tally ≡ found_by rows (cut_typed cut) → told now ≡ found_by (rows ++ row ∷ []) (cut_typed cut))
    → (map told rest ≡ map (found_by rows) (map cut_typed more) → map told last ≡ map (found_by (rows ++ row ∷ [])) (map cut_typed more))
    → map told tallies ≡ map (found_by rows) (map cut_typed cuts)
    → told now ∷ map told last ≡ map (found_by (rows ++ row ∷ [])) (map cut_typed cuts)
row_added rows row cuts more cut tallies rest last tally now are_cuts are_tallies one others h =
    let same : told tally ∷ map told rest ≡ found_by rows (cut_typed cut) ∷ map (found_by rows) (map cut_typed more) =
    ap (map told) (sym are_tallies) ∙ h ∙ ap (λ cs. map (found_by rows) (map cut_typed cs)) are_cuts in
    let first : told now ≡ found_by (rows ++ row ∷ []) (cut_typed cut) =
    one (heads (told tally) (found_by rows (cut_typed cut)) (map told rest) (map (found_by rows) (map cut_typed more)) same) in
    let behind : map told last ≡ map (found_by (rows ++ row ∷ [])) (map cut_typed more) =
    others (tails (told tally) (found_by rows (cut_typed cut)) (map told rest) (map (found_by rows) (map cut_typed more)) same) in
    (λ i. first i ∷ behind i) ∙ ap (λ cs. map (found_by (rows ++ row ∷ [])) (map cut_typed cs)) (sym are_cuts)

-- ---- what is written through a slice

pub written_back : {X : Type 0} (old new : List X) (n : ℕ) → n ≡ length old → length new ≡ length old → take n (new ++ drop (length new) old) ≡ new
written_back old new n is same = ap (λ m. take m (new ++ drop (length new) old)) (is ∙ sym same) ∙ take-append_seam new (drop (length new) old)
