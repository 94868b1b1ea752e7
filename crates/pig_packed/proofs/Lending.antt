-- What is lent is the code of a row.
use Rattle.std.proofs.Common.{◌≡◌, ◌<◌, ◌≤◌, ◌+◌, ℕ, List, [], ◌∷◌, ◌++◌, length, take, drop, refl, sym, ◌∙◌, ap, subst, arith}
use Rattle.std.specs.Prelude.{Option, Some, None, Result, Ok, Err, IfOk, option_map, slice_get}
use Rattle.std.specs.Coded.{Coded-set, coded_list}
use Rattle.std.proofs.Math.Logic.{∥∥₁_map, ∥∥₁_elim}
use Rattle.std.proofs.Math.Seq.{drop-length}
use Rattle.std.proofs.lemmas.List.{length-take-le, drop-append-le}
use Rattle.pig_value.specs.Trees.{Tree, row_tree}
use Rattle.pig_value.specs.TreeCode.{coded_tree}
use Rattle.pig_value.specs.Valid.{AreRows, IsRow}
use Rattle.pig_value.specs.declared.values.Value.{Value}
use Rattle.pig_value.proofs.ValidLaws.{rows_each}
use Rattle.pig_value.proofs.list_laws.Indexing.{some_at, more_taken}
use Rattle.pig_value.proofs.list_laws.Listing.{some_same, each_at}
use Rattle.pig_keycode.specs.Codable.{IsCodeOfRow}
use Rattle.pig_keycode.specs.Reading.{row_code}
use Rattle.pig_packed.specs.Growth.{IsWhole}
use Rattle.pig_packed.specs.RowCodes.{ends_from, HeldRows}
use Rattle.pig_packed.proofs.Standing.{code_stands}

-- ---- for crates above: the row whose code is lent

pub lent_row : (rows : List (List Tree)) (at : ℕ) (bytes : List ℕ) → option_map row_code (slice_get rows at) ≡ Some bytes
    → (row : List Tree) × (slice_get rows at ≡ Some row) × (row_code row ≡ bytes)
lent_row rows at bytes is = by (slice_get rows at) refl
  where
    by : (o : Option (List Tree)) → slice_get rows at ≡ o → (row : List Tree) × (slice_get rows at ≡ Some row) × (row_code row ≡ bytes)
    by None e = absurd (let wrong : None ≡ Some bytes = sym (ap (option_map row_code) e) ∙ is in cc)
    by (Some row) e = (row, e, (let same : Some (row_code row) ≡ Some bytes = sym (ap (option_map row_code) e) ∙ is in some_same (row_code row) bytes same))

pub lent_is_code : (rows : List (List Tree)) (at : ℕ) (bytes : List ℕ) (row : List Tree) → AreRows rows → slice_get rows at ≡ Some row → row_code row ≡ bytes → IsCodeOfRow bytes row
lent_is_code rows at bytes row good here is = record { is = sym is; value = each_at IsRow rows at row here (rows_each rows good) }

-- a code that is lent may be added to other rows
pub lent_whole : (rows : List (List Tree)) (at : ℕ) (bytes : List ℕ) → ∥ AreRows rows ∥₁ → option_map row_code (slice_get rows at) ≡ Some bytes → IsWhole bytes
lent_whole rows at bytes good is =
    let here = lent_row rows at bytes is in
    ∥∥₁_map good (λ h. (here.0, lent_is_code rows at bytes here.0 h here.1 here.2))

-- ---- within

pub code_lent : (bytes ends : List ℕ) (held : HeldRows bytes) (now : List (List Tree)) (at begin end : ℕ) (part : List ℕ) → held.0 ≡ now → ends ≡ ends_from 0 held.0 → at < length now
    → slice_get (0 ∷ ends) at ≡ Some begin → slice_get ends at ≡ Some end → part ≡ drop begin (take end bytes) → option_map row_code (slice_get now at) ≡ Some part
code_lent bytes ends held now at begin end part same are within begins is_end is =
    let here = some_at held.0 at (subst (λ l. at < length l) (sym same) within) in
    let stands = code_stands bytes held.0 at begin end here.0 held.1.1 here.1 (ap (λ l. slice_get (0 ∷ l) at) (sym are) ∙ begins) (ap (λ l. slice_get l at) (sym are) ∙ is_end) in
    ap (λ l. option_map row_code (slice_get l at)) (sym same) ∙ (ap (option_map row_code) here.1 ∙ ap Some (sym stands ∙ sym is))

pub row_read : {E : Type 0} (now : List (List Tree)) (at : ℕ) (part : List ℕ) (r : Result (List Value) E) → ∥ AreRows now ∥₁ → option_map row_code (slice_get now at) ≡ Some part
    → ((row : List Tree) → IsCodeOfRow part row → IfOk r (λ found. row_tree found ≡ row)) → IfOk r (λ found. slice_get now at ≡ Some (row_tree found))
row_read now at part (Err fault) good is told = tt
row_read now at part (Ok found) good is told =
    let here = lent_row now at part is in
    let same : row_tree found ≡ here.0 =
    ∥∥₁_elim good (Coded-set (coded_list coded_tree) (row_tree found) here.0) (λ h. told here.0 (lent_is_code now at part here.0 h here.1 here.2))
    in
    here.1 ∙ ap Some (sym same)

-- none stand from a place on up to itself
pub none_between : {X : Type 0} (from : ℕ) (xs : List X) → from ≤ length xs → drop from (take from xs) ≡ []
none_between from xs within = let size : length (take from xs) ≡ from = length-take-le from xs within in ap (λ n. drop n (take from xs)) (sym size) ∙ drop-length (take from xs)

-- one more row
pub one_more_between : {X : Type 0} (from at : ℕ) (xs so_far new : List X) (x : X) → from ≤ at → slice_get xs at ≡ Some x → at < length xs → so_far ≡ drop from (take at xs)
    → new ≡ so_far ++ x ∷ [] → new ≡ drop from (take (at + 1) xs)
one_more_between from at xs so_far new x above here within were is =
    let size : length (take at xs) ≡ at = length-take-le at xs (omega (arith, within)) in
    is
    ∙ (ap (λ l. l ++ x ∷ []) were
    ∙ (sym (drop-append-le from (take at xs) (x ∷ []) (omega (arith, size, above))) ∙ ap (drop from) (sym (more_taken xs at x here))))
