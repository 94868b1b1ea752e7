-- Keys as rows, and the rows of the keys of a run, one by one.
use Rattle.std.proofs.Common.{◌≡◌, ◌==◌, ℕ, Bool, true, false, List, [], ◌∷◌, ◌++◌, map, refl, sym, ◌∙◌, ap, subst, append_assoc}
use Rattle.std.specs.Prelude.{get_or}
use Rattle.std.specs.Coded.{Coded-set}
use Rattle.std.proofs.Math.Logic.{∥∥₁_map, ∥∥₁_elim}
use Rattle.std.proofs.lemmas.List.Concat.{flat_map_single}
use Rattle.pig_value.specs.Gathering.{Entry}
use Rattle.pig_value.specs.Orders.{tree_cmp}
use Rattle.pig_value.specs.Sorts.{Ascends, distinct}
use Rattle.pig_value.specs.Trees.{Tree, v_tuple}
use Rattle.pig_value.specs.Valid.{IsValue}
use Rattle.pig_value.proofs.TreeLaws.{fields_there}
use Rattle.pig_keycode.specs.Codable.{IsCodeOf, IsCodeOfRow}
use Rattle.pig_keycode.specs.Codes.{code}
use Rattle.pig_packed.specs.Growth.{Begun, IsWhole, and_row, coded_begun}
use Rattle.pig_runs.specs.Entries.{AreKeyed, InDirections, run_cmp}
use Rattle.pig_operators.specs.Groups.{IsGroup, first_key}
use Rattle.pig_operators.proofs.Stretches.{gathered_group, sorted_out}
use Rattle.pig_physical.specs.Values.{key_row}
use Rattle.pig_reduce.specs.Made.{IsSomeCode, key_made, keys_to_come}

abbrev tagged : List ℕ → Bool
tagged bytes = get_or bytes 0 0 == 6

true_not_false : {G : Type 0} → true ≡ false → G
true_not_false h = absurd (cc)

-- of a key that is a tuple the code is that of its fields as a row, and another has no fields
row_of_tuple : (key : Tree) → tagged (code key) ≡ true → IsValue key → IsCodeOfRow (code key) (key_row key)
row_of_tuple (v_tuple vs) h good = record
    { is = ap (λ us. code (v_tuple us)) (sym (fields_there vs)); value = subst (λ us. IsValue (v_tuple us)) (sym (fields_there vs)) good }
row_of_tuple key h good = true_not_false (sym h)

row_of_none : (key : Tree) → tagged (code key) ≡ false → IsCodeOfRow (6 ∷ 0 ∷ []) (key_row key)
row_of_none (v_tuple vs) h = true_not_false h
row_of_none key h = record { is = refl; value = tt }

module _ (bytes : List ℕ) (key : Tree) (h : IsCodeOf bytes key) where
  pub tuple_code : tagged bytes ≡ true → IsCodeOfRow bytes (key_row key)
  tuple_code is = subst (λ bs. IsCodeOfRow bs (key_row key)) (sym h.is) (row_of_tuple key (sym (ap tagged h.is) ∙ is) h.value)

  pub other_code : tagged bytes ≡ false → IsCodeOfRow (6 ∷ 0 ∷ []) (key_row key)
  other_code is = row_of_none key (sym (ap tagged h.is) ∙ is)

pub tuple_whole : (bytes : List ℕ) → IsSomeCode bytes → tagged bytes ≡ true → IsWhole bytes
tuple_whole bytes some is = ∥∥₁_map some (λ k. (key_row k.0, tuple_code bytes k.0 k.1 is))

-- ---- the keys of a run

pub keys_are : (es : List Entry) → keys_to_come (record { dirs = []; entries = es }) 0 ≡ map key_row (distinct tree_cmp (map (λ e. e.key) es))
keys_are es = flat_map_single key_row (distinct tree_cmp (map (λ e. e.key) es))

-- the row of a group's key is added before those of the others
pub key_first : (run : InDirections) (from end : ℕ) → IsGroup run from end → run.dirs ≡ [] → ∥ Ascends (run_cmp run.dirs) run.entries ∥₁
    → (b new : Begun) → ∥ AreKeyed run.dirs run.entries ∥₁ → (AreKeyed run.dirs run.entries → new ≡ and_row (key_row (first_key run from)) b)
    → (all : List (List Tree))
    → b.rows ++ keys_to_come run from ≡ all → (new.begun ≡ []) × (new.rows ++ keys_to_come run end ≡ all)
key_first run from end group none up b new good pushed all is =
    let row = key_row (first_key run from) in
    let rest = keys_to_come run end in
    let added : new ≡ and_row row b = ∥∥₁_elim good (Coded-set coded_begun new (and_row row b)) pushed in (
      ap (λ c. c.begun) added,
      ap (λ c. c.rows ++ rest) added
          ∙ (append_assoc b.rows (row ∷ []) rest
          ∙ (ap (λ l. b.rows ++ l) (sym (gathered_group run from end group (sorted_out run.dirs run.entries up) key_made none)) ∙ is)),
    )
