-- The key of a row is a value, as the directions of its operator's runs ask.
use Rattle.std.proofs.Common.{◌≡◌, ℕ, List, [], ◌∷◌, refl, subst, sym}
use Rattle.std.specs.Prelude.{Option, Some, None, slice_get}
use Rattle.std.specs.List.{AllByRecursion}
use Rattle.std.specs.Option.{option_map_or}
use Rattle.pig_value.specs.Trees.{Tree, v_null}
use Rattle.pig_value.specs.Valid.{IsRow, IsValue}
use Rattle.pig_value.specs.declared.operators.Dir.{Dir}
use Rattle.pig_value.proofs.list_laws.Listing.{each_at, each_weaker}
use Rattle.pig_keycode.specs.Keys.{IsKey}
use Rattle.pig_typed.specs.Literals.{LiteralsAre}
use Rattle.pig_plan.proofs.Values.{word_is_text}
use Rattle.pig_plan.specs.ByKey.{key_of}
use Rattle.pig_plan.specs.Entries.{key_at, keyed_at}
use Rattle.pig_plan.specs.Laws.{KeyLiteralsAre, OpLiteralsAre}
use Rattle.pig_plan.specs.Operators.{keys_of}
use Rattle.pig_plan.specs.Plans.{Keyed, PlanOp, p_load, p_filter, p_foreach, p_group_all, p_group, p_join, p_union, p_distinct, p_order, p_limit, p_store, p_assert, p_rank}
use Rattle.pig_operators.proofs.Keying.{keys_valid}
use Rattle.pig_operators.proofs.SortEntries.{is_key}
use Rattle.pig_shuffle.specs.Held.{dirs_by}

key_valid : (vs : List Tree) → IsRow vs → IsValue (key_of vs)
key_valid [] h = h
key_valid (v ∷ []) h = h.0
key_valid (v ∷ w ∷ vs) h = h

keyed_valid : (inputs : List Keyed) → KeyLiteralsAre IsValue inputs → (i : ℕ) (row : List Tree) → IsRow row → IsValue (keyed_at inputs i row)
keyed_valid inputs ok i row h = by_found (slice_get inputs i) refl
  where
    by_found : (o : Option Keyed) → slice_get inputs i ≡ o → IsValue (option_map_or (λ input. key_of (keys_of input.keys row)) o v_null)
    by_found None e = tt
    by_found (Some input) e =
        key_valid (keys_of input.keys row)
        (keys_valid input.keys row (each_at (λ k. AllByRecursion (LiteralsAre IsValue) k.keys) inputs i input e ok) h)

-- the key of a row, in the directions of the operator
pub key_fits : (o : PlanOp) → OpLiteralsAre IsValue o → (i : ℕ) (row : List Tree) → IsRow row → IsKey (dirs_by o) (key_at o i row)
key_fits (p_group_all input) ok i row h = word_is_text
key_fits (p_group inputs) ok i row h = keyed_valid inputs ok i row h
key_fits (p_join inputs side replicated) ok i row h = keyed_valid inputs ok i row h
key_fits (p_distinct input) ok i row h = h
key_fits (p_order input keys) ok i row h = is_key keys row h
key_fits (p_rank input keys dense) ok i row h = is_key keys row h
key_fits (p_load path delim columns) ok i row h = tt
key_fits (p_filter input cond) ok i row h = tt
key_fits (p_foreach input block) ok i row h = tt
key_fits (p_union inputs) ok i row h = tt
key_fits (p_limit input count) ok i row h = tt
key_fits (p_store input path delim) ok i row h = tt
key_fits (p_assert input cond message) ok i row h = tt

pub value_of_key : (ds : List Dir) (key : Tree) → IsKey ds key → IsValue key
value_of_key [] key h = h
value_of_key (d ∷ ds) key h = h.0

-- in all these directions, which are those of the operator
pub fits_all : (o : PlanOp) → OpLiteralsAre IsValue o → (i : ℕ) (row : List Tree) → IsRow row
    → (all : List (List Dir)) → AllByRecursion (λ ds. ds ≡ dirs_by o) all
    → AllByRecursion (λ ds. IsKey ds (key_at o i row)) all
fits_all o ok i row h all are =
    each_weaker (λ ds. ds ≡ dirs_by o) (λ ds. IsKey ds (key_at o i row))
    (λ ds e. subst (λ cs. IsKey cs (key_at o i row)) (sym e) (key_fits o ok i row h)) all are
