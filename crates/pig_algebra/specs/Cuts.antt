-- Which blocks of a FOREACH over a GROUP can be taken part by part: each item is the key, or an algebraic function of
-- the grouped rows.
use Rattle.std.specs.Prelude.{ℕ, Bool, false, ◌==◌, List, [], ◌∷◌, Option, Some, None, if◌then◌else◌}
use Rattle.std.specs.Option.{is_some, unwrap_or}
use Rattle.pig_value.specs.FieldReader.{all_of}
use Rattle.pig_value.specs.declared.functions.Function.{Function}
use Rattle.pig_typed.specs.Typed.{Typed, TypedArgs, TypedBlock, TypedItem, TypedStep, more_args, no_args, typed, x_call, x_field, x_project}
use Rattle.pig_builtins.specs.Folds.{is_algebraic}
use Rattle.pig_algebra.specs.declared.cuts.Cut.{Cut}
use Rattle.pig_algebra.specs.declared.cuts.Cut.TheVariants as cut

-- Where an item comes from: an expression that sees the key alone, as its field 0; a function of the rows, or of these
-- columns of them; or the row itself, which is the one cut of a DISTINCT.
pub data TypedCut : Type 0 where
  c_key : Typed → TypedCut
  c_part : Function → Option (List ℕ) → TypedCut
  c_row : TypedCut

abbrev pub cut_typed : Cut → TypedCut
cut_typed (cut.Key e) = c_key (typed e)
cut_typed (cut.Part function columns) = c_part function columns
cut_typed cut.Row = c_row

-- a field, or a projection of it
abbrev pub is_of_field : ℕ → Typed → Bool
is_of_field n (x_field m) = m == n
is_of_field n (x_project (x_field m) fields single) = m == n
is_of_field n e = false

-- a function of field 1, which is the grouped bag, or of a projection of it
abbrev pub cut_of_bag : Function → Typed → Option TypedCut
cut_of_bag function (x_field n) = if n == 1 then Some (c_part function None) else None
cut_of_bag function (x_project (x_field n) fields single) =
    if n == 1 then Some (c_part function (Some fields)) else None
cut_of_bag function e = None

abbrev pub only_arg : TypedArgs → Option Typed
only_arg (more_args e no_args) = Some e
only_arg args = None

abbrev pub cut_of_arg : Function → Option Typed → Option TypedCut
cut_of_arg function None = None
cut_of_arg function (Some bag) = if is_algebraic function then cut_of_bag function bag else None

abbrev pub part_cut : Typed → Option TypedCut
part_cut (x_call function args) = cut_of_arg function (only_arg args)
part_cut e = None

-- field 0, which is the key, or a projection of it, or an algebraic function of the grouped rows; no item with FLATTEN
abbrev pub cut_of : TypedItem → Option TypedCut
cut_of item =
    if item.flatten then None
    else (if is_of_field 0 item.value then Some (c_key item.value) else part_cut item.value)

-- the cuts of the items of a block that has no nested step
abbrev pub cuts_after : List TypedStep → List TypedItem → Option (List TypedCut)
cuts_after [] items = all_of cut_of items
cuts_after (step ∷ steps) items = None

abbrev pub cuts_of : TypedBlock → Option (List TypedCut)
cuts_of block = cuts_after block.steps block.items

abbrev pub is_combinable : TypedBlock → Bool
is_combinable block = is_some (cuts_of block)

abbrev pub cuts_in : TypedBlock → List TypedCut
cuts_in block = unwrap_or (cuts_of block) []
