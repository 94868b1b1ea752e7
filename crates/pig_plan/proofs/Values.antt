-- The rows of live nodes are of values.
use Rattle.std.specs.Prelude.{◌≡◌, ℕ, Bool, true, false, List, [], ◌∷◌, map, codes, bytes_eq, Some}
use Rattle.std.proofs.Common.{cond, rules}
use Rattle.std.specs.Int.{w64}
use Rattle.std.specs.List.{AllByRecursion, find}
use Rattle.std.specs.Option.{option_map_or}
use Rattle.std.specs.Str.{IsUtf8}
use Rattle.std.proofs.lemmas.Int.{SFits-int_wrap}
use Rattle.std.proofs.lemmas.Str.{IsUtf8-from_ascii}
use Rattle.pig_value.specs.declared.inputs.Column.{Column}
use Rattle.pig_value.specs.declared.inputs.Input.{Input}
use Rattle.pig_value.specs.declared.outcomes.Kept.{Kept}
use Rattle.pig_value.specs.FieldRows.{row_of}
use Rattle.pig_value.specs.Leaves.{AreBytes}
use Rattle.pig_value.specs.Lines.{lines}
use Rattle.pig_value.specs.Valid.{AreRows, IsValue}
use Rattle.pig_value.proofs.list_laws.Listing.{each_weaker}
use Rattle.pig_typed.specs.Premises.{FunctionsKeepValues}
use Rattle.pig_typed.proofs.ValuesCarried.{are_rows, values_carried}
use Rattle.pig_plan.proofs.Carries.{each-flat_map}
use Rattle.pig_plan.proofs.LoadRows.{rows_of_values}
use Rattle.pig_plan.proofs.Meanings.{rows_held}
use Rattle.pig_plan.specs.Laws.{AreOfBytes, PlanLiteralsAre}
use Rattle.pig_plan.specs.Meaning.{EachIsKept, meaning}
use Rattle.pig_plan.specs.Nodes.{is_live}
use Rattle.pig_plan.specs.Operators.{load_rows, pieces_of}
use Rattle.pig_plan.specs.Plans.{Plan}
use Rattle.pig_plan.specs.Valid.{IsPlan}

pub pieces_are : (inputs : List Input) (path : List ℕ) → AreOfBytes inputs → AllByRecursion AreBytes (pieces_of inputs path)
pieces_are [] path h = tt
pieces_are (input ∷ inputs) path h = by_test (bytes_eq input.path path) (pieces_are inputs path h.1)
  where
    by_test : (b : Bool) → AllByRecursion AreBytes (pieces_of inputs path)
        → AllByRecursion AreBytes (option_map_or (λ found. found.pieces) (cond b (Some input) (find (λ other. bytes_eq other.path path) inputs)) [])
    by_test true more = h.0
    by_test false more = more

loads_values : (inputs : List Input) → AreOfBytes inputs → (path : List ℕ) (delim : ℕ) (columns : List Column) → AllByRecursion (AllByRecursion IsValue) (load_rows inputs path delim columns)
loads_values inputs h path delim columns =
    each-flat_map (AllByRecursion IsValue) (λ piece. map (row_of columns delim) (lines piece)) (pieces_of inputs path)
    (each_weaker AreBytes (λ piece. AllByRecursion (AllByRecursion IsValue) (map (row_of columns delim) (lines piece))) (λ piece are. rows_of_values columns delim piece are) (pieces_of inputs path) (pieces_are inputs path h))

pub word_is_text : IsUtf8 (codes "all")
word_is_text = IsUtf8-from_ascii (codes "all") (search rules)

pub meanings_are_values : FunctionsKeepValues → (plan : Plan) (inputs : List Input) (kept : List Kept) → IsPlan plan → PlanLiteralsAre IsValue plan → AreOfBytes inputs → EachIsKept plan inputs kept
    → (k : ℕ) → is_live plan k ≡ true → AreRows (meaning plan inputs kept k)
meanings_are_values functions plan inputs kept valid ok are each k live =
    are_rows (meaning plan inputs kept k)
    (rows_held IsValue (values_carried functions) (λ z. SFits-int_wrap w64 z) word_is_text plan inputs kept valid each ok (loads_values inputs are) k live)
