-- What the code holds, as the definitions see it.
use Rattle.std.specs.Prelude.{◌≡◌, ℕ, map}
use Rattle.std.specs.declared.result.Result.{Result}
use Rattle.std.specs.declared.result.Result.TheVariants.{Ok, Err}
use Rattle.pig_schema.specs.FieldTrees.{schema_tree}
use Rattle.pig_plan.specs.Plans.{op_of, plan_of}
use Rattle.pig_relations.specs.Aliases.{aliases_of}
use Rattle.pig_typing.specs.declared.faults.CheckKind.{CheckKind}
use Rattle.pig_typing.specs.declared.faults.TypeFault.{TypeFault}
use Rattle.pig_typing.specs.declared.faults.TypeFault.TheVariants as type_fault
use Rattle.pig_typing.specs.Results.{Checked}
use Rattle.pig_check.specs.declared.faults.CheckFault.{CheckFault}
use Rattle.pig_check.specs.declared.faults.CheckFault.TheVariants as fault
use Rattle.pig_check.specs.declared.state.Addition.{Addition}
use Rattle.pig_check.specs.declared.state.Progress.{Progress}
use Rattle.pig_check.specs.declared.cubes.TypedCube as code
use Rattle.pig_check.specs.Cubes.{TypedCube}
use Rattle.pig_check.specs.States.{Added, State, after}

abbrev pub state_tree : Progress → State
state_tree p = record { aliases = aliases_of p.relations; nodes = plan_of p.plan }

abbrev pub added_tree : Addition → Added
added_tree a = record { ops = map op_of a.ops; given = aliases_of a.given }

abbrev pub cube_tree : code.TypedCube → TypedCube
cube_tree t = record { node = t.node; dims = t.dims; width = t.width; columns = schema_tree t.columns }

-- a refusal of the statement of this number
abbrev pub fault_at : ℕ → TypeFault → CheckFault
fault_at statement (type_fault.Refused f) = fault.Check statement f
fault_at statement type_fault.OutOfMemory = fault.OutOfMemory

-- what code tells that goes on by what a statement adds, or refuses it
abbrev pub StepTells : ℕ → State → Checked Added → State → Result (Unit {0}) CheckFault → Type 0
StepTells statement s found t (Ok done) = (added : Added) × (found ≡ Ok added) × (t ≡ after statement s added)
StepTells statement s found t (Err (fault.Check n f)) = (n ≡ statement) × (found ≡ Err f)
StepTells statement s found t (Err fault.OutOfMemory) = Unit {0}

-- what code tells of all statements
abbrev pub TellsState : Result State (ℕ × CheckKind) → Result Progress CheckFault → Type 0
TellsState found (Ok p) = found ≡ Ok (state_tree p)
TellsState found (Err (fault.Check n f)) = found ≡ Err (n, f)
TellsState found (Err fault.OutOfMemory) = Unit {0}
