-- The text of each answer on the console. Each line ends with an LF.
use Rattle.std.specs.Prelude.{ℕ, Bool, true, false, ◌&&◌, ◌==◌, List, [], ◌∷◌, ◌++◌, length, Option, Some, None, codes, decimal, if◌then◌else◌}
use Rattle.std.specs.List.{find, flat_map}
use Rattle.std.specs.Option.{option_and_then}
use Rattle.pig_value.specs.Lines.{stored_lines}
use Rattle.pig_plan.specs.Plans.{Plan, PlanNode, PlanOp, p_assert}
use Rattle.pig_commit.specs.declared.parts.StorePart.{StorePart}
use Rattle.pig_collect.specs.Collecting.{joined}
use Rattle.pig_typing.specs.declared.faults.CheckKind.{CheckKind}
use Rattle.pig_typing.specs.declared.faults.CheckKind.TheVariants as kind
use Rattle.pig_run.specs.declared.outcome.Counts.{Counts}
use Rattle.pig_run.specs.declared.outcome.RunFault.{RunFault}
use Rattle.pig_run.specs.declared.outcome.RunFault.TheVariants as fault
use Rattle.pig_run.specs.declared.outcome.TooLarge.{TooLarge}
use Rattle.pig_run.specs.declared.outcome.TooLarge.TheVariants as large
use Rattle.pig_run.specs.Reading.{Prints, Refuses, Runs, Verdict, Wants}

abbrev pub kind_name : CheckKind → List ℕ
kind_name kind.UnknownAlias = codes "UnknownAlias"
kind_name kind.UnknownField = codes "UnknownField"
kind_name kind.AmbiguousField = codes "AmbiguousField"
kind_name kind.PositionOut = codes "PositionOut"
kind_name kind.TypeMismatch = codes "TypeMismatch"
kind_name kind.BadKey = codes "BadKey"
kind_name kind.FloatType = codes "FloatType"
kind_name kind.UnknownFunction = codes "UnknownFunction"
kind_name kind.WrongArguments = codes "WrongArguments"
kind_name kind.SchemaMismatch = codes "SchemaMismatch"
kind_name kind.OutputTwice = codes "OutputTwice"
kind_name kind.SelfLoad = codes "SelfLoad"
kind_name kind.Compressed = codes "Compressed"
kind_name kind.Unsupported = codes "Unsupported"
kind_name kind.TooWide = codes "TooWide"
kind_name kind.TooDeep = codes "TooDeep"

abbrev pub large_name : TooLarge → List ℕ
large_name large.Script = codes "script"
large_name large.Statements = codes "statements"
large_name large.Depth = codes "depth"
large_name large.Input = codes "input"
large_name large.Tasks = codes "tasks"

-- a fault without its line end
abbrev pub fault_line : RunFault → List ℕ
fault_line fault.Usage = codes "usage: pig run|explain|check SCRIPT | demo N [--workers N] [--reducers N] [--split BYTES] [--attempts N]"
fault_line fault.NoScript = codes "pig: no script"
fault_line (fault.Param offset) = codes "pig: offset " ++ decimal offset ++ codes ": parameter"
fault_line (fault.Lex offset) = codes "pig: offset " ++ decimal offset ++ codes ": no token"
fault_line (fault.Syntax n) = codes "pig: statement " ++ decimal n ++ codes ": syntax"
fault_line (fault.Check n kind) = codes "pig: statement " ++ decimal n ++ codes ": " ++ kind_name kind
fault_line (fault.NoInput path) = codes "pig: no input " ++ path
fault_line (fault.OutputExists dir) = codes "pig: output exists " ++ dir
fault_line (fault.DepotFault None) = codes "pig: storage failed"
fault_line (fault.DepotFault (Some n)) = codes "pig: storage failed at statement " ++ decimal n
fault_line (fault.TaskFailed wave task failed) =
    codes "pig: wave " ++ decimal wave ++ codes " task " ++ decimal task ++ codes " failed " ++ decimal failed ++ codes " times"
fault_line (fault.AssertFailed n) = codes "pig: statement " ++ decimal n ++ codes ": assert failed"
fault_line fault.OutOfMemory = codes "pig: out of memory"
fault_line fault.ConsoleFault = []
fault_line (fault.TooLarge which) = codes "pig: too large: " ++ large_name which

-- a console that failed is told nothing
abbrev pub is_silent : RunFault → Bool
is_silent fault.ConsoleFault = true
is_silent found = false

-- the text of a fault, with what is said behind its line
abbrev pub fault_text : List ℕ → RunFault → List ℕ
fault_text said found = if is_silent found then [] else fault_line found ++ said ++ 10 ∷ []

-- ---- the message of an ASSERT

abbrev pub is_assert : PlanOp → Bool
is_assert (p_assert input cond message) = true
is_assert o = false

abbrev pub message_in : PlanOp → Option (List ℕ)
message_in (p_assert input cond message) = message
message_in o = None

abbrev pub asserts_at : ℕ → PlanNode → Bool
asserts_at n node = (node.statement == n) && is_assert node.op

-- that of the ASSERT of a statement, where it has one
abbrev pub assert_message : Plan → ℕ → Option (List ℕ)
assert_message plan n = option_and_then (λ node. message_in node.op) (find (asserts_at n) plan)

abbrev pub said : Option (List ℕ) → List ℕ
said None = []
said (Some message) = codes ": " ++ message

abbrev pub said_of : Plan → RunFault → List ℕ
said_of plan (fault.AssertFailed n) = said (assert_message plan n)
said_of plan found = []

abbrev pub said_in : Plan → Option RunFault → List ℕ
said_in plan None = []
said_in plan (Some found) = said_of plan found

-- what is said behind the line of what was found: the message of the ASSERT that failed
abbrev pub said_behind : Verdict → Option RunFault → List ℕ
said_behind (Refuses refusal) found = []
said_behind (Prints text) found = []
said_behind (Runs run) found = said_in run.plan found
said_behind Wants found = []

-- ---- a run

-- how many lines stand in a directory
abbrev pub line_count : StorePart → ℕ
line_count out = length (stored_lines (joined out.parts))

-- the line of an output, and the last line
abbrev pub stored_line : List ℕ → ℕ → List ℕ
stored_line dir lines = codes "stored " ++ dir ++ 32 ∷ decimal lines ++ 10 ∷ []

abbrev pub done_line : Counts → List ℕ
done_line counts = codes "done " ++ decimal counts.read ++ 32 ∷ decimal counts.shuffled ++ 32 ∷ decimal counts.stored ++ 10 ∷ []

-- what is printed of a run that stored all
abbrev pub done_text : List StorePart → Counts → List ℕ
done_text outs counts = flat_map (λ out. stored_line out.dir (line_count out)) outs ++ done_line counts

-- what is printed of a script that was checked, by the number of its statements
abbrev pub ok_text : ℕ → List ℕ
ok_text statements = codes "ok " ++ decimal statements ++ 10 ∷ []

-- what is printed where all that is due was done
abbrev pub due_text : Verdict → List StorePart → Counts → List ℕ
due_text (Refuses refusal) outs counts = []
due_text (Prints text) outs counts = text
due_text (Runs run) outs counts = done_text outs counts
due_text Wants outs counts = []

-- what is printed of an answer
abbrev pub answer_text : Verdict → List StorePart → Counts → Option RunFault → List ℕ
answer_text verdict outs counts None = due_text verdict outs counts
answer_text verdict outs counts (Some found) = fault_text (said_behind verdict (Some found)) found
