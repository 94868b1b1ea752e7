-- What a history tells.
use Rattle.std.specs.Prelude.{[]}
use Rattle.pig_outside.specs.declared.history.Asked.{Asked}
use Rattle.pig_outside.specs.declared.history.Asked.TheVariants.{Call, Script, Begin}
use Rattle.pig_outside.specs.declared.history.History.{History}
use Rattle.pig_outside.specs.Calls.{and_call, and_script, and_attempt}

-- Nothing was asked yet.
abbrev pub nothing_asked : History
nothing_asked = record { calls = []; begun = [] }

-- The history with one more question.
abbrev pub and_asked : History → Asked → History
and_asked before (Call method path) = record before { calls = and_call method path.now before.calls }
and_asked before (Script path most) = record before { calls = and_script path.now most before.calls }
and_asked before (Begin wave task attempt faults) = record before { begun = and_attempt wave task attempt faults before.begun }
