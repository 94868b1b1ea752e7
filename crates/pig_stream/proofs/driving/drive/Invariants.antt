use Rattle.std.proofs.Common.{◌≡◌, [], length}
use Rattle.pig_value.specs.Valid.{IsValue}
use Rattle.pig_plan.specs.Laws.{PlanLiteralsAre}
use Rattle.pig_stream.specs.Driving.{HasTaken}
use Rattle.pig_stream.specs.Stepping.{plan_on}
use Rattle.pig_stream.proofs.driving.drive.Given as goal

abbrev pub invariant-batches : goal.invariant-batches
invariant-batches g l =
    HasTaken (g.S.Source.coming l.fn.source) (g.S.Source.coming l.source) l.fn.steps l.steps (λ rows. g.K.Sink.after l.fn.sink rows l.sink) l.count
    × (g.S.Source.kept l.source ≡ g.S.Source.kept l.fn.source) × PlanLiteralsAre IsValue (plan_on l.steps)

abbrev pub decreases-batches : goal.decreases-batches
decreases-batches g l = length (g.S.Source.coming l.source [])
