use Rattle.std.proofs.Common.{◌-◌, ◌≡◌, ◌≤◌, false}
use Rattle.pig_value.specs.Valid.{IsValue}
use Rattle.pig_plan.specs.Laws.{PlanLiteralsAre}
use Rattle.pig_stream.specs.Stepping.{plan_on}
use Rattle.pig_map.specs.Reading.{HasFed, rows_coming}
use Rattle.pig_map.proofs.reading.feed.Given as goal

abbrev pub invariant-blocks-2 : goal.invariant-blocks-2
invariant-blocks-2 g l =
    HasFed (g.H.Host.inputs l.fn.host) l.piece.path.now l.piece.number l.fn.from l.at
    (rows_coming l.fn.lines.columns.now l.fn.lines.delim l.fn.lines.window) (rows_coming l.lines.columns.now l.lines.delim l.lines.window)
    l.fn.steps l.steps (λ rows. g.K.Sink.after l.fn.sink rows l.sink) l.count
    × (l.lines.window.ended ≡ false)
    × PlanLiteralsAre IsValue (plan_on l.steps)
    × (g.H.Host.inputs l.host ≡ g.H.Host.inputs l.fn.host)
    × (g.H.Host.begun l.host ≡ g.H.Host.begun l.fn.host)
    × (g.H.Host.faults l.fn.host ≤ g.H.Host.faults l.host)
    × (g.S.Stop.kept l.stop ≡ g.S.Stop.kept l.fn.stop)

abbrev pub decreases-blocks-2 : goal.decreases-blocks-2
decreases-blocks-2 g l = l.piece.length - l.at
