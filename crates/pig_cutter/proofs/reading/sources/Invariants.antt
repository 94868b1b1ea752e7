use Rattle.std.proofs.Common.{◌≡◌, map}
use Rattle.std.specs.List.{range_with_len}
use Rattle.pig_plan.specs.Plans.{plan_of}
use Rattle.pig_physical.specs.Stages.{first_wave}
use Rattle.pig_cutter.specs.Tables.{reading_of, reads_at}
use Rattle.pig_cutter.proofs.reading.sources.Given as goal

abbrev pub invariant-loop-number : goal.invariant-loop-number
invariant-loop-number l =
    (map reading_of l.found.items ≡ map (reads_at (plan_of l.nodes) l.sizes l.counts) (range_with_len 0 l.number))
    × (l.wave ≡ first_wave (plan_of l.nodes) l.number)
