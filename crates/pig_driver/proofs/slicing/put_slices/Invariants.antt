use Rattle.std.proofs.Common.{◌≡◌, ◌++◌, length, map, drop}
use Rattle.std.specs.List.{AllByRecursion}
use Rattle.pig_physical.specs.Handed.{out_of}
use Rattle.pig_driver.specs.Slicing.{noted, sliced_outs}
use Rattle.pig_driver.proofs.slicing.put_slices.Given as goal

abbrev pub invariant-loop-run : goal.invariant-loop-run
invariant-loop-run l =
    AllByRecursion (λ run. l.points.dirs ≡ run.dirs) l.run-iterator.rest.items
    × (map out_of l.news ++ sliced_outs l.parts l.points.points l.run-iterator.rest.items (map noted (drop (length l.news) l.notes))
    ≡ sliced_outs l.parts l.points.points l.fn.runs (map noted l.notes))
