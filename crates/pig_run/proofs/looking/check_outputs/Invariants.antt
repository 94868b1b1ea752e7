use Rattle.std.proofs.Common.{◌≡◌, ◌≤◌, List, Some, map, take}
use Rattle.std.specs.List.{AllByRecursion}
use Rattle.pig_outside.specs.Shelf.{Shelf, has_dir}
use Rattle.pig_outside.specs.declared.failing.Method.TheVariants as method
use Rattle.pig_plan.specs.Plans.{PlanNode}
use Rattle.pig_words.specs.declared.words.Command.{Command}
use Rattle.pig_run.specs.Due.{TasksDue}
use Rattle.pig_run.specs.Looking.{IsAbsentIn}
use Rattle.pig_run.specs.Orderly.{calls_for}
use Rattle.pig_run.specs.Refusals.{output_there}
use Rattle.pig_run.specs.Told.{Asked}
use Rattle.pig_run.proofs.LookUps.{LookedAt}
use Rattle.pig_run.proofs.looking.check_outputs.Given as goal

abbrev pub invariant-loop-place : goal.invariant-loop-place
invariant-loop-place g l =
    (g.D.Depot.shelf l.depot ≡ g.D.Depot.shelf l.fn.depot)
    × (g.D.Depot.faults l.fn.depot ≤ g.D.Depot.faults l.depot)
    × (g.D.Depot.store_faults l.depot ≡ g.D.Depot.store_faults l.fn.depot)
    × ((s : Shelf) → g.D.Depot.shelf l.fn.depot ≡ Some s → (command : Command) (plan : List PlanNode)
    → LookedAt (λ dir. has_dir dir s) output_there method.Exists (map (λ store. store.dir) l.stores) (TasksDue command s plan) l.place (g.D.Depot.calls l.fn.depot) (g.D.Depot.calls l.depot))
    × ((s : Shelf) → g.D.Depot.shelf l.fn.depot ≡ Some s → AllByRecursion (IsAbsentIn s) (take l.place l.stores))
    × Asked (calls_for method.Exists (map (λ store. store.dir) (take l.place l.stores))) (g.D.Depot.calls l.fn.depot) (g.D.Depot.calls l.depot)
