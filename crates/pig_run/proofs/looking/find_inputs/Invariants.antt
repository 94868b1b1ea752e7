use Rattle.std.proofs.Common.{◌≡◌, ◌≤◌, Some, map, take}
use Rattle.std.specs.List.{AllByRecursion}
use Rattle.pig_outside.specs.Shelf.{Shelf}
use Rattle.pig_outside.specs.declared.failing.Method.TheVariants as method
use Rattle.pig_plan.specs.Plans.{plan_of}
use Rattle.pig_words.specs.declared.words.Command.{Command}
use Rattle.pig_run.specs.Due.{SizeDue, is_missing}
use Rattle.pig_run.specs.Looking.{HasSize}
use Rattle.pig_run.specs.Orderly.{AsksSome}
use Rattle.pig_run.specs.Refusals.{no_input}
use Rattle.pig_run.proofs.LookUps.{LookedAt}
use Rattle.pig_run.proofs.looking.find_inputs.Given as goal

abbrev pub invariant-loop-place : goal.invariant-loop-place
invariant-loop-place g l =
    (g.D.Depot.shelf l.depot ≡ g.D.Depot.shelf l.fn.depot)
    × (g.D.Depot.faults l.fn.depot ≤ g.D.Depot.faults l.depot)
    × (g.D.Depot.store_faults l.depot ≡ g.D.Depot.store_faults l.fn.depot)
    × (map (λ size. size.path) l.sizes ≡ take l.place l.paths)
    × ((s : Shelf) → g.D.Depot.shelf l.fn.depot ≡ Some s
    → ((command : Command) → LookedAt (is_missing s) no_input method.Pieces l.paths (SizeDue command s (plan_of l.plan)) l.place (g.D.Depot.calls l.fn.depot) (g.D.Depot.calls l.depot))
    × AllByRecursion (HasSize s) l.sizes)
    × AsksSome method.Pieces (g.D.Depot.calls l.fn.depot) (g.D.Depot.calls l.depot)
