-- The rows so far, and those that are to come.
use Rattle.std.proofs.Common.{◌≡◌, [], take, drop}
use Rattle.std.specs.List.{flat_map}
use Rattle.pig_packed.specs.Growth.{and_rows}
use Rattle.pig_gather.proofs.whole.add_first.Given as goal

abbrev pub invariant-loop-list : goal.invariant-loop-list
invariant-loop-list l =
    (l.built.begun ≡ [])
    × (and_rows (take l.left (flat_map (λ list. list.now) (drop l.list-index l.lists))) l.built ≡ and_rows (take l.count (flat_map (λ list. list.now) l.lists)) l.fn.built)
