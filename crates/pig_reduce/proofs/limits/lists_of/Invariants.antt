-- The rows so far, and those of the outputs that are left.
use Rattle.std.proofs.Common.{◌≡◌, ◌++◌, drop, map}
use Rattle.std.specs.List.{flat_map}
use Rattle.pig_physical.specs.Handed.{out_of}
use Rattle.pig_physical.specs.Outs.{rows_in}
use Rattle.pig_reduce.proofs.limits.lists_of.Given as goal

abbrev pub invariant-loop-out : goal.invariant-loop-out
invariant-loop-out l =
    flat_map (λ list. list.now) l.lists.items ++ flat_map (λ out. rows_in out.form) (map out_of (drop l.out-index l.outs)) ≡ flat_map
    (λ out. rows_in out.form) (map out_of l.outs)
