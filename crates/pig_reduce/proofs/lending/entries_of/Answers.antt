use Rattle.std.proofs.Common.{◌≡◌, sym, subst}
use Rattle.std.specs.List.{AllByRecursion}
use Rattle.pig_plan.specs.Plans.{op_of}
use Rattle.pig_physical.specs.Fitting.{run_dirs}
use Rattle.pig_reduce.proofs.lending.entries_of.Goals as goal

pub merge_lent-requires-clause-alike : goal.merge_lent-requires-clause-alike
merge_lent-requires-clause-alike c =
    subst (AllByRecursion (λ p. p.run.now.dirs ≡ c.in_ok-dirs.dirs)) (sym c.as_slice.ensures.value)
    (subst (λ ds. AllByRecursion (λ p. p.run.now.dirs ≡ ds) c.in_ok-parts.parts.items) (sym c.in_ok-dirs.ensures)
    (c.in_ok-parts.ensures.alike (run_dirs (op_of c.args.op.now)) c.requires))
