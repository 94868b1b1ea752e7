use Rattle.std.proofs.Common.{rules}
use Rattle.pig_runs.proofs.Halving.{halved_all, halved_down, halved_up}
use Rattle.pig_runs.proofs.builder.RunBuilder.count_between.Goals as goal

pub halves-preserved-then-is_up_to : goal.halves-preserved-then-is_up_to
halves-preserved-then-is_up_to c = (search rules, search rules, λ h. halved_up _ _ _ _ _ _ _ _ c.is_up_to.result c.requires.sorted (c.halves.invariant.2 h) (search rules) c.is_up_to.ensures (search rules))

pub halves-preserved : goal.halves-preserved
halves-preserved c = (search rules, search rules, λ h. halved_down _ _ _ _ _ _ _ _ c.is_up_to.result c.requires.sorted (c.halves.invariant.2 h) (search rules) c.is_up_to.ensures (search rules))

pub returns-clause-parts : goal.returns-clause-parts
returns-clause-parts c h = halved_all _ _ _ _ _ _ _ (c.halves.invariant.2 h) (search rules) (search rules)
