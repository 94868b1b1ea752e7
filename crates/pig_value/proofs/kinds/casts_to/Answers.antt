use Rattle.std.proofs.Common.{sym, ◌∙◌}
use Rattle.pig_value.specs.Trees.{kind_tree}
use Rattle.pig_value.proofs.KindLaws.{passes_casts, casts_pass}
use Rattle.pig_value.proofs.kinds.casts_to.Goals as goal

pub returns-clause-allowed : goal.returns-clause-allowed
returns-clause-allowed c = (
  (λ h. passes_casts (kind_tree c.args.from.now) (kind_tree c.args.to.now) (sym c.is_cast.ensures ∙ h)),
  (λ h. c.is_cast.ensures ∙ casts_pass (kind_tree c.args.from.now) (kind_tree c.args.to.now) h),
)
