use Rattle.std.proofs.Common.{sym, ◌∙◌}
use Rattle.pig_value.specs.Trees.{tree, kind_tree}
use Rattle.pig_value.proofs.KindLaws.{passes_is_of, is_of_passes}
use Rattle.pig_value.proofs.kinds.is_of.Goals as goal

pub returns-clause-kind : goal.returns-clause-kind
returns-clause-kind c = (
  (λ h. passes_is_of (tree c.args.v.now) (kind_tree c.args.k.now) (sym c.value_is_of.ensures ∙ h)),
  (λ h. c.value_is_of.ensures ∙ is_of_passes (tree c.args.v.now) (kind_tree c.args.k.now) h),
)
