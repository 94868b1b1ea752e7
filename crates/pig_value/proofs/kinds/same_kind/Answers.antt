use Rattle.std.proofs.Common.{sym, ◌∙◌, ap}
use Rattle.pig_value.specs.Trees.{kind_tree}
use Rattle.pig_value.specs.Kinds.{kind_eq}
use Rattle.pig_value.proofs.KindLaws.{kind_same, kind_itself}
use Rattle.pig_value.proofs.kinds.same_kind.Goals as goal

pub returns-clause-same : goal.returns-clause-same
returns-clause-same c = (
  (λ h. kind_same (kind_tree c.args.a.now) (kind_tree c.args.b.now) (sym c.kinds_match.ensures ∙ h)),
  (λ e. c.kinds_match.ensures ∙ sym (ap (kind_eq (kind_tree c.args.a.now)) e) ∙ kind_itself (kind_tree c.args.a.now)),
)
