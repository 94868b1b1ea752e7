use Rattle.std.proofs.Common.{◌∙◌, ap, sym}
use Rattle.pig_check.proofs.KindsBack.{column_kind}
use Rattle.pig_check.proofs.operators.column_at.Goals as goal

pub returns : goal.returns
returns c = ap (λ kind. record { position = c.args.position; kind = kind }) (c.in_ok-kind.ensures ∙ sym (column_kind c.args.column.now))
