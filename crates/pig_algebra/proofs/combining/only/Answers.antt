use Rattle.std.proofs.Common.{subst}
use Rattle.std.specs.Prelude.{◌≤◌, length}
use Rattle.pig_algebra.proofs.Arguments.{none_alone}
use Rattle.pig_algebra.proofs.combining.only.Goals as goal

pub returns-in-len2-up : goal.returns-in-len2-up
returns-in-len2-up c = none_alone c.args.args.now (subst (λ args. 2 ≤ length args) c.as_slice.ensures c.in-len2-up.len_at_least)
