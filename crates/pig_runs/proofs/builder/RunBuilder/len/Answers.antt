use Rattle.std.proofs.Common.{subst}
use Rattle.pig_runs.specs.Entries.{AreKeyed}
use Rattle.pig_runs.proofs.builder.RunBuilder.len.Goals as goal

pub returns-clause-values : goal.returns-clause-values
returns-clause-values c = subst (λ b. ∥ AreKeyed b.dirs b.entries ∥₁) c.self.view_is c.self.inside.held.1.0
