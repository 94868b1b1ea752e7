use Rattle.std.proofs.Common.{rules, ◌≡◌, ◌∙◌, ap}
use Rattle.std.specs.Prelude.{Some}
use Rattle.pig_cuts.specs.Cuts.{NodeCut, cut_at, left_of}
use Rattle.pig_prune.proofs.finding.left_of.Goals as goal

pub returns-in-Some : goal.returns-in-Some
returns-in-Some c =
    let at : ◌≡◌ {A = NodeCut} (Some c.in-Some.kept.now) (cut_at c.args.cuts.now c.args.node) = c.in-Some.ensures in
    search rules ∙ ap (λ own. left_of own c.args.position) at
