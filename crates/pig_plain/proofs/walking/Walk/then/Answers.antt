use Rattle.std.proofs.Common.{◌∙◌, ap}
use Rattle.pig_plain.specs.Coming.{source_rows, steps_rows}
use Rattle.pig_plain.proofs.Walks.{steps_more}
use Rattle.pig_plain.proofs.walking.Walk.then.Goals as goal

pub returns : goal.returns
returns c =
    ap (λ steps. steps_rows steps (source_rows c.args.self.source)) c.in_ok-push.ensures.items
    ∙ steps_more c.args.self.steps.items c.args.step (source_rows c.args.self.source)
