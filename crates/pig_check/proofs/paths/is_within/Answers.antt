use Rattle.std.proofs.Common.{◌≡◌, ◌∙◌, ◌++◌, [], sym, ap}
use Rattle.pig_check.specs.Paths.{is_within}
use Rattle.pig_check.proofs.Within.{not_within, within_front}
use Rattle.pig_check.proofs.paths.is_within.Goals as goal

pub returns-in-Some : goal.returns-in-Some
returns-in-Some c =
    let w = c.in-Some.ensures.cases in
    let whole : c.args.other.now ≡ c.args.path.now ++ c.in-Some.behind.now = w.1.1 ∙ ap (λ rest. c.args.path.now ++ rest) (sym w.2) in
    c.is_end.ensures ∙ ap (is_within []) c.as_bytes.ensures.value ∙ sym (ap (is_within c.args.path.now) whole ∙ within_front c.args.path.now c.in-Some.behind.now)

pub returns-in-None : goal.returns-in-None
returns-in-None c = sym (not_within c.args.path.now c.args.other.now c.in-None.ensures.cases)
