use Rattle.std.proofs.lemmas.Result.{on_ok_weaker, IfErr-weaker}
use Rattle.std.proofs.Common.{subst, sym}
use Rattle.pig_params.specs.Known.{value_in}
use Rattle.pig_params.specs.Making.{IsCause, PutsOutcome}
use Rattle.pig_params.proofs.Parts.{behind_text, cause_behind, line_first, plain_line}
use Rattle.pig_params.proofs.Splitting.{cut}
use Rattle.pig_params.proofs.putting.put_text.Goals as goal

pub returns-in_default-clause-puts : goal.returns-in_default-clause-puts
returns-in_default-clause-puts c = plain_line (value_in c.args.known.now) c.args.at c.args.line.now _ _ c.in_default.ensures c.in_ok-put.ensures.puts

pub returns-clause-puts : goal.returns-clause-puts
returns-clause-puts c =
    let is = line_first (value_in c.args.known.now) c.args.at c.args.line.now _ _ (cut 36 c.args.line.now c.in-Some.front.now c.in-Some.parts.now c.in-Some.ensures) in
    on_ok_weaker c.put_uses.result (λ put. subst (λ o. PutsOutcome o c.args.made.now c.put_uses.new.made) (sym is) (behind_text _ _ _ _ _ c.in_ok-put-2.ensures.puts put)) c.put_uses.ensures.puts

pub returns-clause-cause : goal.returns-clause-cause
returns-clause-cause c =
    let is = line_first (value_in c.args.known.now) c.args.at c.args.line.now _ _ (cut 36 c.args.line.now c.in-Some.front.now c.in-Some.parts.now c.in-Some.ensures) in
    IfErr-weaker c.put_uses.result _ _ (λ f cause. subst (λ o. IsCause o f) (sym is) (cause_behind c.in-Some.front.now _ f cause)) c.put_uses.ensures.cause
