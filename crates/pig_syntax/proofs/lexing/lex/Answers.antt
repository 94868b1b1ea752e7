-- Each turn reads what is ahead.
use Rattle.std.proofs.Common.{◌++◌, ◌∷◌, [], ◌≡◌, ◌<◌, length, Some, sym, subst, arith, rules}
use Rattle.pig_syntax.specs.Tokens.{Begins, Reads, after_gap, here}
use Rattle.pig_syntax.proofs.LineFree.{tokens_line_free}
use Rattle.pig_syntax.proofs.Streams.{reads_gap, reads_token}
use Rattle.pig_syntax.proofs.lexing.lex.Goals as goal

pub loop-rest-init : goal.loop-rest-init
loop-rest-init c = record {
  reads = subst (λ ts. Reads (length c.args.script.now) c.args.script.now ts c.args.script.now) (sym c.new-tokens.ensures) here;
  within = omega arith;
}

pub loop-rest-preserved-in-Gap : goal.loop-rest-preserved-in-Gap
loop-rest-preserved-in-Gap c =
    let gap : (after_gap c.loop-rest.rest.now ≡ Some c.in-Gap.behind.now) × (length c.in-Gap.behind.now < length c.loop-rest.rest.now) = search rules in
    let sofar = c.loop-rest.invariant in
    record {
      reads = reads_gap (length c.args.script.now) c.args.script.now c.loop-rest.rest.now c.in-Gap.behind.now c.loop-rest.tokens sofar.reads gap.0;
      within = omega (arith, gap.1, sofar.within);
    }

pub loop-rest-preserved : goal.loop-rest-preserved
loop-rest-preserved c =
    let token : Begins c.loop-rest.rest.now c.in-Token.form c.in-Token.behind.now × (length c.in-Token.behind.now < length c.loop-rest.rest.now) = search rules in
    let sofar = c.loop-rest.invariant in
    let longer = reads_token (length c.args.script.now) c.args.script.now c.loop-rest.rest.now c.in-Token.behind.now c.loop-rest.tokens c.in-Token.form sofar.reads token.0 in
    let placed : Reads (length c.args.script.now) c.args.script.now (c.loop-rest.tokens ++ record { form = c.in-Token.form; «from» = c.offset_of-offset.result } ∷ []) c.in-Token.behind.now = rw c.offset_of-offset.ensures longer in
    record {
      reads = subst (λ ts. Reads (length c.args.script.now) c.args.script.now ts c.in-Token.behind.now) (sym c.in_ok-push-in-Token.ensures.ok) placed;
      within = omega (arith, token.1, sofar.within);
    }

pub returns-clause-texts : goal.returns-clause-texts
returns-clause-texts c = tokens_line_free (length c.args.script.now) c.args.script.now c.loop-rest.rest.now c.loop-rest.tokens c.loop-rest.invariant.reads
