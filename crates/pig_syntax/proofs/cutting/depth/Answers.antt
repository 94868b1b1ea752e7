use Rattle.std.proofs.Common.{◌-◌, arith}
use Rattle.pig_syntax.specs.Cutting.{closes_bracket, opens_bracket, piece_of}
use Rattle.pig_syntax.specs.declared.tokens.Token.{Token}
use Rattle.pig_syntax.proofs.CutSteps.{count_one, choice_small, deepest_more}
use Rattle.pig_syntax.proofs.cutting.depth.Goals as goal

pub loop-token-preserved : goal.loop-token-preserved
loop-token-preserved c =
    let ts = piece_of c.as_slice.result.now c.args.piece.now in
    let n = c.loop-token.token-index in
    let o = count_one (λ (t : Token). opens_bracket t.form) ts n c.token-item.result c.loop-token-test.true c.token-item.is in
    let k = count_one (λ (t : Token). closes_bracket t.form) ts n c.token-item.result c.loop-token-test.true c.token-item.is in
    let o1 = choice_small (opens_bracket c.token-item.result.form) in
    let k1 = choice_small (closes_bracket c.token-item.result.form) in
    record {
      opened = omega (arith, c.read.ensures.opened);
      closed = omega (arith, c.read.ensures.closed);
      few = omega (arith, c.read.ensures.opened);
      few_closed = omega (arith, c.read.ensures.closed);
      deepest = rw c.read.ensures.deepest (deepest_more ts n c.loop-token.brackets.deepest (c.read.new.self.opened - c.read.new.self.closed) c.loop-token.invariant.deepest
          (omega (arith, c.read.ensures.opened, c.read.ensures.closed)));
    }
