use Rattle.std.proofs.Common.{arith, refl}
use Rattle.pig_syntax.specs.Cutting.{IsCut, is_close_brace, is_open_brace}
use Rattle.pig_syntax.specs.declared.tokens.Token.{Token}
use Rattle.pig_syntax.proofs.CutSteps.{count_none, count_range, cut_here, cut_mark, step_small, uncut_more, uncut_start}
use Rattle.pig_syntax.proofs.cutting.next_cut.Goals as goal

pub loop-at-init : goal.loop-at-init
loop-at-init c = record {
  opened = count_none _ c.args.tokens.now c.args.start;
  closed = count_none _ c.args.tokens.now c.args.start;
  few = omega arith;
  few_closed = omega arith;
  uncut = uncut_start c.args.tokens.now c.args.start;
}

pub returns-then-ends_statement-clause-found : goal.returns-then-ends_statement-clause-found
returns-then-ends_statement-clause-found c =
    let h = c.if-ends_statement.ensures.0 refl in
    cut_here _ _ _ c.index-tokens-at.result c.loop-at.auto.at c.loop-at-test.true c.index-tokens-at.is h.0
    (omega (arith, c.loop-at.invariant.opened, c.loop-at.invariant.closed, h.1))

pub loop-at-preserved : goal.loop-at-preserved
loop-at-preserved c = record {
  opened =
      let e = count_range (λ (t : Token). is_open_brace t.form) c.args.tokens.now c.args.start c.loop-at.at c.index-tokens-at.result c.is_open_brace.result c.from-opened.result c.loop-at.auto.at c.loop-at-test.true c.index-tokens-at.is c.is_open_brace.ensures c.from-opened.ensures in
      omega (arith, e);
  closed =
      let e = count_range (λ (t : Token). is_close_brace t.form) c.args.tokens.now c.args.start c.loop-at.at c.index-tokens-at.result c.is_close_brace.result c.from-closed.result c.loop-at.auto.at c.loop-at-test.true c.index-tokens-at.is c.is_close_brace.ensures c.from-closed.ensures in
      omega (arith, e);
  few = omega (arith, step_small _ _ c.from-opened.ensures);
  few_closed = omega (arith, step_small _ _ c.from-closed.ensures);
  uncut = uncut_more _ _ _ c.loop-at.invariant.uncut
      (λ (cut : IsCut c.args.tokens.now c.args.start c.loop-at.at).
      let e = c.if-ends_statement.ensures.1
      (cut_mark _ _ _ c.index-tokens-at.result c.loop-at-test.true c.index-tokens-at.is cut, omega (arith, c.loop-at.invariant.opened, c.loop-at.invariant.closed, cut.closed)) in
      cc);
}
