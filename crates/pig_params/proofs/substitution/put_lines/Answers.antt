use Rattle.std.proofs.Common.{rules, ◌≡◌, ◌+◌, IfErr, List, [], length, subst, sym, arith}
use Rattle.std.specs.declared.result.Result.TheVariants.{Err}
use Rattle.std.proofs.lemmas.Result.{on_ok_weaker, IfErr-weaker}
use Rattle.pig_params.specs.Known.{AreValues}
use Rattle.pig_params.specs.Making.{IsCause}
use Rattle.pig_params.specs.Substitution.{Named, substituted}
use Rattle.pig_params.proofs.Lines.{last_refused, line_ends, line_more, line_refused}
use Rattle.pig_params.proofs.Splitting.{cut}
use Rattle.pig_params.proofs.substitution.put_lines.Goals as goal

pub returns-in_err-put_line-clause-cause : goal.returns-in_err-put_line-clause-cause
returns-in_err-put_line-clause-cause c =
    let refused : c.from_residual.result ≡ Err c.in_err-put_line.field-0.0 = search rules in
    subst (λ r. IfErr r (λ f. (given : List Named) → AreValues given [] c.args.known.now → IsCause (substituted given c.args.script.now) f)) (sym refused)
    (λ given values. line_refused given c.args.script.now c.loop-line.left.now c.in-Some.line.now c.in-Some.behind.now c.loop-line.start c.loop-line.known _ _ c.in_err-put_line.field-0.0
    c.in-Some.ensures (c.loop-line.invariant.2 given values) c.in_err-put_line.ensures.cause)

pub loop-line-preserved : goal.loop-line-preserved
loop-line-preserved c =
    let lengths : length c.in-Some.line.now + (length c.in-Some.behind.now + 1) ≡ length c.loop-line.left.now =
    (cut 10 c.loop-line.left.now c.in-Some.line.now c.in-Some.behind.now c.in-Some.ensures).lengths in
    let same : c.loop-line.start + length c.loop-line.left.now ≡ length c.args.script.now = c.loop-line.invariant.0 in (
      omega (arith, lengths, same),
      search rules,
      λ given values. line_more given c.args.script.now c.loop-line.left.now c.in-Some.line.now c.in-Some.behind.now c.loop-line.start c.loop-line.known _ _ _ _ _
          c.in-Some.ensures (c.loop-line.invariant.2 given values) c.in_ok-put_line.ensures.puts c.in_ok-put.ensures.puts c.in_ok-put_line.ensures.passes,
    )

pub returns-clause-puts : goal.returns-clause-puts
returns-clause-puts c =
    on_ok_weaker c.put_line-2.result (λ put given values. line_ends given c.args.script.now c.loop-line.left.now c.loop-line.start c.loop-line.known _ _ _ c.in_default.ensures (c.loop-line.invariant.2 given values) put) c.put_line-2.ensures.puts

pub returns-clause-cause : goal.returns-clause-cause
returns-clause-cause c =
    IfErr-weaker c.put_line-2.result _ _ (λ f cause given values. last_refused given c.args.script.now c.loop-line.left.now c.loop-line.start c.loop-line.known _ _ f c.in_default.ensures (c.loop-line.invariant.2 given values) cause) c.put_line-2.ensures.cause
