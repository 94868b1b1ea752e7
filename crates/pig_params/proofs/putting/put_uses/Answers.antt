use Rattle.std.proofs.Common.{rules, ◌≡◌, ◌+◌, IfErr, length, subst, sym, arith}
use Rattle.std.specs.List.{slice_split}
use Rattle.std.specs.declared.result.Result.TheVariants.{Err}
use Rattle.std.proofs.lemmas.Result.{on_ok_weaker, IfErr-weaker}
use Rattle.pig_params.specs.Cuts.{is_byte}
use Rattle.pig_params.specs.Known.{value_in}
use Rattle.pig_params.specs.Making.{IsCause}
use Rattle.pig_params.specs.Substitution.{joined, put_uses}
use Rattle.pig_params.proofs.Going.{cause_of_last, cause_of_part, going_ends, going_on}
use Rattle.pig_params.proofs.Parts.{going_at, uses_first, uses_last}
use Rattle.pig_params.proofs.Splitting.{IsCut, cut}
use Rattle.pig_params.proofs.putting.put_uses.Goals as goal

pub returns-in_err-put_use-clause-cause : goal.returns-in_err-put_use-clause-cause
returns-in_err-put_use-clause-cause c =
    let is : IsCut 36 c.loop-part.left.now c.in-Some.part.now c.in-Some.behind.now = cut 36 c.loop-part.left.now c.in-Some.part.now c.in-Some.behind.now c.in-Some.ensures in
    let whole = joined (put_uses (value_in c.args.known.now) c.args.at (slice_split (is_byte 36) c.args.parts.now)) in
    let refused : c.from_residual.result ≡ Err c.in_err-put_use.field-0.0 = search rules in
    subst (λ r. IfErr r (IsCause whole)) (sym refused)
    (cause_of_part whole _ _ _ _ (going_at whole _ _ _ _ (uses_first (value_in c.args.known.now) c.loop-part.dollar c.loop-part.left.now _ _ is) c.loop-part.invariant.2) c.in_err-put_use.field-0.0 c.in_err-put_use.ensures.cause)

pub loop-part-preserved : goal.loop-part-preserved
loop-part-preserved c =
    let is : IsCut 36 c.loop-part.left.now c.in-Some.part.now c.in-Some.behind.now = cut 36 c.loop-part.left.now c.in-Some.part.now c.in-Some.behind.now c.in-Some.ensures in
    let lengths : length c.in-Some.part.now + (length c.in-Some.behind.now + 1) ≡ length c.loop-part.left.now = is.lengths in
    let same : c.loop-part.dollar + length c.loop-part.left.now ≡ c.args.at + length c.args.parts.now = c.loop-part.invariant.0 in
    let whole = joined (put_uses (value_in c.args.known.now) c.args.at (slice_split (is_byte 36) c.args.parts.now)) in (
      omega (arith, lengths, same),
      search rules,
      going_on whole _ _ _ _ _ (going_at whole _ _ _ _ (uses_first (value_in c.args.known.now) c.loop-part.dollar c.loop-part.left.now _ _ is) c.loop-part.invariant.2) c.in_ok-put_use.ensures.puts,
    )

pub returns-clause-puts : goal.returns-clause-puts
returns-clause-puts c =
    let whole = joined (put_uses (value_in c.args.known.now) c.args.at (slice_split (is_byte 36) c.args.parts.now)) in
    let left = going_at whole _ _ _ _ (uses_last (value_in c.args.known.now) c.loop-part.dollar c.loop-part.left.now c.in_default.ensures) c.loop-part.invariant.2 in
    on_ok_weaker c.put_use-2.result (λ put. going_ends whole _ _ _ _ left put) c.put_use-2.ensures.puts

pub returns-clause-cause : goal.returns-clause-cause
returns-clause-cause c =
    let whole = joined (put_uses (value_in c.args.known.now) c.args.at (slice_split (is_byte 36) c.args.parts.now)) in
    let left = going_at whole _ _ _ _ (uses_last (value_in c.args.known.now) c.loop-part.dollar c.loop-part.left.now c.in_default.ensures) c.loop-part.invariant.2 in
    IfErr-weaker c.put_use-2.result _ _ (λ f cause. cause_of_last whole _ _ _ left f cause) c.put_use-2.ensures.cause
