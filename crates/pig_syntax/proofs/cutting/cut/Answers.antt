use Rattle.std.proofs.Common.{◌≡◌, [], arith, append_assoc, length, inl, inr}
use Rattle.std.proofs.lemmas.Bool.{cases_lt}
use Rattle.std.proofs.lemmas.List.{append-nil}
use Rattle.pig_syntax.specs.Cutting.{none, last, next}
use Rattle.pig_syntax.proofs.cutting.cut.Goals as goal

pub loop-at-preserved : goal.loop-at-preserved
loop-at-preserved c = record {
  within = omega (arith, c.in-Some.ensures.within);
  found = λ rest more. rw (c.in_ok-add_statement.ensures, append_assoc) (c.loop-at.invariant.found _ (next c.in-Some.ensures.found c.in-Some.ensures.first more));
}

pub returns : goal.returns
returns c =
    elim (cases_lt c.loop-at.start (length c.as_slice-tokens.result.now)) [
      | inl h ↦ rw (c.in_ok-add_tail.ensures.some h, ← c.as_slice-tokens.ensures) (c.loop-at.invariant.found _ (last h c.in_default.ensures.none))
      | inr h ↦
          let e : c.loop-at.start ≡ length c.as_slice-tokens.result.now = omega (arith, c.loop-at.invariant.within, h) in
          rw (c.in_ok-add_tail.ensures.none h, ← c.as_slice-tokens.ensures) (rw append-nil at (c.loop-at.invariant.found [] (none e)))
    ]
