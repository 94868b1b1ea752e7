-- Each turn reads one unit.
use Rattle.std.proofs.Common.{◌≡◌, ◌-◌, ◌+◌, ◌∙◌, length, sym, arith, rules}
use Rattle.pig_syntax.proofs.Contents.{content_ends, content_goes_on, content_over, content_stops}
use Rattle.pig_syntax.proofs.forms.content.Goals as goal

pub returns-in-None-clause-value : goal.returns-in-None-clause-value
returns-in-None-clause-value c =
    sym (content_stops _ c.loop-turn.read c.loop-turn.rest.now c.in-None.ensures.value) ∙ c.loop-turn.invariant.value

pub returns-then-is_end-clause-value : goal.returns-then-is_end-clause-value
returns-then-is_end-clause-value c =
    sym (content_ends (length c.args.bytes.now - c.loop-turn._turn) c.loop-turn.read c.loop-turn.rest.now c.in-Some.next.1.now c.in-Some.next.0 (omega arith) c.in-Some.ensures.value (search rules)) ∙ c.loop-turn.invariant.value

pub loop-turn-preserved : goal.loop-turn-preserved
loop-turn-preserved c =
    let fewer : length c.args.bytes.now - (c.loop-turn._turn + 1) ≡ length c.args.bytes.now - c.loop-turn._turn - 1 = omega arith in
    let next = content_goes_on (length c.args.bytes.now - c.loop-turn._turn) c.loop-turn.read c.push_unit.new.read c.loop-turn.rest.now c.in-Some.next.1.now c.in-Some.next.0 (omega arith) c.in-Some.ensures.value (search rules) (search rules) in
    record { value = rw fewer (next ∙ c.loop-turn.invariant.value); within = omega (arith, c.in-Some.ensures.within) }

pub returns-clause-value : goal.returns-clause-value
returns-clause-value c = sym (content_over _ c.loop-turn.read c.loop-turn.rest.now (omega arith)) ∙ c.loop-turn.invariant.value
