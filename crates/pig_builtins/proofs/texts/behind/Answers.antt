use Rattle.std.proofs.Common.{arith, ◌∙◌, ◌≤◌, length, sym}
use Rattle.std.specs.Str.{chars}
use Rattle.std.specs.Str.Iter.{chars_rest}
use Rattle.std.proofs.lemmas.Str.{encodes-chars}
use Rattle.pig_builtins.proofs.Characters.{passed, exhausted}
use Rattle.pig_builtins.proofs.texts.behind.Goals as goal

pub loop-i-init : goal.loop-i-init
loop-i-init c = record {
  within = omega arith;
  left = c.chars-rest.ensures.rest ∙ sym (encodes-chars c.args.text.now c.utf8.text);
}

pub returns-in-None : goal.returns-in-None
returns-in-None c =
    let none : length (chars c.args.text.now) ≤ c.loop-i._i
    = exhausted (chars c.args.text.now) (chars_rest c.loop-i.rest) c.loop-i._i c.loop-i.invariant.left c.in-None.ensures.steps.0.0 in
    let more = c.loop-i-test.true in
    omega arith

pub loop-i-preserved : goal.loop-i-preserved
loop-i-preserved c =
    let one = passed (chars c.args.text.now) (chars_rest c.loop-i.rest) (chars_rest c.next.new.self) c.loop-i._i c.in-Some.field-0 c.loop-i.invariant.within c.loop-i.invariant.left
    c.in-Some.ensures.steps.0 in
    record { within = one.0; left = one.1 }
