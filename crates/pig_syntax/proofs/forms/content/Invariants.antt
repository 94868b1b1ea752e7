-- What is left of the search, with what is read of it already.
use Rattle.std.proofs.Common.{◌≡◌, ◌-◌, ◌≤◌, [], length}
use Rattle.pig_syntax.specs.Scanner.{content_after}
use Rattle.pig_syntax.proofs.forms.content.Given as goal

abbrev pub invariant-loop-turn : goal.invariant-loop-turn
invariant-loop-turn l = record {
  value : content_after (length l.bytes - l._turn) l.read l.rest ≡ content_after (length l.bytes) [] l.bytes;
  within : length l.rest ≤ length l.bytes;
}
