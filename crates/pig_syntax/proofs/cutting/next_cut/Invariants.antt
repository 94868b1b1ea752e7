use Rattle.std.proofs.Common.{◌≡◌, ◌≤◌}
use Rattle.std.specs.List.{slice_range}
use Rattle.pig_syntax.specs.Cutting.{NoCut, open_braces, close_braces}
use Rattle.pig_syntax.proofs.cutting.next_cut.Given as goal

abbrev pub invariant-loop-at : goal.invariant-loop-at
invariant-loop-at l = record {
  opened : l.opened ≡ open_braces (slice_range l.tokens l.start l.at);
  closed : l.closed ≡ close_braces (slice_range l.tokens l.start l.at);
  few : l.opened ≤ l.at;
  few_closed : l.closed ≤ l.at;
  uncut : NoCut l.tokens l.start l.at;
}
