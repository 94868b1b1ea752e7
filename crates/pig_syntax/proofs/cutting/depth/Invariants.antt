use Rattle.std.proofs.Common.{◌≡◌, ◌≤◌, take}
use Rattle.pig_syntax.specs.Cutting.{opened, closed}
use Rattle.pig_syntax.proofs.CutSteps.{IsDeepest}
use Rattle.pig_syntax.proofs.cutting.depth.Given as goal

abbrev pub invariant-loop-token : goal.invariant-loop-token
invariant-loop-token l = record {
  opened : l.brackets.opened ≡ opened (take l.token-index l.statement);
  closed : l.brackets.closed ≡ closed (take l.token-index l.statement);
  few : l.brackets.opened ≤ l.token-index;
  few_closed : l.brackets.closed ≤ l.token-index;
  deepest : IsDeepest l.statement l.token-index l.brackets.deepest;
}
