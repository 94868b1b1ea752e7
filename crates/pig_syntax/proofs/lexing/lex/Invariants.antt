-- The tokens that are read so far.
use Rattle.std.proofs.Common.{◌≤◌, length}
use Rattle.pig_syntax.specs.Tokens.{Reads}
use Rattle.pig_syntax.proofs.lexing.lex.Given as goal

abbrev pub invariant-loop-rest : goal.invariant-loop-rest
invariant-loop-rest l = record {
  reads : Reads (length l.script) l.script l.tokens l.rest;
  within : length l.rest ≤ length l.script;
}

abbrev pub decreases-loop-rest : goal.decreases-loop-rest
decreases-loop-rest l = length l.rest
