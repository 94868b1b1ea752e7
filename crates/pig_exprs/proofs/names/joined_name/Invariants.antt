use Rattle.std.proofs.Common.{◌≡◌, length, string_bytes}
use Rattle.pig_exprs.specs.Reader.{joined_name}
use Rattle.pig_exprs.proofs.names.joined_name.Given as goal

abbrev pub invariant-loop-rest : goal.invariant-loop-rest
invariant-loop-rest l = joined_name (string_bytes l.name) l.rest ≡ joined_name (string_bytes l.fn.name) l.fn.parts

abbrev pub decreases-loop-rest : goal.decreases-loop-rest
decreases-loop-rest l = length l.rest
