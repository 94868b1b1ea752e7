-- The bytes so far.
use Rattle.std.proofs.Common.{◌≡◌, ◌++◌, take}
use Rattle.pig_syntax.proofs.forms.push_bytes.Given as goal

abbrev pub invariant-loop-byte : goal.invariant-loop-byte
invariant-loop-byte l = l.read ≡ l.initial.read ++ take l.byte-index l.bytes
