-- What is written and what is to come are the whole text.
use Rattle.std.proofs.Common.{◌≡◌, ◌++◌, drop}
use Rattle.std.specs.List.{flat_map}
use Rattle.pig_explain.specs.Quoting.{escape}
use Rattle.pig_explain.proofs.puts.put_escaped.Given as goal

abbrev pub invariant-loop-byte : goal.invariant-loop-byte
invariant-loop-byte l = l.out.items ++ flat_map escape (drop l.byte-index l.bytes) ≡ l.fn.out.items ++ flat_map escape l.bytes
