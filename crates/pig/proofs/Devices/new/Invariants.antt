-- So many hosts are made.
use Rattle.std.proofs.Common.{◌≡◌, vec_len}
use Rattle.pig.proofs.Devices.new.Given as goal

abbrev pub invariant-loop : goal.invariant-loop
invariant-loop l = vec_len l.hosts ≡ l.counter
