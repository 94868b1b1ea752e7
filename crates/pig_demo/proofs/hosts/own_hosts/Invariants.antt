use Rattle.std.proofs.Common.{◌≡◌, All, length}
use Rattle.pig_outside.specs.Memory.{host_inputs}
use Rattle.pig_demo.specs.Scene.{demo_inputs}
use Rattle.pig_demo.proofs.hosts.own_hosts.Given as goal

abbrev pub invariant-loop : goal.invariant-loop
invariant-loop l = (length l.hosts.items ≡ l.counter) × All (λ host. host_inputs host ≡ demo_inputs l.count) l.hosts.items
