use Rattle.std.proofs.Common.{◌≡◌, Some, All, length}
use Rattle.pig_outside.specs.Memory.{told_inputs}
use Rattle.pig_setting_tests.specs.Given.{given}
use Rattle.pig_setting_tests.proofs.devices.hosts_of.Given as goal

abbrev pub invariant-loop-place : goal.invariant-loop-place
invariant-loop-place l =
    (length l.hosts.items ≡ l.place)
    × All (λ h. told_inputs h ≡ Some (given l.scene.a.now l.scene.b.now)) l.hosts.items
