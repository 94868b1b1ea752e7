use Rattle.std.proofs.Common.{◌≡◌, map}
use Rattle.pig_driver.specs.Slicing.{form_in, lone_form, note_of}
use Rattle.pig_driver.proofs.slicing.take_all.Given as goal

abbrev pub invariant-loop-out : goal.invariant-loop-out
invariant-loop-out l = (map form_in l.yielded ≡ map lone_form l.runs) × (map note_of l.yielded ≡ l.notes)
