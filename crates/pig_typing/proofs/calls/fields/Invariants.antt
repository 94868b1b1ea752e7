use Rattle.std.proofs.Common.{◌≡◌, ◌++◌, ◌-◌, map}
use Rattle.pig_typed.specs.Typed.{typed}
use Rattle.pig_typing.specs.Calls.{fields_from}
use Rattle.pig_typing.proofs.calls.fields.Given as goal

abbrev pub invariant-loop-place : goal.invariant-loop-place
invariant-loop-place l = map typed l.fields ++ fields_from l.place (l.count - l.place) ≡ fields_from 0 l.count
