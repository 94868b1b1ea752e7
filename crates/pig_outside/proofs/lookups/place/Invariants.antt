-- The place in what is left gives the place in all.
use Rattle.std.proofs.Common.{◌≡◌, ◌+◌, drop}
use Rattle.std.specs.Option.{option_map}
use Rattle.pig_outside.specs.Places.{place_of}
use Rattle.pig_outside.proofs.lookups.place.Given as goal

abbrev pub invariant-loop-i : goal.invariant-loop-i
invariant-loop-i g l =
    place_of g.T.Named.name l.path l.items ≡ option_map (λ k. k + l.i) (place_of g.T.Named.name l.path (drop l.i l.items))
