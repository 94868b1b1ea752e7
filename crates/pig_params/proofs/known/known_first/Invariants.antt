use Rattle.std.proofs.Common.{◌≡◌, ℕ, List, None, map, take}
use Rattle.pig_params.specs.Given.{named_of}
use Rattle.pig_params.specs.Substitution.{last_of}
use Rattle.pig_params.specs.Tables.{found_in}
use Rattle.pig_params.proofs.known.known_first.Given as goal

abbrev pub invariant-loop-param : goal.invariant-loop-param
invariant-loop-param l = ((n : List ℕ) → found_in l.known.fixed n ≡ last_of n (map named_of (take l.param-index l.param-items)))
    × ((n : List ℕ) → found_in l.known.defaults n ≡ None)
