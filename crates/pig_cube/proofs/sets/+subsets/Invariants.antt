use Rattle.std.specs.Prelude.{◌≡◌, ◌∷◌, length, map, take}
use Rattle.pig_cube.proofs.sets.+subsets.Given as goal

abbrev pub decreases-subsets : goal.decreases-subsets
decreases-subsets l = length l.positions.now

-- the sets so far, with the first position in front
abbrev pub invariant-loop-set : goal.invariant-loop-set
invariant-loop-set l = l.sets ≡ map (λ set. l.first ∷ set) (take l.set-index l.set-items)
