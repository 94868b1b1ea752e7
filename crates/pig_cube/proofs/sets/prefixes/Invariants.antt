use Rattle.std.specs.Prelude.{◌≡◌, map, take}
use Rattle.std.specs.List.{range_with_len}
use Rattle.pig_cube.proofs.sets.prefixes.Given as goal

-- the prefixes that are shorter
abbrev pub invariant-loop-n : goal.invariant-loop-n
invariant-loop-n l = l.sets ≡ map (λ n. take n l.positions) (range_with_len 0 l.n)
