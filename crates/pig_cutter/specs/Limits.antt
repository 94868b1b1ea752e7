-- The limit on the tasks of a wave.
use Rattle.std.specs.Prelude.{ℕ, ◌^◌, Bool, nat_lt, length}
use Rattle.std.specs.List.{list_any, range_with_len}
use Rattle.pig_physical.specs.Stages.{Stages, heads, wave_size}

-- whether a wave's tasks that are no reduce tasks, and its ways, are together more than 65,536
abbrev pub is_too_large : Stages → ℕ → Bool
is_too_large s w = nat_lt (2 ^ 16) (wave_size s w)

-- whether some wave is too large
abbrev pub has_too_many : Stages → Bool
has_too_many s = list_any (is_too_large s) (range_with_len 0 (length (heads s.plan)))
