-- What stands in the place of the columns of a condition that passes an operator.
use Rattle.std.specs.Prelude.{ℕ, ◌-◌, map}
use Rattle.pig_value.specs.declared.operators.ChainOp.{ChainOp}
use Rattle.pig_typed.specs.Typed.{Typed, item_typed, typed, x_field}
use Rattle.pig_plan.specs.Moves.{put}
use Rattle.pig_moves.specs.Pushed.{handed_number}
use Rattle.pig_moves.specs.declared.putting.Instead.{Instead}
use Rattle.pig_moves.specs.declared.putting.Instead.TheVariants as instead

abbrev pub instead_of : Instead → ℕ → Typed
instead_of (instead.Handed items) n = x_field (handed_number (map item_typed items.now) n)
instead_of (instead.Behind first) n = x_field (n - first)
instead_of (instead.Key key) n = typed key.now

-- a link of a chain over others in the place of its columns
abbrev pub put_link : (ℕ → Typed) → ChainOp × Typed → ChainOp × Typed
put_link f l = (l.0, put f l.1)
