use Rattle.std.proofs.Common.{◌≡◌, ◌-◌, length}
use Rattle.pig_exprs.specs.Reader.{repeat, forms}
use Rattle.pig_exprs.proofs.reading.repeat.Given as goal

abbrev pub invariant-loop-turn : goal.invariant-loop-turn
invariant-loop-turn g l =
    repeat (g.T.Turning.finds l.fn.turning) (length l.fn.tokens - l._turn) l.found (forms l.rest) ≡ repeat (g.T.Turning.finds l.fn.turning) (length l.fn.tokens) l.fn.found (forms l.fn.tokens)
