use Rattle.std.proofs.Common.{rules, arith, sym, ◌∙◌, length}
use Rattle.pig_exprs.specs.Reader.{forms}
use Rattle.pig_exprs.proofs.Turns.{turn_none, turn_some, turn_fails, turn_end, fault_of_turn}
use Rattle.pig_exprs.proofs.reading.repeat.Goals as goal

pub returns-in-Ok-None : goal.returns-in-Ok-None
returns-in-Ok-None g c = sym c.loop-turn.invariant ∙ turn_none (g.T.Turning.finds c.args.turning.now) (length c.args.tokens.now) c.loop-turn._turn c.loop-turn.found (forms c.loop-turn.rest.now) (search (rules, arith)) (search rules)

pub returns-in-Err : goal.returns-in-Err
returns-in-Err g c = fault_of_turn (g.T.Turning.finds c.args.turning.now (forms c.loop-turn.rest.now)) _ c.in-Err.fault (search rules)
    (λ e. sym c.loop-turn.invariant ∙ turn_fails (g.T.Turning.finds c.args.turning.now) (length c.args.tokens.now) c.loop-turn._turn c.loop-turn.found (forms c.loop-turn.rest.now) (search (rules, arith)) e)

pub loop-turn-preserved : goal.loop-turn-preserved
loop-turn-preserved g c = sym (turn_some (g.T.Turning.finds c.args.turning.now) (length c.args.tokens.now) c.loop-turn._turn c.loop-turn.found _ c.in-Ok-Some.element (forms c.loop-turn.rest.now) (forms c.in-Ok-Some.behind.now) (search (rules, arith)) (search rules) (search rules))
    ∙ c.loop-turn.invariant

pub returns : goal.returns
returns g c = sym c.loop-turn.invariant ∙ turn_end (g.T.Turning.finds c.args.turning.now) (length c.args.tokens.now) c.loop-turn._turn c.loop-turn.found (forms c.loop-turn.rest.now) (search (rules, arith))
