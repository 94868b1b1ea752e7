use Rattle.std.proofs.Common.{refl}
use Rattle.std.proofs.lemmas.Result.{on_ok_weaker}
use Rattle.pig_runs.specs.Alone.{keys_in}
use Rattle.pig_runs.proofs.Once.{and_key, same_keys_added}
use Rattle.pig_runs.proofs.keys.add_code.Goals as goal

pub returns-then-stands_at-clause-ok : goal.returns-then-stands_at-clause-ok
returns-then-stands_at-clause-ok c key told = c.if-stands_at.ensures refl key told

pub returns-clause-ok : goal.returns-clause-ok
returns-clause-ok c key told =
    on_ok_weaker c.add_bare.result
    (λ is. same_keys_added _ _ (and_key key c.args.built.now c.add_bare.new.built (keys_in c.args.built.now.entries) refl is))
    (c.add_bare.ensures.ok key told)
