use Rattle.std.proofs.Common.{subst, sym}
use Rattle.pig_keycode.specs.Keys.{IsKey}
use Rattle.pig_value.specs.Trees.{tree}
use Rattle.pig_operators.proofs.keyed.add_under.Goals as goal

pub add-requires-clause-key : goal.add-requires-clause-key
add-requires-clause-key c = subst (λ ds. IsKey ds (tree c.args.key.now)) (sym c.requires.ascending) c.requires.key
