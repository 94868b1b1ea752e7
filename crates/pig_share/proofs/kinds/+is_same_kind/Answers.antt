use Rattle.std.proofs.Common.{rules, sym, ◌∙◌}
use Rattle.std.proofs.lemmas.Bool.{eqb-true}
use Rattle.std.specs.Prelude.{length}
use Rattle.pig_value.specs.Trees.{kind_tree}
use Rattle.pig_share.proofs.Ends.{kinds_end, left_same}
use Rattle.pig_share.proofs.kinds.+is_same_kind.Goals as goal

pub are_same_kinds-returns-clause-test : goal.are_same_kinds-returns-clause-test
are_same_kinds-returns-clause-test t c = sym (kinds_end kind_tree c.args.a.now c.args.b.now c.loop-i.i (search rules)) ∙ c.loop-i.invariant.0

pub are_same_kinds-returns-clause-same : goal.are_same_kinds-returns-clause-same
are_same_kinds-returns-clause-same t c = λ h. c.loop-i.invariant.1 (left_same c.args.a.now c.args.b.now c.loop-i.i (search rules) (eqb-true (length c.args.a.now) (length c.args.b.now) h))
