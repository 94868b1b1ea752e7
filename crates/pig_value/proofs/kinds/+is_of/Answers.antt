use Rattle.std.proofs.Common.{rules, sym, ◌∙◌}
use Rattle.pig_value.specs.Trees.{tree, kind_tree}
use Rattle.pig_value.proofs.KindEnds.{fields_end}
use Rattle.pig_value.proofs.kinds.+is_of.Goals as goal

pub fields_are_of-returns : goal.fields_are_of-returns
fields_are_of-returns t c =
    sym (fields_end tree kind_tree c.args.fields.now c.args.kinds.now c.loop-i.i (search rules)) ∙ c.loop-i.invariant
