use Rattle.std.proofs.Common.{sym, ◌∙◌}
use Rattle.pig_physical.specs.Values.{key_row}
use Rattle.pig_reduce.proofs.KeyRows.{tuple_code, tuple_whole}
use Rattle.pig_reduce.proofs.keys.push_key.Goals as goal

pub push_code-requires-clause-whole : goal.push_code-requires-clause-whole
push_code-requires-clause-whole c = tuple_whole c.args.code.now c.requires.key (sym c.is_tuple.ensures ∙ c.if-is_tuple.true)

pub returns-then-is_tuple : goal.returns-then-is_tuple
returns-then-is_tuple c key h = c.push_code.ensures.ok (key_row key) (tuple_code c.args.code.now key h (sym c.is_tuple.ensures ∙ c.if-is_tuple.true))
