-- What the code holds, as the definitions see it.
use Rattle.std.specs.Prelude.{map}
use Rattle.pig_schema.specs.FieldTrees.{named_tree, schema_tree}
use Rattle.pig_typed.specs.Typed.{block_typed, step_typed, typed}
use Rattle.pig_typing.specs.Columns.{local_of}
use Rattle.pig_typing.specs.Parts.{Typing, typing}
use Rattle.pig_blocks.specs.declared.bags.TypedBag.{TypedBag}
use Rattle.pig_blocks.specs.declared.foreach.TypedForeach.{TypedForeach}
use Rattle.pig_blocks.specs.declared.steps.Made as code_step
use Rattle.pig_blocks.specs.declared.steps.Stepped as code_steps
use Rattle.pig_blocks.specs.Foreach.{Foreach, foreach}
use Rattle.pig_blocks.specs.Steps.{Made, made, Stepped, stepped}

abbrev pub bag_tree : TypedBag → Typing
bag_tree b = typing (typed b.expr) (named_tree b.column)

abbrev pub made_tree : code_step.Made → Made
made_tree m = made (step_typed m.step) (named_tree m.column)

abbrev pub stepped_tree : code_steps.Stepped → Stepped
stepped_tree ss = stepped (map step_typed ss.steps) (record { columns = schema_tree ss.columns.now; locals = map local_of ss.locals })

abbrev pub foreach_tree : TypedForeach → Foreach
foreach_tree f = foreach (block_typed f.block) (schema_tree f.columns)
