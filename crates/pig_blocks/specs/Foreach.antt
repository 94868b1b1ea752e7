-- FOREACH with its nested block: the steps in turn, and the items of GENERATE over the row and all steps, whose columns are within the limits.
-- (Pig Latin Basics: "FOREACH".)
use Rattle.std.specs.Prelude.{◌≡◌, List}
use Rattle.std.specs.declared.result.Result.TheVariants.{Ok, Err}
use Rattle.pig_schema.specs.FieldTrees.{FieldTree}
use Rattle.pig_syntax.specs.declared.trees.Item.{Item}
use Rattle.pig_syntax.specs.declared.trees.Step.{Step}
use Rattle.pig_typed.specs.Typed.{TypedBlock}
use Rattle.pig_typing.specs.declared.faults.CheckKind.{CheckKind}
use Rattle.pig_items.specs.Items.{Generated, AllGenerate, AllGenerateNot, items_of}
use Rattle.pig_typing.specs.Limits.{limited_row}
use Rattle.pig_typing.specs.Results.{Checked, ◌>>=◌}
use Rattle.pig_blocks.specs.Steps.{row_place, Stepped, steps_made, place_behind, AllMake, AllMakeNot, steps_of}

-- a typed block, and the columns of the rows that it generates
pub data Foreach : Type 0 where
  foreach : TypedBlock → List FieldTree → Foreach

abbrev pub block_in : Foreach → TypedBlock
block_in (foreach block columns) = block

abbrev pub columns_of : Foreach → List FieldTree
columns_of (foreach block columns) = columns

abbrev pub generating : Stepped → Generated → Foreach
generating ss g = foreach (record { steps = steps_made ss; items = g.items }) g.columns

pub data TypesForeach (columns : List FieldTree) (steps : List Step) (items : List Item) : Foreach → Type 0 where
  types_foreach : {ss : Stepped} {g : Generated} {row : List FieldTree}
      → AllMake (row_place columns) steps ss → AllGenerate (place_behind ss) items g → limited_row g.columns ≡ Ok row
      → TypesForeach columns steps items (generating ss g)

pub data ForeachFaults (columns : List FieldTree) (steps : List Step) (items : List Item) : CheckKind → Type 0 where
  in_steps : {f : CheckKind} → AllMakeNot (row_place columns) steps f → ForeachFaults columns steps items f
  in_items : {ss : Stepped} {f : CheckKind}
      → AllMake (row_place columns) steps ss → AllGenerateNot (place_behind ss) items f → ForeachFaults columns steps items f
  past_limits : {ss : Stepped} {g : Generated} {f : CheckKind}
      → AllMake (row_place columns) steps ss → AllGenerate (place_behind ss) items g → limited_row g.columns ≡ Err f → ForeachFaults columns steps items f

-- ---- the same as a function

unfoldable pub within_row : Stepped → Generated → Checked Foreach
within_row ss g = do
  row ← limited_row g.columns
  Ok (generating ss g)

unfoldable pub foreach_of : List FieldTree → List Step → List Item → Checked Foreach
foreach_of columns steps items = do
  ss ← steps_of (row_place columns) steps
  g ← items_of (place_behind ss) items
  within_row ss g
