use Rattle.pig_typed.specs.Blocks.{foreach_rows}
use Rattle.pig_typed.specs.Premises.{IsLineFreeValue}
use Rattle.pig_typed.proofs.Carried.{block_carried, carried}
use Rattle.pig_typed.proofs.LinesCarried.{line_free_row, line_free_rows, lines_carried}
use Rattle.pig_typed.proofs.laws.lines_are_kept.Goals as goal

pub returns : goal.returns
returns c = record {
  expression = λ values lines e row locals ok valid h also g.
      (carried IsLineFreeValue (lines_carried values lines) row locals (line_free_row row valid h) (line_free_row locals also g) e ok).1;
  block = λ values lines block row ok valid h.
      line_free_rows (foreach_rows block row) (block_carried IsLineFreeValue (lines_carried values lines) block row ok (line_free_row row valid h));
}
