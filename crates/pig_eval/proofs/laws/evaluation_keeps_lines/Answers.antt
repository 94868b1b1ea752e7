use Rattle.pig_builtins.proofs.LineFree.{line_free_kept}
use Rattle.pig_builtins.proofs.ValuesKept.{values_kept}
use Rattle.pig_typed.specs.Blocks.{foreach_rows}
use Rattle.pig_typed.specs.Premises.{IsLineFreeValue}
use Rattle.pig_typed.proofs.Carried.{IsCarried, block_carried}
use Rattle.pig_typed.proofs.LinesCarried.{line_free_row, line_free_rows, lines_carried}
use Rattle.pig_eval.proofs.Evaluated.{free_of_lines}
use Rattle.pig_eval.proofs.laws.evaluation_keeps_lines.Goals as goal

pub returns : goal.returns
returns c =
    let both : IsCarried IsLineFreeValue = lines_carried values_kept line_free_kept in
    record {
      expression = free_of_lines;
      block = λ block row ok valid h.
          line_free_rows (foreach_rows block row) (block_carried IsLineFreeValue both block row ok (line_free_row row valid h));
    }
