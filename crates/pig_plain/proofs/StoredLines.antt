-- Rows that answer for a live node are written as the lines of its meaning.
use Rattle.std.proofs.Common.{◌≡◌, ◌≢◌, ℕ, List, map, sym, ◌∙◌, ap, subst}
use Rattle.std.specs.List.Sorted.{IsPermutation}
use Rattle.std.proofs.lemmas.List.Sorted.{All-permutation, IsPermutation-map}
use Rattle.pig_value.specs.declared.inputs.Input.{Input}
use Rattle.pig_value.specs.declared.outcomes.Kept.{Kept}
use Rattle.pig_value.specs.Lines.{stored_lines}
use Rattle.pig_value.specs.Orders.{row_cmp}
use Rattle.pig_value.specs.Texts.{AreLineFreeRows, IsLineFreeRow, row_text, rows_text}
use Rattle.pig_value.specs.Trees.{Tree}
use Rattle.pig_value.proofs.list_laws.Bags.{permutation_from_bag}
use Rattle.pig_builtins.proofs.LineFree.{line_free_kept}
use Rattle.pig_builtins.proofs.ValuesKept.{values_kept}
use Rattle.pig_storage.proofs.StoredRows.{rows_stored}
use Rattle.pig_plan.specs.Meaning.{meaning}
use Rattle.pig_plan.specs.Plans.{Plan}
use Rattle.pig_plan.proofs.LineFree.{meanings_are_line_free}
use Rattle.pig_plain.specs.Answering.{AnswersFor}
use Rattle.pig_plain.specs.StoredLines.{AnswersAreStoredLines, StoresMeaning}

module _ (plan : Plan) (inputs : List Input) (kept : List Kept) (k : ℕ) (free : AreLineFreeRows (meaning plan inputs kept k))
    (rows : List (List Tree)) (answers : AnswersFor plan inputs kept k rows) (d : ℕ) (other : d ≢ 10) where
  moved : IsPermutation (meaning plan inputs kept k) rows
  moved = permutation_from_bag row_cmp (meaning plan inputs kept k) rows (sym answers.bag)

  lines_are : stored_lines (rows_text d rows) ≡ map (row_text d) rows
  lines_are = rows_stored d other rows (All-permutation IsLineFreeRow (meaning plan inputs kept k) rows moved free)

  stores : StoresMeaning plan inputs kept k d (rows_text d rows)
  stores = record {
    bag = subst (IsPermutation (map (row_text d) (meaning plan inputs kept k))) (sym lines_are)
        (IsPermutation-map (row_text d) (meaning plan inputs kept k) rows moved);
    list = λ listed. lines_are ∙ ap (map (row_text d)) (answers.list listed);
  }

pub stored_lines_are : AnswersAreStoredLines
stored_lines_are plan inputs kept valid literals bytes is_kept k live rows answers d other =
    stores plan inputs kept k (meanings_are_line_free values_kept line_free_kept plan inputs kept valid literals bytes is_kept.each k live) rows answers d other
