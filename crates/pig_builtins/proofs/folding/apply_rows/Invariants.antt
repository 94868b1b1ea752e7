use Rattle.std.proofs.Common.{◌≡◌, map, take}
use Rattle.pig_value.specs.Functions.{column_found, looked_at}
use Rattle.pig_value.specs.Trees.{rows_tree}
use Rattle.pig_builtins.specs.Folds.{fold_found, fold_function}
use Rattle.pig_builtins.proofs.folding.apply_rows.Given as goal

abbrev pub invariant-loop-row : goal.invariant-loop-row
invariant-loop-row l = record {
  function : fold_function l.fold ≡ l.fn.function;
  found : fold_found l.fold ≡ column_found l.fn.function (map (looked_at l.fn.function) (rows_tree (take l.row-index l.rows)));
}
