-- The rows of a LOAD's lines are of its kinds.
use Rattle.std.specs.Prelude.{List, Some, map, refl}
use Rattle.std.proofs.Common.{sym, ◌∙◌, subst}
use Rattle.pig_value.specs.FieldRows.{row_of}
use Rattle.pig_value.specs.Kinds.{IsRowOf}
use Rattle.pig_value.specs.Trees.{Tree, kind_tree}
use Rattle.pig_value.proofs.list_laws.Listing.{each-map, each_of_all}
use Rattle.pig_typed.proofs.Found.{tested}
use Rattle.pig_plan.proofs.LoadRows.{row_of_kinds}
use Rattle.pig_plan.specs.NodeKinds.{RowKinds, ascend, load_gives}
use Rattle.pig_plan.specs.Plans.{p_load}
use Rattle.pig_waves.proofs.Folders.{none_folds_at}
use Rattle.pig_fitting.specs.Laws.{LoadFits}
use Rattle.pig_fitting.proofs.Given.{Has, given_has, given_of, given_unfolded, kinds_by}

pub loads_fit : LoadFits
loads_fit plan valid k path delim columns at lines =
    let ks : RowKinds = map (λ column. kind_tree column.kind) columns in
    let rows : List (List Tree) = map (row_of columns delim) lines in
    let given = given_unfolded plan k (none_folds_at plan k (p_load path delim columns) at refl) ∙ kinds_by plan valid k (p_load path delim columns) at in
    given_has plan k (map (row_of columns delim) lines)
    (subst (λ found. Has found (map (row_of columns delim) lines)) (sym given)
    (given_of (load_gives columns) (map (row_of columns delim) lines)
    (tested (λ found. Has found (map (row_of columns delim) lines)) (ascend columns) (Some (Some (map (λ column. kind_tree column.kind) columns)))
    (λ t. each-map (λ row. IsRowOf row (map (λ column. kind_tree column.kind) columns)) (row_of columns delim) lines
    (each_of_all _ (λ line. row_of_kinds columns delim line) lines)))))
