use Rattle.std.proofs.Common.{rules, ◌≡◌, map}
use Rattle.pig_value.specs.Kinds.{kinds_eq}
use Rattle.pig_value.specs.Trees.{kind_tree, kinds_of}
use Rattle.pig_plan.proofs.Exchanged.{rows_differ, rows_same}
use Rattle.pig_plan.proofs.exchanging.are_rows_of.Goals as goal

pub returns-in-Rows-clause-yes : goal.returns-in-Rows-clause-yes
returns-in-Rows-clause-yes c =
    let told : c.same_kinds.result ≡ kinds_eq (kinds_of (map kind_tree c.args.kinds.now)) (kinds_of (map kind_tree c.in-Rows.found)) = search rules in
    rows_same c.same_kinds.result c.args.given.now c.args.kinds.now c.in-Rows.found c.in-Rows.is told

pub returns-in-Rows-clause-no : goal.returns-in-Rows-clause-no
returns-in-Rows-clause-no c =
    let told : c.same_kinds.result ≡ kinds_eq (kinds_of (map kind_tree c.args.kinds.now)) (kinds_of (map kind_tree c.in-Rows.found)) = search rules in
    rows_differ c.same_kinds.result c.args.given.now c.args.kinds.now c.in-Rows.found c.in-Rows.is told
