use Rattle.std.proofs.Common.{◌≡◌, ◌∙◌, ◌++◌, ◌+◌, ap, sym, drop, take, true, false}
use Rattle.pig_value.specs.Orders.{row_cmp}
use Rattle.pig_value.specs.Trees.{row_tree, rows_tree}
use Rattle.pig_nested.specs.Apart.{apart, repeats}
use Rattle.pig_nested.proofs.DistinctSorted.{left_out, moved_up, rest_of}
use Rattle.pig_nested.proofs.distinct.keep.Goals as goal

pub returns-then-is_same_as_next-clause-same : goal.returns-then-is_same_as_next-clause-same
returns-then-is_same_as_next-clause-same c =
    let rows = c.args.rows.now.items in
    let next = c.args.next in
    let rest = ap (λ l. repeats row_cmp (rows_tree l)) (rest_of rows c.deref.result.now next c.deref.ensures.value) in
    let same : repeats row_cmp (rows_tree (drop next rows)) ≡ true = sym rest ∙ sym c.is_same_as_next.ensures ∙ c.if-is_same_as_next.true in
    left_out row_cmp row_tree rows c.args.kept next c.requires.within same

pub returns-clause-same : goal.returns-clause-same
returns-clause-same c =
    let rows = c.args.rows.now.items in
    let kept = c.args.kept in
    let next = c.args.next in
    let rest = ap (λ l. repeats row_cmp (rows_tree l)) (rest_of rows c.deref.result.now next c.deref.ensures.value) in
    let other : repeats row_cmp (rows_tree (drop next rows)) ≡ false = sym rest ∙ sym c.is_same_as_next.ensures ∙ c.if-is_same_as_next.false in
    ap (λ l. rows_tree (take (kept + 1) l) ++ apart row_cmp (rows_tree (drop (next + 1) l))) c.swap.ensures.items
    ∙ moved_up row_cmp row_tree rows kept next c.requires.before c.requires.within other
