use Rattle.std.proofs.Common.{rules, map}
use Rattle.pig_value.specs.Trees.{tree, entry_of}
use Rattle.pig_value.proofs.TreeLaws.{tree-Tuple, tree-Bag, tree-Listed, tree-Map}
use Rattle.pig_value.specs.Orders.{tree_cmp, row_cmp, pair_cmp}
use Rattle.pig_value.proofs.OrderLaws.{fields_are, tuples_are, entries_are}
use Rattle.pig_value.proofs.Ends.{ends}
use Rattle.pig_value.proofs.comparing.+order.Goals as goal

pub order-returns-in-Tuple-Tuple : goal.order-returns-in-Tuple-Tuple
order-returns-in-Tuple-Tuple t c =
    rw (c.in-Tuple-Tuple.is-0, c.in-Tuple-Tuple.is-1, tree-Tuple c.in-Tuple-Tuple.x, tree-Tuple c.in-Tuple-Tuple.y, fields_are (map tree c.in-Tuple-Tuple.x) (map tree c.in-Tuple-Tuple.y))
    (search rules)

pub order-returns-in-Bag-Bag : goal.order-returns-in-Bag-Bag
order-returns-in-Bag-Bag t c =
    rw (c.in-Bag-Bag.is-0, c.in-Bag-Bag.is-1, tree-Bag c.in-Bag-Bag.x, tree-Bag c.in-Bag-Bag.y, tuples_are (map (map tree) c.in-Bag-Bag.x) (map (map tree) c.in-Bag-Bag.y))
    (search rules)

pub order-returns-in-Listed-Listed : goal.order-returns-in-Listed-Listed
order-returns-in-Listed-Listed t c =
    rw (c.in-Listed-Listed.is-0, c.in-Listed-Listed.is-1, tree-Listed c.in-Listed-Listed.x, tree-Listed c.in-Listed-Listed.y, tuples_are (map (map tree) c.in-Listed-Listed.x) (map (map tree) c.in-Listed-Listed.y))
    (search rules)

pub order-returns-in-Map-Map : goal.order-returns-in-Map-Map
order-returns-in-Map-Map t c =
    rw (c.in-Map-Map.is-0, c.in-Map-Map.is-1, tree-Map c.in-Map-Map.x, tree-Map c.in-Map-Map.y, entries_are (map entry_of c.in-Map-Map.x) (map entry_of c.in-Map-Map.y))
    (search rules)

pub order_pairs-returns : goal.order_pairs-returns
order_pairs-returns t c = ends pair_cmp entry_of c.args.a.now c.args.b.now c.loop-i.i c.cmp.result (search rules) (search rules) c.loop-i.invariant

pub order_tuples-returns : goal.order_tuples-returns
order_tuples-returns t c = ends row_cmp (map tree) c.args.a.now c.args.b.now c.loop-i.i c.cmp.result (search rules) (search rules) c.loop-i.invariant

pub order_values-returns : goal.order_values-returns
order_values-returns t c = ends tree_cmp tree c.args.a.now c.args.b.now c.loop-i.i c.cmp.result (search rules) (search rules) c.loop-i.invariant
