use Rattle.pig_probe.proofs.ByCodes.{begins_nulls, begun_nulls}
use Rattle.pig_probe.proofs.joining.add_alone.Goals as goal

pub add_row-requires : goal.add_row-requires
add_row-requires c = record {
  front = begun_nulls c.args.width c.args.front.now.items c.add_nulls.new.front.items c.in_ok-add_nulls.ensures c.requires.front;
  none_begun = c.requires.none_begun;
}

pub returns-clause-rows : goal.returns-clause-rows
returns-clause-rows c row h = c.add_row.ensures.row _ (begins_nulls c.args.width c.args.front.now.items c.add_nulls.new.front.items row c.in_ok-add_nulls.ensures h)
