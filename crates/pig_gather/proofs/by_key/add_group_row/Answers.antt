use Rattle.std.proofs.Common.{[], ◌∷◌}
use Rattle.pig_plan.specs.ByKey.{as_bag}
use Rattle.pig_operators.specs.Groups.{bags_at, first_key, rows_at}
use Rattle.pig_gather.proofs.FieldCodes.{bag_behind, begins, row_ended}
use Rattle.pig_gather.proofs.GroupRows.{group_valid}
use Rattle.pig_gather.proofs.by_key.add_group_row.Goals as goal

pub end_fields-requires : goal.end_fields-requires
end_fields-requires c =
    let run = c.args.group.now.entries.now in
    let key = first_key run c.args.group.now.from in
    let bag = bags_at run c.args.group.now.from c.args.group.now.end 0 in
    begins c.args.built.now c.add_bag.new.built (key ∷ as_bag bag ∷ []) c.requires.none_begun
    (bag_behind c.args.built.now c.begin_by_key.new.built c.add_bag.new.built key (rows_at run c.args.group.now.from c.first_end.result) bag c.in_ok-begin_by_key.ensures c.in_ok-add_bag.ensures c.first_end.ensures.bag)
    (group_valid run c.args.group.now.from c.args.group.now.end c.args.group.now.ascending c.args.group.now.whole c.first_end.ensures.values)

pub returns : goal.returns
returns c =
    let run = c.args.group.now.entries.now in
    let key = first_key run c.args.group.now.from in
    let bag = bags_at run c.args.group.now.from c.args.group.now.end 0 in
    row_ended c.args.built.now c.add_bag.new.built (key ∷ as_bag bag ∷ []) c.requires.none_begun
    (bag_behind c.args.built.now c.begin_by_key.new.built c.add_bag.new.built key (rows_at run c.args.group.now.from c.first_end.result) bag c.in_ok-begin_by_key.ensures c.in_ok-add_bag.ensures c.first_end.ensures.bag)
    c.end_fields.result c.end_fields.new.built (group_valid run c.args.group.now.from c.args.group.now.end c.args.group.now.ascending c.args.group.now.whole c.first_end.ensures.values) c.end_fields.ensures
