use Rattle.pig_value.specs.Trees.{row_tree}
use Rattle.pig_packed.proofs.Growing.{written_whole}
use Rattle.pig_packed.proofs.builder.PackedBuilder.push_row.Goals as goal

pub end_or_undo-requires : goal.end_or_undo-requires
end_or_undo-requires c = written_whole c.args.self.now c.write_row.new.self (row_tree c.args.row.now) c.requires.values c.requires.none_begun c.in_ok-write_row.ensures.ok
