use Rattle.std.proofs.Common.{sym, subst}
use Rattle.pig_packed.specs.Growth.{IsWhole}
use Rattle.pig_packed.proofs.Lending.{lent_whole}
use Rattle.pig_packed_tests.proofs.packing.add_pieces.Goals as goal

pub end_row-requires : goal.end_row-requires
end_row-requires g c = subst IsWhole (sym c.write_pieces.ensures) (lent_whole c.args.rows.now c.args.at c.code.result.now c.code.ensures.values c.code.ensures.is)
