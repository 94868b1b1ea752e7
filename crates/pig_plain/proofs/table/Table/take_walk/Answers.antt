use Rattle.std.proofs.Common.{ap, subst, sym, true, ◌∙◌}
use Rattle.pig_plain.specs.Operating.{standing_rows}
use Rattle.pig_plain.specs.Tables.{IsLeft}
use Rattle.pig_plain.proofs.Tables.{put_back, put_stands}
use Rattle.pig_plain.proofs.table.Table.take_walk.Goals as goal

pub returns-in-Standing-clause-rows : goal.returns-in-Standing-clause-rows
returns-in-Standing-clause-rows c =
    ap (λ t. standing_rows t.relations c.args.node) c.put.ensures
    ∙ put_stands c.args.self.now c.take.new.self c.args.node c.in-Standing.rows c.take.ensures.left c.in-Standing.ensures.rows

pub returns-in-Standing-clause-left : goal.returns-in-Standing-clause-left
returns-in-Standing-clause-left c =
    subst (IsLeft true c.args.node c.args.self.now) (sym c.put.ensures)
    (put_back c.args.self.now c.take.new.self c.args.node c.in-Standing.rows c.take.ensures.left c.in-Standing.ensures.rows true)
