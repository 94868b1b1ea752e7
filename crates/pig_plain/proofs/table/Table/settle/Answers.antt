use Rattle.std.proofs.Common.{◌∙◌, ap, false, subst, sym}
use Rattle.pig_plain.specs.Operating.{standing_rows}
use Rattle.pig_plain.specs.Tables.{IsLeft}
use Rattle.pig_plain.proofs.Tables.{put_back, put_stands}
use Rattle.pig_plain.proofs.table.Table.settle.Goals as goal

pub returns-clause-rows : goal.returns-clause-rows
returns-clause-rows c =
    ap (λ t. standing_rows t.relations c.args.node) c.put.ensures
    ∙ put_stands c.args.self.now c.take-relation.new.self c.args.node c.in_ok-rows.rows c.take-relation.ensures.left (c.in_ok-rows.ensures ∙ c.take-relation.ensures.rows)

pub returns-clause-left : goal.returns-clause-left
returns-clause-left c =
    subst (IsLeft false c.args.node c.args.self.now) (sym c.put.ensures)
    (put_back c.args.self.now c.take-relation.new.self c.args.node c.in_ok-rows.rows c.take-relation.ensures.left (c.in_ok-rows.ensures ∙ c.take-relation.ensures.rows) false)
