use Rattle.std.proofs.Common.{◌==◌, sym, ◌∙◌, ap}
use Rattle.std.specs.Prelude.{◌||◌, not}
use Rattle.std.proofs.lemmas.Result.{on_ok_weaker}
use Rattle.pig_packed.specs.Growth.{and_rows}
use Rattle.pig_operators.specs.Groups.{first_key}
use Rattle.pig_operators.proofs.Sides.{outer_with, outer_without}
use Rattle.pig_gather.proofs.outer.add_outer.Goals as goal

pub returns-then-have_partners : goal.returns-then-have_partners
returns-then-have_partners c =
    let run = c.args.group.now.entries.now in
    let middle = c.sides-middle.result.0 in
    let last = c.sides-middle.result.1 in
    let told = c.have_partners.ensures ∙ ap (λ null. not (null || (c.args.group.now.from == middle) || (middle == last))) c.in_ok-null.ensures in
    on_ok_weaker c.add_partners.result
    (λ is. is
    ∙ ap (λ l. and_rows l c.args.built.now)
    (sym (outer_with run c.args.group.now.from c.args.group.now.end middle last c.sides-middle.ensures c.args.side c.args.left c.args.right (first_key run c.args.group.now.from) c.have_partners.result told c.if-have_partners.true))) c.add_partners.ensures

pub returns : goal.returns
returns c =
    let run = c.args.group.now.entries.now in
    let middle = c.sides-middle.result.0 in
    let last = c.sides-middle.result.1 in
    let told = c.have_partners.ensures ∙ ap (λ null. not (null || (c.args.group.now.from == middle) || (middle == last))) c.in_ok-null.ensures in
    on_ok_weaker c.add_right.result
    (λ is.
    let rows = outer_without run c.args.group.now.from c.args.group.now.end middle last c.sides-middle.ensures c.args.side c.args.left c.args.right (first_key run c.args.group.now.from) c.have_partners.result told c.if-have_partners.false c.left_stays.result
    c.right_stays.result c.left_stays.ensures c.right_stays.ensures c.args.built.now.rows c.add_left.new.built.rows c.add_right.new.built.rows (ap (λ b. b.rows) c.in_ok-add_left.ensures) (ap (λ b. b.rows) is) in
    λ i. record { rows = rows i; begun = ap (λ b. b.begun) is i }) c.add_right.ensures
