use Rattle.std.proofs.Common.{◌≡◌, List, refl, sym, ◌∙◌, ap, arith}
use Rattle.pig_value.specs.Trees.{Tree}
use Rattle.pig_packed.specs.Growth.{and_rows}
use Rattle.pig_packed.proofs.Adding.{and_rows-append}
use Rattle.pig_operators.specs.Groups.{apart_rows, bags_at, first_key, lone_rows, rows_at}
use Rattle.pig_operators.proofs.Apart.{apart_next}
use Rattle.pig_operators.proofs.Inputs.{input_behind, input_rows, remains_all}
use Rattle.pig_operators.proofs.Stretches.{group_sorted}
use Rattle.pig_gather.proofs.GroupRows.{input_bag}
use Rattle.pig_gather.proofs.LentRows.{none_added}
use Rattle.pig_gather.proofs.cogrouping.add_apart.Goals as goal

pub loop-input-init : goal.loop-input-init
loop-input-init c = (remains_all c.args.group.now.entries.now.entries c.args.group.now.from c.args.group.now.end (let low = c.args.group.now.whole.some in omega (arith, low)), none_added c.args.built.now _ c.requires.none_begun refl)

pub add_lone_row-requires-clause-bag : goal.add_lone_row-requires-clause-bag
add_lone_row-requires-clause-bag c =
    let run = c.args.group.now.entries.now in
    let up = group_sorted run c.args.group.now.from c.args.group.now.end c.args.group.now.whole c.len.ensures.sorted in
    input_bag run c.args.group.now.from c.args.group.now.end c.loop-input.input (rows_at run c.loop-input.at c.input_end-next.result)
    (input_rows run c.args.group.now.from c.loop-input.at c.args.group.now.end c.loop-input.input c.input_end-next.result c.loop-input.invariant.0 c.input_end-next.ensures up)

pub loop-input-preserved : goal.loop-input-preserved
loop-input-preserved c =
    let run = c.args.group.now.entries.now in
    let up = group_sorted run c.args.group.now.from c.args.group.now.end c.args.group.now.whole c.len.ensures.sorted in
    let rows = bags_at run c.args.group.now.from c.args.group.now.end in
    let key = first_key run c.args.group.now.from in
    let i = c.loop-input.input in
    let next = c.input_end-next.result in
    let own : List (List Tree) = rows_at run c.loop-input.at next in
    let here : rows i ≡ own = input_rows run c.args.group.now.from c.loop-input.at c.args.group.now.end i next c.loop-input.invariant.0 c.input_end-next.ensures up in
    let inner = c.args.inner.now in (
      input_behind run c.args.group.now.from c.loop-input.at c.args.group.now.end i next c.loop-input.invariant.0 c.input_end-next.ensures up,
      c.in_ok-add_lone_row.ensures
          ∙ (ap (and_rows (lone_rows inner key i own)) c.loop-input.invariant.1
          ∙ (and_rows-append (apart_rows inner key rows i) (lone_rows inner key i own) c.args.built.now ∙ ap (λ l. and_rows l c.args.built.now) (sym (apart_next i own inner key rows here)))),
    )
