-- One byte more: a bracket that opens, one that closes, a comma outside all brackets, or another.
use Rattle.std.proofs.Common.{◌+◌, ◌++◌, [], length, map, drop, refl, sym, ◌∙◌, ap, arith}
use Rattle.pig_value.specs.Brackets.{closes, items_at}
use Rattle.pig_cast.proofs.Items.{begins, item_ends, last_ends, onto_front}
use Rattle.pig_cast.proofs.OnePass.{all_found, at_the_end, closed, none_found, opened, passed, separated, unbalanced}
use Rattle.pig_cast.proofs.cutting.items.Goals as goal

pub loop-i-init : goal.loop-i-init
loop-i-init c = (
  omega arith,
  record {
    balance = ap (closes c.args.body.now) c.new-unclosed.ensures;
    items = ap (λ w. map (λ item. item.now) c.new-found.result.items ++ onto_front [] (items_at (length w) c.args.body.now)) c.new-unclosed.ensures ∙ begins _ c.args.body.now c.new-found.result.items c.new-found.ensures.items;
  },
)

pub loop-i-preserved-then-opens : goal.loop-i-preserved-then-opens
loop-i-preserved-then-opens c = (
  omega arith,
  opened c.args.body.now c.loop-i.from c.loop-i.i c.loop-i.unclosed c.open.new.self _ c.loop-i.invariant.0 c.loop-i-test.true (sym c.opens.ensures ∙ c.if-opens.true) c.in_ok-open.ensures c.loop-i.invariant.1,
)

pub loop-i-preserved-then-closes : goal.loop-i-preserved-then-closes
loop-i-preserved-then-closes c = (
  omega arith,
  closed c.args.body.now c.loop-i.from c.loop-i.i c.loop-i.unclosed c.close.new.self _ c.loop-i.invariant.0 c.loop-i-test.true (sym c.opens.ensures ∙ c.if-opens.false) (sym c.closes.ensures ∙ c.if-closes.true) (c.close.ensures.closed c.if-not-close.false) c.loop-i.invariant.1,
)

pub loop-i-preserved-then-separates : goal.loop-i-preserved-then-separates
loop-i-preserved-then-separates c =
    let body = c.args.body.now in
    let i = c.loop-i.i in
    let opens = sym c.opens.ensures ∙ c.if-opens.false in
    let shuts = sym c.closes.ensures ∙ c.if-closes.false in (
      omega arith,
      record {
        balance = separated body i c.loop-i.unclosed c.loop-i-test.true opens shuts c.loop-i.invariant.1.balance;
        items = item_ends _ body c.loop-i.from i _ c.loop-i.found.items c.push.new.self.items _ c.in_ok-push.ensures.items refl c.loop-i-test.true (sym c.separates.ensures ∙ c.if-separates.true) c.loop-i.invariant.1.items;
      },
    )

pub loop-i-preserved : goal.loop-i-preserved
loop-i-preserved c = (
  omega arith,
  passed c.args.body.now c.loop-i.from c.loop-i.i c.loop-i.unclosed _ c.loop-i.invariant.0 c.loop-i-test.true (sym c.opens.ensures ∙ c.if-opens.false) (sym c.closes.ensures ∙ c.if-closes.false) (sym c.separates.ensures ∙ c.if-separates.false) c.loop-i.invariant.1,
)

pub returns-then-not-close : goal.returns-then-not-close
returns-then-not-close c =
    let body = c.args.body.now in
    let i = c.loop-i.i in
    let other = c.close.ensures.other c.if-not-close.true (closes (drop (i + 1) body)) in
    none_found body (unbalanced body c.loop-i.from i c.loop-i.unclosed _ c.loop-i-test.true (sym c.opens.ensures ∙ c.if-opens.false) (sym c.closes.ensures ∙ c.if-closes.true) other c.loop-i.invariant.1)

pub returns-then-not-is_empty : goal.returns-then-not-is_empty
returns-then-not-is_empty c =
    let body = c.args.body.now in
    none_found body (at_the_end body c.loop-i.from c.loop-i.i c.loop-i.unclosed _ (omega arith) c.loop-i.invariant.1 ∙ sym c.if-not-is_empty.ensures)

pub returns : goal.returns
returns c =
    let body = c.args.body.now in
    let balanced = at_the_end body c.loop-i.from c.loop-i.i c.loop-i.unclosed _ (omega arith) c.loop-i.invariant.1 ∙ sym c.if-not-is_empty.ensures in
    all_found body _ balanced (last_ends _ body c.loop-i.from c.loop-i.i _ c.loop-i.found.items c.push-2.new.self.items _ c.in_ok-push-2.ensures.items refl (omega arith) c.loop-i.invariant.1.items)
