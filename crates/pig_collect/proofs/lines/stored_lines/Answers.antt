use Rattle.std.proofs.Common.{rules, ◌≡◌, ◌+◌, length}
use Rattle.std.specs.List.{count_by}
use Rattle.std.proofs.lemmas.Result.{IfOk-weaker}
use Rattle.pig_value.specs.Lines.{is_lf, stored_lines}
use Rattle.pig_collect.specs.Collecting.{joined}
use Rattle.pig_collect.specs.Tallies.{open_after}
use Rattle.pig_collect.proofs.Endings.{all_counted, ends_on, tail_on}
use Rattle.pig_collect.proofs.lines.stored_lines.Goals as goal

pub loop-left-preserved : goal.loop-left-preserved
loop-left-preserved c =
    let ends : c.line_ends.result ≡ count_by is_lf c.part-item.result = search rules in
    let more : c.in-Some.more ≡ c.loop-left.count + c.line_ends.result = search rules in
    let now : c.open_after-is_open.result ≡ open_after c.loop-left.is_open c.part-item.result = search rules in
    record {
      count = ends_on c.loop-left.left.now c.part-item.result c.loop-left.count c.line_ends.result c.in-Some.more _ c.in-len1-up.len_at_least c.part-item.is ends more c.loop-left.invariant.count;
      tail = tail_on c.loop-left.left.now c.part-item.result c.loop-left.is_open c.open_after-is_open.result _ c.in-len1-up.len_at_least c.part-item.is now c.loop-left.invariant.tail;
    }

pub returns : goal.returns
returns c =
    IfOk-weaker c.with_last.result _ (λ count. count ≡ length (stored_lines (joined c.args.parts.now)))
    (λ count is. all_counted c.loop-left.left.now c.args.parts.now c.loop-left.count count c.loop-left.is_open c.in_default.len_below c.loop-left.invariant.count c.loop-left.invariant.tail is)
    c.with_last.ensures
