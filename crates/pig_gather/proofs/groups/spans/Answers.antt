use Rattle.std.proofs.Common.{◌++◌, ◌∷◌, [], map, sym, ◌∙◌, ap, subst, arith}
use Rattle.std.specs.List.{AllByRecursion}
use Rattle.std.proofs.lemmas.List.{map-append}
use Rattle.std.proofs.lemmas.List.FromFn.{map-range_with_len_more}
use Rattle.pig_value.proofs.list_laws.Listing.{each-append}
use Rattle.pig_operators.specs.Groups.{bags_at}
use Rattle.pig_operators.proofs.Inputs.{input_behind, input_rows, remains_all}
use Rattle.pig_operators.proofs.Stretches.{group_sorted}
use Rattle.pig_gather.specs.declared.lent.Span.{Span}
use Rattle.pig_gather.specs.Spans.{IsSpan, rows_in}
use Rattle.pig_gather.proofs.groups.spans.Goals as goal

pub loop-input-init : goal.loop-input-init
loop-input-init c =
    let run = c.args.group.now.entries.now in (
      remains_all run.entries c.args.group.now.from c.args.group.now.end (let low = c.args.group.now.whole.some in omega (arith, low)),
      subst (AllByRecursion (IsSpan run)) (sym c.in_ok-spans.ensures.items) tt,
      ap (map (rows_in run)) c.in_ok-spans.ensures.items,
    )

pub loop-input-preserved : goal.loop-input-preserved
loop-input-preserved c =
    let run = c.args.group.now.entries.now in
    let up = group_sorted run c.args.group.now.from c.args.group.now.end c.args.group.now.whole c.len.ensures.sorted in
    let left = c.loop-input.invariant.0 in
    let next = c.input_end-next.result in
    let here = input_rows run c.args.group.now.from c.loop-input.at c.args.group.now.end c.loop-input.input next left c.input_end-next.ensures up in
    let span : Span = record { from = c.loop-input.at; end = next } in
    let fits : IsSpan run span = record { order = c.input_end-next.ensures.order; within = let a = c.input_end-next.ensures.within in let b = c.args.group.now.whole.within in omega (arith, a, b) } in (
      input_behind run c.args.group.now.from c.loop-input.at c.args.group.now.end c.loop-input.input next left c.input_end-next.ensures up,
      subst (AllByRecursion (IsSpan run)) (sym c.in_ok-push.ensures.items) (each-append (IsSpan run) c.loop-input.spans.items (span ∷ []) c.loop-input.invariant.1 (fits, tt)),
      ap (map (rows_in run)) c.in_ok-push.ensures.items
          ∙ (map-append (rows_in run) c.loop-input.spans.items (span ∷ [])
          ∙ ((λ i. c.loop-input.invariant.2 i ++ sym here i ∷ [])
          ∙ sym (map-range_with_len_more (bags_at run c.args.group.now.from c.args.group.now.end) 0 c.loop-input.input c.loop-input.input (omega arith)))),
    )
