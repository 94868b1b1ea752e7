use Rattle.std.proofs.Common.{rules, ◌≡◌, ◌==◌, ◌+◌, ◌∙◌, ap, subst, sym, length, map, true}
use Rattle.std.specs.Prelude.{Some, slice_get, refl}
use Rattle.std.specs.List.{AllByRecursion, list_any}
use Rattle.std.proofs.lemmas.Option.{slice_get_read}
use Rattle.pig_typed.specs.Typed.{typed}
use Rattle.pig_plan.specs.Nodes.{IsOnlyUse}
use Rattle.pig_plan.specs.Plans.{op_of, p_filter, plan_of}
use Rattle.pig_moves.specs.Pushed.{IsFree, filtered, place_in}
use Rattle.pig_moves.proofs.Keeps.{node_with}
use Rattle.pig_moves.proofs.Steps.{node_there}
use Rattle.pig_push.proofs.uniting.over_union.Goals as goal

pub returns : goal.returns
returns c =
    let same : c.as_slice-nodes.result.now ≡ c.args.plan.now = search rules in
    let at : slice_get c.args.plan.now c.args.high ≡ Some c.in-Some.above.now =
    ap (λ ns. slice_get ns c.args.high) (sym same)
    ∙ slice_get_read c.as_slice-nodes.result.now (length c.as_slice-nodes.result.now) c.args.high c.in-Some.above.now refl c.in-Some.ensures.lookup.3.0 c.in-Some.ensures.lookup.1 in
    let under : slice_get c.args.plan.now c.in-Filter.input ≡ Some c.in-Some-get.under.now =
    ap (λ ns. slice_get ns c.in-Filter.input) (sym same)
    ∙ slice_get_read c.as_slice-nodes.result.now (length c.as_slice-nodes.result.now) c.in-Filter.input c.in-Some-get.under.now refl c.in-Some-get.ensures.lookup.3.0 c.in-Some-get.ensures.lookup.1 in
    let copied : typed c.in-Filter.cond ≡ typed c.in_ok-copy_expr.field-0 = search rules in
    let only : IsOnlyUse (plan_of c.args.plan.now) c.in-Filter.input c.args.high = search rules in
    let free_is : c.are_free-free.result ≡ true = search rules in
    let once_is : c.are_once-once.result ≡ true = search rules in
    let room_is : c.has_room-room.result ≡ true = search rules in
    let ones : c.as_slice.result.now ≡ c.in-Union.inputs = search rules in
    let all : c.as_slice-2.result.now ≡ c.in-Union.inputs = search rules in
    record {
      inputs = c.in-Union.inputs;
      can = record {
        stands = node_there c.args.plan.now c.in-Filter.input c.in-Some-get.under.now under ∙ ap (λ o. Some (node_with o c.in-Some-get.under.now.statement)) (ap op_of c.in-Union.is);
        above = node_there c.args.plan.now c.args.high c.in-Some.above.now at
            ∙ ap (λ o. Some (node_with o c.in-Some.above.now.statement)) (ap op_of c.in-Filter.is ∙ ap (p_filter c.in-Filter.input) copied);
        only = only;
        within = c.has_room-room.ensures room_is;
        free = λ j n there. subst (λ ns. IsFree (plan_of ns) (c.args.first + j)) same (c.are_free-free.ensures free_is j n there);
        whole = subst (AllByRecursion (λ n. slice_get c.args.each.now (place_in c.args.each.now n) ≡ Some n)) all c.in_ok-numbers.ensures.whole;
        once = λ j n there. subst (λ ms. (place_in c.args.each.now n ≡ j) × (list_any (λ m. m == n) ms ≡ true)) ones (c.are_once-once.ensures once_is j n there);
      };
      are = c.in_ok-numbers.ensures.numbers ∙ ap (map (filtered c.args.first c.args.each.now)) all;
    }
