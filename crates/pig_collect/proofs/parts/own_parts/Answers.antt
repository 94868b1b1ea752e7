use Rattle.std.proofs.Common.{rules, ◌≡◌, ◌+◌, ◌∷◌, ◌++◌, ◌∙◌, [], ap, arith, drop, length, map, sym}
use Rattle.std.specs.Vec.Iter.{into_iter_items}
use Rattle.std.proofs.lemmas.List.{length-append}
use Rattle.pig_physical.specs.Handed.{out_of}
use Rattle.pig_physical.specs.Seen.{staged}
use Rattle.pig_physical.specs.Stages.{tasks_in}
use Rattle.pig_collect.specs.Turns.{own_front}
use Rattle.pig_collect.proofs.Owned.{next_left, own_all, own_next}
use Rattle.pig_collect.proofs.parts.own_parts.Goals as goal

pub overflow_add-at : goal.overflow_add-at
overflow_add-at c = let few = c.is_for.ensures.few c.taking-test.true in omega (arith, few)

pub taking-preserved : goal.taking-preserved
taking-preserved c =
    let tasks = tasks_in (staged c.args.stages.now) c.args.wave in
    let old = into_iter_items c.taking.left in
    let new = into_iter_items c.next.new.self in
    let cut : into_iter_items c.taking.left ≡ c.in-Some.out ∷ into_iter_items c.next.new.self = c.in-Some.ensures.cases.0 in
    let pushed : c.push.new.self ≡ c.taking.own ++ c.bytes_of.result ∷ [] = search rules in
    let shorter = ap length cut in
    let longer = ap length pushed in
    let sum = length-append c.taking.own (c.bytes_of.result ∷ []) in
    let size : length c.push.new.self ≡ length c.taking.own + 1 = omega (arith, longer, sum) in
    let count = c.taking.invariant.count in
    let place = c.taking.invariant.at in
    record {
      own = own_next c.args.number c.taking.at tasks c.in-Some.out old new c.bytes_of.result c.taking.own _ (sym c.is_for.ensures.is ∙ c.taking-test.true) cut c.bytes_of.ensures c.taking.invariant.own
          ∙ ap (λ own. own ++ own_front c.args.number (drop (c.taking.at + 1) tasks) (map out_of new)) (sym pushed);
      left = next_left (into_iter_items c.args.left.now) old new (length c.taking.own) c.in-Some.out c.taking.invariant.left cut ∙ ap (λ n. drop n (into_iter_items c.args.left.now)) (sym size);
      count = omega (arith, count, shorter);
      at = omega (arith, place, size);
    }

pub returns-clause-own : goal.returns-clause-own
returns-clause-own c =
    own_all c.args.number c.taking.at (tasks_in (staged c.args.stages.now) c.args.wave) (into_iter_items c.taking.left) c.taking.own _ (sym c.is_for.ensures.is ∙ c.taking-test.false)
    c.taking.invariant.own
