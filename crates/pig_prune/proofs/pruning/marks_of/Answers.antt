use Rattle.std.proofs.Common.{rules, ◌≡◌, ◌++◌, ◌∷◌, [], ◌∙◌, ap, sym, arith}
use Rattle.std.proofs.lemmas.List.FromFn.{map-range_with_len_more}
use Rattle.pig_plan.specs.Plans.{plan_of}
use Rattle.pig_prune.specs.Pruned.{marks_of}
use Rattle.pig_prune.proofs.pruning.marks_of.Goals as goal

pub loop-place-preserved : goal.loop-place-preserved
loop-place-preserved c =
    let n = c.loop-place.place in
    let f = marks_of (plan_of c.as_slice-nodes.result.now) in
    let is : c.push.new.self.items ≡ c.loop-place.marks.items ++ marks_of (plan_of c.as_slice-nodes.result.now) c.loop-place.place ∷ [] = search rules in
    is ∙ ap (λ xs. xs ++ f n ∷ []) c.loop-place.invariant ∙ sym (map-range_with_len_more f 0 n n (omega arith))
