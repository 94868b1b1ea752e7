use Rattle.std.proofs.Common.{◌∙◌, [], ◌∷◌, ap, arith, length, map, refl, subst, sym}
use Rattle.std.proofs.lemmas.List.{length-append}
use Rattle.std.proofs.lemmas.Result.{IfOk-weaker}
use Rattle.pig_physical.specs.Handed.{out_of}
use Rattle.pig_rank.specs.Ranks.{AreSorted}
use Rattle.pig_reduce.specs.Made.{AreStartsBy}
use Rattle.pig_reduce.proofs.PartRanks.{all_summed, one_summed, parts_joined, parts_of, summed, taken_all}
use Rattle.pig_reduce.proofs.ranking.partition_starts.Goals as goal

pub loop-out-preserved : goal.loop-out-preserved
loop-out-preserved c = (
  (let grown = ap length c.in_ok-push.ensures.ok ∙ length-append c.loop-out.parts (c.in_ok-summary_of.field-0 ∷ []) in let was = c.loop-out.invariant.0 in omega
      (arith, grown, was)),
  λ sorted.
      one_summed c.args.keys.now c.args.outs.now c.args.outs.now c.loop-out.out-index c.out-item.result c.loop-out.parts c.push.new.self c.in_ok-summary_of.field-0
      refl c.loop-out-test.true c.out-item.is sorted (c.loop-out.invariant.1 sorted) c.in_ok-summary_of.ensures c.in_ok-push.ensures.ok,
)

pub returns-clause-are : goal.returns-clause-are
returns-clause-are c =
    let outs = c.args.outs.now in
    let keys = c.args.keys.now in
    IfOk-weaker c.find_starts.result _ (λ starts. AreStartsBy keys (map out_of outs) starts)
    (λ starts h sorted. h (parts_of (map out_of outs)) (
      c.loop-out.invariant.1 sorted ∙ ap (map (summed keys)) (taken_all outs c.loop-out.out-index c.loop-out-test.false) ∙ all_summed keys outs,
      subst (AreSorted keys) (sym (parts_joined (map out_of outs))) sorted,
    )) c.find_starts.ensures.starts
