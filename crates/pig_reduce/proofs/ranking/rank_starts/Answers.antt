use Rattle.std.proofs.Common.{◌≡◌, ◌∙◌, ap, sym, length, map}
use Rattle.std.specs.Prelude.{Some}
use Rattle.std.specs.Option.{option_and_then, option_map}
use Rattle.std.proofs.lemmas.List.{length-map}
use Rattle.std.proofs.lemmas.Result.{IfOk-weaker}
use Rattle.pig_plan.specs.Entries.{sort_keys}
use Rattle.pig_plan.specs.Nodes.{op_at}
use Rattle.pig_physical.specs.Handed.{out_of, outs_of}
use Rattle.pig_physical.specs.Seen.{staged}
use Rattle.pig_reduce.specs.Made.{AreStartsBy}
use Rattle.pig_reduce.proofs.PartRanks.{has_keys, starts_found}
use Rattle.pig_reduce.proofs.ranking.rank_starts.Goals as goal

pub returns-in-Some-clause-are : goal.returns-in-Some-clause-are
returns-in-Some-clause-are c =
    let has : option_and_then sort_keys (op_at (staged c.args.stages.now).plan c.args.task.now.node) ≡ Some c.in-Some.keys.now =
    sym c.keys_at.ensures ∙ ap (option_map (λ keys. keys.now)) c.in-Some.is in
    IfOk-weaker c.partition_starts.result (λ starts. AreStartsBy c.in-Some.keys.now (map out_of c.outs_at.result.now) starts) _
    (λ starts are t node wave.
    starts_found (staged c.args.stages.now).plan (outs_of c.args.prior.now) t c.args.task.now c.in-Some.keys.now (map out_of c.outs_at.result.now) starts has c.outs_at.ensures are node wave)
    c.partition_starts.ensures.are

pub returns-in-Some-clause-each : goal.returns-in-Some-clause-each
returns-in-Some-clause-each c =
    let outs = c.outs_at.result.now in
    IfOk-weaker c.partition_starts.result (λ starts. length starts ≡ length outs) _
    (λ starts size o at ranks. size ∙ sym (length-map outs out_of) ∙ ap length c.outs_at.ensures)
    c.partition_starts.ensures.each

pub returns-in-None-clause-each : goal.returns-in-None-clause-each
returns-in-None-clause-each c o at ranks =
    absurd (has_keys o ranks (sym (c.keys_at.ensures ∙ ap (λ found. option_and_then sort_keys found) at) ∙ ap (option_map (λ keys. keys.now)) c.in-None.is))
