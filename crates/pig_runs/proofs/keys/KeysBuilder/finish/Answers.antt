use Rattle.std.proofs.Common.{◌≡◌, ◌∙◌, [], ap, subst, sym}
use Rattle.std.proofs.lemmas.Result.{IfOk-weaker}
use Rattle.pig_value.specs.Sorts.{Ascends}
use Rattle.pig_value.proofs.list_laws.Bags.{sort_ascends}
use Rattle.pig_runs.specs.Alone.{alone_once, keys_in}
use Rattle.pig_runs.specs.Entries.{run_cmp, run_of}
use Rattle.pig_runs.proofs.Once.{same_once}
use Rattle.pig_runs.proofs.Order.{run_total}
use Rattle.pig_runs.proofs.keys.KeysBuilder.finish.Goals as goal

pub run_of_keys-requires-clause-sorted : goal.run_of_keys-requires-clause-sorted
run_of_keys-requires-clause-sorted c =
    let built = c.self.inside.built in
    subst (λ run. Ascends (run_cmp []) run.entries) (sym (c.put_in_order.ensures ∙ ap (λ ds. run_of ds built.entries) c.self.invariant))
    (sort_ascends (run_cmp []) (run_total []) built.entries)

pub returns : goal.returns
returns c =
    let built = c.self.inside.built in
    let keys : alone_once (keys_in c.put_in_order.new.self.entries) ≡ alone_once c.args.self =
    ap (λ run. alone_once (keys_in run.entries)) c.put_in_order.ensures ∙ (same_once built.dirs built.entries ∙ ap alone_once c.self.view_is)
    in
    IfOk-weaker c.run_of_keys.result _ _ (λ run is. is ∙ ap (run_of []) keys) c.run_of_keys.ensures
