use Rattle.std.proofs.Common.{◌≡◌, ◌∙◌, ◌+◌, ◌^◌, ap, map}
use Rattle.std.specs.List.{filter}
use Rattle.std.proofs.lemmas.Result.{IfOk-weaker}
use Rattle.pig_plan.specs.Nodes.{live}
use Rattle.pig_plan.specs.Plans.{plan_of}
use Rattle.pig_physical.specs.Seen.{cut_of, staged}
use Rattle.pig_physical.specs.Stages.{heads}
use Rattle.pig_cutter.specs.Feeds.{is_store_in}
use Rattle.pig_cutter.specs.Listed.{CutsInto}
use Rattle.pig_cutter.specs.Tables.{counts_of, reading_of, readings, sizing_of}
use Rattle.pig_cutter.proofs.Assembled.{cut_tables}
use Rattle.pig_cutter.proofs.cut.cut_waves.Goals as goal

pub returns : goal.returns
returns c =
    let plan = c.args.plan.now in
    let nodes = c.as_slice-nodes.result.now in
    let numbers = c.as_slice.result.now in
    let seen = c.as_slice-pieces.result.now in
    let at = c.as_slice-3.result.now in
    let counts = c.as_slice-counts.result.now in
    let table = c.as_slice-4.result.now in
    let hs = c.as_slice-5.result.now in
    let nodes_are : nodes ≡ plan = c.as_slice-nodes.ensures ∙ c.nodes.ensures.nodes in
    let live_are : numbers ≡ live (plan_of plan) = c.as_slice.ensures.value ∙ c.in_ok-live.ensures in
    let at_are : at ≡ filter (is_store_in (plan_of nodes)) numbers = c.as_slice-3.ensures ∙ c.in_ok-stores.ensures in
    let counts_are : counts ≡ counts_of (2 ^ 16 + 1) (sizing_of seen c.args.reducers c.args.split) (plan_of nodes) = c.as_slice-counts.ensures.value ∙ c.in_ok-table.ensures in
    let table_is : map reading_of table ≡ readings (plan_of nodes) seen counts = ap (map reading_of) c.as_slice-4.ensures.value ∙ c.in_ok-sources.ensures in
    let hs_are : hs ≡ heads (plan_of plan) = c.as_slice-5.ensures ∙ c.in_ok-heads.ensures in
    IfOk-weaker c.list_waves.result _ (CutsInto (staged (cut_of plan c.args.sizes.now c.args.reducers c.args.split)))
    (λ found listed. cut_tables plan nodes c.args.sizes.now seen c.args.reducers c.args.split at numbers counts table hs c.nodes.ensures.valid nodes_are live_are at_are counts_are table_is
    c.as_slice-pieces.ensures hs_are found listed)
    c.list_waves.ensures
