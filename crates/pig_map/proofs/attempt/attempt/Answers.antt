use Rattle.std.proofs.Common.{◌≡◌, ◌∙◌, ◌++◌, ℕ, List, [], Some, ap, map, rules, sym, take}
use Rattle.std.specs.Prelude.{Option}
use Rattle.std.specs.Option.{option_map}
use Rattle.pig_value.specs.declared.inputs.Input.{Input}
use Rattle.pig_value.specs.Texts.{rows_text}
use Rattle.pig_typed.specs.Typed.{typed}
use Rattle.pig_plan.specs.Nodes.{op_at}
use Rattle.pig_plan.specs.Plans.{PlanOp, op_of}
use Rattle.pig_probe.specs.Probing.{probed_by}
use Rattle.pig_shuffle.specs.Held.{HasShuffled}
use Rattle.pig_shuffle.specs.Shuffling.{Shuffling, runs_by, shuffling_at}
use Rattle.pig_physical.specs.Handed.{outs_of}
use Rattle.pig_physical.specs.Outs.{o_bytes, o_rows, o_runs}
use Rattle.pig_physical.specs.Seen.{entering_of, map_task_of, no_way, staged}
use Rattle.pig_physical.specs.Stages.{ways_in}
use Rattle.pig_map.specs.Making.{FormBy, handing_of}
use Rattle.pig_map.specs.Working.{HandsOn}
use Rattle.pig_map.specs.declared.attempt.Handing.TheVariants as handings
use Rattle.pig_map.proofs.Leaving.{leaves_all, leaves_as}
use Rattle.pig_map.proofs.Runs.{made_by, made_for, way_at}
use Rattle.pig_map.proofs.Sided.{joins_by}
use Rattle.pig_map.proofs.attempt.attempt.Goals as goal

pub returns-in-Some-2 : goal.returns-in-Some-2
returns-in-Some-2 g c =
    let s = staged c.args.work.now.stages.now in
    let t = map_task_of s c.args.work.now.task.now in
    let outs = outs_of c.args.work.now.prior.now in
    let o = op_of c.in-Some.op.now in
    let is : op_at s.plan t.node ≡ Some o = sym c.operator.ensures.op ∙ ap (option_map (λ op. op_of op.now)) c.in-Some.is in
    let input : t.way.input ≡ c.way_of.result.now.input =
    ap (λ way. way.input) (way_at (ways_in s.plan c.args.work.now.task.now.wave) c.args.work.now.task.now.way no_way (entering_of c.way_of.result.now) c.way_of.ensures) in
    let lent : (told : Option (List Input)) (op : PlanOp) (i : ℕ)
    → HandsOn c.args.work.now told (λ rows form. FormBy s outs t.node op i rows form c.handing_for-handing.result) c.in-Some-2.out = search rules in
    leaves_all g.H.Host.inputs g.H.Host.begun g.H.Host.faults g.S.Stop.kept g.S.Stop.won c.args.host.now c.args.stop.now _ c.in-Some-2.out
    (made_for s (g.H.Host.inputs c.args.host.now) outs t o c.handing_for-handing.result is (c.handing_for-handing.ensures ∙ ap (handing_of o) (sym input))
    (λ rows form. FormBy s outs t.node o t.way.input rows form c.handing_for-handing.result) (λ rows form by. by) c.in-Some-2.out
    (lent (g.H.Host.inputs c.args.host.now) o t.way.input))

pub returns-in-Text : goal.returns-in-Text
returns-in-Text g c =
    let s = staged c.args.work.now.stages.now in
    let t = map_task_of s c.args.work.now.task.now in
    let outs = outs_of c.args.work.now.prior.now in
    let o = op_of c.in-Some.op.now in
    let is : op_at s.plan t.node ≡ Some o = sym c.operator.ensures.op ∙ ap (option_map (λ op. op_of op.now)) c.in-Some.is in
    let input : t.way.input ≡ c.way_of.result.now.input =
    ap (λ way. way.input) (way_at (ways_in s.plan c.args.work.now.task.now.wave) c.args.work.now.task.now.way no_way (entering_of c.way_of.result.now) c.way_of.ensures) in
    leaves_as g.H.Host.inputs g.H.Host.begun g.H.Host.faults g.S.Stop.kept g.S.Stop.won c.args.host.now c.args.stop.now
    c.handed.new.host c.handed.new.stop c.handed.result _ _ c.handed.ensures
    (made_by s (g.H.Host.inputs c.args.host.now) outs t o (handings.Text c.in-Text.delim) is (sym c.in-Text.is ∙ c.handing_for-handing.ensures ∙ ap (handing_of o) (sym input))
    (λ rows form. form ≡ o_bytes (c.new.result.bytes.items ++ rows_text c.new.result.delim rows))
    (λ rows form made. made ∙ (λ x. o_bytes (c.new.ensures.bytes x ++ rows_text (c.new.ensures.delim x) rows)))
    c.handed.result c.handed.ensures.made)

pub returns-in-First : goal.returns-in-First
returns-in-First g c =
    let s = staged c.args.work.now.stages.now in
    let t = map_task_of s c.args.work.now.task.now in
    let outs = outs_of c.args.work.now.prior.now in
    let o = op_of c.in-Some.op.now in
    let is : op_at s.plan t.node ≡ Some o = sym c.operator.ensures.op ∙ ap (option_map (λ op. op_of op.now)) c.in-Some.is in
    let input : t.way.input ≡ c.way_of.result.now.input =
    ap (λ way. way.input) (way_at (ways_in s.plan c.args.work.now.task.now.wave) c.args.work.now.task.now.way no_way (entering_of c.way_of.result.now) c.way_of.ensures) in
    leaves_as g.H.Host.inputs g.H.Host.begun g.H.Host.faults g.S.Stop.kept g.S.Stop.won c.args.host.now c.args.stop.now
    c.handed-in-First.new.host c.handed-in-First.new.stop c.handed-in-First.result _ _ c.handed-in-First.ensures
    (made_by s (g.H.Host.inputs c.args.host.now) outs t o (handings.First c.in-First.count) is (sym c.in-First.is ∙ c.handing_for-handing.ensures ∙ ap (handing_of o) (sym input))
    (λ rows form. form ≡ o_rows (c.new-in-First.result.rows ++ take c.new-in-First.result.left rows))
    (λ rows form made. made ∙ (λ x. o_rows (c.new-in-First.ensures.rows x ++ take (c.new-in-First.ensures.left x) rows)))
    c.handed-in-First.result c.handed-in-First.ensures.made)

pub returns-in_ok-shuffle_for-in-Runs : goal.returns-in_ok-shuffle_for-in-Runs
returns-in_ok-shuffle_for-in-Runs g c =
    let s = staged c.args.work.now.stages.now in
    let t = map_task_of s c.args.work.now.task.now in
    let outs = outs_of c.args.work.now.prior.now in
    let o = op_of c.in-Some.op.now in
    let is : op_at s.plan t.node ≡ Some o = sym c.operator.ensures.op ∙ ap (option_map (λ op. op_of op.now)) c.in-Some.is in
    let input : t.way.input ≡ c.way_of.result.now.input =
    ap (λ way. way.input) (way_at (ways_in s.plan c.args.work.now.task.now.wave) c.args.work.now.task.now.way no_way (entering_of c.way_of.result.now) c.way_of.ensures) in
    leaves_as g.H.Host.inputs g.H.Host.begun g.H.Host.faults g.S.Stop.kept g.S.Stop.won c.args.host.now c.args.stop.now
    c.handed-in-Runs.new.host c.handed-in-Runs.new.stop c.handed-in-Runs.result _ _ c.handed-in-Runs.ensures
    (made_by s (g.H.Host.inputs c.args.host.now) outs t o handings.Runs is (sym c.in-Runs.is ∙ c.handing_for-handing.ensures ∙ ap (handing_of o) (sym input))
    (λ rows form. (w : Shuffling) → HasShuffled w [] c.in_ok-shuffle_for-in-Runs.field-0 → form ≡ o_runs (runs_by w rows))
    (λ rows form made. made (shuffling_at s.plan t.node o t.way.input s.sizing.reducers) c.in_ok-shuffle_for-in-Runs.ensures
    ∙ ap o_runs (c.runs_are_of_the_node.ensures s.plan t.node o t.way.input s.sizing.reducers rows is))
    c.handed-in-Runs.result c.handed-in-Runs.ensures.made)

pub returns-in-Copied : goal.returns-in-Copied
returns-in-Copied g c =
    let s = staged c.args.work.now.stages.now in
    let t = map_task_of s c.args.work.now.task.now in
    let outs = outs_of c.args.work.now.prior.now in
    let o = op_of c.in-Some.op.now in
    let is : op_at s.plan t.node ≡ Some o = sym c.operator.ensures.op ∙ ap (option_map (λ op. op_of op.now)) c.in-Some.is in
    let input : t.way.input ≡ c.way_of.result.now.input =
    ap (λ way. way.input) (way_at (ways_in s.plan c.args.work.now.task.now.wave) c.args.work.now.task.now.way no_way (entering_of c.way_of.result.now) c.way_of.ensures) in
    leaves_as g.H.Host.inputs g.H.Host.begun g.H.Host.faults g.S.Stop.kept g.S.Stop.won c.args.host.now c.args.stop.now
    c.rows_out-in-Copied.new.host c.rows_out-in-Copied.new.stop c.rows_out-in-Copied.result _ _ c.rows_out-in-Copied.ensures
    (made_by s (g.H.Host.inputs c.args.host.now) outs t o handings.Copied is (sym c.in-Copied.is ∙ c.handing_for-handing.ensures ∙ ap (handing_of o) (sym input))
    (λ rows form. form ≡ o_rows rows)
    (λ rows form made. made)
    c.rows_out-in-Copied.result c.rows_out-in-Copied.ensures.made)

pub returns-in-Joined : goal.returns-in-Joined
returns-in-Joined g c =
    let s = staged c.args.work.now.stages.now in
    let t = map_task_of s c.args.work.now.task.now in
    let outs = outs_of c.args.work.now.prior.now in
    let o = op_of c.in-Some.op.now in
    let is : op_at s.plan t.node ≡ Some o = sym c.operator.ensures.op ∙ ap (option_map (λ op. op_of op.now)) c.in-Some.is in
    let input : t.way.input ≡ c.way_of.result.now.input =
    ap (λ way. way.input) (way_at (ways_in s.plan c.args.work.now.task.now.wave) c.args.work.now.task.now.way no_way (entering_of c.way_of.result.now) c.way_of.ensures) in
    let joins = joins_by o c.way_of.result.now.input (sym c.in-Joined.is ∙ c.handing_for-handing.ensures) in
    leaves_as g.H.Host.inputs g.H.Host.begun g.H.Host.faults g.S.Stop.kept g.S.Stop.won c.args.host.now c.args.stop.now
    c.handed-in-Joined.new.host c.handed-in-Joined.new.stop c.handed-in-Joined.result _ _ c.handed-in-Joined.ensures
    (made_by s (g.H.Host.inputs c.args.host.now) outs t o handings.Joined is (sym c.in-Joined.is ∙ c.handing_for-handing.ensures ∙ ap (handing_of o) (sym input))
    (λ rows form. form ≡ o_rows (c.joining.result.rows ++ probed_by c.joining.result.sides.now (map typed c.joining.result.keys.now) rows))
    (λ rows form made. record {
      made = probed_by c.args.sides.now (map typed c.joining.result.keys.now) rows;
      is = made ∙ (λ x. o_rows (c.joining.ensures.rows x ++ probed_by (c.joining.ensures.sides x) (map typed c.joining.result.keys.now) rows));
      bag = c.requires.sides o is joins.0 (input ∙ joins.1) (map typed c.joining.result.keys.now) (sym c.joining.ensures.keys) rows;
    })
    c.handed-in-Joined.result c.handed-in-Joined.ensures.made)

pub joining-requires-clause-joins : goal.joining-requires-clause-joins
joining-requires-clause-joins g c =
    (joins_by (op_of c.in-Some.op.now) c.way_of.result.now.input (sym c.in-Joined.is ∙ c.handing_for-handing.ensures)).0
