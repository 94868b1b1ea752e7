use Rattle.std.proofs.Common.{rules, ◌≡◌, ◌∙◌, refl, map, reverse, ◌++◌, ◌∷◌, [], None, Some, ap, sym, subst}
use Rattle.std.specs.List.{flat_map}
use Rattle.std.specs.Result.{OnOk}
use Rattle.pig_plan.specs.Nodes.{inputs_of, op_at, paths_of}
use Rattle.pig_plan.specs.Plans.{op_of, plan_of}
use Rattle.pig_physical.specs.Seen.{entering_of}
use Rattle.pig_cutter.specs.Traces.{behind}
use Rattle.pig_cutter.proofs.Loops.{ended, no_node}
use Rattle.pig_cutter.proofs.Traced.{from_inputs, from_source, popped, traced_none, turned_last}
use Rattle.pig_cutter.proofs.tracing.+trace.Goals as goal

pub trace-returns-then-is_source-clause-ways : goal.trace-returns-then-is_source-clause-ways
trace-returns-then-is_source-clause-ways n c =
    let at : Some (op_of c.in-Some.op.now) ≡ op_at (plan_of c.args.nodes.now) c.args.number = search rules in
    let adds : OnOk c.add_way.result (map entering_of c.add_way.new.ways ≡ map entering_of c.args.ways.now
    ++ record { input = c.args.input; path = record { source = c.args.number; nodes = reverse c.args.trail.now } } ∷ []) = search rules in
    subst (λ ws. OnOk c.add_way.result (map entering_of c.add_way.new.ways ≡ map entering_of c.args.ways.now ++ ws))
    (sym (from_source (plan_of c.args.nodes.now) c.args.input (reverse c.args.trail.now) c.requires c.args.number (op_of c.in-Some.op.now) (sym at) c.if-is_source.ensures)) adds

pub trace-returns-in_ok-inputs-in-Some-clause-ways : goal.trace-returns-in_ok-inputs-in-Some-clause-ways
trace-returns-in_ok-inputs-in-Some-clause-ways n c =
    let at : Some (op_of c.in-Some.op.now) ≡ op_at (plan_of c.args.nodes.now) c.args.number = search rules in
    let ins : c.as_slice-in-Some.result.now ≡ inputs_of (op_of c.in-Some.op.now) = c.as_slice-in-Some.ensures ∙ c.in_ok-inputs-in-Some.ensures.is in
    subst (λ ws. OnOk c.trace_inputs.result (map entering_of c.trace_inputs.new.ways ≡ map entering_of c.args.ways.now ++ ws))
    (ap (flat_map (λ i. map (behind c.args.input (c.args.number ∷ reverse c.args.trail.now)) (paths_of (plan_of c.args.nodes.now) i))) ins
    ∙ sym (from_inputs (plan_of c.args.nodes.now) c.args.input (reverse c.args.trail.now) c.requires c.args.number (op_of c.in-Some.op.now) (sym at) c.if-is_source.ensures))
    c.trace_inputs.ensures.ways

pub trace-returns-in-None-clause-ways : goal.trace-returns-in-None-clause-ways
trace-returns-in-None-clause-ways n c =
    let none : None ≡ op_at (plan_of c.args.nodes.now) c.args.number = search rules in
    traced_none (plan_of c.args.nodes.now) c.args.input (reverse c.args.trail.now) c.args.number (no_node (plan_of c.args.nodes.now) c.args.number (sym none)) (map entering_of c.args.ways.now)

pub trace_inputs-loop-left-init : goal.trace_inputs-loop-left-init
trace_inputs-loop-left-init n c = (refl, refl, c.requires.lower)

pub trace_inputs-returns-clause-ways : goal.trace_inputs-returns-clause-ways
trace_inputs-returns-clause-ways n c =
    ended (λ i. map (behind c.args.input (reverse c.push.new.self)) (paths_of (plan_of c.args.nodes.now) i)) c.loop-left.left.now (map entering_of c.loop-left.ways) _ c.in_default.len_below
    c.loop-left.invariant.1
    ∙ ap (λ rest. map entering_of c.args.ways.now ++ flat_map (λ i. map (behind c.args.input rest) (paths_of (plan_of c.args.nodes.now) i)) c.args.inputs.now)
    (ap reverse c.in_ok-push.ensures.ok ∙ turned_last c.args.trail.now c.args.number)

pub trace_inputs-returns-clause-trail : goal.trace_inputs-returns-clause-trail
trace_inputs-returns-clause-trail n c =
    popped c.pop.result c.args.trail.now c.pop.new.self c.loop-left.trail c.args.number (c.loop-left.invariant.0 ∙ c.in_ok-push.ensures.ok) c.pop.ensures
