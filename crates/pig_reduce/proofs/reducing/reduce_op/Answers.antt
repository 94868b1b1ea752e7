use Rattle.std.proofs.Common.{◌≡◌, sym, ◌∙◌, ap, map, subst}
use Rattle.std.specs.List.{flat_map}
use Rattle.pig_value.proofs.list_laws.Bags.{each-sort}
use Rattle.pig_plan.specs.Plans.{op_of}
use Rattle.pig_runs.specs.Entries.{run_cmp}
use Rattle.pig_physical.specs.Fitting.{run_dirs}
use Rattle.pig_physical.specs.Handed.{out_of}
use Rattle.pig_physical.specs.Outs.{entries_at}
use Rattle.pig_physical.specs.Seen.{staged}
use Rattle.pig_physical.specs.Values.{reduced}
use Rattle.pig_reduce.specs.Made.{AreOfFirst}
use Rattle.pig_reduce.proofs.ByOperator.{reduced_run}
use Rattle.pig_reduce.proofs.Handing.{limit_reduced, other_reduced}
use Rattle.pig_reduce.proofs.reducing.reduce_op.Goals as goal

pub reduced_out-requires-clause-first : goal.reduced_out-requires-clause-first
reduced_out-requires-clause-first g c one =
    let entries = flat_map (entries_at c.args.task.now.part) (map out_of c.args.outs.now) in
    subst (λ run. AreOfFirst run.entries) (sym c.in_ok-entries-in-None.ensures)
    (each-sort (run_cmp (run_dirs (op_of c.args.op.now))) (λ e. e.input ≡ 0) entries (c.requires.first one))

pub returns-in_ok-first_rows-in-Some-clause-value : goal.returns-in_ok-first_rows-in-Some-clause-value
returns-in_ok-first_rows-in-Some-clause-value g c =
    limit_reduced (staged c.args.stages.now) c.args.task.now.node (op_of c.args.op.now)
    (map out_of c.args.outs.now) c.args.task.now.part c.in-Some.count c.in_ok-first_rows-in-Some.field-0
    (out_of c.out_with.result) (sym c.limit_of.ensures ∙ c.in-Some.is) c.in_ok-first_rows-in-Some.ensures c.out_with.ensures

pub returns-in_ok-reduced_out-in-None-clause-value : goal.returns-in_ok-reduced_out-in-None-clause-value
returns-in_ok-reduced_out-in-None-clause-value g c =
    let s = staged c.args.stages.now in
    let k = c.args.task.now.node in
    let o = op_of c.args.op.now in
    let entries = flat_map (entries_at c.args.task.now.part) (map out_of c.args.outs.now) in
    other_reduced s k o (map out_of c.args.outs.now) c.args.task.now.part (reduced s.plan k o c.in_ok-entries-in-None.entries.entries)
    (out_of c.in_ok-reduced_out-in-None.field-0)
    (sym c.limit_of.ensures ∙ c.in-None.is)
    (ap (λ run. reduced s.plan k o run.entries) c.in_ok-entries-in-None.ensures ∙ reduced_run s.plan k o (run_dirs o) entries)
    c.in_ok-reduced_out-in-None.ensures
