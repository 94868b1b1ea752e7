use Rattle.std.proofs.Common.{rules, ◌≡◌, ap, length, subst}
use Rattle.std.specs.Prelude.{IfOk, Some, slice_get, refl}
use Rattle.std.proofs.lemmas.Option.{slice_get_read}
use Rattle.pig_plan.specs.Meaning.{width_at}
use Rattle.pig_plan.specs.Plans.{op_of, plan_of}
use Rattle.pig_cuts.specs.Cuts.{cut_at}
use Rattle.pig_cuts.specs.Plans.{own_cut}
use Rattle.pig_prune.specs.Pruned.{marks_of}
use Rattle.pig_prune.proofs.Turns.{of_range}
use Rattle.pig_prune.proofs.pruning.cut_next.Goals as goal

pub returns-in-Some : goal.returns-in-Some
returns-in-Some c =
    let at : slice_get c.args.marks.now (length c.args.cuts.now) ≡ Some c.in-Some.own.now =
    slice_get_read c.args.marks.now (length c.args.marks.now) (length c.args.cuts.now) c.in-Some.own.now refl c.in-Some.ensures.lookup.3.0 c.in-Some.ensures.lookup.1 in
    subst (λ cut. IfOk c.own_cut.result (λ made. made ≡ cut))
    (ap (λ own. own_cut (cut_at c.args.cuts.now) (width_at (plan_of c.args.plan.now)) own (op_of c.args.node.now.op))
    (of_range (marks_of (plan_of c.args.plan.now)) (length c.args.plan.now) (length c.args.cuts.now) c.args.marks.now c.in-Some.own.now c.requires at))
    (search rules)
