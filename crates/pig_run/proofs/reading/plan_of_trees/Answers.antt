use Rattle.std.proofs.Common.{rules, refl, ◌≡◌, length, sym, subst}
use Rattle.pig_check.specs.Scripts.{IsFirstUntyped, IsPlanOf}
use Rattle.pig_plan.specs.Plans.{plan_of}
use Rattle.pig_run.specs.declared.outcome.RunFault.TheVariants as fault
use Rattle.pig_run.specs.Reading.{IsChecked, Typed, checked, no_typing}
use Rattle.pig_run.specs.Refusals.{untyped}
use Rattle.pig_run.proofs.ReadingSteps.{reads_refusal}
use Rattle.pig_run.proofs.reading.plan_of_trees.Goals as goal

pub returns-in-Ok : goal.returns-in-Ok
returns-in-Ok c =
    let is : IsPlanOf c.args.statements.now (plan_of c.in-Ok.plan) = search rules in
    let count : c.len.result ≡ length c.args.statements.now = search rules in
    record {
      told = subst (λ n. IsChecked c.args.statements.now (Typed n (plan_of c.in-Ok.plan))) (sym count) (checked is);
      of_script = record {
        apart = c.stores_are_apart.ensures.apart c.args.statements.now (plan_of c.in-Ok.plan) is;
        ordered = c.plans_stand_in_order.ensures c.args.statements.now (plan_of c.in-Ok.plan) is;
      };
      fault = tt;
    }

pub returns-in-Err-Check : goal.returns-in-Err-Check
returns-in-Err-Check c =
    let none : IsFirstUntyped c.args.statements.now c.in-Err-Check.statement c.in-Err-Check.kind = search rules in
    reads_refusal (IsChecked c.args.statements.now) (untyped c.args.statements.now c.in-Err-Check.statement) (fault.Check c.in-Err-Check.statement c.in-Err-Check.kind)
    (no_typing none) (c.in-Err-Check.kind, none, refl) tt
