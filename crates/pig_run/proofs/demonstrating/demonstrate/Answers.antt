use Rattle.std.proofs.Common.{rules, refl, ◌≡◌, None, MatchResult, length, map, sym, subst, arith}
use Rattle.std.specs.List.{AllByRecursion}
use Rattle.pig_outside.specs.Memory.{depot_shelf, told_inputs, told_shelf}
use Rattle.pig_run.specs.Demonstration.{demo_text}
use Rattle.pig_run.specs.Running.{IsUsable, counts_in}
use Rattle.pig_run.specs.Told.{TellsOf}
use Rattle.pig_run.specs.declared.outcome.RunFault.TheVariants as fault
use Rattle.pig_run.specs.declared.progress.Progress.{Progress}
use Rattle.pig_run.proofs.DemoSteps.{demo_unbegun, demo_unmade, hosts_tell_of, made_done, made_ended, made_none_failed, own_number}
use Rattle.pig_run.proofs.Readings.{PlanLaws}
use Rattle.pig_run.proofs.demonstrating.demonstrate.Goals as goal

pub returns-in_err-depot-clause-told : goal.returns-in_err-depot-clause-told
returns-in_err-depot-clause-told g c =
    let law = c.a_script_has_one_plan.ensures in
    let laws : PlanLaws = record { one = law.one; some = law.some; never_both = law.never_both; one_statement = law.one_statement } in
    let wanting : MatchResult c.from_residual.result (λ _. ⊥) (λ f. f ≡ fault.OutOfMemory) = search rules in
    demo_unmade laws c.args.command.now c.args.progress.now c.requires.fresh c.from_residual.result wanting

pub returns-in_err-hosts-clause-told : goal.returns-in_err-hosts-clause-told
returns-in_err-hosts-clause-told g c =
    let law = c.a_script_has_one_plan.ensures in
    let laws : PlanLaws = record { one = law.one; some = law.some; never_both = law.never_both; one_statement = law.one_statement } in
    let wanting : MatchResult c.from_residual-in_err-hosts.result (λ _. ⊥) (λ f. f ≡ fault.OutOfMemory) = search rules in
    demo_unmade laws c.args.command.now c.args.progress.now c.requires.fresh c.from_residual-in_err-hosts.result wanting

pub returns-in_err-run-clause-told : goal.returns-in_err-run-clause-told
returns-in_err-run-clause-told g c =
    let law = c.a_script_has_one_plan.ensures in
    let laws : PlanLaws = record { one = law.one; some = law.some; never_both = law.never_both; one_statement = law.one_statement } in
    let wanting : MatchResult c.from_residual-in_err-run.result (λ _. ⊥) (λ f. f ≡ fault.OutOfMemory) = search rules in
    demo_unmade laws c.args.command.now c.args.progress.now c.requires.fresh c.from_residual-in_err-run.result wanting

pub run_script-end-requires-clause-begins : goal.run_script-end-requires-clause-begins
run_script-end-requires-clause-begins g c κs within =
    let slice : c.as_mut_slice.result.now ≡ c.in_ok-hosts.hosts.items = search rules in
    let count : length c.as_mut_slice.result.now ≡ c.args.command.now.workers = search rules in
    let most = c.requires.usable.workers.1 in
    record {
      few = omega (arith, count, most);
      usable = subst (IsUsable (length c.as_mut_slice.result.now)) (sym c.in_ok-run.ensures) (own_number (length c.as_mut_slice.result.now) c.args.command.now count c.requires.usable);
      tells =
          subst (λ hosts. AllByRecursion (TellsOf (told_shelf c.in_ok-depot.depot)) (map told_inputs hosts)) (sym slice)
          (hosts_tell_of (depot_shelf c.in_ok-depot.depot) c.visits_of-visits.result c.in_ok-depot.ensures.shelf c.in_ok-hosts.hosts.items c.in_ok-hosts.ensures.inputs);
      fresh = c.requires.fresh;
    }

pub returns-then-not-is_empty-clause-told : goal.returns-then-not-is_empty-clause-told
returns-then-not-is_empty-clause-told g c =
    let law = c.a_script_has_one_plan.ensures in
    let laws : PlanLaws = record { one = law.one; some = law.some; never_both = law.never_both; one_statement = law.one_statement } in
    demo_unbegun laws c.args.command.now c.new-then-not-is_empty.result c.new-then-not-is_empty.ensures fault.OutOfMemory refl

pub returns-in-Ok-clause-told : goal.returns-in-Ok-clause-told
returns-in-Ok-clause-told g c =
    let law = c.a_script_has_one_plan.ensures in
    let laws : PlanLaws = record { one = law.one; some = law.some; never_both = law.never_both; one_statement = law.one_statement } in
    let slice : c.as_mut_slice.result.now ≡ c.in_ok-hosts.hosts.items = search rules in
    let before = c.run_script-end.new.progress in
    let progress : Progress = record before { said = c.new-2.result } in
    let printed : MatchResult c.print_top.result (λ out. out ≡ demo_text (depot_shelf c.run_script-end.new.depot) (counts_in (record c.run_script-end.new.progress { said = c.new-2.result })) None) (λ f. f ≡ fault.OutOfMemory) = c.print_top.ensures in
    made_done laws c.args.command.now c.in_ok-run.run' c.in_ok-run.ensures c.requires.usable c.visits_of-visits.result c.visits_of-visits.ensures c.in_ok-depot.depot c.run_script-end.new.depot c.in_ok-depot.ensures.shelf
    c.in_ok-hosts.hosts.items c.as_mut_slice.result.now c.run_script-end.new.hosts c.in_ok-hosts.ensures.inputs slice before progress c.run_script-end.result c.run_script-end.ensures.told c.run_script-end.ensures.left.depot
    c.run_script-end.ensures.worked refl c.new-2.ensures.items c.in-Ok.field-0 c.in-Ok.is c.print_top.result printed

pub returns-clause-told : goal.returns-clause-told
returns-clause-told g c =
    let law = c.a_script_has_one_plan.ensures in
    let laws : PlanLaws = record { one = law.one; some = law.some; never_both = law.never_both; one_statement = law.one_statement } in
    let slice : c.as_mut_slice.result.now ≡ c.in_ok-hosts.hosts.items = search rules in
    let before = c.run_script-end.new.progress in
    let progress : Progress = record before { said = c.new-2.result } in
    made_ended laws c.args.command.now c.in_ok-run.run' c.in_ok-run.ensures c.requires.usable c.visits_of-visits.result c.visits_of-visits.ensures c.in_ok-depot.depot c.run_script-end.new.depot c.in_ok-depot.ensures.shelf
    c.in_ok-hosts.hosts.items c.as_mut_slice.result.now c.run_script-end.new.hosts c.in_ok-hosts.ensures.inputs slice before progress c.run_script-end.result c.run_script-end.ensures.told c.run_script-end.ensures.left.depot
    c.run_script-end.ensures.worked refl c.new-2.ensures.items c.in-Err.fault c.demo_fault.result c.in-Err.is c.demo_fault.ensures.answer

pub returns-in-Ok-clause-none_failed : goal.returns-in-Ok-clause-none_failed
returns-in-Ok-clause-none_failed g c =
    let law = c.a_script_has_one_plan.ensures in
    let laws : PlanLaws = record { one = law.one; some = law.some; never_both = law.never_both; one_statement = law.one_statement } in
    let slice : c.as_mut_slice.result.now ≡ c.in_ok-hosts.hosts.items = search rules in
    let before = c.run_script-end.new.progress in
    let progress : Progress = record before { said = c.new-2.result } in
    made_none_failed laws c.args.command.now c.in_ok-run.run' c.in_ok-run.ensures c.requires.usable c.visits_of-visits.result c.visits_of-visits.ensures c.in_ok-depot.depot c.run_script-end.new.depot c.in_ok-depot.ensures.shelf
    c.in_ok-hosts.hosts.items c.as_mut_slice.result.now c.run_script-end.new.hosts c.in_ok-hosts.ensures.inputs slice before progress c.run_script-end.result c.run_script-end.ensures.told c.run_script-end.ensures.left.depot
    c.run_script-end.ensures.worked refl c.new-2.ensures.items

pub returns-clause-none_failed : goal.returns-clause-none_failed
returns-clause-none_failed g c =
    let law = c.a_script_has_one_plan.ensures in
    let laws : PlanLaws = record { one = law.one; some = law.some; never_both = law.never_both; one_statement = law.one_statement } in
    let slice : c.as_mut_slice.result.now ≡ c.in_ok-hosts.hosts.items = search rules in
    let before = c.run_script-end.new.progress in
    let progress : Progress = record before { said = c.new-2.result } in
    made_none_failed laws c.args.command.now c.in_ok-run.run' c.in_ok-run.ensures c.requires.usable c.visits_of-visits.result c.visits_of-visits.ensures c.in_ok-depot.depot c.run_script-end.new.depot c.in_ok-depot.ensures.shelf
    c.in_ok-hosts.hosts.items c.as_mut_slice.result.now c.run_script-end.new.hosts c.in_ok-hosts.ensures.inputs slice before progress c.run_script-end.result c.run_script-end.ensures.told c.run_script-end.ensures.left.depot
    c.run_script-end.ensures.worked refl c.new-2.ensures.items
