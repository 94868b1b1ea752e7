use Rattle.std.proofs.Common.{rules, ◌≡◌, ◌≢◌, ◌%◌, ◌^◌, Some, None, MatchResult, map, ap, subst, sym, ◌∙◌}
use Rattle.std.specs.List.{AllByRecursion}
use Rattle.std.proofs.lemmas.List.{length-map}
use Rattle.std.proofs.lemmas.Result.{MatchResult-weaker}
use Rattle.pig_value.specs.Valid.{IsValue}
use Rattle.pig_plan.specs.Laws.{PlanLiteralsAre}
use Rattle.pig_plan.specs.Plans.{plan_of}
use Rattle.pig_plan.specs.Valid.{IsPlan}
use Rattle.pig_collect.specs.Collecting.{least}
use Rattle.pig_physical.specs.Handed.{out_of, outs_of}
use Rattle.pig_physical.specs.Running.{all_unmet}
use Rattle.pig_physical.specs.Seen.{staged}
use Rattle.pig_physical.specs.Stages.{stores}
use Rattle.pig_run.specs.declared.outcome.RunFault.TheVariants as fault
use Rattle.pig_run.specs.declared.progress.Progress.{Progress}
use Rattle.pig_run.specs.Blame.{HaveWorked}
use Rattle.pig_run.specs.Running.{EndsFinding, HasFailedAssert, WavesEnd, found_in, no_room}
use Rattle.pig_run.proofs.Crews.{assert_no_task, memory_fault, won_all, worked_on}
use Rattle.pig_run.proofs.Ending.{assert_ends, assert_keeps, waves_ends}
use Rattle.pig_run.proofs.Given.{given_all, told_same, unmet_all}
use Rattle.pig_run.proofs.Unstored.{unstored_keeps_none}
use Rattle.pig_run.proofs.finding.find.Goals as goal

pub collect-requires-clause-parts : goal.collect-requires-clause-parts
collect-requires-clause-parts g c =
    let valid : IsPlan (staged c.args.stages.now).plan = search rules in
    (told_same (staged c.args.stages.now) c.what_is_left_tells_the_same.ensures valid (map g.H.Host.inputs c.args.hosts.now)
    (outs_of c.in_ok-ran.ran.outs) c.in_ok-ran.ran.shuffled c.in_ok-ran.ensures.run).stored

pub collect-requires-clause-waves : goal.collect-requires-clause-waves
collect-requires-clause-waves g c =
    let valid : IsPlan (staged c.args.stages.now).plan = search rules in
    sym (length-map c.in_ok-ran.ran.outs (map out_of))
    ∙ (told_same (staged c.args.stages.now) c.what_is_left_tells_the_same.ensures valid (map g.H.Host.inputs c.args.hosts.now)
    (outs_of c.in_ok-ran.ran.outs) c.in_ok-ran.ran.shuffled c.in_ok-ran.ensures.run).size

pub returns-in_err-ran-clause-told : goal.returns-in_err-ran-clause-told
returns-in_err-ran-clause-told g c =
    let s = staged c.args.stages.now in
    let tellings = map g.H.Host.inputs c.args.hosts.now in
    let progress : Progress = record c.args.progress.now { ends = c.run_waves.new.ends } in
    let ended : MatchResult c.from_residual.result (λ _. ⊥) (WavesEnd c.args.limit (staged c.args.stages.now) c.run_waves.new.ends) = search rules in
    MatchResult-weaker c.from_residual.result ended (λ x h. absurd h)
    (λ f h. waves_ends (plan_of c.args.checked.now) c.args.limit s tellings progress c.requires.fresh.stands c.requires.fresh.said f h)

pub returns-in_err-collected-clause-told : goal.returns-in_err-collected-clause-told
returns-in_err-collected-clause-told g c =
    let s = staged c.args.stages.now in
    let tellings = map g.H.Host.inputs c.args.hosts.now in
    let progress : Progress = record c.args.progress.now { ends = c.run_waves.new.ends } in
    let wanting : MatchResult c.from_residual-in_err-collected.result (λ _. ⊥) (λ f. f ≡ fault.OutOfMemory) = search rules in
    MatchResult-weaker c.from_residual-in_err-collected.result wanting (λ x h. absurd h)
    (λ f h. subst (EndsFinding (plan_of c.args.checked.now) s c.args.limit tellings progress) (sym h) (no_room (won_all c.in_ok-ran.ensures.ended) c.requires.fresh.stands c.requires.fresh.said))

pub returns-in_err-collected-clause-worked : goal.returns-in_err-collected-clause-worked
returns-in_err-collected-clause-worked g c =
    let is : MatchResult c.from_residual-in_err-collected.result (λ _. Unit {0}) (λ f. f ≡ fault.OutOfMemory) = search rules in
    worked_on g.H.Host.inputs g.H.Host.faults g.H.Host.begun c.args.limit c.args.hosts.now c.run_waves.new.hosts c.run_waves.new.ends (found_in c.from_residual-in_err-collected.result)
    (memory_fault c.from_residual-in_err-collected.result is) c.in_ok-ran.ensures.worked

pub returns-in-Some-clause-told : goal.returns-in-Some-clause-told
returns-in-Some-clause-told g c =
    let s = staged c.args.stages.now in
    let tellings = map g.H.Host.inputs c.args.hosts.now in
    let found = c.in_ok-collected.collected in
    let progress : Progress = record c.args.progress.now { ends = c.run_waves.new.ends; kept = found.kept; read = found.read; shuffled = c.in_ok-ran.ran.shuffled } in
    let valid : IsPlan (staged c.args.stages.now).plan = search rules in
    let literals : PlanLiteralsAre IsValue (staged c.args.stages.now).plan = search rules in
    let over = c.in_ok-ran.ensures.run in
    let same = told_same s c.what_is_left_tells_the_same.ensures valid tellings (outs_of c.in_ok-ran.ran.outs) c.in_ok-ran.ran.shuffled over in
    let least_is : Some c.in-Some.statement ≡ least (all_unmet (outs_of c.in_ok-ran.ran.outs)) = search rules in
    let told : HasFailedAssert (plan_of c.args.checked.now) c.in-Some.statement (record c.args.progress.now { ends = c.run_waves.new.ends; kept = c.in_ok-collected.collected.kept; read = c.in_ok-collected.collected.read; shuffled = c.in_ok-ran.ran.shuffled }) c.fail_assert.new.progress c.fail_assert.result = search rules in
    assert_ends (plan_of c.args.checked.now) s c.in-Some.statement progress c.fail_assert.new.progress c.args.limit tellings c.fail_assert.result told c.in_ok-ran.ensures.ended
    (unmet_all c.stages_give_meaning.ensures c.runs_read_lines.ensures c.runs_tell_the_first_unmet.ensures c.entries_are_due.ensures c.answers_are_stored_lines.ensures s valid literals
    c.requires.reducers.0 c.requires.split tellings over.whole over.run found.kept (same.kept found.kept c.in_ok-collected.ensures.kept) c.in-Some.statement
    (least_is ∙ ap least same.unmet))
    c.requires.fresh.stands c.requires.fresh.said

pub returns-in-Some-clause-worked : goal.returns-in-Some-clause-worked
returns-in-Some-clause-worked g c =
    let found = c.in_ok-collected.collected in
    let progress : Progress = record c.args.progress.now { ends = c.run_waves.new.ends; kept = found.kept; read = found.read; shuffled = c.in_ok-ran.ran.shuffled } in
    let told : HasFailedAssert (plan_of c.args.checked.now) c.in-Some.statement (record c.args.progress.now { ends = c.run_waves.new.ends; kept = c.in_ok-collected.collected.kept; read = c.in_ok-collected.collected.read; shuffled = c.in_ok-ran.ran.shuffled }) c.fail_assert.new.progress c.fail_assert.result = search rules in
    let same = (assert_keeps (plan_of c.args.checked.now) (staged c.args.stages.now) c.in-Some.statement progress c.fail_assert.new.progress c.fail_assert.result told).0 in
    subst (λ ends. HaveWorked g.H.Host.inputs g.H.Host.faults g.H.Host.begun c.args.limit c.args.hosts.now c.run_waves.new.hosts ends (Some c.fail_assert.result)) (sym same)
    (worked_on g.H.Host.inputs g.H.Host.faults g.H.Host.begun c.args.limit c.args.hosts.now c.run_waves.new.hosts c.run_waves.new.ends (Some c.fail_assert.result)
    (assert_no_task c.fail_assert.result told) c.in_ok-ran.ensures.worked)

pub returns-in-Some-clause-notes : goal.returns-in-Some-clause-notes
returns-in-Some-clause-notes g c =
    let found = c.in_ok-collected.collected in
    let progress : Progress = record c.args.progress.now { ends = c.run_waves.new.ends; kept = found.kept; read = found.read; shuffled = c.in_ok-ran.ran.shuffled } in
    let told : HasFailedAssert (plan_of c.args.checked.now) c.in-Some.statement (record c.args.progress.now { ends = c.run_waves.new.ends; kept = c.in_ok-collected.collected.kept; read = c.in_ok-collected.collected.read; shuffled = c.in_ok-ran.ran.shuffled }) c.fail_assert.new.progress c.fail_assert.result = search rules in
    (assert_keeps (plan_of c.args.checked.now) (staged c.args.stages.now) c.in-Some.statement progress c.fail_assert.new.progress c.fail_assert.result told).1 ∙ c.requires.fresh.notes

pub returns-in-None-clause-told : goal.returns-in-None-clause-told
returns-in-None-clause-told g c =
    let s = staged c.args.stages.now in
    let tellings = map g.H.Host.inputs c.args.hosts.now in
    let found = c.in_ok-collected.collected in
    let valid : IsPlan (staged c.args.stages.now).plan = search rules in
    let literals : PlanLiteralsAre IsValue (staged c.args.stages.now).plan = search rules in
    let others : AllByRecursion (λ store. store.delim ≢ 10) c.args.stores.now = search rules in
    let same : c.as_slice-2.result.now ≡ c.args.stores.now = search rules in
    let none : None ≡ least (all_unmet (outs_of c.in_ok-ran.ran.outs)) = search rules in
    let over = c.in_ok-ran.ensures.run in
    let told = told_same s c.what_is_left_tells_the_same.ensures valid tellings (outs_of c.in_ok-ran.ran.outs) c.in_ok-ran.ran.shuffled over in
    record {
      won = c.in_ok-ran.ensures.ended;
      laid = record {
        statements = c.in_ok-collected.ensures.statements ∙ ap (map (λ store. store.statement)) same;
        dirs = c.in_ok-collected.ensures.dirs ∙ ap (map (λ store. store.dir)) same;
        counts = c.in_ok-collected.ensures.counts;
      };
      gives = given_all c.stages_give_meaning.ensures c.runs_read_lines.ensures c.runs_tell_the_first_unmet.ensures c.entries_are_due.ensures c.answers_are_stored_lines.ensures s valid literals
          c.requires.reducers.0 c.requires.split tellings over.whole over.run found.kept (told.kept found.kept c.in_ok-collected.ensures.kept)
          c.args.stores.now c.requires.stores others found.parts (c.in_ok-collected.ensures.parts ∙ ap (λ given. map given (stores s.plan)) told.parts) c.args.limit found.read
          c.in_ok-ran.ran.shuffled None (c.in_ok-collected.ensures.read ∙ ap (λ n. n % 2 ^ 64) told.read) over.count (none ∙ ap least told.unmet);
      unkept = λ nothing. unstored_keeps_none (staged c.args.stages.now).plan (outs_of c.in_ok-ran.ran.outs) found.kept c.in_ok-collected.ensures.kept (sym c.requires.stores ∙ nothing);
      stands = c.requires.fresh.stands;
      silent = c.requires.fresh.said;
    }
