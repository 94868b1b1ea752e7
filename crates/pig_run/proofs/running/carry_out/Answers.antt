use Rattle.std.proofs.Common.{rules, refl, ◌≡◌, ◌++◌, ◌<◌, Some, Ok, Err, IfOk, IfErr, MatchResult, true, map, ap, subst, sym, ◌∙◌}
use Rattle.std.proofs.lemmas.List.{length-map}
use Rattle.std.proofs.lemmas.Result.{IfErr-weaker, MatchResult-weaker}
use Rattle.std.specs.List.{AllByRecursion, flat_map}
use Rattle.std.specs.Option.{option_map}
use Rattle.pig_commit.specs.Committed.{with_stored}
use Rattle.pig_plan.specs.Plans.{plan_of}
use Rattle.pig_physical.specs.Seen.{staged}
use Rattle.pig_reach.specs.Reach.{stores_of}
use Rattle.pig_rewrites.specs.Alike.{RunsAlike}
use Rattle.pig_run.specs.declared.outcome.RunFault.TheVariants as fault
use Rattle.pig_run.specs.declared.progress.Progress.{Progress}
use Rattle.pig_run.specs.Reading.{Run}
use Rattle.pig_run.specs.Running.{EndsFinding, IsBrokenAt, RunsEnd, counts_in, found_in, note_of, noted_line}
use Rattle.pig_run.specs.Steps.{IsCommitFault}
use Rattle.pig_run.specs.Texts.{done_line}
use Rattle.pig_run.specs.Told.{TellsInputs}
use Rattle.pig_run.proofs.Blaming.{ends_unblamed, no_blame, no_cause}
use Rattle.pig_run.proofs.Crews.{commit_fault, memory_fault, won_all, worked_on}
use Rattle.pig_run.proofs.Ending.{all_tell, quiet_kept, told_broken, told_bytes, told_done, told_unfound, told_untold, told_wanting}
use Rattle.pig_run.proofs.Laying.{are_absent, are_apart_all}
use Rattle.pig_run.proofs.Ordering.{makes_all, makes_broken, makes_none, makes_untold, no_stores, unkept_end}
use Rattle.pig_run.proofs.Wording.{later_commit, later_ends}
use Rattle.pig_run.proofs.running.carry_out.Goals as goal

pub store_all-requires-clause-absent : goal.store_all-requires-clause-absent
store_all-requires-clause-absent g c s told = are_absent s c.args.prepared.now.stores c.in_ok-parts.parts c.in_ok-parts.ensures.told.laid.dirs (c.requires.absent s told)

pub store_all-requires-clause-apart : goal.store_all-requires-clause-apart
store_all-requires-clause-apart g c = are_apart_all c.args.prepared.now.stores c.in_ok-parts.parts c.in_ok-parts.ensures.told.laid.dirs c.requires.prepared.apart

pub returns-in_err-parts-clause-told : goal.returns-in_err-parts-clause-told
returns-in_err-parts-clause-told g c s told =
    let stages = staged c.args.stages.now in
    let run : Run = record { plan = plan_of c.args.prepared.now.checked; stages = staged c.args.stages.now; limit = c.args.limit } in
    let alike : RunsAlike (plan_of c.args.prepared.now.checked) (staged c.args.stages.now).plan = subst (RunsAlike (plan_of c.args.prepared.now.checked)) (sym c.requires.plan) c.requires.prepared.alike in
    let tellings = map g.H.Host.inputs c.args.hosts.now in
    let tells = AllByRecursion TellsInputs (map g.H.Host.inputs c.args.hosts.now) in
    let now = g.D.Depot.calls c.args.depot.now in
    let shelf = g.D.Depot.shelf c.args.depot.now in
    let ended : MatchResult c.from_residual.result
    (λ text. RunsEnd (record { plan = plan_of c.args.prepared.now.checked; stages = staged c.args.stages.now; limit = c.args.limit }) s (AllByRecursion TellsInputs (map g.H.Host.inputs c.args.hosts.now)) (g.D.Depot.calls c.args.depot.now) (g.D.Depot.calls c.args.depot.now)
    (g.D.Depot.shelf c.args.depot.now) c.find.new.progress (Ok text))
    (EndsFinding (plan_of c.args.prepared.now.checked) (staged c.args.stages.now) c.args.limit (map g.H.Host.inputs c.args.hosts.now) c.find.new.progress) = search rules in
    MatchResult-weaker c.from_residual.result ended (λ text h. h)
    (λ f h. told_unfound run s tells now now shelf c.find.new.progress tellings alike
    (all_tell shelf s told tellings c.requires.tells) (told_bytes shelf s told tellings (subst (λ n. 0 < n) (sym (length-map c.args.hosts.now g.H.Host.inputs)) c.requires.hosts.0) c.requires.tells) f told refl h)

pub returns-in_err-notes-clause-told : goal.returns-in_err-notes-clause-told
returns-in_err-notes-clause-told g c s told =
    let run : Run = record { plan = plan_of c.args.prepared.now.checked; stages = staged c.args.stages.now; limit = c.args.limit } in
    let tells = AllByRecursion TellsInputs (map g.H.Host.inputs c.args.hosts.now) in
    let now = g.D.Depot.calls c.args.depot.now in
    let shelf = g.D.Depot.shelf c.args.depot.now in
    let found = c.in_ok-parts.ensures.told in
    let wanting : MatchResult c.from_residual-in_err-notes.result
    (λ text. RunsEnd (record { plan = plan_of c.args.prepared.now.checked; stages = staged c.args.stages.now; limit = c.args.limit }) s (AllByRecursion TellsInputs (map g.H.Host.inputs c.args.hosts.now)) (g.D.Depot.calls c.args.depot.now) (g.D.Depot.calls c.args.depot.now)
    (g.D.Depot.shelf c.args.depot.now) c.find.new.progress (Ok text))
    (λ f. f ≡ fault.OutOfMemory) = search rules in
    MatchResult-weaker c.from_residual-in_err-notes.result wanting (λ text h. h)
    (λ f h. subst (λ e. RunsEnd run s tells now now shelf c.find.new.progress (Err e)) (sym h)
    (told_wanting run s tells now now shelf c.find.new.progress told refl (won_all found.won) found.stands found.silent))

pub returns-in_err-store_all-clause-told : goal.returns-in_err-store_all-clause-told
returns-in_err-store_all-clause-told g c s told =
    let run : Run = record { plan = plan_of c.args.prepared.now.checked; stages = staged c.args.stages.now; limit = c.args.limit } in
    let alike : RunsAlike (plan_of c.args.prepared.now.checked) (staged c.args.stages.now).plan = subst (RunsAlike (plan_of c.args.prepared.now.checked)) (sym c.requires.plan) c.requires.prepared.alike in
    let tellings = map g.H.Host.inputs c.args.hosts.now in
    let tells = AllByRecursion TellsInputs (map g.H.Host.inputs c.args.hosts.now) in
    let old = g.D.Depot.calls c.args.depot.now in
    let new = g.D.Depot.calls c.store_all.new.depot in
    let shelf = g.D.Depot.shelf c.store_all.new.depot in
    let begun = g.D.Depot.shelf c.args.depot.now in
    let found = c.in_ok-parts.ensures.told in
    let progress : Progress = record c.find.new.progress { notes = c.in_ok-notes.notes; stands = true } in
    let f = c.in_err-store_all.field-0.0 in
    let is : MatchResult c.from_residual-in_err-store_all.result
    (λ text. RunsEnd (record { plan = plan_of c.args.prepared.now.checked; stages = staged c.args.stages.now; limit = c.args.limit }) s (AllByRecursion TellsInputs (map g.H.Host.inputs c.args.hosts.now)) (g.D.Depot.calls c.args.depot.now) (g.D.Depot.calls c.store_all.new.depot)
    (g.D.Depot.shelf c.store_all.new.depot) (record c.find.new.progress { notes = c.in_ok-notes.notes; stands = true }) (Ok text))
    (λ f. f ≡ c.in_err-store_all.field-0.0) = search rules in
    MatchResult-weaker c.from_residual-in_err-store_all.result is (λ text h. h)
    (λ e h. subst (λ e. RunsEnd run s tells old new shelf progress (Err e)) (sym h)
    (told_broken run s tells old new shelf progress tellings alike (all_tell begun s told tellings c.requires.tells) (told_bytes begun s told tellings (subst (λ n. 0 < n) (sym (length-map c.args.hosts.now g.H.Host.inputs)) c.requires.hosts.0) c.requires.tells)
    c.args.prepared.now.stores (c.requires.prepared.stores ∙ sym (ap stores_of c.requires.plan)) c.in_ok-parts.parts found.won found.laid found.gives refl found.silent f
    (subst (λ o. IsBrokenAt c.in_ok-parts.parts f o shelf) told c.in_err-store_all.ensures.err) c.in_err-store_all.ensures.asked))

pub returns-in_err-text-clause-told : goal.returns-in_err-text-clause-told
returns-in_err-text-clause-told g c s told =
    let run : Run = record { plan = plan_of c.args.prepared.now.checked; stages = staged c.args.stages.now; limit = c.args.limit } in
    let alike : RunsAlike (plan_of c.args.prepared.now.checked) (staged c.args.stages.now).plan = subst (RunsAlike (plan_of c.args.prepared.now.checked)) (sym c.requires.plan) c.requires.prepared.alike in
    let tellings = map g.H.Host.inputs c.args.hosts.now in
    let tells = AllByRecursion TellsInputs (map g.H.Host.inputs c.args.hosts.now) in
    let old = g.D.Depot.calls c.args.depot.now in
    let new = g.D.Depot.calls c.store_all.new.depot in
    let shelf = g.D.Depot.shelf c.store_all.new.depot in
    let begun = g.D.Depot.shelf c.args.depot.now in
    let found = c.in_ok-parts.ensures.told in
    let progress : Progress = record c.find.new.progress { notes = c.in_ok-notes.notes; stands = true } in
    let made : g.D.Depot.shelf c.store_all.new.depot ≡ Some (with_stored c.in_ok-parts.parts s) = c.in_ok-store_all.ensures.ok ∙ ap (option_map (with_stored c.in_ok-parts.parts)) told in
    let is : MatchResult c.from_residual-in_err-text.result
    (λ text. RunsEnd (record { plan = plan_of c.args.prepared.now.checked; stages = staged c.args.stages.now; limit = c.args.limit }) s (AllByRecursion TellsInputs (map g.H.Host.inputs c.args.hosts.now)) (g.D.Depot.calls c.args.depot.now) (g.D.Depot.calls c.store_all.new.depot)
    (g.D.Depot.shelf c.store_all.new.depot) (record c.find.new.progress { notes = c.in_ok-notes.notes; stands = true }) (Ok text))
    (λ f. f ≡ fault.OutOfMemory) = search rules in
    MatchResult-weaker c.from_residual-in_err-text.result is (λ text h. h)
    (λ e h. subst (λ e. RunsEnd run s tells old new shelf progress (Err e)) (sym h)
    (told_untold run s tells old new shelf progress tellings alike (all_tell begun s told tellings c.requires.tells) (told_bytes begun s told tellings (subst (λ n. 0 < n) (sym (length-map c.args.hosts.now g.H.Host.inputs)) c.requires.hosts.0) c.requires.tells)
    c.args.prepared.now.stores (c.requires.prepared.stores ∙ sym (ap stores_of c.requires.plan)) c.in_ok-parts.parts found.won found.laid found.gives refl found.silent
    made c.in_ok-store_all.ensures.asked))

pub returns-clause-told : goal.returns-clause-told
returns-clause-told g c s told =
    let run : Run = record { plan = plan_of c.args.prepared.now.checked; stages = staged c.args.stages.now; limit = c.args.limit } in
    let alike : RunsAlike (plan_of c.args.prepared.now.checked) (staged c.args.stages.now).plan = subst (RunsAlike (plan_of c.args.prepared.now.checked)) (sym c.requires.plan) c.requires.prepared.alike in
    let tellings = map g.H.Host.inputs c.args.hosts.now in
    let tells = AllByRecursion TellsInputs (map g.H.Host.inputs c.args.hosts.now) in
    let old = g.D.Depot.calls c.args.depot.now in
    let new = g.D.Depot.calls c.store_all.new.depot in
    let shelf = g.D.Depot.shelf c.store_all.new.depot in
    let begun = g.D.Depot.shelf c.args.depot.now in
    let found = c.in_ok-parts.ensures.told in
    let progress : Progress = record c.find.new.progress { notes = c.in_ok-notes.notes; stands = true } in
    let made : g.D.Depot.shelf c.store_all.new.depot ≡ Some (with_stored c.in_ok-parts.parts s) = c.in_ok-store_all.ensures.ok ∙ ap (option_map (with_stored c.in_ok-parts.parts)) told in
    let notes : c.in_ok-notes.notes ≡ map note_of c.in_ok-parts.parts = search rules in
    let is : c.from_vec.result ≡ flat_map noted_line c.in_ok-notes.notes ++ done_line (counts_in (record c.find.new.progress { notes = c.in_ok-notes.notes; stands = true })) = search rules in
    told_done run s tells old new shelf progress tellings alike (all_tell begun s told tellings c.requires.tells) (told_bytes begun s told tellings (subst (λ n. 0 < n) (sym (length-map c.args.hosts.now g.H.Host.inputs)) c.requires.hosts.0) c.requires.tells)
    c.args.prepared.now.stores (c.requires.prepared.stores ∙ sym (ap stores_of c.requires.plan)) c.in_ok-parts.parts found.won found.laid found.gives refl found.silent
    made c.in_ok-store_all.ensures.asked c.from_vec.result notes is

-- ---- what hosts show

pub returns-in_err-notes-clause-worked : goal.returns-in_err-notes-clause-worked
returns-in_err-notes-clause-worked g c =
    let is : MatchResult c.from_residual-in_err-notes.result (λ _. Unit {0}) (λ f. f ≡ fault.OutOfMemory) = search rules in
    worked_on g.H.Host.inputs g.H.Host.faults g.H.Host.begun c.args.limit c.args.hosts.now c.find.new.hosts c.find.new.progress.ends (found_in c.from_residual-in_err-notes.result)
    (memory_fault c.from_residual-in_err-notes.result is) c.in_ok-parts.ensures.worked

pub returns-in_err-store_all-clause-worked : goal.returns-in_err-store_all-clause-worked
returns-in_err-store_all-clause-worked g c =
    let broken = c.in_err-store_all.ensures.err in
    let is : MatchResult c.from_residual-in_err-store_all.result (λ _. ⊥) (λ f. f ≡ c.in_err-store_all.field-0.0) = search rules in
    worked_on g.H.Host.inputs g.H.Host.faults g.H.Host.begun c.args.limit c.args.hosts.now c.find.new.hosts c.find.new.progress.ends (found_in c.from_residual-in_err-store_all.result)
    (commit_fault c.from_residual-in_err-store_all.result broken.store.statement
    (MatchResult-weaker c.from_residual-in_err-store_all.result is (λ x h. h) (λ f h. subst (IsCommitFault broken.store.statement) (sym h) broken.named))) c.in_ok-parts.ensures.worked

pub returns-in_err-text-clause-worked : goal.returns-in_err-text-clause-worked
returns-in_err-text-clause-worked g c =
    let is : MatchResult c.from_residual-in_err-text.result (λ _. Unit {0}) (λ f. f ≡ fault.OutOfMemory) = search rules in
    worked_on g.H.Host.inputs g.H.Host.faults g.H.Host.begun c.args.limit c.args.hosts.now c.find.new.hosts c.find.new.progress.ends (found_in c.from_residual-in_err-text.result)
    (memory_fault c.from_residual-in_err-text.result is) c.in_ok-parts.ensures.worked

-- ---- what is left of the depot

pub returns-in_err-parts-clause-left : goal.returns-in_err-parts-clause-left
returns-in_err-parts-clause-left g c =
    let stops : IfOk c.from_residual.result (λ _. ⊥) = search rules in
    let ended : IfErr c.from_residual.result (EndsFinding (plan_of c.args.prepared.now.checked) (staged c.args.stages.now) c.args.limit (map g.H.Host.inputs c.args.hosts.now) c.find.new.progress) = search rules in
    record {
      fault = IfErr-weaker c.from_residual.result _ _ (λ f h. later_ends f h) ended;
      depot = no_cause (g.D.Depot.faults c.args.depot.now) c.from_residual.result (IfErr-weaker c.from_residual.result _ _ (λ f h. ends_unblamed f h) ended);
      stores = no_blame (g.D.Depot.store_faults c.args.depot.now) c.from_residual.result (IfErr-weaker c.from_residual.result _ _ (λ f h. ends_unblamed f h) ended);
      asked =
          makes_none c.from_residual.result stops (map (λ store. store.dir) c.args.prepared.now.stores) _
          (unkept_end (plan_of c.args.prepared.now.checked) (staged c.args.stages.now) c.args.limit (map g.H.Host.inputs c.args.hosts.now) c.find.new.progress c.from_residual.result ended stops) (g.D.Depot.calls c.args.depot.now) (g.D.Depot.calls c.args.depot.now) refl;
    }

pub returns-in_err-notes-clause-left : goal.returns-in_err-notes-clause-left
returns-in_err-notes-clause-left g c =
    let stops : IfOk c.from_residual-in_err-notes.result (λ _. ⊥) = search rules in
    record {
      fault = search rules;
      depot = search rules;
      stores = search rules;
      asked =
          makes_none c.from_residual-in_err-notes.result stops (map (λ store. store.dir) c.args.prepared.now.stores) _ (λ _. quiet_kept c.find.new.progress c.in_ok-parts.ensures.told.stands) (g.D.Depot.calls c.args.depot.now) (g.D.Depot.calls c.args.depot.now) refl;
    }

pub returns-in_err-store_all-clause-left : goal.returns-in_err-store_all-clause-left
returns-in_err-store_all-clause-left g c =
    let broken = c.in_err-store_all.ensures.err in
    let is : MatchResult c.from_residual-in_err-store_all.result (λ _. ⊥) (λ f. f ≡ c.in_err-store_all.field-0.0) = search rules in
    let ended : IfErr c.from_residual-in_err-store_all.result (λ f. f ≡ c.in_err-store_all.field-0.0) = search rules in
    record {
      fault = IfErr-weaker c.from_residual-in_err-store_all.result _ _ (λ f h. later_commit broken.store.statement f (subst (IsCommitFault broken.store.statement) (sym h) broken.named)) ended;
      depot = search rules;
      stores = search rules;
      asked =
          makes_broken c.in_ok-parts.parts (map (λ store. store.dir) c.args.prepared.now.stores) c.in_ok-parts.ensures.told.laid.dirs {U = Unit {0}} c.from_residual-in_err-store_all.result broken.store.statement
          (MatchResult-weaker c.from_residual-in_err-store_all.result is (λ x h. h) (λ f h. subst (IsCommitFault broken.store.statement) (sym h) broken.named))
          c.in_err-store_all.field-0.0 _ (g.D.Depot.calls c.args.depot.now) (g.D.Depot.calls c.store_all.new.depot) c.in_err-store_all.ensures.asked;
    }

pub returns-in_err-text-clause-left : goal.returns-in_err-text-clause-left
returns-in_err-text-clause-left g c =
    let is : MatchResult c.from_residual-in_err-text.result (λ _. ⊥) (λ f. f ≡ fault.OutOfMemory) = search rules in
    record {
      fault = search rules;
      depot = search rules;
      stores = search rules;
      asked =
          makes_untold c.in_ok-parts.parts (map (λ store. store.dir) c.args.prepared.now.stores) c.in_ok-parts.ensures.told.laid.dirs _
          (λ none. c.in_ok-parts.ensures.told.unkept (no_stores c.args.prepared.now.stores none)) (g.D.Depot.calls c.args.depot.now) (g.D.Depot.calls c.store_all.new.depot)
          c.in_ok-store_all.ensures.asked c.from_residual-in_err-text.result is;
    }

pub returns-clause-left : goal.returns-clause-left
returns-clause-left g c = record {
  fault = search rules;
  depot = search rules;
  stores = search rules;
  asked =
      makes_all c.in_ok-parts.parts (map (λ store. store.dir) c.args.prepared.now.stores) c.in_ok-parts.ensures.told.laid.dirs _
      (λ none. c.in_ok-parts.ensures.told.unkept (no_stores c.args.prepared.now.stores none)) (g.D.Depot.calls c.args.depot.now) (g.D.Depot.calls c.store_all.new.depot)
      c.in_ok-store_all.ensures.asked;
}
