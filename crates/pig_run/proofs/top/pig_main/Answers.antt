use Rattle.std.proofs.Common.{rules, ◌≡◌, ◌≤◌, ◌+◌, ◌&&◌, [], if◌then◌else◌, MatchResult, length, map, ap, subst, sym, refl, ◌∙◌}
use Rattle.std.specs.List.{AllByRecursion, sum_by}
use Rattle.pig_pool.specs.Wave.{failures_in}
use Rattle.pig_run.specs.declared.outcome.Outcome.{Outcome}
use Rattle.pig_run.specs.Blame.{HostsHaveWorked}
use Rattle.pig_run.specs.Due.{HasWords, IsDemo, IsDue, IsNoDemo}
use Rattle.pig_run.specs.Ends.{Console, Shown, counts_shown, is_unmet, is_wanting, kept_shown}
use Rattle.pig_run.specs.Orderly.{IsOrderly}
use Rattle.pig_run.specs.Running.{RunEnd, counts_in, end_text, found_in, kept_in}
use Rattle.pig_run.specs.Steps.{SaysWords}
use Rattle.pig_run.specs.Told.{AllTell, Seen, TellsOf, Told, line_of, seen}
use Rattle.pig_run.proofs.Crews.{all_committed, all_failures, own_hosts, tell_each}
use Rattle.pig_run.proofs.Topping.{answers_none, committed, console_blamed, depot_blamed, hosts_shown, kept_answered, lookup_blamed, off_words, run_told, store_blamed, told_all, usage_blamed}
use Rattle.pig_run.proofs.DemoSteps.{demo_shown}
use Rattle.pig_run.proofs.Ordering.{orderly_shown}
use Rattle.pig_run.proofs.top.pig_main.Goals as goal

pub run-end-requires-clause-tells : goal.run-end-requires-clause-tells
run-end-requires-clause-tells g c κs within =
    let slice : c.as_mut_slice.result.now ≡ c.args.hosts.now.items = search rules in
    subst (λ hosts. AllByRecursion (TellsOf (g.D.Depot.shelf c.args.depot.now)) (map g.H.Host.inputs hosts)) (sym slice)
    (tell_each (TellsOf (g.D.Depot.shelf c.args.depot.now)) g.H.Host.inputs c.args.hosts.now.items c.requires.hosts_tell)

pub returns-clause-usage : goal.returns-clause-usage
returns-clause-usage g c =
    let count : c.len.result ≡ length c.args.hosts.now.items = search rules in
    let words = subst (λ n. MatchResult c.run-end.result (λ _. HasWords (record { hosts = n; words = c.args.words.now })) (SaysWords (record { hosts = n; words = c.args.words.now }))) count c.run-end.ensures.words in
    usage_blamed _ _ _ c.run-end.result c.show_end-fault.result c.show_end-fault.ensures.shown (line_of c.args.hosts.now.items c.args.words.now) words

pub returns-clause-off_words : goal.returns-clause-off_words
returns-clause-off_words g c =
    let count : c.len.result ≡ length c.args.hosts.now.items = search rules in
    let words = subst (λ n. MatchResult c.run-end.result (λ _. HasWords (record { hosts = n; words = c.args.words.now })) (SaysWords (record { hosts = n; words = c.args.words.now }))) count c.run-end.ensures.words in
    off_words _ _ _ c.run-end.result c.show_end-fault.result c.show_end-fault.ensures.shown (line_of c.args.hosts.now.items c.args.words.now) words

pub returns-clause-depot_fault : goal.returns-clause-depot_fault
returns-clause-depot_fault g c = depot_blamed _ _ _ c.run-end.result c.show_end-fault.result c.show_end-fault.ensures.shown _ _ c.run-end.ensures.depot

pub returns-clause-store_fault : goal.returns-clause-store_fault
returns-clause-store_fault g c = store_blamed _ _ _ c.run-end.result c.show_end-fault.result c.show_end-fault.ensures.shown _ _ c.run-end.ensures.stores

pub returns-clause-lookup_fault : goal.returns-clause-lookup_fault
returns-clause-lookup_fault g c = lookup_blamed _ _ _ c.run-end.result c.show_end-fault.result c.show_end-fault.ensures.shown _ _ c.run-end.ensures.stores

pub returns-clause-console_fault : goal.returns-clause-console_fault
returns-clause-console_fault g c = console_blamed _ _ _ c.run-end.result c.show_end-fault.result c.show_end-fault.ensures.shown c.run-end.ensures.fault

pub returns-clause-console_failed : goal.returns-clause-console_failed
returns-clause-console_failed g c = answers_none _ _ _ (found_in c.run-end.result) c.show_end-fault.result c.show_end-fault.ensures.shown

pub returns-clause-orderly : goal.returns-clause-orderly
returns-clause-orderly g c =
    let ended : c.is_unmet-unmet.result ≡ is_unmet (found_in c.run-end.result) = search rules in
    let hidden : c.is_hidden-hidden.result ≡ (c.is_unmet-unmet.result && is_wanting c.show_end-fault.result) = search rules in
    let stands : c.kept_shown.result ≡ (if c.is_hidden-hidden.result then [] else kept_in c.run-end.new.progress) = search rules in
    let kept : c.kept_shown.result ≡ kept_shown (found_in c.run-end.result) c.show_end-fault.result (kept_in c.run-end.new.progress) =
    kept_answered _ _ c.is_unmet-unmet.result c.is_hidden-hidden.result _ _ ended hidden stands in
    subst (λ kept. IsOrderly c.show_end-fault.result kept (g.D.Depot.calls c.args.depot.now) (g.D.Depot.calls c.run-end.new.depot)) (sym kept)
    (orderly_shown _ _ _ (found_in c.run-end.result) c.show_end-fault.result c.show_end-fault.ensures.shown _ (g.D.Depot.calls c.args.depot.now) (g.D.Depot.calls c.run-end.new.depot) c.run-end.ensures.asked)

pub returns-clause-depot_stands : goal.returns-clause-depot_stands
returns-clause-depot_stands g c = c.run-end.ensures.depot.later

pub returns-clause-worked : goal.returns-clause-worked
returns-clause-worked g c =
    let line = line_of c.args.hosts.now.items c.args.words.now in
    let slice : c.as_mut_slice.result.now ≡ c.args.hosts.now.items = search rules in
    let count : c.len.result ≡ length c.args.hosts.now.items = search rules in
    let own = own_hosts g.H.Host.inputs g.H.Host.faults g.H.Host.begun c.args.words.now c.as_mut_slice.result.now c.args.hosts.now.items c.run-end.new.hosts c.len.result c.run-end.new.progress.ends
    (found_in c.run-end.result) slice count c.run-end.ensures.worked in
    let back = own.back c.args.hosts.now.len c.args.hosts.now.ok.0 in
    subst (λ hosts. HostsHaveWorked g.H.Host.inputs g.H.Host.faults g.H.Host.begun line c.args.hosts.now.items hosts c.run-end.new.progress.ends c.show_end-fault.result) (sym back)
    (hosts_shown _ _ _ c.run-end.result c.show_end-fault.result c.show_end-fault.ensures.shown g.H.Host.inputs g.H.Host.faults g.H.Host.begun line c.args.hosts.now.items c.run-end.new.hosts c.run-end.new.progress.ends own.worked)

pub returns-clause-committed : goal.returns-clause-committed
returns-clause-committed g c =
    let line = line_of c.args.hosts.now.items c.args.words.now in
    let slice : c.as_mut_slice.result.now ≡ c.args.hosts.now.items = search rules in
    let count : c.len.result ≡ length c.args.hosts.now.items = search rules in
    let own = own_hosts g.H.Host.inputs g.H.Host.faults g.H.Host.begun c.args.words.now c.as_mut_slice.result.now c.args.hosts.now.items c.run-end.new.hosts c.len.result c.run-end.new.progress.ends
    (found_in c.run-end.result) slice count c.run-end.ensures.worked in
    committed _ _ _ c.run-end.result c.show_end-fault.result c.show_end-fault.ensures.shown c.run-end.new.progress.ends
    (all_committed g.H.Host.inputs g.H.Host.faults g.H.Host.begun line c.args.hosts.now.items c.run-end.new.hosts c.run-end.new.progress.ends (found_in c.run-end.result) own.worked)

pub returns-clause-failures : goal.returns-clause-failures
returns-clause-failures g c =
    let line = line_of c.args.hosts.now.items c.args.words.now in
    let slice : c.as_mut_slice.result.now ≡ c.args.hosts.now.items = search rules in
    let count : c.len.result ≡ length c.args.hosts.now.items = search rules in
    let own = own_hosts g.H.Host.inputs g.H.Host.faults g.H.Host.begun c.args.words.now c.as_mut_slice.result.now c.args.hosts.now.items c.run-end.new.hosts c.len.result c.run-end.new.progress.ends
    (found_in c.run-end.result) slice count c.run-end.ensures.worked in
    let back = own.back c.args.hosts.now.len c.args.hosts.now.ok.0 in
    subst (λ hosts. sum_by g.H.Host.faults c.args.hosts.now.items + sum_by failures_in c.run-end.new.progress.ends ≤ sum_by g.H.Host.faults hosts) (sym back)
    (all_failures g.H.Host.inputs g.H.Host.faults g.H.Host.begun line c.args.hosts.now.items c.run-end.new.hosts c.run-end.new.progress.ends (found_in c.run-end.result) own.worked)

pub returns-clause-hosts : goal.returns-clause-hosts
returns-clause-hosts g c =
    let slice : c.as_mut_slice.result.now ≡ c.args.hosts.now.items = search rules in
    let count : c.len.result ≡ length c.args.hosts.now.items = search rules in
    let own = own_hosts g.H.Host.inputs g.H.Host.faults g.H.Host.begun c.args.words.now c.as_mut_slice.result.now c.args.hosts.now.items c.run-end.new.hosts c.len.result c.run-end.new.progress.ends
    (found_in c.run-end.result) slice count c.run-end.ensures.worked in
    let back = own.back c.args.hosts.now.len c.args.hosts.now.ok.0 in
    ap (map g.H.Host.inputs) back ∙ own.same

pub returns-clause-told : goal.returns-clause-told
returns-clause-told g c s told other =
    let line = line_of c.args.hosts.now.items c.args.words.now in
    let slice : c.as_mut_slice.result.now ≡ c.args.hosts.now.items = search rules in
    let count : c.len.result ≡ length c.args.hosts.now.items = search rules in
    let own = own_hosts g.H.Host.inputs g.H.Host.faults g.H.Host.begun c.args.words.now c.as_mut_slice.result.now c.args.hosts.now.items c.run-end.new.hosts c.len.result c.run-end.new.progress.ends
    (found_in c.run-end.result) slice count c.run-end.ensures.worked in
    let back = own.back c.args.hosts.now.len c.args.hosts.now.ok.0 in
    let other_line = subst (λ n. IsNoDemo (record { hosts = n; words = c.args.words.now })) (sym count) other in
    let ended = run_told _ s _ _ _ _ c.run-end.new.progress c.run-end.result (c.run-end.ensures.told s told other_line) in
    let ended_over = subst (λ hosts. RunEnd (IsDue (record { hosts = c.len.result; words = c.args.words.now }) s) s (AllTell g.H.Host.inputs (record { hosts = c.len.result; words = c.args.words.now }) hosts)
    (g.D.Depot.calls c.args.depot.now) (g.D.Depot.calls c.run-end.new.depot) (g.D.Depot.shelf c.run-end.new.depot) c.run-end.new.progress c.run-end.result) slice ended in
    let ended_line = subst (λ n. RunEnd (IsDue (record { hosts = n; words = c.args.words.now }) s) s (AllTell g.H.Host.inputs (record { hosts = n; words = c.args.words.now }) c.args.hosts.now.items)
    (g.D.Depot.calls c.args.depot.now) (g.D.Depot.calls c.run-end.new.depot) (g.D.Depot.shelf c.run-end.new.depot) c.run-end.new.progress c.run-end.result) count ended_over in
    let old : Seen = seen g.D.Depot.shelf g.D.Depot.calls g.D.Depot.faults g.H.Host.faults g.C.Console.text g.C.Console.faults c.args.depot.now c.args.hosts.now.items c.args.console.now in
    let new : Seen = seen g.D.Depot.shelf g.D.Depot.calls g.D.Depot.faults g.H.Host.faults g.C.Console.text g.C.Console.faults c.run-end.new.depot c.run-end.new.hosts c.show_end-fault.new.console in
    let outcome : Outcome = record { status = c.status.result; fault = c.show_end-fault.result; kept = c.kept_shown.result; waves = c.run-end.new.progress.ends; counts = c.counts_shown-counts.result } in
    let ended : c.is_unmet-unmet.result ≡ is_unmet (found_in c.run-end.result) = search rules in
    let hidden : c.is_hidden-hidden.result ≡ (c.is_unmet-unmet.result && is_wanting c.show_end-fault.result) = search rules in
    let stands : c.kept_shown.result ≡ (if c.is_hidden-hidden.result then [] else kept_in c.run-end.new.progress) = search rules in
    let kept : c.kept_shown.result ≡ kept_shown (found_in c.run-end.result) c.show_end-fault.result (kept_in c.run-end.new.progress) =
    kept_answered _ _ c.is_unmet-unmet.result c.is_hidden-hidden.result _ _ ended hidden stands in
    let said : c.as_slice.result.now ≡ c.run-end.new.progress.said.items = search rules in
    let counts : c.counts_shown-counts.result ≡ counts_shown c.show_end-fault.result (counts_in c.run-end.new.progress) = search rules in
    subst (λ hosts. Told line s (AllTell g.H.Host.inputs line c.args.hosts.now.items) old
    (seen g.D.Depot.shelf g.D.Depot.calls g.D.Depot.faults g.H.Host.faults g.C.Console.text g.C.Console.faults c.run-end.new.depot hosts c.show_end-fault.new.console) outcome) (sym back)
    (told_all line s (AllTell g.H.Host.inputs line c.args.hosts.now.items) old new outcome c.run-end.new.progress c.run-end.result ended_line
    (subst (λ text. Shown (end_text text c.run-end.result) old.console new.console (found_in c.run-end.result) c.show_end-fault.result) said c.show_end-fault.ensures.shown) kept refl counts c.run-end.ensures.depot
    (all_failures g.H.Host.inputs g.H.Host.faults g.H.Host.begun line c.args.hosts.now.items c.run-end.new.hosts c.run-end.new.progress.ends (found_in c.run-end.result) own.worked))

-- ---- a demonstration

pub returns-clause-demo : goal.returns-clause-demo
returns-clause-demo g c command demo =
    let count : c.len.result ≡ length c.args.hosts.now.items = search rules in
    let given : IsDemo (record { hosts = c.len.result; words = c.args.words.now }) command = subst (λ n. IsDemo (record { hosts = n; words = c.args.words.now }) command) (sym count) demo in
    let old : Console = record { text = g.C.Console.text c.args.console.now; faults = g.C.Console.faults c.args.console.now } in
    let new : Console = record { text = g.C.Console.text c.show_end-fault.new.console; faults = g.C.Console.faults c.show_end-fault.new.console } in
    let outcome : Outcome = record { status = c.status.result; fault = c.show_end-fault.result; kept = c.kept_shown.result; waves = c.run-end.new.progress.ends; counts = c.counts_shown-counts.result } in
    let ended : c.is_unmet-unmet.result ≡ is_unmet (found_in c.run-end.result) = search rules in
    let hidden : c.is_hidden-hidden.result ≡ (c.is_unmet-unmet.result && is_wanting c.show_end-fault.result) = search rules in
    let stands : c.kept_shown.result ≡ (if c.is_hidden-hidden.result then [] else kept_in c.run-end.new.progress) = search rules in
    let kept : c.kept_shown.result ≡ kept_shown (found_in c.run-end.result) c.show_end-fault.result (kept_in c.run-end.new.progress) =
    kept_answered _ _ c.is_unmet-unmet.result c.is_hidden-hidden.result _ _ ended hidden stands in
    let said : c.as_slice.result.now ≡ c.run-end.new.progress.said.items = search rules in
    let counts : c.counts_shown-counts.result ≡ counts_shown c.show_end-fault.result (counts_in c.run-end.new.progress) = search rules in
    demo_shown command old new outcome c.run-end.new.progress c.run-end.result (c.run-end.ensures.demo command given)
    (subst (λ text. Shown (end_text text c.run-end.result) old new (found_in c.run-end.result) c.show_end-fault.result) said c.show_end-fault.ensures.shown) kept refl counts

pub returns-clause-untouched : goal.returns-clause-untouched
returns-clause-untouched g c command demo =
    let slice : c.as_mut_slice.result.now ≡ c.args.hosts.now.items = search rules in
    let count : c.len.result ≡ length c.args.hosts.now.items = search rules in
    let given : IsDemo (record { hosts = c.len.result; words = c.args.words.now }) command = subst (λ n. IsDemo (record { hosts = n; words = c.args.words.now }) command) (sym count) demo in
    let own = own_hosts g.H.Host.inputs g.H.Host.faults g.H.Host.begun c.args.words.now c.as_mut_slice.result.now c.args.hosts.now.items c.run-end.new.hosts c.len.result c.run-end.new.progress.ends
    (found_in c.run-end.result) slice count c.run-end.ensures.worked in
    let back = own.back c.args.hosts.now.len c.args.hosts.now.ok.0 in
    (c.run-end.ensures.untouched command given, back ∙ (own.worked.demo command demo).same)
