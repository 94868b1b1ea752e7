use Rattle.std.proofs.Common.{rules, refl, sym, subst, ◌≡◌, ◌⊎◌, [], ◌∷◌, None, MatchResult}
use Rattle.std.proofs.lemmas.Result.{MatchResult-weaker}
use Rattle.pig_outside.specs.Shelf.{script_of}
use Rattle.pig_outside.specs.declared.failing.Method.TheVariants as method
use Rattle.pig_plan.specs.Plans.{plan_of}
use Rattle.pig_run.specs.declared.outcome.RunFault.TheVariants as fault
use Rattle.pig_run.specs.Due.{CommandDue, ScriptDue, call, given_by}
use Rattle.pig_run.specs.Looking.{IsRead}
use Rattle.pig_run.specs.Steps.{IsLookFault, Passes, Step, StopsIn}
use Rattle.pig_run.specs.Told.{Asked}
use Rattle.pig_run.proofs.Readings.{PlanLaws}
use Rattle.pig_run.proofs.Scripts.{read_cause, read_fault, script_step, script_stops}
use Rattle.pig_run.proofs.looking.load_script.Goals as goal

pub returns-in_err-script-clause-told : goal.returns-in_err-script-clause-told
returns-in_err-script-clause-told g c s told =
    let law = c.a_script_has_one_plan.ensures in
    let laws : PlanLaws = record { one = law.one; some = law.some; never_both = law.never_both; one_statement = law.one_statement } in
    let path = c.as_str.result.now in
    let given = given_by c.args.command.now in
    let next = CommandDue c.args.command.now s in
    let old = g.D.Depot.calls c.args.depot.now in
    let new = g.D.Depot.calls c.script_bytes.new.depot in
    let same : c.as_str.result.now ≡ c.args.command.now.operand = search rules in
    let refused : MatchResult c.from_residual.result
    (λ x. Passes (ScriptDue (given_by c.args.command.now) c.args.command.now.operand s (CommandDue c.args.command.now s)) (CommandDue c.args.command.now s x.statements (plan_of x.plan)) (g.D.Depot.calls c.args.depot.now) (g.D.Depot.calls c.script_bytes.new.depot))
    (λ f. ((f ≡ fault.NoScript) × (script_of c.as_str.result.now s ≡ None)) ⊎ IsLookFault f) = search rules in
    MatchResult-weaker c.from_residual.result refused (λ x h. h)
    (λ f h. subst (λ p. StopsIn (ScriptDue given p s next) old new f) same (script_stops laws given path s next old new c.script_bytes.ensures.looked.asked f h))

pub returns-clause-told : goal.returns-clause-told
returns-clause-told g c s told =
    let law = c.a_script_has_one_plan.ensures in
    let laws : PlanLaws = record { one = law.one; some = law.some; never_both = law.never_both; one_statement = law.one_statement } in
    let path = c.as_str.result.now in
    let given = given_by c.args.command.now in
    let next = CommandDue c.args.command.now s in
    let old = g.D.Depot.calls c.args.depot.now in
    let new = g.D.Depot.calls c.script_bytes.new.depot in
    let named : c.as_str.result.now ≡ c.args.command.now.operand = search rules in
    let items : IsRead 1048576 (script_of path s) c.in_ok-script.script.items = c.in_ok-script.ensures.told s told in
    let same : c.as_slice.result.now ≡ c.in_ok-script.script.items = search rules in
    let read = subst (IsRead 1048576 (script_of path s)) (sym same) items in
    subst (λ p. Step (ScriptDue given p s next) (λ x. next x.statements (plan_of x.plan)) old new c.read_script.result) named
    (script_step laws given path s next old new c.script_bytes.ensures.looked.asked 1048576 refl c.as_slice.result.now read c.read_script.result c.read_script.ensures.told)

pub returns-in_err-script-clause-looked : goal.returns-in_err-script-clause-looked
returns-in_err-script-clause-looked g c =
    let looked = c.script_bytes.ensures.looked in
    let same : c.as_str.result.now ≡ c.args.command.now.operand = search rules in
    record {
      fault = search rules;
      shelf = looked.shelf;
      cause = search rules;
      stores = looked.stores;
      asked = subst (λ p. Asked (call method.Script p ∷ []) (g.D.Depot.calls c.args.depot.now) (g.D.Depot.calls c.script_bytes.new.depot)) same looked.asked;
    }

pub returns-clause-looked : goal.returns-clause-looked
returns-clause-looked g c =
    let looked = c.script_bytes.ensures.looked in
    let same : c.as_str.result.now ≡ c.args.command.now.operand = search rules in
    record {
      fault = read_fault c.read_script.result c.read_script.ensures.fault;
      shelf = looked.shelf;
      cause = read_cause (g.D.Depot.faults c.args.depot.now) (g.D.Depot.faults c.script_bytes.new.depot) c.read_script.result looked.cause.later c.read_script.ensures.fault;
      stores = looked.stores;
      asked = subst (λ p. Asked (call method.Script p ∷ []) (g.D.Depot.calls c.args.depot.now) (g.D.Depot.calls c.script_bytes.new.depot)) same looked.asked;
    }
