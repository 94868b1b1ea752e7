use Rattle.std.proofs.Common.{◌≡◌, rules, subst, sym, length}
use Rattle.std.specs.Prelude.{Err}
use Rattle.pig_exprs.specs.Reader.{forms, Gives}
use Rattle.pig_exprs.specs.ExprReader.{cases_at}
use Rattle.pig_exprs.proofs.CasesRead.{AreRead, length_forms, cases_made, cases_fail}
use Rattle.pig_exprs.proofs.cases.CasesRule.read.Goals as goal

pub returns-in_err-whens : goal.returns-in_err-whens
returns-in_err-whens g c =
    let inner = g.R.Rule.finds c.args.self.now.rule.now in
    let is : c.from_residual-in_err-whens.result ≡ Err c.in_err-whens.field-0.0 = search rules in
    let are : AreRead inner (forms c.args.tokens.now) (forms c.in_ok-first.rest.now) (forms c.in_ok-first-2.rest.now) c.in_ok-first.first c.in_ok-first-2.others (length c.in_ok-first.rest.now) =
    record { first_is = c.in_ok-first.ensures; most_is = length_forms c.in_ok-first.rest.now; others_are = rw c.new.ensures at c.in_ok-first-2.ensures.1 } in
    subst (λ r. Gives (cases_at inner (forms c.args.tokens.now)) r) (sym is) (cases_fail inner (c.in_ok-first-2.first, c.in_ok-first-2.others) c.in_err-whens.field-0.0 are c.in_err-whens.ensures)

pub returns : goal.returns
returns g c =
    let inner = g.R.Rule.finds c.args.self.now.rule.now in
    let are : AreRead inner (forms c.args.tokens.now) (forms c.in_ok-first.rest.now) (forms c.in_ok-first-2.rest.now) c.in_ok-first.first c.in_ok-first-2.others (length c.in_ok-first.rest.now) =
    record { first_is = c.in_ok-first.ensures; most_is = length_forms c.in_ok-first.rest.now; others_are = rw c.new.ensures at c.in_ok-first-2.ensures.1 } in
    cases_made inner are c.in_ok-first-2.ensures.0 c.in_ok-whens.ensures.0 c.in_ok-whens.ensures.1
