use Rattle.std.proofs.Common.{◌≡◌, ◌∙◌, [], ◌∷◌, ◌++◌, ap, map, subst, sym, true}
use Rattle.std.proofs.lemmas.List.{map-append}
use Rattle.pig_plan.proofs.Grows.{grown_plan, grown_table}
use Rattle.pig_plan.proofs.Twins.{up_to_more}
use Rattle.pig_value.proofs.list_laws.Listing.{each-append}
use Rattle.pig_value.specs.Valid.{IsValue}
use Rattle.pig_plan.specs.Given.{kinds_of_given}
use Rattle.pig_plan.specs.Laws.{OpLiteralsAre, PlanLiteralsAre}
use Rattle.pig_plan.specs.NodeKinds.{kinds_table}
use Rattle.pig_plan.specs.Plans.{node_of, plan_of}
use Rattle.pig_plan.specs.Valid.{AreUpTo, IsPlan, fits}
use Rattle.pig_plan.proofs.plan.Plan.add.Goals as goal

pub invariant_of-self-2 : goal.invariant_of-self-2
invariant_of-self-2 c =
    let fitting = subst (λ ns. fits (plan_of ns) (node_of c.args.node) ≡ true) (sym c.self.view_is) c.requires in
    let pushed = c.in_ok-push_or_take_back.ensures.ok in
    let whole = subst (λ ns. IsPlan (plan_of ns)) (sym pushed.0) (grown_plan c.self.inside.nodes c.args.node c.self.invariant.0 fitting) in
    let table = ap (map kinds_of_given) pushed.1 ∙ c.in_ok-number.ensures.ok
    ∙ grown_table c.self.inside.nodes c.args.node (map kinds_of_given c.self.inside.given.items) c.self.invariant.1
    ∙ ap (λ ns. kinds_table (plan_of ns)) (sym pushed.0) in
    let literals = subst (λ ns. PlanLiteralsAre IsValue (plan_of ns)) (sym pushed.0)
    (rw (map-append node_of c.self.inside.nodes (c.args.node ∷ []))
    (each-append (λ node. OpLiteralsAre IsValue node.op) (plan_of c.self.inside.nodes) (node_of c.args.node ∷ []) c.self.invariant.2 (c.know_literals.ensures, tt))) in
    let up_to = subst (λ ns. AreUpTo c.max-latest.result (plan_of ns)) (sym pushed.0)
    (subst (λ n. AreUpTo n (plan_of (c.self.inside.nodes ++ c.args.node ∷ []))) (sym c.max-latest.ensures)
    (rw (map-append node_of c.self.inside.nodes (c.args.node ∷ [])) (up_to_more c.self.inside.latest (node_of c.args.node) (plan_of c.self.inside.nodes) c.self.invariant.3))) in
    (whole, table, literals, up_to)
