use Rattle.std.proofs.Common.{rules, ◌≡◌, ◌∙◌, Some, None, true, false, refl}
use Rattle.std.specs.Option.{is_some}
use Rattle.std.proofs.lemmas.Result.{IfOk-weaker}
use Rattle.pig_typed.specs.Typed.{block_typed}
use Rattle.pig_plan.specs.Nodes.{live}
use Rattle.pig_plan.specs.Plans.{op_of, plan_of}
use Rattle.pig_physical.specs.Combining.{folds, groups_one}
use Rattle.pig_physical.specs.Naming.{block_by, naming_by}
use Rattle.pig_physical.specs.declared.namings.Naming.TheVariants as namings
use Rattle.pig_physical.proofs.Named.{folds_none, folds_not, folds_where}
use Rattle.pig_physical.proofs.folding.folds.Goals as goal

pub returns-then-not-groups_one : goal.returns-then-not-groups_one
returns-then-not-groups_one c =
    let off : false ≡ groups_one (op_of c.args.op.now) = search rules in
    folds_not c.args.number (plan_of c.args.nodes.now) (op_of c.args.op.now) _ c.requires.op refl off

pub returns-in-Some : goal.returns-in-Some
returns-in-Some c =
    let plan = plan_of c.args.nodes.now in
    let on : true ≡ groups_one (op_of c.args.op.now) = search rules in
    let told : c.naming_at-naming.result ≡ naming_by (plan_of c.args.nodes.now) c.args.number (live (plan_of c.args.nodes.now)) namings.Never = c.naming_at-naming.ensures ∙ c.requires.namings c.args.number in
    let found : Some (block_typed c.in-Some.block.now) ≡ block_by (plan_of c.args.nodes.now) c.args.number c.naming_at-naming.result = search rules in
    IfOk-weaker c.is_combinable.result _ (λ b. b ≡ is_some (folds plan c.args.number))
    (λ b is. is ∙ folds_where c.args.number plan (op_of c.args.op.now) c.naming_at-naming.result c.requires.op told on (block_typed c.in-Some.block.now) found)
    c.is_combinable.ensures

pub returns-in-None : goal.returns-in-None
returns-in-None c =
    let on : true ≡ groups_one (op_of c.args.op.now) = search rules in
    let told : c.naming_at-naming.result ≡ naming_by (plan_of c.args.nodes.now) c.args.number (live (plan_of c.args.nodes.now)) namings.Never = c.naming_at-naming.ensures ∙ c.requires.namings c.args.number in
    let none : None ≡ block_by (plan_of c.args.nodes.now) c.args.number c.naming_at-naming.result = search rules in
    folds_none c.args.number (plan_of c.args.nodes.now) (op_of c.args.op.now) c.naming_at-naming.result c.requires.op told on none
