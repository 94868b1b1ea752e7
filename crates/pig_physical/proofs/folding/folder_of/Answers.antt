use Rattle.std.proofs.Common.{rules, ◌≡◌, ◌∙◌, sym, subst, true}
use Rattle.std.specs.Option.{is_some}
use Rattle.pig_plan.specs.Nodes.{live}
use Rattle.pig_plan.specs.Plans.{op_of, plan_of}
use Rattle.pig_physical.specs.Combining.{folds}
use Rattle.pig_physical.specs.Foldings.{IsFolder}
use Rattle.pig_physical.specs.Naming.{naming_by}
use Rattle.pig_physical.specs.declared.namings.Naming.TheVariants as namings
use Rattle.pig_physical.proofs.Foldings.{is_user}
use Rattle.pig_physical.proofs.folding.folder_of.Goals as goal

pub returns : goal.returns
returns c =
    let plan = plan_of c.args.nodes.now in
    let on : true ≡ is_some (folds (plan_of c.args.nodes.now) c.args.number) = search rules in
    let told : c.naming_at.result ≡ naming_by (plan_of c.args.nodes.now) c.args.number (live (plan_of c.args.nodes.now)) namings.Never = c.naming_at.ensures ∙ c.requires.namings c.args.number in
    subst (IsFolder plan c.args.number) (sym c.user_of.ensures) (is_user plan c.args.number (op_of c.args.op.now) c.naming_at.result c.requires.op told on)
