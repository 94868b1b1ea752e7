use Rattle.std.proofs.Common.{rules, ◌≡◌, ◌<◌, arith, length, subst, sym}
use Rattle.std.specs.List.{insert}
use Rattle.std.specs.Vec.{vec_len}
use Rattle.pig_plan.specs.Plans.{plan_of}
use Rattle.pig_plan.specs.Room.{roomy}
use Rattle.pig_plan.specs.declared.given.Given.{Given}
use Rattle.pig_plan.specs.declared.given.Given.TheVariants as given
use Rattle.pig_plan.proofs.Room.{as_many_given, roomy_holds}
use Rattle.pig_plan.proofs.plan.Plan.with_room.Goals as goal

pub insert-requires : goal.insert-requires
insert-requires c =
    let within : c.args.at < length c.self.inside.nodes = subst (λ ns. c.args.at < length ns) (sym c.self.view_is) c.requires in
    let long : vec_len c.self.inside.given ≡ length c.self.inside.given.items = search rules in
    let enough = as_many_given c.self.inside.nodes c.self.inside.given.items c.args.at c.self.invariant.1 within in
    omega (arith, long, enough)

pub invariant_of-result : goal.invariant_of-result
invariant_of-result c =
    let within : c.args.at < length c.self.inside.nodes = subst (λ ns. c.args.at < length ns) (sym c.self.view_is) c.requires in
    let made : plan_of c.in_ok-nodes.nodes ≡ roomy c.args.at (plan_of c.self.inside.nodes) = search rules in
    let first : Given = given.Rows c.in_ok-none.none in
    let all : c.insert.new.self.items ≡ insert c.self.inside.given.items c.args.at first = search rules in
    roomy_holds c.self.inside.nodes c.in_ok-nodes.nodes c.self.inside.given.items c.insert.new.self.items first c.self.inside.latest c.args.at c.self.invariant within made (search rules) all
