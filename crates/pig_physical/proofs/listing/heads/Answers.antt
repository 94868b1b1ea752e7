use Rattle.std.proofs.Common.{rules, ◌≡◌, ◌++◌}
use Rattle.std.specs.List.{flat_map}
use Rattle.pig_plan.specs.Nodes.{live}
use Rattle.pig_plan.specs.Plans.{plan_of}
use Rattle.pig_physical.specs.Heading.{heads_on, store_head}
use Rattle.pig_physical.proofs.Headings.{heads_are}
use Rattle.pig_physical.proofs.listing.heads.Goals as goal

pub returns : goal.returns
returns c =
    let is : c.add_all_heads.new.found ≡ flat_map (heads_on (plan_of c.args.plan.now)) (live (plan_of c.args.plan.now)) = search rules in
    let adds : c.add_store_head.new.found ≡ c.add_all_heads.new.found ++ store_head (plan_of c.args.plan.now) (live (plan_of c.args.plan.now)) = search rules in
    heads_are (plan_of c.args.plan.now) c.add_all_heads.new.found c.add_store_head.new.found is adds
