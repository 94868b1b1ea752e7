use Rattle.std.proofs.Common.{rules, ◌≡◌, ◌++◌, [], subst, map}
use Rattle.std.specs.Prelude.{IfOk}
use Rattle.std.specs.List.{flat_map}
use Rattle.pig_typed.specs.Typed.{typed}
use Rattle.pig_plan.specs.Conjuncts.{conjuncts}
use Rattle.pig_push.proofs.MergePass.{joined_some, some_typed}
use Rattle.pig_push.proofs.merging.all_conjoined.Goals as goal

pub returns : goal.returns
returns c =
    let are : map typed c.add_all.new.into ≡ conjuncts (typed c.args.cond.now) ++ flat_map conjuncts (map typed c.args.more.now) = search rules in
    let some : c.args.more.now ≡ [] → ⊥ = search rules in
    subst (λ e. IfOk c.chained.result (λ r. typed r ≡ e)) (joined_some (typed c.args.cond.now) (map typed c.args.more.now) (map typed c.add_all.new.into) (some_typed c.args.more.now some) are) c.chained.ensures
