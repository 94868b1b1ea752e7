use Rattle.std.proofs.Common.{◌≡◌, ◌++◌, map, drop}
use Rattle.pig_typed.specs.Typed.{link_of, typed}
use Rattle.pig_check.specs.Splits.{or_link}
use Rattle.pig_check.proofs.splits.or_links.Given as goal

abbrev pub invariant-loop-cond : goal.invariant-loop-cond
invariant-loop-cond l = map link_of l.links ++ map or_link (map typed (drop l.cond-index l.conds)) ≡ map or_link (map typed l.conds)
