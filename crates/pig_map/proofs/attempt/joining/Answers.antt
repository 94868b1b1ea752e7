use Rattle.std.proofs.Common.{◌∙◌, Some, ap, map, subst, sym}
use Rattle.std.specs.Option.{option_map}
use Rattle.pig_typed.specs.Typed.{typed}
use Rattle.pig_plan.specs.Plans.{op_of}
use Rattle.pig_plan.specs.Valid.{IsPlan}
use Rattle.pig_physical.specs.Seen.{staged}
use Rattle.pig_map.proofs.Sided.{has_keys}
use Rattle.pig_map.proofs.attempt.joining.Goals as goal

pub unreachable-requires : goal.unreachable-requires
unreachable-requires c =
    has_keys (staged c.args.work.now.stages.now).plan (subst IsPlan c.plan.ensures c.nodes.ensures.valid) c.args.work.now.task.now.node (op_of c.args.op.now)
    c.requires.op c.requires.joins (sym (ap (option_map (λ keys. map typed keys.now)) c.in_default.is) ∙ c.first_keys.ensures)

pub returns-clause-keys : goal.returns-clause-keys
returns-clause-keys c =
    ap (λ keys. Some (map typed keys)) c.new.ensures.keys ∙ sym (ap (option_map (λ keys. map typed keys.now)) c.in-Some.is) ∙ c.first_keys.ensures
