use Rattle.std.proofs.Common.{rules, ◌≡◌}
use Rattle.pig_physical.specs.Handed.{outs_of}
use Rattle.pig_physical.specs.Seen.{staged}
use Rattle.pig_physical.specs.declared.waves.WaveKind.TheVariants as kinds
use Rattle.pig_tasks_tests.proofs.Copies.{other_kind, other_node}
use Rattle.pig_tasks_tests.proofs.standing.copied_at.Goals as goal

pub returns-then-not-is_copy : goal.returns-then-not-is_copy
returns-then-not-is_copy c =
    let other : c.kind.result ≡ kinds.Copy → ⊥ = search rules in
    λ _. other_kind (staged c.args.stages.now) (outs_of c.args.prior.now) c.args.node c.args.wave c.kind.result c.kind.ensures other

pub returns-then-node : goal.returns-then-node
returns-then-node c =
    let other : c.node.result ≡ c.args.node → ⊥ = search rules in
    λ _. other_node (staged c.args.stages.now) (outs_of c.args.prior.now) c.args.node c.args.wave c.node.result c.node.ensures other

pub returns : goal.returns
returns c = λ held. λ head at copies own. c.all_stand.ensures held
