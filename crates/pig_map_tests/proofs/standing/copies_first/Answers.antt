use Rattle.std.proofs.Common.{rules, ◌≡◌}
use Rattle.pig_physical.specs.Seen.{staged}
use Rattle.pig_physical.specs.declared.waves.WaveKind.TheVariants as kinds
use Rattle.pig_map_tests.proofs.Probing.{other_kind}
use Rattle.pig_map_tests.proofs.standing.copies_first.Goals as goal

pub returns-then-not-is_copy : goal.returns-then-not-is_copy
returns-then-not-is_copy c =
    let other : c.kind.result ≡ kinds.Copy → ⊥ = search rules in
    λ _. other_kind (staged c.args.stages.now) c.args.wave c.kind.result c.kind.ensures other
