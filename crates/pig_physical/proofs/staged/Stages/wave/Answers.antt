use Rattle.std.proofs.Common.{subst}
use Rattle.pig_physical.proofs.Waved.{tasks_count, wave_is, ways_count}
use Rattle.pig_physical.specs.Seen.{AreWaves, IsWave, staged}
use Rattle.pig_physical.proofs.staged.Stages.wave.Goals as goal

pub returns-clause-is : goal.returns-clause-is
returns-clause-is c =
    let are : AreWaves (staged c.args.self.now) c.self.inside.waves = subst (λ cut. AreWaves (staged cut) c.self.inside.waves) c.self.view_is c.self.invariant.1 in
    wave_is (staged c.args.self.now) c.self.inside.waves c.as_slice.result.now c.args.wave c.index-as_slice-wave.result are c.as_slice.ensures c.requires
    c.index-as_slice-wave.is

pub returns-clause-tasks : goal.returns-clause-tasks
returns-clause-tasks c = tasks_count (staged c.args.self.now) c.args.wave c.index-as_slice-wave.result (returns-clause-is c)

pub returns-clause-ways : goal.returns-clause-ways
returns-clause-ways c = ways_count (staged c.args.self.now) c.args.wave c.index-as_slice-wave.result (returns-clause-is c)

pub returns-clause-few : goal.returns-clause-few
returns-clause-few c = let is : IsWave (staged c.args.self.now) c.args.wave c.index-as_slice-wave.result = returns-clause-is c in is.few
