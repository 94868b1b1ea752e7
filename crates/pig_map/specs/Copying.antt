-- What a wave copied, for the calls that look it up.
use Rattle.std.specs.Prelude.{ℕ, List}
use Rattle.pig_value.specs.Trees.{Tree}
use Rattle.pig_physical.specs.Handed.{outs_of}
use Rattle.pig_physical.specs.Outs.{outs_at}
use Rattle.pig_physical.specs.Seen.{staged}
use Rattle.pig_physical.specs.Stages.{tasks_in}
use Rattle.pig_map.specs.Copies.{rows_for}
use Rattle.pig_map.specs.declared.wave.CopyWave.{CopyWave}

-- the rows that it copied of the input at a place
abbrev pub copied_for : CopyWave → ℕ → List (List Tree)
copied_for wave i = rows_for i (tasks_in (staged wave.stages.now) wave.number) (outs_at (outs_of wave.prior.now) wave.number)
