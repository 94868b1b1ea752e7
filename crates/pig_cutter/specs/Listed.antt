-- Waves, ways and tasks that are listed.
use Rattle.std.specs.Prelude.{◌≡◌, ◌<◌, ◌^◌, ℕ, true, false, List, ◌++◌, map, length, Option, Some, slice_get, MatchOption}
use Rattle.std.specs.List.{flat_map}
use Rattle.pig_plan.specs.Plans.{Plan}
use Rattle.pig_physical.specs.Seen.{AreWaves, entering_of}
use Rattle.pig_physical.specs.Stages.{Stages}
use Rattle.pig_physical.specs.declared.parts.Part.{Part}
use Rattle.pig_physical.specs.declared.parts.Task.{Task}
use Rattle.pig_physical.specs.declared.parts.Way.{Way}
use Rattle.pig_physical.specs.declared.staged.Wave.{Wave}
use Rattle.pig_physical.specs.declared.waves.WaveHead.{WaveHead}
use Rattle.pig_cutter.specs.Feeds.{IsCut, tasks_fed, ways_on}
use Rattle.pig_cutter.specs.Limits.{has_too_many}
use Rattle.pig_cutter.specs.Tables.{is_any_over}
use Rattle.pig_cutter.specs.declared.feeding.Feed.{Feed}

-- the ways and the tasks of feeds are added
pub record AreFed (plan : Plan) (parts : ℕ → List Part) (w : ℕ) (feeds : List Feed) (ways ways_new : List Way)
    (tasks tasks_new : List Task) : Type 0 where
  pub ways_are : map entering_of ways_new ≡ map entering_of ways ++ flat_map (ways_on plan) feeds
  pub tasks_are : tasks_new ≡ tasks ++ tasks_fed parts plan w (length ways) feeds

-- each wave is that of its head
pub record AreCut (plan : Plan) (stores : List ℕ) (parts : ℕ → List Part) (reducers : ℕ) (heads : List WaveHead)
    (waves : List Wave) : Type 0 where
  pub count : length waves ≡ length heads
  pub each : (w : ℕ) (wave : Wave) → slice_get waves w ≡ Some wave
      → (head : WaveHead) × ((slice_get heads w ≡ Some head) × IsCut plan stores parts reducers w head wave)

pub record AreAll (plan : Plan) (stores : List ℕ) (count : ℕ → ℕ) (parts : ℕ → List Part) (reducers : ℕ) (heads : List WaveHead)
    (waves : List Wave) : Type 0 where
  pub cut : AreCut plan stores parts reducers heads waves
  pub few : length waves < 2 ^ 32
  pub none_over : is_any_over (2 ^ 16) plan stores count heads ≡ false

-- all waves, or none where one of them counts more than the most
abbrev pub AreListed : Plan → List ℕ → (ℕ → ℕ) → (ℕ → List Part) → ℕ → List WaveHead → Option (List Wave) → Type 0
AreListed plan stores count parts reducers heads found =
    MatchOption found (is_any_over (2 ^ 16) plan stores count heads ≡ true) (AreAll plan stores count parts reducers heads)

-- the waves of stages
pub record IsWhole (s : Stages) (waves : List Wave) : Type 0 where
  pub waves_are : AreWaves s waves
  pub few : length waves < 2 ^ 32
  pub none_over : has_too_many s ≡ false

abbrev pub CutsInto : Stages → Option (List Wave) → Type 0
CutsInto s found = MatchOption found (has_too_many s ≡ true) (IsWhole s)
