-- Waves whose begins hosts tell, and one more behind them.
use Rattle.std.specs.Prelude.{◌≡◌, ◌+◌, ℕ, List, [], ◌∷◌, ◌++◌, length, refl}
use Rattle.std.proofs.Common.{sym, arith, subst}
use Rattle.pig_board.specs.declared.end.TaskEnd.{TaskEnd}
use Rattle.pig_physical.specs.Stages.{Stages}
use Rattle.pig_pool.specs.Begins.{CrewTells}
use Rattle.pig_pool.specs.Wave.{AreBegun}
use Rattle.pig_driver.specs.Begun.{FaultBegun, FaultNext, IsBegunNext, WavesBegun}
use Rattle.pig_driver.specs.Going.{AreWon}
use Rattle.pig_driver.specs.declared.running.StagesFault.{StagesFault}
use Rattle.pig_driver.specs.declared.running.StagesFault.TheVariants as faults

begun_behind : (w n : ℕ) (ends : List (List TaskEnd)) (end : List TaskEnd) (x y z : CrewTells) → n ≡ w + length ends
    → WavesBegun w ends x y → AreBegun n end y z → WavesBegun w (ends ++ end ∷ []) x z
begun_behind w n [] end x y z size same begun =
    let here : n ≡ w = omega (arith, size) in
    (z, subst (λ m. AreBegun m end x z) here (subst (λ from. AreBegun n end from z) (sym same) begun), refl)
begun_behind w n (first ∷ ends) end x y z size (next, own, rest) begun =
    (next, own, begun_behind (w + 1) n ends end next y z (omega (arith, size)) rest begun)

pub next_begun : (s : Stages) (wave : ℕ) (olds news : List (List TaskEnd)) (x y z : CrewTells) → AreWon s olds wave
    → WavesBegun 0 olds x y → IsBegunNext wave olds news y z → WavesBegun 0 news x z
next_begun s wave olds news x y z won h next =
    let count = won.count in
    subst (λ ends. WavesBegun 0 ends x z) (sym next.pushed) (begun_behind 0 wave olds next.end x y z (omega (arith, count)) h next.begun)

pub fault_begun : (s : Stages) (wave : ℕ) (olds news : List (List TaskEnd)) (x y z : CrewTells) (fault : StagesFault) → AreWon s olds wave
    → WavesBegun 0 olds x y → FaultNext wave olds news y z fault → FaultBegun news x z fault
fault_begun s wave olds news x y z (faults.TaskFailed w task failed) won h next = next_begun s wave olds news x y z won h next
fault_begun s wave olds news x y z faults.OutOfMemory won h next = next
