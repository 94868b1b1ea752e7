-- The clause on begins refuses a failure that is counted for another task. A host tells that it began tasks 0 and 1, one after the
-- other, and its count rose behind the first alone.
use Rattle.std.proofs.Common.{◌≡◌, ◌≤◌, ◌+◌, List, [], ◌∷◌, ◌++◌, length, map, Some, None, sym, ◌∙◌, ap, subst, arith}
use Rattle.std.specs.Prelude.{sum_by, slice_index_or}
use Rattle.std.specs.Option.{option_map}
use Rattle.std.specs.Option.{unwrap_or}
use Rattle.pig_outside.specs.Calls.{Attempt}
use Rattle.pig_board.specs.declared.end.TaskEnd.{TaskEnd}
use Rattle.pig_pool.specs.Begins.{Turn, CrewTells, lost_of, turn_lost}
use Rattle.pig_pool.specs.Wave.{AreBegun}

abbrev first_begin : Attempt
first_begin = record { wave = 0; task = 0; attempt = 0; faults = 0 }

abbrev second_begin : Attempt
second_begin = record { wave = 0; task = 1; attempt = 0; faults = 1 }

abbrev began : List Attempt
began = first_begin ∷ second_begin ∷ []

abbrev before : CrewTells
before = record { faults = 0 ∷ []; begun = Some [] ∷ [] }

abbrev after : CrewTells
after = record { faults = 1 ∷ []; begun = Some began ∷ [] }

-- an end that counts the failure for task 1, which did not fail
abbrev moved : List TaskEnd
moved = record { attempts = 1; failed = 0; winner = Some 0 } ∷ record { attempts = 1; failed = 1; winner = None } ∷ []

begins_are : (z : Turn 0) → z.before ≡ Some [] → z.after ≡ Some began → z.begins ≡ began
begins_are z was is = ap (λ told. unwrap_or told []) (sym (ap (option_map (λ b. b ++ z.begins)) was) ∙ (sym z.told ∙ is))

refused : (turns : List (Turn 0)) → map (λ z. z.faults) turns ≡ 1 ∷ [] → map (λ z. z.before) turns ≡ Some [] ∷ [] → map (λ z. z.after) turns ≡ Some began ∷ [] → 1 ≤ sum_by (turn_lost 1) turns → ⊥
refused [] faults was is lost = let e = ap length faults in omega arith
refused (z ∷ []) faults was is lost =
    let begins : z.begins ≡ began = begins_are z (ap (λ l. slice_index_or l 0 None) was) (ap (λ l. slice_index_or l 0 None) is) in
    let count : z.faults ≡ 1 = ap (λ l. slice_index_or l 0 0) faults in
    let none : 1 ≤ 0 + lost_of 1 began 1 = subst (λ k. 1 ≤ 0 + lost_of 1 began k) count (subst (λ b. 1 ≤ 0 + lost_of 1 b z.faults) begins lost) in
    omega arith
refused (z ∷ y ∷ turns) faults was is lost = let e = ap length faults in omega arith

pub a_moved_failure_is_refused : AreBegun 0 moved before after → ⊥
a_moved_failure_is_refused h = refused h.turns h.behind h.before h.after (h.failed 1)
