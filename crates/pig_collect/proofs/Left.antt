-- What is left of outputs tells what all of them tell.
use Rattle.std.specs.Prelude.{◌≡◌, ◌++◌, ℕ, List, [], ◌∷◌, length, map, refl}
use Rattle.std.proofs.Common.{ap, sym, ◌∙◌, arith}
use Rattle.std.specs.List.{flat_map, sum_by}
use Rattle.std.specs.Option.{option_map}
use Rattle.std.proofs.lemmas.List.Sums.{sum_by-cons}
use Rattle.pig_physical.specs.Outs.{Outs, TaskOut}
use Rattle.pig_physical.specs.Running.{all_unmet, store_wave}
use Rattle.pig_physical.specs.Stages.{tasks_in}
use Rattle.pig_driver.specs.Left.{WhatIsLeftStands, note_in, notes_in}
use Rattle.pig_collect.specs.Collecting.{lines_in, parts_for}
use Rattle.pig_collect.specs.Laws.{WhatIsLeftTellsTheSame}

abbrev Note : Type 0
Note = ℕ × List ℕ

-- ---- lines and ASSERTs, by what stays of outputs

wave_lines_noted : (outs : List TaskOut) → sum_by (λ out. out.lines) outs ≡ sum_by (λ n. n.0) (map note_in outs)
wave_lines_noted [] = refl
wave_lines_noted (out ∷ outs) =
    let rest = wave_lines_noted outs in
    let cut = sum_by-cons (λ o. o.lines) out outs in
    let noted = sum_by-cons {X = Note} (λ n. n.0) (note_in out) (map note_in outs) in
    omega (arith, rest, cut, noted)

lines_noted : (outs : Outs) → lines_in outs ≡ sum_by (sum_by (λ n. n.0)) (notes_in outs)
lines_noted [] = refl
lines_noted (wave ∷ outs) =
    let own = wave_lines_noted wave in
    let rest = lines_noted outs in
    let cut = sum_by-cons (sum_by (λ o. o.lines)) wave outs in
    let noted = sum_by-cons {X = List Note} (sum_by (λ n. n.0)) (map note_in wave) (notes_in outs) in
    omega (arith, own, rest, cut, noted)

wave_unmet_noted : (outs : List TaskOut) → flat_map (λ out. out.unmet) outs ≡ flat_map (λ n. n.1) (map note_in outs)
wave_unmet_noted [] = refl
wave_unmet_noted (out ∷ outs) = ap (λ xs. out.unmet ++ xs) (wave_unmet_noted outs)

unmet_noted : (outs : Outs) → all_unmet outs ≡ flat_map (flat_map (λ n. n.1)) (notes_in outs)
unmet_noted [] = refl
unmet_noted (wave ∷ outs) = λ i. wave_unmet_noted wave i ++ unmet_noted outs i

-- ----

pub tell_the_same : WhatIsLeftStands → WhatIsLeftTellsTheSame
tell_the_same stands = λ s whole left valid size stored are.
    let still = stands s valid whole left size are in
    let here : List TaskOut → ℕ → List (List ℕ) = λ os k. parts_for k (tasks_in s (store_wave s.plan)) os in
    record {
      size = still.size ∙ size;
      stored = ap length still.stores ∙ stored;
      parts = ap here still.stores;
      kept = λ kept outputs. record {
        statements = outputs.statements;
        each = λ k statement input count at alive bare. outputs.each k statement input count at alive bare
            ∙ still.limits k input count (ap (option_map (λ node. node.op)) at) alive;
      };
      read = lines_noted left ∙ ap (sum_by (sum_by (λ n. n.0))) are.notes ∙ sym (lines_noted whole);
      unmet = unmet_noted left ∙ ap (flat_map (flat_map (λ n. n.1))) are.notes ∙ sym (unmet_noted whole);
    }
