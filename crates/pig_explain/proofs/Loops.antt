-- One more turn of a loop that writes.
use Rattle.std.proofs.Common.{◌≡◌, ◌+◌, ◌<◌, ◌++◌, ℕ, List, length, drop, get_or, sym, ◌∙◌, ap}
use Rattle.std.specs.List.{flat_map}
use Rattle.std.proofs.lemmas.List.{append_assoc, drop_more}

-- the text of a number is written, whatever stands behind the end of numbers
pub number_written : (text : ℕ → List ℕ) (xs : List ℕ) (i d : ℕ) (old new whole : List ℕ) → i < length xs → new ≡ old ++ text (get_or xs i d)
    → old ++ flat_map text (drop i xs) ≡ whole → new ++ flat_map text (drop (i + 1) xs) ≡ whole
number_written text xs i d old new whole within is so_far =
    let more : List ℕ = flat_map text (drop (i + 1) xs) in
    ap (λ l. l ++ more) is
    ∙ (append_assoc old (text (get_or xs i d)) more
    ∙ (ap (λ l. old ++ flat_map text l) (sym (drop_more xs i d within)) ∙ so_far))
