use Rattle.std.proofs.Common.{◌≡◌, ◌++◌, ◌∷◌, length, map}
use Rattle.std.specs.List.{flat_map}
use Rattle.pig_packed_text.specs.SeenTexts.{seen_text, text_at}
use Rattle.pig_packed_text.proofs.fields.write_more_places.Given as goal

abbrev pub invariant-loop-left : goal.invariant-loop-left
invariant-loop-left l =
    l.out.items ++ flat_map (λ text. l.delim ∷ text) (map (text_at (map seen_text l.fields)) l.left)
    ≡ l.initial.out.items ++ flat_map (λ text. l.delim ∷ text) (map (text_at (map seen_text l.fields)) l.places)

abbrev pub decreases-loop-left : goal.decreases-loop-left
decreases-loop-left l = length l.left
