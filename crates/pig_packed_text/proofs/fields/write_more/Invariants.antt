use Rattle.std.proofs.Common.{◌≡◌, ◌++◌, ◌∷◌, length, map}
use Rattle.std.specs.List.{flat_map}
use Rattle.pig_packed_text.specs.SeenTexts.{seen_text}
use Rattle.pig_packed_text.proofs.fields.write_more.Given as goal

abbrev pub invariant-loop-left : goal.invariant-loop-left
invariant-loop-left l =
    l.out.items ++ flat_map (λ text. l.delim ∷ text) (map seen_text l.left)
    ≡ l.initial.out.items ++ flat_map (λ text. l.delim ∷ text) (map seen_text l.fields)

abbrev pub decreases-loop-left : goal.decreases-loop-left
decreases-loop-left l = length l.left
