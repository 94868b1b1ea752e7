-- The joinings so far, and those that are to come.
use Rattle.std.proofs.Common.{◌≡◌, ◌++◌, [], ◌∷◌, List, drop, length, map}
use Rattle.pig_value.specs.Trees.{Tree, tree}
use Rattle.pig_typed.specs.Products.{joined, product}
use Rattle.pig_replicated.specs.Holding.{KeyedRow, matches_in}
use Rattle.pig_replicated.specs.Joining.{partners}
use Rattle.pig_replicated.proofs.Adding.{behind}
use Rattle.pig_probe.specs.Begun.{Begins}
use Rattle.pig_probe.proofs.joining.+add_partners.Given as goal

abbrev pub decreases-add_partners : goal.decreases-add_partners
decreases-add_partners l = length l.sides.now

abbrev pub invariant-loop-part : goal.invariant-loop-part
invariant-loop-part l =
    (l.front.items ≡ l.fn.front.items)
    × (l.built.begun ≡ [])
    × ((side : List KeyedRow) (row : List Tree) → l.sides ≡ side ∷ l.rest → Begins l.fn.front.items row
    → l.built.rows ++ behind row (joined (drop l.part-index (matches_in side (tree l.key))) (product (map (λ s. matches_in s (tree l.key)) l.rest)))
    ≡ l.fn.built.rows ++ partners l.sides (tree l.key) row)
