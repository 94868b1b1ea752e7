-- Worked rows of what a tree as the grammar gives it is.
use Rattle.std.specs.Prelude.{ℕ, true, false, List, [], ◌∷◌, length, None, codes}
use Rattle.std.proofs.Common.{refl, arith}
use Rattle.pig_value.specs.declared.operators.ChainOp.TheVariants as op
use Rattle.pig_syntax.specs.declared.trees.FieldRef.{FieldRef}
use Rattle.pig_syntax.specs.declared.trees.FieldRef.TheVariants as ref
use Rattle.pig_syntax.specs.declared.trees.Op.TheVariants as operator
use Rattle.pig_syntax.specs.declared.trees.OrderKeys.TheVariants as keys
use Rattle.pig_syntax.specs.declared.trees.PostStep.TheVariants as step
use Rattle.pig_syntax.specs.ExprTrees.{e_null, e_float, e_chain, e_text, no_links, more_links, no_fields}
use Rattle.pig_syntax.specs.Formed.{ExprFormed, FieldsFormed, SelectionFormed, PostStepFormed, OpFormed}

-- `1.5 + 1.5 - NULL`
sum_and_difference : ExprFormed (e_chain e_float (more_links op.Add e_float (more_links op.Sub e_null no_links)))
sum_and_difference = (tt, tt, (refl, tt, tt))

-- no rule has `+` and `*` in one chain
mixed_chain : ExprFormed (e_chain e_float (more_links op.Add e_float (more_links op.Mul e_null no_links))) → ⊥
mixed_chain h = let wrong = h.2.0 in absurd (cc)

-- a chain has a link
bare_chain : ExprFormed (e_chain e_float no_links) → ⊥
bare_chain h = h

-- a projection of two fields stands in parentheses
two_alone : (a b : FieldRef) → PostStepFormed (step.Project (a ∷ b ∷ []) true) → ⊥
two_alone a b h = let one = h.alone refl in absurd (omega (arith, one))

-- a look-up is no selection
looked_up : (key : List ℕ) → SelectionFormed (step.Look key) → ⊥
looked_up key h = h

-- a tuple has a field
no_field : FieldsFormed no_fields → ⊥
no_field h = h

-- UNION has two inputs
lone_union : (name : List ℕ) → OpFormed (operator.Union false (name ∷ [])) → ⊥
lone_union name h = let two = h.many in absurd (omega (arith, two))

-- FOREACH has an item
no_item : (name : List ℕ) → OpFormed (operator.Foreach name [] []) → ⊥
no_item name h = let one = h.2.many in absurd (omega (arith, one))

-- CUBE has a dimension
no_dimension : (name : List ℕ) → OpFormed (operator.Cube name false []) → ⊥
no_dimension name h = let one = h.1.many in absurd (omega (arith, one))

-- RANK has a key, or all of them
no_key : (name : List ℕ) → OpFormed (operator.Rank name (keys.Fields []) true) → ⊥
no_key name h = let one = h.1.many in absurd (omega (arith, one))
