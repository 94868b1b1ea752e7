-- The truth of a chain out of the truths of its operands; arithmetic has none.
use Rattle.std.specs.Prelude.{Bool, true, false, ◌&&◌, List, Option, Some, None, if◌then◌else◌}
use Rattle.pig_value.specs.Functions.{is_present}
use Rattle.pig_value.specs.Orders.{rel_holds, tree_cmp}
use Rattle.pig_value.specs.Trees.{Tree}
use Rattle.pig_value.specs.declared.operators.ChainOp.{ChainOp}
use Rattle.pig_value.specs.declared.operators.ChainOp.TheVariants as op
use Rattle.pig_value.specs.declared.operators.Rel.{Rel}
use Rattle.pig_value.specs.declared.operators.Rel.TheVariants as rel
use Rattle.pig_typed.specs.Evaluation.{ev}
use Rattle.pig_typed.specs.Operators.{and_truth, or_truth, truth_of}
use Rattle.pig_typed.specs.Typed.{TypedLinks, no_links, more_links}

abbrev pub chain_truth : ChainOp → Option Bool → Option Bool → Option Bool
chain_truth op.Or a b = or_truth a b
chain_truth op.And a b = and_truth a b
chain_truth operator a b = None

abbrev pub links_truth : Option Bool → TypedLinks → List Tree → List Tree → Option Bool
links_truth so_far no_links row locals = so_far
links_truth so_far (more_links operator e links) row locals = links_truth (chain_truth operator so_far (truth_of (ev e row locals))) links row locals

-- whether the first operator is AND or OR
abbrev pub is_logical : ChainOp → Bool
is_logical op.Or = true
is_logical op.And = true
is_logical operator = false

abbrev pub begins_logical : TypedLinks → Bool
begins_logical no_links = false
begins_logical (more_links operator e links) = is_logical operator

-- the truth of a comparison, which a null operand leaves unknown
abbrev pub compare_truth : Rel → Tree → Tree → Option Bool
compare_truth r a b = if is_present a && is_present b then Some (rel_holds r (tree_cmp a b)) else None

-- the comparison with its sides changed
abbrev pub mirror : Rel → Rel
mirror rel.Eq = rel.Eq
mirror rel.Ne = rel.Ne
mirror rel.Lt = rel.Gt
mirror rel.Le = rel.Ge
mirror rel.Gt = rel.Lt
mirror rel.Ge = rel.Le
