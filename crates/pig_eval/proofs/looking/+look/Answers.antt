use Rattle.std.proofs.Common.{◌≡◌, ◌∙◌, map, rules, true}
use Rattle.pig_value.specs.Trees.{row_tree}
use Rattle.pig_typed.specs.Evaluation.{ev}
use Rattle.pig_typed.specs.Operators.{truth_of}
use Rattle.pig_typed.specs.Typed.{link_of, links_of, typed}
use Rattle.pig_eval.specs.Truths.{begins_logical, links_truth}
use Rattle.pig_eval.proofs.Chains.{chain_truth_is, chain_value_is}
use Rattle.pig_eval.proofs.looking.+look.Goals as goal

pub look-returns-then-is_condition : goal.look-returns-then-is_condition
look-returns-then-is_condition t c =
    let row = row_tree c.args.row.now in
    let locals = row_tree c.args.locals.now in
    let same : c.get.result.now ≡ c.in-Chain.first = search rules in
    let begun : c.in_ok-first-in-Chain.first ≡ truth_of (ev (typed c.get.result.now) (row_tree c.args.row.now) (row_tree c.args.locals.now)) = search rules in
    let found : c.in_ok-truth-in-Chain.truth
    ≡ links_truth c.in_ok-first-in-Chain.first (links_of (map link_of c.in-Chain.rest)) (row_tree c.args.row.now) (row_tree c.args.locals.now) = search rules in
    let logical : begins_logical (links_of (map link_of c.in-Chain.rest)) ≡ true = search rules in
    c.answer.ensures
    ∙ chain_value_is c.args.e.now c.in-Chain.first c.get.result.now c.in-Chain.rest row locals c.in_ok-truth-in-Chain.truth c.in_ok-first-in-Chain.first
    c.in-Chain.is same begun found logical

pub truth-returns-in_ok-truth-in-Chain : goal.truth-returns-in_ok-truth-in-Chain
truth-returns-in_ok-truth-in-Chain t c =
    let row = row_tree c.args.row.now in
    let locals = row_tree c.args.locals.now in
    let same : c.get.result.now ≡ c.in-Chain.first = search rules in
    let begun : c.in_ok-first-in-Chain.first ≡ truth_of (ev (typed c.get.result.now) (row_tree c.args.row.now) (row_tree c.args.locals.now)) = search rules in
    let found : c.in_ok-truth-in-Chain.truth
    ≡ links_truth c.in_ok-first-in-Chain.first (links_of (map link_of c.in-Chain.rest)) (row_tree c.args.row.now) (row_tree c.args.locals.now) = search rules in
    chain_truth_is c.args.e.now c.in-Chain.first c.get.result.now c.in-Chain.rest row locals c.in_ok-truth-in-Chain.truth c.in_ok-first-in-Chain.first
    c.in-Chain.is same begun found
