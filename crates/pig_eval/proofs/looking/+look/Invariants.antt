use Rattle.std.proofs.Common.{◌≡◌, ◌≤◌, ◌++◌, map, drop, ◌+◌, ◌*◌}
use Rattle.pig_value.specs.Trees.{row_tree}
use Rattle.pig_typed.specs.Evaluation.{ev, ev_args, ev_links}
use Rattle.pig_typed.specs.Typed.{args_of, link_of, links_of, typed}
use Rattle.pig_typed.specs.declared.exprs.TExpr.TheViews.{size-TExpr}
use Rattle.pig_eval.specs.SeenValues.{seen_tree}
use Rattle.pig_eval.specs.Truths.{links_truth}
use Rattle.std.specs.Prelude.{max}
use Rattle.pig_eval.proofs.looking.+look.Given as goal

abbrev pub decreases-look : goal.decreases-look
decreases-look l = 5 * goal.size-look l

abbrev pub decreases-truth : goal.decreases-truth
decreases-truth l = 5 * goal.size-truth l + 1

abbrev pub decreases-chain_truth : goal.decreases-chain_truth
decreases-chain_truth l = 5 * goal.size-chain_truth l + 3

abbrev pub decreases-next_truth : goal.decreases-next_truth
decreases-next_truth l = 5 * goal.size-next_truth l + 2

abbrev pub decreases-chain_value : goal.decreases-chain_value
decreases-chain_value l = 5 * goal.size-chain_value l + 2

abbrev pub decreases-next_value : goal.decreases-next_value
decreases-next_value l = 5 * goal.size-next_value l + 1

abbrev pub decreases-choice : goal.decreases-choice
decreases-choice l = 5 * max (size-TExpr l.cond.now) (max (size-TExpr l.yes.now) (size-TExpr l.no.now)) + 2

abbrev pub decreases-otherwise : goal.decreases-otherwise
decreases-otherwise l = 5 * goal.size-otherwise l + 1

abbrev pub decreases-call : goal.decreases-call
decreases-call l = 5 * goal.size-call l + 4

abbrev pub decreases-call_all : goal.decreases-call_all
decreases-call_all l = 5 * goal.size-call_all l + 2

abbrev pub decreases-eval_all : goal.decreases-eval_all
decreases-eval_all l = 5 * goal.size-eval_all l + 1

abbrev pub decreases-call_one : goal.decreases-call_one
decreases-call_one l = 5 * goal.size-call_one l + 2

abbrev pub invariant-chain_truth-loop-link : goal.invariant-chain_truth-loop-link
invariant-chain_truth-loop-link l =
    links_truth l.so_far (links_of (map link_of (drop l.link-index l.link-items))) (row_tree l.row) (row_tree l.locals)
    ≡ links_truth l.fn.first (links_of (map link_of l.fn.rest)) (row_tree l.row) (row_tree l.locals)

abbrev pub invariant-chain_value-loop-link : goal.invariant-chain_value-loop-link
invariant-chain_value-loop-link l =
    ev_links (seen_tree l.so_far) (links_of (map link_of (drop l.link-index l.link-items))) (row_tree l.row) (row_tree l.locals)
    ≡ ev_links (seen_tree l.fn.first) (links_of (map link_of l.fn.rest)) (row_tree l.row) (row_tree l.locals)

abbrev pub invariant-eval_all-loop-arg : goal.invariant-eval_all-loop-arg
invariant-eval_all-loop-arg l =
    row_tree l.made.items ++ ev_args (args_of (map typed (drop l.arg-index l.args))) (row_tree l.row) (row_tree l.locals)
    ≡ ev_args (args_of (map typed l.args)) (row_tree l.row) (row_tree l.locals)

abbrev pub invariant-otherwise-loop-rest : goal.invariant-otherwise-loop-rest
invariant-otherwise-loop-rest l =
    (ev (typed l.rest) (row_tree l.row) (row_tree l.locals) ≡ ev (typed l.fn.e) (row_tree l.row) (row_tree l.locals))
    × (size-TExpr l.rest ≤ size-TExpr l.fn.e)
