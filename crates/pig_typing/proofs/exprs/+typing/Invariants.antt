use Rattle.std.proofs.Common.{◌≡◌, ◌++◌, map, drop, ◌+◌, ◌*◌}
use Rattle.pig_syntax.specs.ExprTrees.{expr_form, expr_forms, link_form, link_forms}
use Rattle.pig_typing.specs.Columns.{place_of}
use Rattle.pig_typing.specs.Reader.{args_on, links_on}
use Rattle.pig_typing.specs.Results.{checked_map}
use Rattle.pig_typing.specs.Typing.{begun}
use Rattle.pig_typing.specs.Views.{chain_tree, typing_tree}
use Rattle.pig_typing.proofs.exprs.+typing.Given as goal

abbrev pub decreases-type_in : goal.decreases-type_in
decreases-type_in l = 2 * goal.size-type_in l

abbrev pub decreases-chain : goal.decreases-chain
decreases-chain l = 2 * goal.size-chain l + 1

abbrev pub decreases-each : goal.decreases-each
decreases-each l = 2 * goal.size-each l + 1

abbrev pub invariant-chain-loop-link : goal.invariant-chain-loop-link
invariant-chain-loop-link l =
    links_on (place_of l.scope) (chain_tree l.so_far) (link_forms (map link_form (drop l.link-index l.link-items)))
    ≡ links_on (place_of l.scope) (begun (typing_tree l.fn.first)) (link_forms (map link_form l.fn.links))

abbrev pub invariant-each-loop-arg : goal.invariant-each-loop-arg
invariant-each-loop-arg l =
    checked_map (λ more. map typing_tree l.typings ++ more) (args_on (place_of l.scope) (expr_forms (map expr_form (drop l.arg-index l.args))))
    ≡ args_on (place_of l.scope) (expr_forms (map expr_form l.args))
