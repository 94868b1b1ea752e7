use Rattle.std.proofs.Common.{◌≡◌, map, drop, take, ◌+◌, ◌*◌}
use Rattle.pig_value.specs.Trees.{kind_tree}
use Rattle.pig_typed.specs.ExprKinds.{args_kinds, links_kind}
use Rattle.pig_typed.specs.Seen.{seen_kind}
use Rattle.pig_typed.specs.Typed.{args_of, link_of, links_of, typed}
use Rattle.pig_typed.specs.declared.exprs.TExpr.TheViews.{size-TExpr}
use Rattle.std.specs.Option.{option_map}
use Rattle.std.specs.Prelude.{◌++◌, max}
use Rattle.pig_typed.proofs.kinds.+kinds.Given as goal

abbrev pub decreases-look : goal.decreases-look
decreases-look l = 3 * goal.size-look l

abbrev pub decreases-chain : goal.decreases-chain
decreases-chain l = 3 * max (goal.size-chain l) (size-TExpr l.first.now) + 2

abbrev pub decreases-call : goal.decreases-call
decreases-call l = 3 * goal.size-call l + 2

abbrev pub decreases-links : goal.decreases-links
decreases-links l = 3 * goal.size-links l + 1

abbrev pub decreases-all_kinds : goal.decreases-all_kinds
decreases-all_kinds l = 3 * goal.size-all_kinds l + 1

abbrev pub invariant-links-loop-link : goal.invariant-links-loop-link
invariant-links-loop-link l =
    links_kind (seen_kind l.so_far) (links_of (map link_of (drop l.link-index l.link-items))) (map kind_tree l.scope.row.now) (map kind_tree l.scope.locals.now)
    ≡ links_kind (seen_kind l.fn.first) (links_of (map link_of l.fn.links)) (map kind_tree l.scope.row.now) (map kind_tree l.scope.locals.now)

abbrev pub invariant-all_kinds-loop-arg : goal.invariant-all_kinds-loop-arg
invariant-all_kinds-loop-arg l =
    option_map (λ more. map kind_tree l.kinds.items ++ more) (args_kinds (args_of (map typed (drop l.arg-index l.args))) (map kind_tree l.scope.row.now) (map kind_tree l.scope.locals.now))
    ≡ args_kinds (args_of (map typed l.args)) (map kind_tree l.scope.row.now) (map kind_tree l.scope.locals.now)
