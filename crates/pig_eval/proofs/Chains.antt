-- A chain of operators as its operands: its value, and its truth.
use Rattle.std.proofs.Common.{◌≡◌, sym, ap, ◌∙◌, List, map}
use Rattle.std.specs.Prelude.{Bool, true, Option}
use Rattle.pig_value.specs.Trees.{Tree}
use Rattle.pig_value.specs.declared.operators.ChainOp.{ChainOp}
use Rattle.pig_typed.specs.Evaluation.{ev, ev_links}
use Rattle.pig_typed.specs.Operators.{truth_of, truth_tree}
use Rattle.pig_typed.specs.Typed.{Typed, link_of, link_step, links_of, typed, typed_step, x_chain}
use Rattle.pig_typed.specs.declared.exprs.TExpr.{TExpr}
use Rattle.pig_typed.specs.declared.exprs.TExpr.TheOpen.{TExpr-F}
use Rattle.pig_typed.specs.declared.exprs.TExpr.TheFolds.{fold-roll-TExpr}
use Rattle.pig_typed.specs.declared.exprs.TExpr.TheVariants as texpr
use Rattle.pig_typed.specs.declared.exprs.TLink.{TLink}
use Rattle.pig_eval.specs.Truths.{begins_logical, links_truth}
use Rattle.pig_eval.proofs.TruthLaws.{links_truth_is, logical_is}

typed_chain : (first : TExpr) (rest : List TLink) → typed (texpr.Chain first rest) ≡ x_chain (typed first) (links_of (map link_of rest))
typed_chain first rest =
    ap typed (sym (texpr.rolls-Chain first rest)) ∙ fold-roll-TExpr Typed (ChainOp × Typed) typed_step link_step (TExpr-F.Chain first rest)

chain_is : (e first : TExpr) (rest : List TLink) (row locals : List Tree) → e ≡ texpr.Chain first rest
    → ev (typed e) row locals ≡ ev_links (ev (typed first) row locals) (links_of (map link_of rest)) row locals
chain_is e first rest row locals is = ap (λ x. ev (typed x) row locals) is ∙ ap (λ x. ev x row locals) (typed_chain first rest)

found_is : (first inner : TExpr) (rest : List TLink) (row locals : List Tree) (t so_far : Option Bool) → inner ≡ first
    → so_far ≡ truth_of (ev (typed inner) row locals) → t ≡ links_truth so_far (links_of (map link_of rest)) row locals
    → t ≡ links_truth (truth_of (ev (typed first) row locals)) (links_of (map link_of rest)) row locals
found_is first inner rest row locals t so_far same begun found =
    found ∙ ap (λ s. links_truth s (links_of (map link_of rest)) row locals) (begun ∙ ap (λ x. truth_of (ev (typed x) row locals)) same)

-- its truth
pub chain_truth_is : (e first inner : TExpr) (rest : List TLink) (row locals : List Tree) (t so_far : Option Bool) → e ≡ texpr.Chain first rest → inner ≡ first
    → so_far ≡ truth_of (ev (typed inner) row locals) → t ≡ links_truth so_far (links_of (map link_of rest)) row locals
    → t ≡ truth_of (ev (typed e) row locals)
chain_truth_is e first inner rest row locals t so_far is same begun found =
    found_is first inner rest row locals t so_far same begun found
    ∙ sym (links_truth_is (ev (typed first) row locals) (links_of (map link_of rest)) row locals)
    ∙ ap truth_of (sym (chain_is e first rest row locals is))

-- its value, where it begins with AND or OR
pub chain_value_is : (e first inner : TExpr) (rest : List TLink) (row locals : List Tree) (t so_far : Option Bool) → e ≡ texpr.Chain first rest → inner ≡ first
    → so_far ≡ truth_of (ev (typed inner) row locals) → t ≡ links_truth so_far (links_of (map link_of rest)) row locals
    → begins_logical (links_of (map link_of rest)) ≡ true → truth_tree t ≡ ev (typed e) row locals
chain_value_is e first inner rest row locals t so_far is same begun found logical =
    ap truth_tree (found_is first inner rest row locals t so_far same begun found)
    ∙ logical_is (ev (typed first) row locals) (links_of (map link_of rest)) row locals logical
    ∙ sym (chain_is e first rest row locals is)
