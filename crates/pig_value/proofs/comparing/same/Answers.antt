use Rattle.std.proofs.Common.{rules, ◌≡◌, sym, ◌∙◌, IsTrue, subst}
use Rattle.std.proofs.lemmas.Cmp.{tied_itself}
use Rattle.std.specs.declared.cmp.Ordering.TheVariants.{Equal}
use Rattle.pig_value.specs.Trees.{tree}
use Rattle.pig_value.specs.Orders.{tree_cmp}
use Rattle.pig_value.proofs.OrderLaws.{tree_same, tree_total}
use Rattle.pig_value.proofs.comparing.same.Goals as goal

pub returns : goal.returns
returns c =
    let there : IsTrue c.eq.result → c.order.result ≡ Equal = search rules in
    let back : c.order.result ≡ Equal → IsTrue c.eq.result = search rules in
    let is : c.order.result ≡ tree_cmp (tree c.args.a.now) (tree c.args.b.now) = search rules in (
      (λ h. tree_same (tree c.args.a.now) (tree c.args.b.now) (sym is ∙ there h)),
      (λ e. back (is ∙ subst (λ x. tree_cmp (tree c.args.a.now) x ≡ Equal) e (tied_itself tree_total (tree c.args.a.now)))),
    )
