-- Lists of expressions, as the code walks them.
use Rattle.std.proofs.Common.{◌≡◌, ◌∙◌, ◌+◌, ◌<◌, ℕ, List, [], ◌∷◌, map, drop, get_or, length, refl, sym, ap, subst, suc}
use Rattle.std.specs.declared.result.Result.TheVariants.{Ok, Err}
use Rattle.std.proofs.lemmas.List.{drop_more, length-map}
use Rattle.pig_syntax.specs.ExprTrees.{ExprForm, more_links, expr_form, expr_forms, link_form, link_forms}
use Rattle.pig_syntax.specs.declared.trees.Expr.{Expr}
use Rattle.pig_syntax.specs.declared.trees.Link.{Link}
use Rattle.pig_syntax.proofs.ExprTreeLaws.{link_is}
use Rattle.pig_typing.specs.declared.faults.TypeFault.{TypeFault}
use Rattle.pig_typing.specs.declared.faults.TypeFault.TheVariants as fault
use Rattle.pig_typing.specs.Columns.{Place}
use Rattle.pig_typing.specs.Parts.{Typing}
use Rattle.pig_typing.specs.Reader.{type_of, links_on, typed_link}
use Rattle.pig_typing.specs.Results.{Checked, checked_then, Tells}
use Rattle.pig_typing.specs.Typing.{ChainSoFar, count}

-- there are as many forms as expressions
counts : (forms : List ExprForm) → count (expr_forms forms) ≡ length forms
counts [] = refl
counts (a ∷ forms) = ap (λ n. suc n) (counts forms)

pub count_is : (exprs : List Expr) → count (expr_forms (map expr_form exprs)) ≡ length exprs
count_is exprs = counts (map expr_form exprs) ∙ length-map exprs expr_form

-- one link more
pub link_step : (s : Place) (c : ChainSoFar) (links : List Link) (i : ℕ) (l : Link) (p : Typing) (all : Checked ChainSoFar)
    → i < length links → l ≡ get_or links i l → type_of s (expr_form l.a) ≡ Ok p → links_on s c (link_forms (map link_form (drop i links))) ≡ all
    → checked_then (λ next. links_on s next (link_forms (map link_form (drop (i + 1) links)))) (typed_link c l.op p) ≡ all
unfolding links_on
link_step s c links i l p all w is e whole =
    let rest = link_forms (map link_form (drop (i + 1) links)) in
    let cut : drop i links ≡ l ∷ drop (i + 1) links = drop_more links i l w ∙ ap (λ x. x ∷ drop (i + 1) links) (sym is) in
    let at : links_on s c (more_links (link_form l).0 (link_form l).1 rest) ≡ all = subst (λ ls. links_on s c (link_forms (map link_form ls)) ≡ all) cut whole in
    let one : links_on s c (more_links l.op (expr_form l.a) rest) ≡ all = subst (λ f. links_on s c (more_links f.0 f.1 rest) ≡ all) (link_is l) at in
    subst (λ r. checked_then (λ q. checked_then (λ next. links_on s next rest) (typed_link c l.op q)) r ≡ all) e one

-- a refusal is passed on
pub passes_fault : {A B S T : Type 0} (see : S → A) (view : T → B) (r : Checked A) (next : A → Checked B) (whole : Checked B) (e : TypeFault)
    → checked_then next r ≡ whole → Tells see r (Err e) → Tells view whole (Err e)
passes_fault see view r next whole (fault.Refused kind) is told = sym is ∙ ap (checked_then next) told
passes_fault see view r next whole fault.OutOfMemory is told = tt
