-- The truth of a chain and of a comparison is that of its value, and the value that of its truth.
use Rattle.std.proofs.Common.{◌≡◌, refl, sym, ap, ◌∙◌, List, []}
use Rattle.std.specs.Prelude.{Bool, true, false, ◌&&◌, ℤ, Option, Some, None, if◌then◌else◌}
use Rattle.std.specs.Int.{w32, w64}
use Rattle.std.specs.Option.{option_map}
use Rattle.std.specs.Ordering.{ordering_reverse}
use Rattle.std.specs.declared.cmp.Ordering.{Ordering}
use Rattle.std.specs.declared.cmp.Ordering.TheVariants.{Less, Equal, Greater}
use Rattle.pig_value.specs.Functions.{is_present}
use Rattle.pig_value.specs.Orders.{rel_holds, tree_cmp}
use Rattle.pig_value.specs.Trees.{or_null, Tree, v_null, v_bool, v_int, v_long}
use Rattle.pig_value.specs.declared.operators.ChainOp.{ChainOp}
use Rattle.pig_value.specs.declared.operators.ChainOp.TheVariants as op
use Rattle.pig_value.specs.declared.operators.Rel.{Rel}
use Rattle.pig_value.specs.declared.operators.Rel.TheVariants as rel
use Rattle.pig_value.proofs.OrderLaws.{tree_total}
use Rattle.pig_typed.specs.Evaluation.{ev, ev_links}
use Rattle.pig_typed.specs.Operators.{and_truth, arithmetic, chain_tree, compare_tree, number_by, or_truth, truth_of, truth_tree}
use Rattle.pig_typed.specs.Typed.{TypedLinks, no_links, more_links}
use Rattle.pig_eval.specs.Truths.{begins_logical, chain_truth, compare_truth, links_truth, mirror}

pub truth_back : (t : Option Bool) → truth_of (truth_tree t) ≡ t
truth_back None = refl
truth_back (Some b) = refl

-- ---- chains

no_int : (n : Option ℤ) → truth_of (or_null (option_map v_int n)) ≡ None
no_int None = refl
no_int (Some n) = refl

no_long : (n : Option ℤ) → truth_of (or_null (option_map v_long n)) ≡ None
no_long None = refl
no_long (Some n) = refl

no_truth : (operator : ChainOp) (a b : Tree) → truth_of (arithmetic operator a b) ≡ None
no_truth operator (v_int a) (v_int b) = no_int (number_by operator w32 a b)
no_truth operator (v_int a) (v_long b) = no_long (number_by operator w64 a b)
no_truth operator (v_long a) (v_int b) = no_long (number_by operator w64 a b)
no_truth operator (v_long a) (v_long b) = no_long (number_by operator w64 a b)
no_truth operator a b = refl

step_truth : (operator : ChainOp) (a b : Tree) → truth_of (chain_tree operator a b) ≡ chain_truth operator (truth_of a) (truth_of b)
step_truth op.Or a b = truth_back (or_truth (truth_of a) (truth_of b))
step_truth op.And a b = truth_back (and_truth (truth_of a) (truth_of b))
step_truth op.Add a b = no_truth op.Add a b
step_truth op.Sub a b = no_truth op.Sub a b
step_truth op.Mul a b = no_truth op.Mul a b
step_truth op.Div a b = no_truth op.Div a b
step_truth op.Rem a b = no_truth op.Rem a b

pub links_truth_is : (v : Tree) (links : TypedLinks) (row locals : List Tree) → truth_of (ev_links v links row locals) ≡ links_truth (truth_of v) links row locals
links_truth_is v no_links row locals = refl
links_truth_is v (more_links operator e links) row locals =
    links_truth_is (chain_tree operator v (ev e row locals)) links row locals
    ∙ ap (λ t. links_truth t links row locals) (step_truth operator v (ev e row locals))

-- arithmetic of a truth is null
of_truth : (operator : ChainOp) (t : Option Bool) (w : Tree) → v_null ≡ arithmetic operator (truth_tree t) w
of_truth operator None w = refl
of_truth operator (Some b) w = refl

step_value : (operator : ChainOp) (t : Option Bool) (w : Tree) → truth_tree (chain_truth operator t (truth_of w)) ≡ chain_tree operator (truth_tree t) w
step_value op.Or t w = ap (λ a. truth_tree (or_truth a (truth_of w))) (sym (truth_back t))
step_value op.And t w = ap (λ a. truth_tree (and_truth a (truth_of w))) (sym (truth_back t))
step_value op.Add t w = of_truth op.Add t w
step_value op.Sub t w = of_truth op.Sub t w
step_value op.Mul t w = of_truth op.Mul t w
step_value op.Div t w = of_truth op.Div t w
step_value op.Rem t w = of_truth op.Rem t w

goes_on : (t : Option Bool) (links : TypedLinks) (row locals : List Tree) → truth_tree (links_truth t links row locals) ≡ ev_links (truth_tree t) links row locals
goes_on t no_links row locals = refl
goes_on t (more_links operator e links) row locals =
    goes_on (chain_truth operator t (truth_of (ev e row locals))) links row locals
    ∙ ap (λ v. ev_links v links row locals) (step_value operator t (ev e row locals))

-- a chain that begins with AND or OR is the value of its truth
pub logical_is : (v : Tree) (links : TypedLinks) (row locals : List Tree) → begins_logical links ≡ true
    → truth_tree (links_truth (truth_of v) links row locals) ≡ ev_links v links row locals
logical_is v no_links row locals h = absurd (cc)
logical_is v (more_links op.Or e links) row locals h = goes_on (or_truth (truth_of v) (truth_of (ev e row locals))) links row locals
logical_is v (more_links op.And e links) row locals h = goes_on (and_truth (truth_of v) (truth_of (ev e row locals))) links row locals
logical_is v (more_links operator e links) row locals h = absurd (cc)

-- ---- comparisons

pub compare_is : (r : Rel) (a b : Tree) → truth_of (compare_tree r a b) ≡ compare_truth r a b
compare_is r v_null b = refl
compare_is r a v_null = refl
compare_is r a b = refl

holds_mirrored : (r : Rel) (o : Ordering) → rel_holds (mirror r) (ordering_reverse o) ≡ rel_holds r o
holds_mirrored rel.Eq Less = refl
holds_mirrored rel.Eq Equal = refl
holds_mirrored rel.Eq Greater = refl
holds_mirrored rel.Ne Less = refl
holds_mirrored rel.Ne Equal = refl
holds_mirrored rel.Ne Greater = refl
holds_mirrored rel.Lt Less = refl
holds_mirrored rel.Lt Equal = refl
holds_mirrored rel.Lt Greater = refl
holds_mirrored rel.Le Less = refl
holds_mirrored rel.Le Equal = refl
holds_mirrored rel.Le Greater = refl
holds_mirrored rel.Gt Less = refl
holds_mirrored rel.Gt Equal = refl
holds_mirrored rel.Gt Greater = refl
holds_mirrored rel.Ge Less = refl
holds_mirrored rel.Ge Equal = refl
holds_mirrored rel.Ge Greater = refl

either_side : (p q : Bool) → (p && q) ≡ (q && p)
either_side false false = refl
either_side false true = refl
either_side true false = refl
either_side true true = refl

-- a comparison with its sides changed
pub mirrored_is : (r : Rel) (a b : Tree) → compare_truth (mirror r) b a ≡ compare_truth r a b
mirrored_is r a b =
    ap (λ o. if is_present b && is_present a then Some (rel_holds (mirror r) o) else None) (tree_total.antisymm b a)
    ∙ ap (λ met. if is_present b && is_present a then Some met else None) (holds_mirrored r (tree_cmp a b))
    ∙ ap (λ both. if both then Some (rel_holds r (tree_cmp a b)) else None) (either_side (is_present b) (is_present a))
