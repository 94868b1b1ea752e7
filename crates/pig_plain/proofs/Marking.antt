-- The last uses of nodes, and what one more live node adds.
use Rattle.std.specs.Prelude.{◌≡◌, ◌<◌, ◌≤◌, ◌+◌, ◌&&◌, ℕ, Bool, true, false, List, length, max, Some, slice_get, get_or}
use Rattle.std.proofs.Common.{ap, sym, ◌∙◌, arith, inl, inr}
use Rattle.std.specs.Option.{option_map, option_map_or}
use Rattle.std.proofs.Math.Nat.{le-max_left, le-max_right}
use Rattle.std.proofs.lemmas.Bool.{cases_lt}
use Rattle.std.proofs.lemmas.List.FromFn.{get_or-map-range_with_len}
use Rattle.std.proofs.lemmas.Option.{slice_get-get_or, slice_get-map}
use Rattle.pig_plan.specs.declared.nodes.Node.{Node}
use Rattle.pig_plan.specs.Nodes.{is_live, live_marks, names}
use Rattle.pig_plan.specs.Plans.{Plan, PlanNode, node_of, plan_of}
use Rattle.pig_plain.specs.Uses.{AreLate, raised}

-- the node at a place of a plan, from the code's list
pub node_at : (nodes : List Node) (i : ℕ) (d : Node) → i < length nodes → slice_get (plan_of nodes) i ≡ Some (node_of (get_or nodes i d))
node_at nodes i d h = slice_get-map node_of nodes i ∙ ap (option_map node_of) (slice_get-get_or nodes i d h)

-- the mark of a node
pub mark_is : (plan : Plan) (marks : List Bool) (k : ℕ) → marks ≡ live_marks plan → k < length plan → get_or marks k false ≡ is_live plan k
mark_is plan marks k is within =
    ap (λ ms. get_or ms k false) is ∙ get_or-map-range_with_len (is_live plan) 0 (length plan) k k false within (let e : 0 + k ≡ k = omega arith in e)

raised_up : (end : ℕ) (b : Bool) (old : ℕ) → old ≤ raised end b old
raised_up end false old = omega arith
raised_up end true old = le-max_left old end

some_injective : {A : Type 0} {a b : A} → Some a ≡ Some b → a ≡ b
some_injective {A} {a} {b} e = ap (λ o. option_map_or (λ x. x) o a) e

pub late_more : (plan : Plan) (i : ℕ) (node : PlanNode) → slice_get plan i ≡ Some node → (lives : Bool) → lives ≡ is_live plan i → (ends new : List ℕ)
    → ((k : ℕ) → get_or new k 0 ≡ raised (i + 1) (lives && names node.op k) (get_or ends k 0)) → AreLate plan i ends → AreLate plan (i + 1) new
late_more plan i node at lives is ends new each so_far j k other below found live named = elim (cases_lt j i) [
  | inl before ↦
      let old = so_far j k other before found live named in
      let up = raised_up (i + 1) (lives && names node.op k) (get_or ends k 0) in
      let told = each k in
      omega (arith, old, up, told)
  | inr late ↦
      let same : i ≡ j = omega (arith, below, late) in
      let one : node ≡ other = some_injective (sym at ∙ ap (slice_get plan) same ∙ found) in
      let both : (lives && names node.op k) ≡ true = ap (λ b. b && names node.op k) (is ∙ ap (is_live plan) same ∙ live) ∙ ap (λ n. names n.op k) one ∙ named in
      let up : i + 1 ≤ max (get_or ends k 0) (i + 1) = le-max_right (get_or ends k 0) (i + 1) in
      let told : get_or new k 0 ≡ max (get_or ends k 0) (i + 1) = each k ∙ ap (λ b. raised (i + 1) b (get_or ends k 0)) both in
      omega (arith, up, told, same)
]
