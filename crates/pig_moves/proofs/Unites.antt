-- What the code's tests and loops say of a UNION under a FILTER, over plain data.
use Rattle.std.specs.Prelude.{◌≡◌, ◌<◌, ◌≤◌, ◌+◌, ℕ, false, List, map, length, Some, slice_get, slice_set, refl}
use Rattle.std.proofs.Common.{ap, sym, ◌∙◌, subst, arith, inl, inr, true≢false}
use Rattle.std.proofs.Math.Nat.{eq-or-lt_of_le}
use Rattle.std.proofs.lemmas.List.{length-map, map-set}
use Rattle.std.proofs.lemmas.Option.{slice_get_within}
use Rattle.pig_value.proofs.list_laws.Listing.{some_same}
use Rattle.pig_typed.specs.Typed.{Typed}
use Rattle.pig_plan.proofs.Exchanged.{set_other, set_same}
use Rattle.pig_plan.specs.declared.nodes.Node.{Node}
use Rattle.pig_plan.specs.Nodes.{IsOnlyUse, names}
use Rattle.pig_plan.specs.Plans.{Plan, PlanNode, node_of, p_union, plan_of}
use Rattle.pig_plan.specs.Room.{idle}
use Rattle.pig_moves.specs.Pushed.{CanUniteAs, IsAbove, IsUnited, filter_on, put_from}
use Rattle.pig_moves.proofs.Keeps.{node_with}
use Rattle.pig_moves.proofs.Steps.{node_there}

pub one_number_more : (P : ℕ → Type 0) (end : ℕ) → ((j : ℕ) → j < end → P j) → P end → (j : ℕ) → j < end + 1 → P j
one_number_more P end before here j below = elim (eq-or-lt_of_le (let e : j ≤ end = omega (arith, below) in e)) [
  | inl same ↦ subst P (sym same) here
  | inr less ↦ before j less
]

-- a node that does not read it
abbrev pub Unread : List Node → ℕ → ℕ → Type 0
Unread nodes number m = (v : PlanNode) → slice_get (plan_of nodes) m ≡ Some v → names v.op number ≡ false

pub not_read : (nodes : List Node) (number m : ℕ) (x : Node) → slice_get nodes m ≡ Some x → names (node_of x).op number ≡ false → Unread nodes number m
not_read nodes number m x at free v stands = ap (λ u. names u.op number) (some_same v (node_of x) (sym stands ∙ node_there nodes m x at)) ∙ free

pub none_read : (nodes : List Node) (number end : ℕ) → length nodes ≤ end → ((m : ℕ) (v : PlanNode) → m < end → slice_get (plan_of nodes) m ≡ Some v → names v.op number ≡ false)
    → (m : ℕ) (v : PlanNode) → slice_get (plan_of nodes) m ≡ Some v → names v.op number ≡ false
none_read nodes number end whole none m v at =
    let within = slice_get_within (plan_of nodes) m v at in
    let long = length-map nodes node_of in
    none m v (omega (arith, within, long, whole)) at

pub none_above : (nodes seen : List Node) (number k : ℕ) → seen ≡ nodes → ((m : ℕ) (v : PlanNode) → slice_get (plan_of seen) m ≡ Some v → names v.op number ≡ false) → IsOnlyUse (plan_of nodes) number k
none_above nodes seen number k same none n v stands name = absurd (true≢false (sym name ∙ none n v (ap (λ ns. slice_get (plan_of ns) n) same ∙ stands)))

pub one_set : (nodes new : List Node) (number input statement : ℕ) (x : Node) (c d : Typed) → new ≡ slice_set nodes number x → node_of x ≡ filter_on d statement input → d ≡ c
    → plan_of new ≡ slice_set (plan_of nodes) number (filter_on c statement input)
one_set nodes new number input statement x c d is x_is same =
    ap plan_of is ∙ map-set node_of nodes number x ∙ ap (slice_set (plan_of nodes) number) (x_is ∙ ap (λ e. filter_on e statement input) same)

-- the FILTER stands there, and the node above it as it stood
pub filter_put : (plan new : List Node) (number high input statement : ℕ) (x above : Node) (c d : Typed) → IsAbove (plan_of plan) number high (node_of above)
    → new ≡ slice_set (slice_set plan number x) high above → node_of x ≡ filter_on d statement input → d ≡ c → plan_of new ≡ slice_set (plan_of plan) number (filter_on c statement input)
filter_put plan new number high input statement x above c d stays is x_is same =
    let higher = stays.higher in
    ap plan_of is ∙ map-set node_of (slice_set plan number x) high above
    ∙ ap (λ xs. slice_set xs high (node_of above)) (one_set plan (slice_set plan number x) number input statement x c d refl x_is same)
    ∙ set_same (slice_set (plan_of plan) number (filter_on c statement input)) high (node_of above)
    (set_other (plan_of plan) number high (filter_on c statement input) (λ e. omega (arith, higher, e)) ∙ stays.stands)

pub is_united : (plan filters made : List Node) (next : Plan) (low high first own statement : ℕ) (each numbers : List ℕ) (c : Typed) (x y : Node)
    → CanUniteAs (plan_of plan) low high first each numbers c own statement → plan_of filters ≡ put_from first (map (filter_on c statement) each) (plan_of plan)
    → made ≡ slice_set (slice_set filters low x) high y → node_of x ≡ idle → node_of y ≡ node_with (p_union numbers) own → next ≡ plan_of made → IsUnited (plan_of plan) next low high
is_united plan filters made next low high first own statement each numbers c x y u filters_are is x_is y_is made_is = record {
  first = first;
  each = each;
  inputs = u.inputs;
  cond = c;
  own = own;
  statement = statement;
  can = u.can;
  is = made_is ∙ ap plan_of is ∙ map-set node_of (slice_set filters low x) high y ∙ ap (λ xs. slice_set xs high (node_of y)) (map-set node_of filters low x)
      ∙ (λ i. slice_set (slice_set (filters_are i) low (x_is i)) high (y_is i))
      ∙ ap (λ ns. slice_set (slice_set (put_from first (map (filter_on c statement) each) (plan_of plan)) low idle) high (node_with (p_union ns) own)) u.are;
}
