-- A pruned plan means what the plan meant, and no node of it is dead.
use Rattle.std.specs.Prelude.{◌≡◌, ◌<◌, ◌==◌, ◌&&◌, ◌||◌, ◌+◌, ℕ, suc, zero, Bool, false, List, [], ◌∷◌, map, drop, length, Some, slice_get, refl}
use Rattle.std.proofs.Common.{ap, sym, ◌∙◌, subst, arith}
use Rattle.std.specs.List.{list_any}
use Rattle.std.specs.Option.{option_map_or}
use Rattle.std.proofs.lemmas.Option.{slice_get_within}
use Rattle.pig_value.proofs.list_laws.Indexing.{some_at}
use Rattle.pig_value.proofs.list_laws.Listing.{some_same}
use Rattle.pig_typed.specs.Premises.{FunctionsKeepKinds}
use Rattle.pig_plan.proofs.Rewrites.{same_on}
use Rattle.pig_plan.specs.Nodes.{inputs_of, is_store, is_used}
use Rattle.pig_plan.specs.Plans.{Keyed, Plan, PlanNode, PlanOp, p_load, p_filter, p_foreach, p_group_all, p_group, p_join, p_union, p_distinct, p_order, p_limit, p_store, p_assert, p_rank}
use Rattle.pig_plan.specs.Rewrites.{SameMeaning}
use Rattle.pig_plan.specs.Valid.{IsPlan}
use Rattle.pig_alive.specs.Alive.{EachLives, LivePlansMeanTheSame, alive}
use Rattle.pig_cuts.specs.Cuts.{NodeCut, cut_at}
use Rattle.pig_cuts.specs.Laws.{CutPlansMeanTheSame}
use Rattle.pig_cuts.specs.Plans.{IsCutBy, fit_keyed, fit_op}
use Rattle.pig_prune.specs.Pruned.{IsPruned, cuts_of, marks_of}

pub pruned_means : FunctionsKeepKinds → CutPlansMeanTheSame → LivePlansMeanTheSame → (p q : Plan) → IsPlan p → IsPlan (alive p) → IsPlan q → IsPruned p q → SameMeaning p q
pruned_means functions cutting living p q valid valid_live valid_q is =
    same_on p (alive p) q (living p valid valid_live) (cutting functions (marks_of (alive p)) (cuts_of (alive p)) (alive p) q valid_live valid_q is)

-- ---- what nodes name

module _ (cuts : ℕ → NodeCut) (marks : List Bool) where
  keyed_inputs : (inputs : List Keyed) → map (λ i. i.input) (map (fit_keyed cuts) inputs) ≡ map (λ i. i.input) inputs
  keyed_inputs [] = refl
  keyed_inputs (i ∷ inputs) = ap (λ ns. i.input ∷ ns) (keyed_inputs inputs)

  same_inputs : (o : PlanOp) → inputs_of (fit_op cuts marks o) ≡ inputs_of o
  same_inputs (p_load path delim columns) = refl
  same_inputs (p_filter input cond) = refl
  same_inputs (p_foreach input block) = refl
  same_inputs (p_group_all input) = refl
  same_inputs (p_group inputs) = keyed_inputs inputs
  same_inputs (p_join inputs side replicated) = keyed_inputs inputs
  same_inputs (p_union inputs) = refl
  same_inputs (p_distinct input) = refl
  same_inputs (p_order input keys) = refl
  same_inputs (p_limit input count) = refl
  same_inputs (p_store input path delim) = refl
  same_inputs (p_assert input cond message) = refl
  same_inputs (p_rank input keys dense) = refl

  same_store : (o : PlanOp) → is_store (fit_op cuts marks o) ≡ is_store o
  same_store (p_load path delim columns) = refl
  same_store (p_filter input cond) = refl
  same_store (p_foreach input block) = refl
  same_store (p_group_all input) = refl
  same_store (p_group inputs) = refl
  same_store (p_join inputs side replicated) = refl
  same_store (p_union inputs) = refl
  same_store (p_distinct input) = refl
  same_store (p_order input keys) = refl
  same_store (p_limit input count) = refl
  same_store (p_store input path delim) = refl
  same_store (p_assert input cond message) = refl
  same_store (p_rank input keys dense) = refl

-- two nodes that name the same, both a STORE or none
pub record NamesSame (v w : PlanNode) : Type 0 where
  pub inputs : inputs_of w.op ≡ inputs_of v.op
  pub store : is_store w.op ≡ is_store v.op

-- beside each node of a plan stands one of the other that names the same
data AreBeside : Plan → Plan → Type 0 where
  no_nodes : AreBeside [] []
  more_nodes : (v w : PlanNode) (p q : Plan) → NamesSame v w → AreBeside p q → AreBeside (v ∷ p) (w ∷ q)

by_places : (p q : Plan) → length q ≡ length p → ((k : ℕ) (v : PlanNode) → slice_get p k ≡ Some v → (w : PlanNode) × (slice_get q k ≡ Some w) × NamesSame v w) → AreBeside p q
by_places [] [] size each = no_nodes
by_places [] (w ∷ q) size each = absurd (omega (arith, size))
by_places (v ∷ p) [] size each = absurd (omega (arith, size))
by_places (v ∷ p) (w ∷ q) size each =
    let first = each 0 v refl in
    more_nodes v w p q (subst (NamesSame v) (sym (some_same w first.0 first.1)) first.2) (by_places p q (omega (arith, size)) (λ k u at. each (suc k) u at))

used_same : (k n : ℕ) (p q : Plan) → AreBeside p q → is_used k n q ≡ is_used k n p
used_same k n _ _ no_nodes = refl
used_same k n _ _ (more_nodes v w p q same more) =
    (λ j. (list_any (λ i. i == k) (same.inputs j) && (same.store j || used_same n (n + 1) p q more j)) || used_same k (n + 1) p q more j)

dropped_beside : (n : ℕ) (p q : Plan) → AreBeside p q → AreBeside (drop n p) (drop n q)
dropped_beside zero p q h = h
dropped_beside (suc n) _ _ no_nodes = no_nodes
dropped_beside (suc n) _ _ (more_nodes v w p q same more) = dropped_beside n p q more

pub lives_cut : (marks : ℕ → List Bool) (cuts : List NodeCut) (p q : Plan) → IsCutBy marks cuts p q → EachLives p → EachLives q
lives_cut marks cuts p q is lives k w at =
    let size = is.size in
    let within : k < length q = slice_get_within q k w at in
    let found = some_at p k (omega (arith, size, within)) in
    let beside : AreBeside p q = by_places p q is.size
    (λ m v there. (_, (is.each m v there).stands, record { inputs = same_inputs (cut_at cuts) (marks m) v.op; store = same_store (cut_at cuts) (marks m) v.op })) in
    let w_is : w ≡ record { op = fit_op (cut_at cuts) (marks k) found.0.op; statement = found.0.statement } = some_same w _ (sym at ∙ (is.each k found.0 found.1).stands) in
    ap (λ o. option_map_or (λ node. is_store node.op || is_used k (k + 1) (drop (k + 1) q)) o false) at
    ∙ ap (λ node. is_store node.op || is_used k (k + 1) (drop (k + 1) q)) w_is
    ∙ (λ j. same_store (cut_at cuts) (marks k) found.0.op j || used_same k (k + 1) (drop (k + 1) p) (drop (k + 1) q) (dropped_beside (k + 1) p q beside) j)
    ∙ sym (ap (λ o. option_map_or (λ node. is_store node.op || is_used k (k + 1) (drop (k + 1) p)) o false) found.1)
    ∙ lives k found.0 found.1

pub pruned_lives : (p q : Plan) → EachLives (alive p) → IsPruned p q → EachLives q
pruned_lives p q lives is = lives_cut (marks_of (alive p)) (cuts_of (alive p)) (alive p) q is lives
