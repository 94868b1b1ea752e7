-- The waves that are listed node by node are those of the definition, and what folds is told by what live nodes name.
use Rattle.std.specs.Prelude.{◌≡◌, ℕ, Bool, true, false, List, [], ◌∷◌, ◌++◌, map, Option, Some, None, slice_get, refl}
use Rattle.std.proofs.Common.{ap, sym, ◌∙◌, append-nil, cond}
use Rattle.std.specs.List.{filter, flat_map}
use Rattle.std.specs.Option.{option_map, option_map_or}
use Rattle.pig_plan.specs.Nodes.{is_boundary, live, op_at}
use Rattle.pig_plan.specs.Plans.{Plan, PlanNode, PlanOp}
use Rattle.pig_physical.specs.Heading.{heads_by, heads_on, store_head}
use Rattle.pig_physical.specs.Stages.{head_of, heads, heads_at, waves_of}
use Rattle.pig_physical.specs.declared.waves.WaveHead.{WaveHead}

-- the waves of one node in front of others, by its operator
abbrev op_in : Option PlanNode → Option PlanOp
op_in o = option_map (λ node. node.op) o

in_front : (f g : PlanOp → List WaveHead) (test : PlanOp → Bool) (each : ℕ → List WaveHead) (k : ℕ) (ks : List ℕ) (o : Option PlanNode)
    → each k ≡ option_map_or f (op_in o) [] → ((p : PlanOp) → g p ≡ cond (test p) (f p) [])
    → flat_map each (cond (option_map_or test (op_in o) false) (k ∷ ks) ks) ≡ option_map_or (λ node. g node.op) o [] ++ flat_map each ks
in_front f g test each k ks None own is = refl
in_front f g test each k ks (Some node) own is = by_test (test node.op) (is node.op) own
  where
    by_test : (b : Bool) → g node.op ≡ cond b (f node.op) [] → each k ≡ f node.op → flat_map each (cond b (k ∷ ks) ks) ≡ g node.op ++ flat_map each ks
    by_test true e own = ap (λ hs. hs ++ flat_map each ks) (own ∙ sym e)
    by_test false e own = ap (λ hs. hs ++ flat_map each ks) (sym e)

module _ (plan : Plan) where
  abbrev is_here : ℕ → Bool
  is_here k = option_map_or is_boundary (op_at plan k) false

  listed : (ks : List ℕ) → flat_map (heads_at plan) (filter is_here ks) ≡ flat_map (heads_on plan) ks
  listed [] = refl
  listed (k ∷ ks) =
      in_front (λ o. map (head_of plan k) (waves_of o)) (heads_by plan k) is_boundary (heads_at plan) k (filter is_here ks) (slice_get plan k) refl (λ p. refl)
      ∙ ap (λ hs. heads_on plan k ++ hs) (listed ks)

  -- the waves of the live nodes, and behind them that of the STOREs
  pub heads_are : (found all : List WaveHead) → found ≡ flat_map (heads_on plan) (live plan) → all ≡ found ++ store_head plan (live plan) → all ≡ heads plan
  heads_are found all is adds = adds ∙ ap (λ hs. hs ++ store_head plan (live plan)) (is ∙ sym (listed (live plan)))

-- nothing is added for a node that there isn't
pub none_added : (plan : Plan) (k : ℕ) (found : List WaveHead) → slice_get plan k ≡ None → found ≡ found ++ heads_on plan k
none_added plan k found is = sym (append-nil found) ∙ ap (λ o. found ++ option_map_or (λ node. heads_by plan k node.op) o []) (sym is)
