-- What the hashes of operators tell: a node whose hash isn't listed has none before it that does the same.
use Rattle.std.specs.Prelude.{◌≡◌, ◌<◌, ℕ, zero, suc, List, [], ◌∷◌, ◌++◌, map, take, length, Option, None, Some, slice_get, refl}
use Rattle.std.proofs.Common.{ap, sym, ◌∙◌, subst, arith, ◌⊎◌, inl, inr, append-nil}
use Rattle.std.specs.Option.{option_map}
use Rattle.pig_value.proofs.list_laws.Indexing.{get_map}
use Rattle.pig_value.proofs.list_laws.Listing.{some_same}
use Rattle.pig_plan.specs.declared.nodes.Node.{Node}
use Rattle.pig_plan.specs.Plans.{Plan, PlanNode, plan_of}
use Rattle.pig_plan.specs.Renumbered.{renamed}
use Rattle.pig_share.specs.Hashed.{op_hash}
use Rattle.pig_share.specs.Table.{AreListed, HasKey, IsFound, IsOpen, IsRenamedAt, IsSoFar, KeepsKeys, at_of, none}
use Rattle.pig_share.proofs.Finding.{get_taken, length_plan}

-- ---- a hash that isn't listed

pub found_unlisted : (nodes : List Node) (table : List ℕ) (made : Plan) (i : ℕ) (node : PlanNode) (f : ℕ → Option ℕ) (hash : ℕ) → IsSoFar (plan_of nodes) table made i
    → AreListed (plan_of nodes) made f → IsRenamedAt (plan_of nodes) table i node → hash ≡ op_hash node.op → f hash ≡ None → IsFound (plan_of nodes) table i i
found_unlisted nodes table made i node f hash so_far listed is hashed free = none refl (λ j lower d.
    let there : slice_get made j ≡ Some (renamed (at_of (table ++ [])) d.w) =
    ap (λ xs. slice_get xs j) (so_far.nodes []) ∙ get_map (renamed (at_of (table ++ []))) (take i (plan_of nodes)) j
    ∙ ap (option_map (renamed (at_of (table ++ [])))) (get_taken (plan_of nodes) i j lower ∙ d.stands_j) in
    let stands : slice_get made j ≡ Some (renamed (at_of table) d.w) = there ∙ ap (λ xs. Some (renamed (at_of xs) d.w)) (append-nil table) in
    let same : op_hash (renamed (at_of table) d.w).op ≡ hash = ap op_hash d.same ∙ ap (λ x. op_hash x.op) (sym (is d.v d.stands_i)) ∙ sym hashed in
    listed j (renamed (at_of table) d.w) stands (record { v = d.w; stands = d.stands_j; lives = d.lives_j; free = d.free_j }) (ap f same ∙ free))

-- ---- one node more

get_more : (xs : Plan) (y : PlanNode) (j : ℕ) (u : PlanNode) → slice_get (xs ++ y ∷ []) j ≡ Some u → (slice_get xs j ≡ Some u) ⊎ ((j ≡ length xs) × (y ≡ u))
get_more [] y zero u h = inr (refl, some_same y u h)
get_more [] y (suc j) u h = absurd (cc)
get_more (x ∷ xs) y zero u h = inl h
get_more (x ∷ xs) y (suc j) u h = elim (get_more xs y j u h) [
  | inl t ↦ inl t
  | inr t ↦ inr (ap (λ n. suc n) (t.0), t.1)
]

taken_length : {X Y : Type 0} (f : X → Y) (xs : List X) (n : ℕ) → n < length xs → length (map f (take n xs)) ≡ n
taken_length f xs zero h = refl
taken_length f [] (suc n) h = absurd (omega (arith, h))
taken_length f (x ∷ xs) (suc n) h = ap (λ m. suc m) (taken_length f xs n (omega (arith, h)))

pub listed_next : (nodes : List Node) (table : List ℕ) (made grown : Plan) (i hash : ℕ) (node : PlanNode) (f g : ℕ → Option ℕ) → i < length nodes
    → IsSoFar (plan_of nodes) table made i → AreListed (plan_of nodes) made f → grown ≡ made ++ node ∷ [] → hash ≡ op_hash node.op → KeepsKeys f g
    → (IsOpen (plan_of nodes) i → HasKey g hash) → AreListed (plan_of nodes) grown g
listed_next nodes table made grown i hash node f g within so_far listed is_grown hashed keeps has j u stands is_open =
    let all = length_plan nodes in
    elim (get_more made node j u (ap (λ xs. slice_get xs j) (sym is_grown) ∙ stands)) [
      | inl t ↦ keeps (op_hash u.op) (listed j u t is_open)
      | inr t ↦ let size : length made ≡ i = ap (λ xs. length xs) (so_far.nodes []) ∙ taken_length (renamed (at_of (table ++ []))) (plan_of nodes) i (omega (arith, within, all)) in
          subst (HasKey g) (hashed ∙ ap (λ x. op_hash x.op) t.1) (has (subst (IsOpen (plan_of nodes)) (t.0 ∙ size) is_open))
    ]
