-- A field is cut as the rows of a lower node are, so that the rows of each node are cut by its cut.
use Rattle.std.specs.Prelude.{⊤, ◌≡◌, ◌<◌, ◌+◌, ℕ, suc, zero, Bool, true, false, List, [], ◌∷◌, map, length, take, Option, Some, None, slice_get, refl}
use Rattle.std.specs.List.{AllByRecursion, range_with_len}
use Rattle.std.specs.Option.{option_map, unwrap_or}
use Rattle.std.proofs.Common.{ap, sym, ◌∙◌, subst, arith}
use Rattle.std.proofs.lemmas.Option.{none-some, slice_get_within}
use Rattle.pig_value.proofs.list_laws.Indexing.{some_at}
use Rattle.pig_value.proofs.list_laws.Listing.{each-append, each-map, each_of_all, each_weaker, map_each, some_same}
use Rattle.pig_value.specs.Trees.{Tree, at}
use Rattle.pig_plan.proofs.Lower.{names_lower}
use Rattle.pig_plan.proofs.Unfolds.{before_is, length-results, result_before}
use Rattle.pig_plan.specs.Nodes.{inputs_of}
use Rattle.pig_plan.specs.Plans.{Plan, PlanNode, PlanOp, p_load, p_filter, p_foreach, p_group_all, p_group, p_join, p_union, p_distinct, p_order, p_limit, p_store, p_assert, p_rank}
use Rattle.pig_plan.specs.Results.{at_place, results}
use Rattle.pig_plan.specs.Valid.{IsPlan}
use Rattle.pig_cuts.specs.declared.kept.KeptField.{KeptField}
use Rattle.pig_cuts.specs.Cuts.{NodeCut, cut_at, cut_bag, cut_field, cut_row, cutters}
use Rattle.pig_cuts.specs.Plans.{IsNodeCut, are_whole, bags_kept, behind, cut_unless, fields_of_cut, group_kept, own_cut, sides_kept, whole_field}
use Rattle.pig_cuts.proofs.Fields.{Unfolds}

-- ---- fields are cut as those of lower nodes

abbrev pub IsLikeBelow : ℕ → KeptField → Type 0
IsLikeBelow k f = (n : ℕ) → f.like ≡ Some n → n < k

abbrev pub LikesBelow : ℕ → NodeCut → Type 0
LikesBelow k None = ⊤
LikesBelow k (Some kept) = AllByRecursion (IsLikeBelow k) kept

whole_below : (k n : ℕ) → IsLikeBelow k (whole_field n)
whole_below k n m h = absurd (none-some m h)

wholes_below : (k : ℕ) (ps : List ℕ) → AllByRecursion (IsLikeBelow k) (map whole_field ps)
wholes_below k ps = each-map (IsLikeBelow k) whole_field ps (each_of_all _ (λ p. whole_below k p) ps)

unless_below : (k : ℕ) (b : Bool) (kept : List KeptField) → AllByRecursion (IsLikeBelow k) kept → LikesBelow k (cut_unless b kept)
unless_below k true kept h = tt
unless_below k false kept h = h

weaker_below : (i k : ℕ) → i < k → (own : NodeCut) → LikesBelow i own → LikesBelow k own
weaker_below i k low None h = tt
weaker_below i k low (Some kept) h = each_weaker (IsLikeBelow i) (IsLikeBelow k) (λ f b n e. let less = b n e in omega (arith, less, low)) kept h

module _ (cuts : ℕ → NodeCut) (width : ℕ → ℕ) (k : ℕ) where
  like_input : (i n : ℕ) (o : NodeCut) → option_map (λ kept. i) o ≡ Some n → n ≡ i
  like_input i n None h = absurd (none-some n h)
  like_input i n (Some kept) h = sym (some_same i n h)

  bags_below : (n : ℕ) (ins : List ℕ) → AllByRecursion (λ i. i < k) ins → AllByRecursion (IsLikeBelow k) (bags_kept cuts n ins)
  bags_below n [] h = tt
  bags_below n (i ∷ ins) h = ((λ m e. let same = like_input i m (cuts i) e in let low = h.0 in omega (arith, same, low)), bags_below (suc n) ins h.1)

  fields_below : (i : ℕ) → i < k → LikesBelow i (cuts i) → AllByRecursion (IsLikeBelow k) (fields_of_cut (width i) (cuts i))
  fields_below i low h = by_cut (cuts i) h
    where
      by_cut : (o : NodeCut) → LikesBelow i o → AllByRecursion (IsLikeBelow k) (fields_of_cut (width i) o)
      by_cut None g = wholes_below k (range_with_len 0 (width i))
      by_cut (Some kept) g = weaker_below i k low (Some kept) g

  sides_below : (first : ℕ) (ins : List ℕ) → AllByRecursion (λ i. i < k) ins → ((i : ℕ) → i < k → LikesBelow i (cuts i)) → AllByRecursion (IsLikeBelow k) (sides_kept cuts width first ins)
  sides_below first [] h lower = tt
  sides_below first (i ∷ ins) h lower =
      each-append (IsLikeBelow k) (map (behind first) (fields_of_cut (width i) (cuts i))) (sides_kept cuts width (first + width i) ins)
      (each-map (IsLikeBelow k) (behind first) (fields_of_cut (width i) (cuts i)) (fields_below i h.0 (lower i h.0)))
      (sides_below (first + width i) ins h.1 lower)

  own_below : (marks : List Bool) (o : PlanOp) → AllByRecursion (λ i. i < k) (inputs_of o) → ((i : ℕ) → i < k → LikesBelow i (cuts i)) → LikesBelow k (own_cut cuts width marks o)
  own_below marks (p_load path delim columns) h lower = unless_below k _ _ (wholes_below k _)
  own_below marks (p_filter i c) h lower = weaker_below i k h.0 (cuts i) (lower i h.0)
  own_below marks (p_foreach i block) h lower = unless_below k _ _ (wholes_below k _)
  own_below marks (p_group_all i) h lower = unless_below k (are_whole cuts (i ∷ [])) (group_kept cuts (i ∷ [])) (whole_below k 0, bags_below 1 (i ∷ []) h)
  own_below marks (p_group inputs) h lower =
      unless_below k (are_whole cuts (map (λ i. i.input) inputs)) (group_kept cuts (map (λ i. i.input) inputs)) (whole_below k 0, bags_below 1 (map (λ i. i.input) inputs) h)
  own_below marks (p_join inputs s replicated) h lower =
      unless_below k (are_whole cuts (map (λ i. i.input) inputs)) (sides_kept cuts width 0 (map (λ i. i.input) inputs)) (sides_below 0 (map (λ i. i.input) inputs) h lower)
  own_below marks (p_union ns) h lower = tt
  own_below marks (p_distinct i) h lower = tt
  own_below marks (p_order i keys) h lower = tt
  own_below marks (p_limit i count) h lower = tt
  own_below marks (p_store i path delim) h lower = tt
  own_below marks (p_assert i c message) h lower = weaker_below i k h.0 (cuts i) (lower i h.0)
  own_below marks (p_rank i keys dense) h lower = tt

-- ---- rows are cut by the cut of their node

cut_same : (f g : ℕ → List Tree → List Tree) (k : ℕ) → ((n : ℕ) → n < k → f n ≡ g n) → (own : NodeCut) → LikesBelow k own → (row : List Tree) → cut_row f own row ≡ cut_row g own row
cut_same f g k same None h row = refl
cut_same f g k same (Some kept) h row =
    map_each (λ x. cut_field f x.like (at x.position row)) (λ x. cut_field g x.like (at x.position row)) kept
    (each_weaker (IsLikeBelow k) _ (λ x b. field_same x.like b (at x.position row)) kept h)
  where
    field_same : (like : Option ℕ) → ((n : ℕ) → like ≡ Some n → n < k) → (v : Tree) → cut_field f like v ≡ cut_field g like v
    field_same None b v = refl
    field_same (Some n) b v = ap (λ c. cut_bag c v) (same n (b n refl))

module _ (cuts : List NodeCut) where
  abbrev step : ℕ → NodeCut → (ℕ → List Tree → List Tree) → List Tree → List Tree
  step k own cutter = cut_row cutter own

  abbrev itself : List Tree → List Tree
  itself row = row

  pub unfolds : (k : ℕ) → LikesBelow k (cut_at cuts k) → Unfolds (cut_at cuts) (cutters cuts) k
  unfolds k h row = by_cut (slice_get cuts k) refl
    where
      none_found : (o : Option (List Tree → List Tree)) → slice_get (results step itself cuts) k ≡ o → slice_get cuts k ≡ None → unwrap_or o itself row ≡ row
      none_found None e g = refl
      none_found (Some c) e g =
          let within = slice_get_within (results step itself cuts) k c e in
          let long = length-results step itself cuts in
          let found = some_at cuts k (omega (arith, within, long)) in
          absurd (none-some found.0 (sym g ∙ found.1))

      by_cut : (o : Option NodeCut) → slice_get cuts k ≡ o → cutters cuts k row ≡ cut_row (cutters cuts) (cut_at cuts k) row
      by_cut None e = none_found (slice_get (results step itself cuts) k) refl e ∙ ap (λ o. cut_row (cutters cuts) (unwrap_or o None) row) (sym e)
      by_cut (Some own) e =
          ap (λ c. c row) (result_before step itself cuts k own e)
          ∙ cut_same (at_place itself (take k (results step itself cuts))) (cutters cuts) k (λ n below. before_is step itself cuts k n below) own (subst (λ o. LikesBelow k (unwrap_or o None)) e h) row
          ∙ ap (λ o. cut_row (cutters cuts) (unwrap_or o None) row) (sym e)

module _ (marks : ℕ → List Bool) (cuts : List NodeCut) (p q : Plan) (valid : IsPlan p)
    (each : (k : ℕ) (v : PlanNode) → slice_get p k ≡ Some v → IsNodeCut marks cuts p q k v) where
  likes_up_to : (fuel k : ℕ) → k < fuel → k < length p → LikesBelow k (cut_at cuts k)
  likes_up_to zero k low within = absurd (omega (arith, low))
  likes_up_to (suc fuel) k low within =
      let found = some_at p k within in
      subst (LikesBelow k) (sym (each k found.0 found.1).own)
      (own_below (cut_at cuts) _ k (marks k) found.0.op (names_lower p valid k found.0 found.1) (λ i less. likes_up_to fuel i (omega (arith, less, low)) (omega (arith, less, within))))

  pub node_unfolds : (k : ℕ) → k < length p → Unfolds (cut_at cuts) (cutters cuts) k
  node_unfolds k within = unfolds cuts k (likes_up_to (suc k) k (omega arith) within)

  pub likes_below : (k : ℕ) → k < length p → LikesBelow k (cut_at cuts k)
  likes_below k within = likes_up_to (suc k) k (omega arith) within
