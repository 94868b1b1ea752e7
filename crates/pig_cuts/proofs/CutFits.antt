-- A fitted node is valid behind the fitted nodes before it.
use Rattle.std.specs.Prelude.{◌≡◌, ◌<◌, ◌≤◌, ◌==◌, ◌&&◌, ◌||◌, ◌+◌, ℕ, suc, zero, Bool, true, false, not, List, [], ◌∷◌, map, length, drop, take, Option, Some, None, slice_get, refl}
use Rattle.std.specs.List.{list_any}
use Rattle.std.specs.Option.{is_some}
use Rattle.std.proofs.Common.{ap, sym, ◌∙◌, subst, arith, true≢false}
use Rattle.std.proofs.lemmas.Bool.{and_from, and_parts}
use Rattle.std.proofs.lemmas.List.{length-take-le, take-append-drop, take_all}
use Rattle.std.proofs.lemmas.Option.{none-some, slice_get_within}
use Rattle.pig_value.proofs.list_laws.Indexing.{more_taken, some_at}
use Rattle.pig_value.specs.Elementwise.{Each}
use Rattle.pig_typed.specs.Typed.{Typed, TypedArgs, TypedBlock, TypedLinks, TypedStep, x_null, x_bool, x_int, x_long, x_chars, x_field, x_local, x_chain, x_compare, x_is_null, x_not, x_minus, x_choose, x_cast, x_project, x_look, x_call, no_links, more_links, no_args, more_args, s_filter, s_order, s_limit, s_distinct, s_take}
use Rattle.pig_plan.proofs.Grows.{grows}
use Rattle.pig_plan.proofs.Unfolds.{get-front}
use Rattle.pig_plan.specs.Meaning.{width_at}
use Rattle.pig_plan.specs.NodeKinds.{kinds_at, node_gives}
use Rattle.pig_plan.specs.Plans.{Keyed, Plan, PlanNode, PlanOp, p_load, p_filter, p_foreach, p_group_all, p_group, p_join, p_union, p_distinct, p_order, p_limit, p_store, p_assert, p_rank}
use Rattle.pig_plan.specs.Valid.{IsPlan, are_twins, fits, is_twin, keys_write_lf, op_writes_lf}
use Rattle.pig_plan.specs.Written.{args_write_lf, block_writes_lf, links_write_lf, step_writes_lf, writes_lf}
use Rattle.pig_cuts.specs.Cuts.{NodeCut, cut_at}
use Rattle.pig_cuts.specs.Fits.{fit, fit_args, fit_item, fit_links, fit_step}
use Rattle.pig_cuts.specs.Laws.{CutPlansArePlans, FittedNodesFit}
use Rattle.pig_cuts.specs.Plans.{IsCutUpTo, fit_block, fit_keyed, fit_node, fit_op, staying}
use Rattle.pig_cuts.proofs.LeftNodes.{node_fitted}
use Rattle.pig_cuts.proofs.LiveCuts.{each_from}
use Rattle.pig_cuts.proofs.PlanKinds.{gives, inputs_left}

-- ---- texts that are written out

module _ (cuts : ℕ → NodeCut) (own : NodeCut) where
  mutual
    fit_writes : (e : Typed) → writes_lf (fit cuts own e) ≡ writes_lf e
    fit_writes x_null = refl
    fit_writes (x_bool b) = refl
    fit_writes (x_int z) = refl
    fit_writes (x_long z) = refl
    fit_writes (x_chars text) = refl
    fit_writes (x_field n) = refl
    fit_writes (x_local n) = refl
    fit_writes (x_chain first links) = λ d. fit_writes first d || links_write links d
    fit_writes (x_compare r a b) = λ d. fit_writes a d || fit_writes b d
    fit_writes (x_is_null a negated) = fit_writes a
    fit_writes (x_not a) = fit_writes a
    fit_writes (x_minus a) = fit_writes a
    fit_writes (x_choose test a b) = λ d. fit_writes test d || fit_writes a d || fit_writes b d
    fit_writes (x_cast to a) = fit_writes a
    fit_writes (x_project a columns single) = fit_writes a
    fit_writes (x_look a key) = fit_writes a
    fit_writes (x_call function args) = args_write args

    links_write : (links : TypedLinks) → links_write_lf (fit_links cuts own links) ≡ links_write_lf links
    links_write no_links = refl
    links_write (more_links operator a links) = λ d. fit_writes a d || links_write links d

    args_write : (args : TypedArgs) → args_write_lf (fit_args cuts own args) ≡ args_write_lf args
    args_write no_args = refl
    args_write (more_args e args) = λ d. fit_writes e d || args_write args d

  step_writes : (s : TypedStep) → step_writes_lf (fit_step cuts own s) ≡ step_writes_lf s
  step_writes (s_filter from c) = ap (λ b. b || writes_lf c) (fit_writes from)
  step_writes (s_order from keys) = fit_writes from
  step_writes (s_limit from count) = fit_writes from
  step_writes (s_distinct from) = fit_writes from
  step_writes (s_take from) = fit_writes from

any_fitted : {X : Type 0} (f : X → X) (test : X → Bool) → ((x : X) → test (f x) ≡ test x) → (xs : List X) → list_any test (map f xs) ≡ list_any test xs
any_fitted f test same [] = refl
any_fitted f test same (x ∷ xs) = λ d. same x d || any_fitted f test same xs d

either_none : (a b : Bool) → (a || b) ≡ false → (a ≡ false) × (b ≡ false)
either_none false b h = (refl, h)
either_none true b h = absurd (true≢false h)

-- of the elements that stay none passes where none did
none_stays : {X : Type 0} (test : X → Bool) (marks : List Bool) (xs : List X) → list_any test xs ≡ false → list_any test (staying marks xs) ≡ false
none_stays test [] xs h = h
none_stays test (mark ∷ marks) [] h = refl
none_stays test (true ∷ marks) (x ∷ xs) h =
    let both = either_none (test x) (list_any test xs) h in
    ap (λ b. b || list_any test (staying marks xs)) both.0 ∙ none_stays test marks xs both.1
none_stays test (false ∷ marks) (x ∷ xs) h = none_stays test marks xs (either_none (test x) (list_any test xs) h).1

module _ (cuts : ℕ → NodeCut) (marks : List Bool) where
  block_writes : (own : NodeCut) (block : TypedBlock) → block_writes_lf block ≡ false → block_writes_lf (fit_block cuts own marks block) ≡ false
  block_writes own block h =
      let both = either_none (list_any step_writes_lf block.steps) (list_any (λ item. writes_lf item.value) block.items) h in
      ap (λ b. b || list_any (λ item. writes_lf item.value) (map (fit_item cuts own) (staying marks block.items))) (any_fitted (fit_step cuts own) step_writes_lf (step_writes cuts own) block.steps ∙ both.0)
      ∙ any_fitted (fit_item cuts own) (λ item. writes_lf item.value) (λ item. fit_writes cuts own item.value) (staying marks block.items)
      ∙ none_stays (λ item. writes_lf item.value) marks block.items both.1

  keyed_write : (inputs : List Keyed) → keys_write_lf (map (fit_keyed cuts) inputs) ≡ keys_write_lf inputs
  keyed_write inputs = any_fitted (fit_keyed cuts) (λ i. list_any writes_lf i.keys) (λ i. any_fitted (fit cuts (cuts i.input)) writes_lf (fit_writes cuts (cuts i.input)) i.keys) inputs

  op_writes : (o : PlanOp) → op_writes_lf o ≡ false → op_writes_lf (fit_op cuts marks o) ≡ false
  op_writes (p_load path delim columns) h = refl
  op_writes (p_filter i c) h = fit_writes cuts (cuts i) c ∙ h
  op_writes (p_foreach i block) h = block_writes (cuts i) block h
  op_writes (p_group_all i) h = refl
  op_writes (p_group inputs) h = keyed_write inputs ∙ h
  op_writes (p_join inputs s replicated) h = keyed_write inputs ∙ h
  op_writes (p_union ns) h = refl
  op_writes (p_distinct i) h = refl
  op_writes (p_order i keys) h = refl
  op_writes (p_limit i count) h = refl
  op_writes (p_store i path delim) h = refl
  op_writes (p_assert i c message) h = fit_writes cuts (cuts i) c ∙ h
  op_writes (p_rank i keys dense) h = refl

-- ---- twins

module _ (cuts : ℕ → NodeCut) (marks others : List Bool) where
  limit_twins : (j n : ℕ) (o : PlanOp) → are_twins (p_limit j n) (fit_op cuts others o) ≡ are_twins (p_limit j n) o
  limit_twins j n (p_load path delim columns) = refl
  limit_twins j n (p_filter i c) = refl
  limit_twins j n (p_foreach i block) = refl
  limit_twins j n (p_group_all i) = refl
  limit_twins j n (p_group inputs) = refl
  limit_twins j n (p_join inputs s replicated) = refl
  limit_twins j n (p_union ns) = refl
  limit_twins j n (p_distinct i) = refl
  limit_twins j n (p_order i keys) = refl
  limit_twins j n (p_limit i count) = refl
  limit_twins j n (p_store i path delim) = refl
  limit_twins j n (p_assert i c message) = refl
  limit_twins j n (p_rank i keys dense) = refl

  assert_twins : (j : ℕ) (c d : Typed) (text : Option (List ℕ)) (o : PlanOp) → are_twins (p_assert j c text) (fit_op cuts others o) ≡ are_twins (p_assert j d text) o
  assert_twins j d e text (p_load path delim columns) = refl
  assert_twins j d e text (p_filter i c) = refl
  assert_twins j d e text (p_foreach i block) = refl
  assert_twins j d e text (p_group_all i) = refl
  assert_twins j d e text (p_group inputs) = refl
  assert_twins j d e text (p_join inputs s replicated) = refl
  assert_twins j d e text (p_union ns) = refl
  assert_twins j d e text (p_distinct i) = refl
  assert_twins j d e text (p_order i keys) = refl
  assert_twins j d e text (p_limit i count) = refl
  assert_twins j d e text (p_store i path delim) = refl
  assert_twins j d e text (p_assert i c message) = refl
  assert_twins j d e text (p_rank i keys dense) = refl

  twins_same : (a b : PlanOp) → are_twins (fit_op cuts marks a) (fit_op cuts others b) ≡ are_twins a b
  twins_same (p_load path delim columns) b = refl
  twins_same (p_filter i c) b = refl
  twins_same (p_foreach i block) b = refl
  twins_same (p_group_all i) b = refl
  twins_same (p_group inputs) b = refl
  twins_same (p_join inputs s replicated) b = refl
  twins_same (p_union ns) b = refl
  twins_same (p_distinct i) b = refl
  twins_same (p_order i keys) b = refl
  twins_same (p_limit i count) b = limit_twins i count b
  twins_same (p_store i path delim) b = refl
  twins_same (p_assert i c message) b = assert_twins i (fit cuts (cuts i) c) c message b
  twins_same (p_rank i keys dense) b = refl

any_beside : (test was : PlanNode → Bool) (xs ys : Plan) → Each (λ v w. test w ≡ was v) xs ys → list_any test ys ≡ list_any was xs
any_beside test was [] [] h = refl
any_beside test was [] (y ∷ ys) h = absurd h
any_beside test was (x ∷ xs) [] h = absurd h
any_beside test was (x ∷ xs) (y ∷ ys) h = λ d. h.0 d || any_beside test was xs ys h.1 d

-- ---- the next node

not_is : (b : Bool) → not b ≡ true → b ≡ false
not_is true h = absurd (true≢false (sym h))
not_is false h = refl

pub fitted_nodes_fit : FittedNodesFit
fitted_nodes_fit marks cuts p q valid valid_q end cut v stands may =
    let within : end < length p = slice_get_within p end v stands in
    let w : PlanNode = fit_node marks cuts end v in
    let fitting : fits (take end p) v ≡ true = valid end v stands in
    let outer = and_parts (is_some (node_gives (kinds_at (take end p)) v.op) && not (op_writes_lf v.op)) (not (list_any (is_twin v) (take end p))) fitting in
    let inner = and_parts (is_some (node_gives (kinds_at (take end p)) v.op)) (not (op_writes_lf v.op)) outer.0 in
    let given = gives p valid end v stands in
    let made =
    node_fitted (cut_at cuts) (width_at p) (kinds_at p) (kinds_at q) (marks end) v.op may
    (inputs_left marks cuts p q valid valid_q end (omega (arith, within)) cut.each end v (omega (arith)) stands) given.given given.is in
    let long : length (take end p) ≡ end = length-take-le end p (omega (arith, within)) in
    let size = cut.size in
    let beside : Each (λ u x. is_twin w x ≡ is_twin v u) (take end p) q =
    each_from (λ u x. is_twin w x ≡ is_twin v u) (take end p) q (size ∙ sym long)
    (λ k u at.
    let inside : k < length (take end p) = slice_get_within (take end p) k u at in
    let low : k < end = omega (arith, inside, long) in
    let there : slice_get p k ≡ Some u = ap (λ nodes. slice_get nodes k) (sym (take-append-drop end p)) ∙ get-front (take end p) (drop end p) k inside ∙ at in
    (fit_node marks cuts k u, (cut.each k u low there).stands, ap (λ b. b && (u.statement == v.statement)) (twins_same (cut_at cuts) (marks end) (marks k) v.op u.op))) in
    and_from (is_some (node_gives (kinds_at q) w.op) && not (op_writes_lf w.op)) (not (list_any (is_twin w) q))
    (and_from (is_some (node_gives (kinds_at q) w.op)) (not (op_writes_lf w.op)) (ap is_some made.is) (ap not (op_writes (cut_at cuts) (marks end) v.op (not_is (op_writes_lf v.op) inner.1))))
    (ap not (any_beside (is_twin w) (is_twin v) (take end p) q beside) ∙ outer.1)

-- ---- the plan so far

module _ (marks : ℕ → List Bool) (cuts : List NodeCut) (p q : Plan) (valid : IsPlan p) (end : ℕ) (within : end ≤ length p) (cut : IsCutUpTo marks cuts p q end) where
  -- the first nodes are cut as well
  first_cut : (k : ℕ) → k ≤ end → IsCutUpTo marks cuts p (take k q) k
  first_cut k low =
      let size = cut.size in
      let long : length (take k q) ≡ k = length-take-le k q (omega (arith, low, size)) in
      record {
        size = long;
        each = λ j v less stands.
            let c = cut.each j v (omega (arith, less, low)) stands in
            record { own = c.own; may = c.may; stands = sym (get-front (take k q) (drop k q) j (omega (arith, less, long))) ∙ ap (λ nodes. slice_get nodes j) (take-append-drop k q) ∙ c.stands };
      }

  plans_to : (k : ℕ) → k ≤ end → IsPlan (take k q)
  plans_to zero low = λ k w at. absurd (none-some w at)
  plans_to (suc k) low =
      let before : IsPlan (take k q) = plans_to k (omega (arith, low)) in
      let found = some_at p k (omega (arith, low, within)) in
      let c = cut.each k found.0 (omega (arith, low)) found.1 in
      let next : suc k ≡ k + 1 = omega arith in
      subst IsPlan (sym (ap (λ n. take n q) next ∙ more_taken q k (fit_node marks cuts k found.0) c.stands))
      (grows (take k q) (fit_node marks cuts k found.0) before
      (fitted_nodes_fit marks cuts p (take k q) valid before k (first_cut k (omega (arith, low))) found.0 found.1 c.may))

pub cut_plans_are_plans : CutPlansArePlans
cut_plans_are_plans marks cuts p q valid end within cut =
    let size = cut.size in
    subst IsPlan (take_all end q (omega (arith, size))) (plans_to marks cuts p q valid end within cut end (omega arith))
