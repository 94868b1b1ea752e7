-- A cut plan has the live nodes of the plan, and its bare LIMITs, STOREs and ASSERTs at their numbers.
use Rattle.std.specs.Prelude.{◌≡◌, ◌<◌, ◌+◌, ◌&&◌, ◌||◌, ◌==◌, ℕ, suc, zero, Bool, true, false, List, [], ◌∷◌, map, length, drop, Option, Some, None, slice_get, refl}
use Rattle.std.specs.List.{cons_option, filter, filter_map, list_any, range_with_len}
use Rattle.std.specs.Option.{option_map_or}
use Rattle.std.proofs.Common.{ap, sym, ◌∙◌, subst, arith, cond}
use Rattle.std.proofs.lemmas.Option.{none-some, slice_get_within}
use Rattle.pig_value.proofs.list_laws.Indexing.{some_at}
use Rattle.pig_value.proofs.list_laws.Listing.{each_weaker, some_same}
use Rattle.pig_value.specs.Elementwise.{Each}
use Rattle.pig_typed.specs.Typed.{Typed}
use Rattle.pig_plan.proofs.Lower.{names_lower}
use Rattle.pig_plan.specs.Nodes.{bare_limits, inputs_of, is_bare, is_live, is_sorted, is_store, is_used, live}
use Rattle.pig_plan.specs.Plans.{Plan, PlanNode, PlanOp, p_load, p_filter, p_foreach, p_group_all, p_group, p_join, p_union, p_distinct, p_order, p_limit, p_store, p_assert, p_rank}
use Rattle.pig_plan.specs.Valid.{IsPlan}
use Rattle.pig_cuts.specs.Cuts.{NodeCut, cut_at}
use Rattle.pig_cuts.specs.Fits.{fit}
use Rattle.pig_cuts.specs.Plans.{IsCutBy, fit_op}
use Rattle.pig_cuts.proofs.PlanRows.{fitted, sorted_same}
use Rattle.pig_cuts.proofs.Structure.{fit_bare, fit_inputs, fit_store}

-- ---- nodes that name the same

-- as to liveness two nodes are alike that name the same and store alike
pub record AreAlike (v w : PlanNode) : Type 0 where
  pub inputs : inputs_of w.op ≡ inputs_of v.op
  pub stores : is_store w.op ≡ is_store v.op

pub each_from : (P : PlanNode → PlanNode → Type 0) (xs ys : Plan) → length ys ≡ length xs → ((k : ℕ) (v : PlanNode) → slice_get xs k ≡ Some v → (w : PlanNode) × (slice_get ys k ≡ Some w) × P v w) → Each P xs ys
each_from P [] [] e h = tt
each_from P [] (y ∷ ys) e h = absurd (omega (arith, e))
each_from P (x ∷ xs) [] e h = absurd (omega (arith, e))
each_from P (x ∷ xs) (y ∷ ys) e h =
    let first = h 0 x refl in
    (subst (P x) (sym (some_same y first.0 first.1)) first.2, each_from P xs ys (omega (arith, e)) (λ k v at. h (suc k) v at))

each_dropped : (n : ℕ) (xs ys : Plan) → Each AreAlike xs ys → Each AreAlike (drop n xs) (drop n ys)
each_dropped zero xs ys h = h
each_dropped (suc n) [] [] h = tt
each_dropped (suc n) [] (y ∷ ys) h = absurd h
each_dropped (suc n) (x ∷ xs) [] h = absurd h
each_dropped (suc n) (x ∷ xs) (y ∷ ys) h = each_dropped n xs ys h.1

used_same : (i n : ℕ) (xs ys : Plan) → Each AreAlike xs ys → is_used i n ys ≡ is_used i n xs
used_same i n [] [] h = refl
used_same i n [] (y ∷ ys) h = absurd h
used_same i n (x ∷ xs) [] h = absurd h
used_same i n (x ∷ xs) (y ∷ ys) h =
    λ d. (list_any (λ j. j == i) (h.0.inputs d) && (h.0.stores d || used_same n (n + 1) xs ys h.1 d)) || used_same i (n + 1) xs ys h.1 d

one_same : (o p : Option PlanNode) → (used was : Bool) → used ≡ was → ((v : PlanNode) → p ≡ Some v → (w : PlanNode) × (o ≡ Some w) × AreAlike v w) → (p ≡ None → o ≡ None)
    → option_map_or (λ node. is_store node.op || used) o false ≡ option_map_or (λ node. is_store node.op || was) p false
one_same o None used was e some none = ap (λ x. option_map_or (λ node. is_store node.op || used) x false) (none refl)
one_same o (Some v) used was e some none =
    let found = some v refl in
    ap (λ x. option_map_or (λ node. is_store node.op || used) x false) found.1 ∙ (λ d. found.2.stores d || e d)

none_at : (xs ys : Plan) (k : ℕ) → length ys ≡ length xs → slice_get xs k ≡ None → slice_get ys k ≡ None
none_at xs ys k e h = by_found (slice_get ys k) refl
  where
    by_found : (o : Option PlanNode) → slice_get ys k ≡ o → slice_get ys k ≡ None
    by_found None g = g
    by_found (Some w) g =
        let within = slice_get_within ys k w g in
        let found = some_at xs k (omega (arith, within, e)) in
        absurd (none-some found.0 (sym h ∙ found.1))

-- ---- ends

-- a LIMIT or a STORE
abbrev pub as_end : PlanOp → Option PlanOp
as_end (p_limit i count) = Some (p_limit i count)
as_end (p_store i path delim) = Some (p_store i path delim)
as_end o = None

end_form : (o e : PlanOp) → as_end o ≡ Some e → o ≡ e
end_form (p_limit i count) e h = some_same (p_limit i count) e h
end_form (p_store i path delim) e h = some_same (p_store i path delim) e h
end_form (p_load path delim columns) e h = absurd (none-some e h)
end_form (p_filter i c) e h = absurd (none-some e h)
end_form (p_foreach i block) e h = absurd (none-some e h)
end_form (p_group_all i) e h = absurd (none-some e h)
end_form (p_group inputs) e h = absurd (none-some e h)
end_form (p_join inputs s replicated) e h = absurd (none-some e h)
end_form (p_union ns) e h = absurd (none-some e h)
end_form (p_distinct i) e h = absurd (none-some e h)
end_form (p_order i keys) e h = absurd (none-some e h)
end_form (p_assert i c message) e h = absurd (none-some e h)
end_form (p_rank i keys dense) e h = absurd (none-some e h)

module _ (cuts : ℕ → NodeCut) (marks : List Bool) where
  fit_end : (o : PlanOp) → as_end (fit_op cuts marks o) ≡ as_end o
  fit_end (p_load path delim columns) = refl
  fit_end (p_filter i c) = refl
  fit_end (p_foreach i block) = refl
  fit_end (p_group_all i) = refl
  fit_end (p_group inputs) = refl
  fit_end (p_join inputs s replicated) = refl
  fit_end (p_union ns) = refl
  fit_end (p_distinct i) = refl
  fit_end (p_order i keys) = refl
  fit_end (p_limit i count) = refl
  fit_end (p_store i path delim) = refl
  fit_end (p_assert i c message) = refl
  fit_end (p_rank i keys dense) = refl

  -- what is fitted to a LIMIT or a STORE was this LIMIT or STORE
  pub end_was : (o e : PlanOp) → as_end e ≡ Some e → fit_op cuts marks o ≡ e → o ≡ e
  end_was o e own h = end_form o e (sym (fit_end o) ∙ ap as_end h ∙ own)

  -- what is fitted to an ASSERT was one of the same input and message
  pub record WasAssert (o : PlanOp) (i : ℕ) (c : Typed) (message : Option (List ℕ)) : Type 0 where
    pub was : Typed
    pub op_is : o ≡ p_assert i was message
    pub fits : c ≡ fit cuts (cuts i) was

  abbrev parts : PlanOp → Option (ℕ × Typed × Option (List ℕ))
  parts (p_assert i c message) = Some (i, c, message)
  parts o = None

  pub assert_was : (o : PlanOp) (i : ℕ) (c : Typed) (message : Option (List ℕ)) → fit_op cuts marks o ≡ p_assert i c message → WasAssert o i c message
  assert_was (p_assert j d text) i c message h =
      let same : (j, fit cuts (cuts j) d, text) ≡ (i, c, message) = some_same (j, fit cuts (cuts j) d, text) (i, c, message) (ap parts h) in
      record { was = d; op_is = λ n. p_assert ((same n).0) d ((same n).2); fits = ap (λ x. x.1) (sym same) ∙ ap (λ x. fit cuts (cuts x.0) d) same }
  assert_was (p_load path delim columns) i c message h = absurd (none-some (i, c, message) (ap parts h))
  assert_was (p_filter j d) i c message h = absurd (none-some (i, c, message) (ap parts h))
  assert_was (p_foreach j block) i c message h = absurd (none-some (i, c, message) (ap parts h))
  assert_was (p_group_all j) i c message h = absurd (none-some (i, c, message) (ap parts h))
  assert_was (p_group inputs) i c message h = absurd (none-some (i, c, message) (ap parts h))
  assert_was (p_join inputs s replicated) i c message h = absurd (none-some (i, c, message) (ap parts h))
  assert_was (p_union ns) i c message h = absurd (none-some (i, c, message) (ap parts h))
  assert_was (p_distinct j) i c message h = absurd (none-some (i, c, message) (ap parts h))
  assert_was (p_order j keys) i c message h = absurd (none-some (i, c, message) (ap parts h))
  assert_was (p_limit j count) i c message h = absurd (none-some (i, c, message) (ap parts h))
  assert_was (p_store j path delim) i c message h = absurd (none-some (i, c, message) (ap parts h))
  assert_was (p_rank j keys dense) i c message h = absurd (none-some (i, c, message) (ap parts h))

-- ---- plans

module _ (marks : ℕ → List Bool) (cuts : List NodeCut) (p q : Plan) (valid : IsPlan p) (valid_q : IsPlan q) (cut : IsCutBy marks cuts p q) where
  abbrev node_at : ℕ → PlanNode → PlanNode
  node_at k v = fitted marks cuts p q valid valid_q cut k v

  alike_at : (k : ℕ) (v : PlanNode) → slice_get p k ≡ Some v → (w : PlanNode) × (slice_get q k ≡ Some w) × AreAlike v w
  alike_at k v stands = (node_at k v, (cut.each k v stands).stands, record { inputs = fit_inputs (cut_at cuts) (marks k) v.op; stores = fit_store (cut_at cuts) (marks k) v.op })

  pub live_same : (k : ℕ) → is_live q k ≡ is_live p k
  live_same k =
      one_same (slice_get q k) (slice_get p k) (is_used k (k + 1) (drop (k + 1) q)) (is_used k (k + 1) (drop (k + 1) p))
      (used_same k (k + 1) (drop (k + 1) p) (drop (k + 1) q) (each_dropped (k + 1) p q (each_from AreAlike p q cut.size alike_at))) (alike_at k) (none_at p q k cut.size)

  -- the plan's node that a node of the cut plan is fitted from
  pub record IsFrom (k : ℕ) (w : PlanNode) : Type 0 where
    pub v : PlanNode
    pub stands : slice_get p k ≡ Some v
    pub is : w ≡ node_at k v

  pub from : (k : ℕ) (w : PlanNode) → slice_get q k ≡ Some w → IsFrom k w
  from k w there =
      let within = slice_get_within q k w there in
      let size = cut.size in
      let found = some_at p k (omega (arith, within, size)) in
      record { v = found.0; stands = found.1; is = some_same w (node_at k found.0) (sym there ∙ (cut.each k found.0 found.1).stands) }

  -- ---- bare LIMITs

  abbrev bare_q : PlanNode → Bool
  bare_q node = is_bare (is_sorted q) node.op

  abbrev bare_p : PlanNode → Bool
  bare_p node = is_bare (is_sorted p) node.op

  bare_same : (k : ℕ) (v : PlanNode) → slice_get p k ≡ Some v → bare_q (node_at k v) ≡ bare_p v
  bare_same k v stands =
      let within = slice_get_within p k v stands in
      fit_bare (cut_at cuts) (marks k) (is_sorted q) (is_sorted p) v.op
      (each_weaker (λ i. i < k) (λ i. is_sorted q i ≡ is_sorted p i) (λ i low. sorted_same marks cuts p q valid valid_q cut i (omega (arith, low, within))) (inputs_of v.op) (names_lower p valid k v stands))

  abbrev listed_q : List PlanNode → List ℕ
  listed_q nodes = map (λ node. node.statement) (filter bare_q nodes)

  abbrev listed_p : List PlanNode → List ℕ
  listed_p nodes = map (λ node. node.statement) (filter bare_p nodes)

  next_same : (b c : Bool) (w v : PlanNode) (ws vs : List PlanNode) → b ≡ c → w.statement ≡ v.statement → listed_q ws ≡ listed_p vs
      → map (λ node. node.statement) (cond b (w ∷ filter bare_q ws) (filter bare_q ws)) ≡ map (λ node. node.statement) (cond c (v ∷ filter bare_p vs) (filter bare_p vs))
  next_same b true w v ws vs e s h = ap (λ t. map (λ node. node.statement) (cond t (w ∷ filter bare_q ws) (filter bare_q ws))) e ∙ (λ d. s d ∷ h d)
  next_same b false w v ws vs e s h = ap (λ t. map (λ node. node.statement) (cond t (w ∷ filter bare_q ws) (filter bare_q ws))) e ∙ h

  listed_same : (ns : List ℕ) → listed_q (filter_map (slice_get q) ns) ≡ listed_p (filter_map (slice_get p) ns)
  listed_same [] = refl
  listed_same (n ∷ ns) = by_found (slice_get p n) refl (listed_same ns)
    where
      by_found : (o : Option PlanNode) → slice_get p n ≡ o → listed_q (filter_map (slice_get q) ns) ≡ listed_p (filter_map (slice_get p) ns)
          → listed_q (cons_option (slice_get q n) (filter_map (slice_get q) ns)) ≡ listed_p (cons_option o (filter_map (slice_get p) ns))
      by_found None e h = ap (λ x. listed_q (cons_option x (filter_map (slice_get q) ns))) (none_at p q n cut.size e) ∙ h
      by_found (Some v) e h =
          ap (λ x. listed_q (cons_option x (filter_map (slice_get q) ns))) (cut.each n v e).stands
          ∙ next_same (bare_q (node_at n v)) (bare_p v) (node_at n v) v (filter_map (slice_get q) ns) (filter_map (slice_get p) ns) (bare_same n v e) refl h

  live_is : live q ≡ live p
  live_is = λ d. filter (λ k. live_same k d) (range_with_len 0 (cut.size d))

  pub limits_same : map (λ node. node.statement) (bare_limits q) ≡ map (λ node. node.statement) (bare_limits p)
  limits_same = ap (λ ns. listed_q (filter_map (slice_get q) ns)) live_is ∙ listed_same (live p)
