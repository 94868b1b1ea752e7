-- What stands after a node, of what stood before it.
use Rattle.std.specs.Prelude.{◌≡◌, ◌≢◌, ◌<◌, ◌+◌, ◌==◌, ◌||◌, ℕ, zero, suc, Bool, true, false, not, List, [], ◌∷◌, ◌++◌, length, map, take, drop, Some, None, slice_get, get_or, if◌then◌else◌, refl}
use Rattle.std.proofs.Common.{ap, sym, subst, ◌∙◌, arith, inl, inr, true≢false}
use Rattle.std.specs.List.{AllByRecursion, cons_option, filter, filter_map, find, list_any, range_with_len}
use Rattle.std.specs.Option.{option_map_or}
use Rattle.std.proofs.lemmas.Bool.{cases_lt, eq-eqb}
use Rattle.std.proofs.lemmas.List.{append_assoc, append-nil, length-append, map-append, take_all}
use Rattle.std.proofs.lemmas.List.Elements.{filter-append, filter_map-append}
use Rattle.std.proofs.lemmas.Option.{slice_get_within}
use Rattle.pig_value.specs.declared.inputs.Input.{Input}
use Rattle.pig_value.specs.declared.outcomes.Kept.{Kept}
use Rattle.pig_value.proofs.list_laws.Indexing.{more_taken}
use Rattle.pig_value.specs.Trees.{Tree, rows_tree}
use Rattle.pig_plan.proofs.Meanings.{live_input}
use Rattle.pig_plan.proofs.Lower.{names_lower}
use Rattle.pig_plan.specs.Meaning.{AreKept, kept_at, meaning, width_at}
use Rattle.pig_plan.specs.Nodes.{inputs_of, is_bare, is_live, is_sorted, is_store, is_used, names}
use Rattle.pig_plan.specs.Plans.{Plan, PlanNode, PlanOp, p_load, p_filter, p_foreach, p_group_all, p_group, p_join, p_union, p_distinct, p_order, p_limit, p_store, p_assert, p_rank}
use Rattle.pig_plan.specs.Valid.{IsPlan}
use Rattle.pig_plain.proofs.FoundRows.{answers_node, bare_answers, first_are_kept}
use Rattle.pig_plain.proofs.PlanFacts.{names_no_store, no_twin}
use Rattle.pig_plain.proofs.Tables.{at_end, at_front}
use Rattle.pig_plain.specs.Answering.{AnswersFor, EachAnswers, IsAnswer, stored_of, stored_relations}
use Rattle.pig_plain.specs.declared.answering.Kind.{Kind}
use Rattle.pig_plain.specs.declared.answering.Kind.TheVariants.{Stored, Standing}
use Rattle.pig_plain.specs.Kinds.{kind_in, limit_kind}
use Rattle.pig_plain.specs.Coming.{relation_rows}
use Rattle.pig_plain.specs.declared.relation.Relation.{Relation}
use Rattle.pig_plain.specs.Operating.{found_rows, no_rows}
use Rattle.pig_plain.specs.SoFar.{IsSoFar, bare_before}
use Rattle.pig_plain.specs.Tables.{Held, IsUsed, and_relation, rows_of}
use Rattle.pig_plain.specs.Uses.{AreLate}

-- ---- lists

or_first : (a b : Bool) → (a || b) ≡ false → a ≡ false
or_first true b e = e
or_first false b e = refl

or_second : (a b : Bool) → (a || b) ≡ false → b ≡ false
or_second true b e = absurd (true≢false e)
or_second false b e = e

some_injective : {A : Type 0} {a b : A} → Some a ≡ Some b → a ≡ b
some_injective {A} {a} {b} e = ap (λ o. option_map_or (λ x. x) o a) e

-- what holds of each that a list names holds of each of the list
each_named : (P : ℕ → Type 0) (xs : List ℕ) → ((k : ℕ) → list_any (λ i. i == k) xs ≡ true → P k) → AllByRecursion P xs
each_named P [] h = tt
each_named P (x ∷ xs) h = (h x (ap (λ b. b || list_any (λ i. i == x) xs) (eq-eqb x x refl)), each_named P xs (λ k named. h k (ap (λ b. (x == k) || b) named ∙ or_true (x == k))))
  where
    or_true : (b : Bool) → (b || true) ≡ true
    or_true true = refl
    or_true false = refl

both_of : (P Q R : ℕ → Type 0) (xs : List ℕ) → ((k : ℕ) → P k → Q k → R k) → AllByRecursion P xs → AllByRecursion Q xs → AllByRecursion R xs
both_of P Q R [] f h g = tt
both_of P Q R (x ∷ xs) f h g = (f x h.0 g.0, both_of P Q R xs f h.1 g.1)

-- the numbers below one more
one_more : (a n : ℕ) → range_with_len a (n + 1) ≡ range_with_len a n ++ (a + n) ∷ []
one_more a zero = let e : a + 0 ≡ a = omega arith in ap (λ m. m ∷ []) (sym e)
one_more a (suc n) =
    let next : suc n + 1 ≡ suc (n + 1) = omega arith in
    let same : a + 1 + n ≡ a + suc n = omega arith in
    ap (range_with_len a) next ∙ ap (λ ms. a ∷ ms) (one_more (a + 1) n ∙ ap (λ m. range_with_len (a + 1) n ++ m ∷ []) same)

-- ---- what was stored

stored_more : (plan : Plan) (i : ℕ) (node : PlanNode) → slice_get plan i ≡ Some node → stored_relations (take (i + 1) plan) ≡ stored_relations (take i plan) ++ stored_relations (node ∷ [])
stored_more plan i node at = ap stored_relations (more_taken plan i node at) ∙ filter_map-append (λ n. stored_of n.op) (take i plan) (node ∷ [])

each_more : (plan : Plan) (inputs : List Input) (kept : List Kept) (ks : List ℕ) (rows : List (List (List Tree))) (k : ℕ) (last : List (List Tree))
    → EachAnswers plan inputs kept ks rows → AnswersFor plan inputs kept k last → EachAnswers plan inputs kept (ks ++ k ∷ []) (rows ++ last ∷ [])
each_more plan inputs kept [] [] k last h g = (g, tt)
each_more plan inputs kept [] (r ∷ rows) k last h g = absurd h
each_more plan inputs kept (j ∷ ks) [] k last h g = absurd h
each_more plan inputs kept (j ∷ ks) (r ∷ rows) k last h g = (h.0, each_more plan inputs kept ks rows k last h.1 g)

-- ---- the bare LIMITs

abbrev pub bare_of : Plan → ℕ → Plan
bare_of plan i = filter (λ node. is_bare (is_sorted plan) node.op) (filter_map (slice_get plan) (filter (is_live plan) (i ∷ [])))

bare_more : (plan : Plan) (i : ℕ) → bare_before plan (i + 1) ≡ bare_before plan i ++ bare_of plan i
bare_more plan i =
    let bare = λ (node : PlanNode). is_bare (is_sorted plan) node.op in
    let here : 0 + i ≡ i = omega arith in
    ap (λ ks. filter bare (filter_map (slice_get plan) (filter (is_live plan) ks))) (one_more 0 i ∙ ap (λ m. range_with_len 0 i ++ m ∷ []) here)
    ∙ ap (λ ks. filter bare (filter_map (slice_get plan) ks)) (filter-append (is_live plan) (range_with_len 0 i) (i ∷ []))
    ∙ ap (filter bare) (filter_map-append (slice_get plan) (filter (is_live plan) (range_with_len 0 i)) (filter (is_live plan) (i ∷ [])))
    ∙ filter-append bare (filter_map (slice_get plan) (filter (is_live plan) (range_with_len 0 i))) (filter_map (slice_get plan) (filter (is_live plan) (i ∷ [])))

bare_none : (plan : Plan) (i : ℕ) (node : PlanNode) → slice_get plan i ≡ Some node → is_bare (is_sorted plan) node.op ≡ false → bare_of plan i ≡ []
bare_none plan i node at full = by_live (is_live plan i) refl
  where
    bare : PlanNode → Bool
    bare n = is_bare (is_sorted plan) n.op

    by_live : (b : Bool) → is_live plan i ≡ b → bare_of plan i ≡ []
    by_live false e = ap (λ b. filter bare (filter_map (slice_get plan) (if b then i ∷ [] else []))) e
    by_live true e =
        ap (λ b. filter bare (filter_map (slice_get plan) (if b then i ∷ [] else []))) e
        ∙ ap (λ o. filter bare (cons_option o [])) at
        ∙ ap (λ b. if b then node ∷ [] else []) full

bare_dead : (plan : Plan) (i : ℕ) → is_live plan i ≡ false → bare_of plan i ≡ []
bare_dead plan i e = ap (λ b. filter (λ n. is_bare (is_sorted plan) n.op) (filter_map (slice_get plan) (if b then i ∷ [] else []))) e

bare_one : (plan : Plan) (i : ℕ) (node : PlanNode) → slice_get plan i ≡ Some node → is_live plan i ≡ true → is_bare (is_sorted plan) node.op ≡ true → bare_of plan i ≡ node ∷ []
bare_one plan i node at live bare =
    ap (λ b. filter (λ n. is_bare (is_sorted plan) n.op) (filter_map (slice_get plan) (if b then i ∷ [] else []))) live
    ∙ ap (λ o. filter (λ n. is_bare (is_sorted plan) n.op) (cons_option o [])) at
    ∙ ap (λ b. if b then node ∷ [] else []) bare

-- ---- what was kept

no_statement : (kept : List Kept) (statement : ℕ) → list_any (λ s. s == statement) (map (λ k. k.statement) kept) ≡ false
    → (more : List Kept) → kept_at (kept ++ more) statement ≡ kept_at more statement
no_statement [] statement h more = refl
no_statement (k ∷ kept) statement h more =
    ap (λ b. option_map_or (λ (x : Kept). rows_tree x.rows) (if b then Some k else find (λ x. x.statement == statement) (kept ++ more)) []) (or_first (k.statement == statement) _ h)
    ∙ no_statement kept statement (or_second (k.statement == statement) _ h) more
  where
    or_first : (a b : Bool) → (a || b) ≡ false → a ≡ false
    or_first true b e = e
    or_first false b e = refl

    or_second : (a b : Bool) → (a || b) ≡ false → b ≡ false
    or_second true b e = absurd (true≢false e)
    or_second false b e = e

-- ---- steps

-- a STORE stores a relation, and no other node does
unstored : (o : PlanOp) → is_store o ≡ false → stored_of o ≡ None
unstored (p_load path delim columns) h = refl
unstored (p_filter input cond) h = refl
unstored (p_foreach input block) h = refl
unstored (p_group_all input) h = refl
unstored (p_group keyed) h = refl
unstored (p_join keyed side replicated) h = refl
unstored (p_union numbers) h = refl
unstored (p_distinct input) h = refl
unstored (p_order input keys) h = refl
unstored (p_limit input count) h = refl
unstored (p_store input path delim) h = absurd (true≢false h)
unstored (p_assert input cond message) h = refl
unstored (p_rank input keys dense) h = refl

dead_store : (plan : Plan) (i : ℕ) (node : PlanNode) → slice_get plan i ≡ Some node → is_live plan i ≡ false → is_store node.op ≡ false
dead_store plan i node at dead =
    or_first (is_store node.op) (is_used i (i + 1) (drop (i + 1) plan)) (sym (ap (λ o. option_map_or (λ n. is_store n.op || is_used i (i + 1) (drop (i + 1) plan)) o false) at) ∙ dead)

-- a live node behind the one numbered i names the node
pub record IsLooked (plan : Plan) (i k : ℕ) : Type 0 where
  pub n : ℕ
  pub other : PlanNode
  pub after : i < n
  pub found : slice_get plan n ≡ Some other
  pub live : is_live plan n ≡ true
  pub named : names other.op k ≡ true

module _ (plan : Plan) (valid : IsPlan plan) (inputs : List Input) (i : ℕ) (node : PlanNode) (at : slice_get plan i ≡ Some node)
    (before : Held) (kept : List Kept) (stores : List (List (List Tree))) (so_far : IsSoFar plan inputs i before kept stores) where
  abbrev Looked : ℕ → Type 0
  Looked = IsLooked plan i

  not_last : (k : ℕ) → Looked k → get_or before.ends k 0 ≢ length before.relations + 1
  not_last k l e = let size = so_far.size in let late = so_far.late l.n k l.other (slice_get_within plan l.n l.other l.found) l.found l.live l.named in let after = l.after in absurd (omega (arith, late, e, after, size))

  unstored_more : is_store node.op ≡ false → stored_relations (take (i + 1) plan) ≡ stored_relations (take i plan)
  unstored_more h =
      stored_more plan i node at ∙ ap (λ o. stored_relations (take i plan) ++ cons_option o []) (unstored node.op h) ∙ append-nil (stored_relations (take i plan))

  module _ (next : Held) (new : List Kept) (stored : List (List (List Tree))) (size : length next.relations ≡ i + 1) (ends : next.ends ≡ before.ends)
      (front : (k : ℕ) → k < i → Looked k → rows_of next k ≡ rows_of before k)
      (own : (more : List Kept) → Looked i → AnswersFor plan inputs (kept ++ (new ++ more)) i (rows_of next i))
      (each_stored : (more : List Kept) → EachAnswers plan inputs (kept ++ (new ++ more)) (stored_relations (take (i + 1) plan)) stored)
      (limit : (more : List Kept) (statement input count : ℕ) → node ≡ record { op = p_limit input count; statement = statement } → is_live plan i ≡ true → is_sorted plan input ≡ false
      → AreKept count (meaning plan inputs (kept ++ (new ++ more)) input) (kept_at (kept ++ (new ++ more)) statement))
      (entries : map (λ k. k.statement) (kept ++ new) ≡ map (λ n. n.statement) (bare_before plan i ++ bare_of plan i)) where
    behind : (more : List Kept) → (kept ++ new) ++ more ≡ kept ++ (new ++ more)
    behind more = append_assoc kept new more

    pub advance : IsSoFar plan inputs (i + 1) next (kept ++ new) stored
    advance = record {
      size = size;
      late = subst (AreLate plan (length plan)) (sym ends) so_far.late;
      each = λ more k n other below from found live named.
          let looked : Looked k = record { n = n; other = other; after = omega (arith, from); found = found; live = live; named = named } in
          subst (λ all. AnswersFor plan inputs all k (rows_of next k)) (sym (behind more)) (elim (cases_lt k i) [
            | inl earlier ↦ subst (AnswersFor plan inputs (kept ++ (new ++ more)) k) (sym (front k earlier looked)) (so_far.each (new ++ more) k n other earlier (omega (arith, from)) found live named)
            | inr late ↦
                let same : i ≡ k = omega (arith, below, late) in
                subst (λ m. AnswersFor plan inputs (kept ++ (new ++ more)) m (rows_of next m)) same (own more (subst Looked (sym same) looked))
          ]);
      stored = λ more. subst (λ all. EachAnswers plan inputs all (stored_relations (take (i + 1) plan)) stored) (sym (behind more)) (each_stored more);
      limits = λ more k statement input count below stands live unsorted.
          subst (λ all. AreKept count (meaning plan inputs all input) (kept_at all statement)) (sym (behind more)) (elim (cases_lt k i) [
            | inl earlier ↦ so_far.limits (new ++ more) k statement input count earlier stands live unsorted
            | inr late ↦
                let same : i ≡ k = omega (arith, below, late) in
                limit more statement input count (some_injective (sym at ∙ ap (slice_get plan) same ∙ stands)) (ap (is_live plan) same ∙ live) unsorted
          ]);
      entries = entries ∙ sym (ap (map (λ n. n.statement)) (bare_more plan i));
    }

  -- a dead node is looked at by none
  pub dead_step : is_live plan i ≡ false → IsSoFar plan inputs (i + 1) (and_relation no_rows before) kept stores
  dead_step dead =
      let none : bare_of plan i ≡ [] = bare_dead plan i dead in
      subst (λ ks. IsSoFar plan inputs (i + 1) (and_relation no_rows before) ks stores) (append-nil kept)
      (advance (and_relation no_rows before) [] stores (length-append before.relations (no_rows ∷ []) ∙ ap (λ n. n + 1) so_far.size) refl
      (λ k below l. at_front before.relations no_rows k (let s = so_far.size in omega (arith, below, s)))
      (λ more l. absurd (true≢false (sym (live_input plan l.n l.other l.found l.live i l.after node at l.named) ∙ dead)))
      (λ more. subst (λ ks. EachAnswers plan inputs (kept ++ more) ks stores) (sym (unstored_more (dead_store plan i node at dead))) (so_far.stored more))
      (λ more statement input count is live unsorted. absurd (true≢false (sym live ∙ dead)))
      (ap (map (λ k. k.statement)) (append-nil kept) ∙ so_far.entries ∙ sym (ap (map (λ n. n.statement)) (ap (λ ns. bare_before plan i ++ ns) none ∙ append-nil (bare_before plan i)))))

  -- the rows of a live node, found on the rows of the nodes before
  module _ (live : is_live plan i ≡ true) (after : Held) (used : IsUsed before after)
      (rows : Relation) (is : relation_rows rows ≡ found_rows inputs (width_at plan) node.op (rows_of before)) where
    inputs_answer : (more : List Kept) → AllByRecursion (λ k. AnswersFor plan inputs (kept ++ more) k (rows_of before k)) (inputs_of node.op)
    inputs_answer more =
        both_of (λ k. k < i) (λ k. names node.op k ≡ true) (λ k. AnswersFor plan inputs (kept ++ more) k (rows_of before k)) (inputs_of node.op)
        (λ k below named. so_far.each more k i node below (omega arith) at live named) (names_lower plan valid i node at) (each_named (λ k. names node.op k ≡ true) (inputs_of node.op) (λ k h. h))

    longer : (last : Relation) → length (after.relations ++ last ∷ []) ≡ i + 1
    longer last = length-append after.relations (last ∷ []) ∙ ap (λ n. n + 1) (used.size ∙ so_far.size)

    end : length after.relations ≡ i
    end = used.size ∙ so_far.size

    front : (last : Relation) (k : ℕ) → k < i → Looked k → rows_of (and_relation last after) k ≡ rows_of before k
    front last k below l = at_front after.relations last k (omega (arith, below, end)) ∙ used.later k (not_last k l)

    -- most nodes: their rows stand for later nodes
    pub live_step : is_store node.op ≡ false → is_bare (is_sorted plan) node.op ≡ false → IsSoFar plan inputs (i + 1) (and_relation rows after) kept stores
    live_step kind full =
        let none : bare_of plan i ≡ [] = bare_none plan i node at full in
        subst (λ ks. IsSoFar plan inputs (i + 1) (and_relation rows after) ks stores) (append-nil kept)
        (advance (and_relation rows after) [] stores (longer rows) used.ends (front rows)
        (λ more l. subst (AnswersFor plan inputs (kept ++ more) i) (sym (at_end after.relations rows i end))
        (answers_node plan valid i node at inputs (kept ++ more) (rows_of before) (relation_rows rows) is (inputs_answer more) full))
        (λ more. subst (λ ks. EachAnswers plan inputs (kept ++ more) ks stores) (sym (unstored_more kind)) (so_far.stored more))
        (λ more statement input count same alive unsorted.
        absurd (true≢false (sym (ap not unsorted) ∙ sym (ap (λ n. is_bare (is_sorted plan) n.op) same) ∙ full)))
        (ap (map (λ k. k.statement)) (append-nil kept) ∙ so_far.entries ∙ sym (ap (map (λ n. n.statement)) (ap (λ ns. bare_before plan i ++ ns) none ∙ append-nil (bare_before plan i)))))

    -- a STORE: its rows are stored, and no node looks at it
    pub store_step : (input : ℕ) (path : List ℕ) (delim : ℕ) → node.op ≡ p_store input path delim → IsSoFar plan inputs (i + 1) (and_relation no_rows after) kept (stores ++ relation_rows rows ∷ [])
    store_step input path delim kind =
        let full : is_bare (is_sorted plan) node.op ≡ false = ap (is_bare (is_sorted plan)) kind in
        let none : bare_of plan i ≡ [] = bare_none plan i node at full in
        let relations : stored_relations (take (i + 1) plan) ≡ stored_relations (take i plan) ++ input ∷ [] =
        stored_more plan i node at ∙ ap (λ o. stored_relations (take i plan) ++ cons_option (stored_of o) []) kind in
        let found : relation_rows rows ≡ rows_of before input = is ∙ ap (λ o. found_rows inputs (width_at plan) o (rows_of before)) kind in
        subst (λ ks. IsSoFar plan inputs (i + 1) (and_relation no_rows after) ks (stores ++ relation_rows rows ∷ [])) (append-nil kept)
        (advance (and_relation no_rows after) [] (stores ++ relation_rows rows ∷ []) (longer no_rows) used.ends (front no_rows)
        (λ more l. absurd (unlooked input path delim kind l))
        (λ more.
        let source : AnswersFor plan inputs (kept ++ more) input (rows_of before input) =
        (subst (λ o. AllByRecursion (λ k. AnswersFor plan inputs (kept ++ more) k (rows_of before k)) (inputs_of o)) kind (inputs_answer more)).0 in
        subst (λ ks. EachAnswers plan inputs (kept ++ more) ks (stores ++ relation_rows rows ∷ [])) (sym relations)
        (each_more plan inputs (kept ++ more) (stored_relations (take i plan)) stores input (relation_rows rows) (so_far.stored more) (subst (AnswersFor plan inputs (kept ++ more) input) (sym found) source)))
        (λ more statement from count same alive unsorted. absurd (no_limit input path delim from count (sym kind ∙ ap (λ n. n.op) same)))
        (ap (map (λ k. k.statement)) (append-nil kept) ∙ so_far.entries ∙ sym (ap (map (λ n. n.statement)) (ap (λ ns. bare_before plan i ++ ns) none ∙ append-nil (bare_before plan i)))))
      where
        no_limit : (input : ℕ) (path : List ℕ) (delim from count : ℕ) → p_store input path delim ≡ p_limit from count → ⊥
        no_limit input path delim from count e = true≢false (ap is_store e)

        -- no node names a STORE, since a STORE has no kinds
        unlooked : (input : ℕ) (path : List ℕ) (delim : ℕ) → node.op ≡ p_store input path delim → Looked i → ⊥
        unlooked input path delim kind l = names_no_store plan valid i node at (ap is_store kind) l.n l.other l.after l.found l.named

    -- a bare LIMIT: the first rows are kept
    pub keep_step : (k : Kept) (input count : ℕ) → node.op ≡ p_limit input count → is_sorted plan input ≡ false → k.statement ≡ node.statement → rows_tree k.rows ≡ relation_rows rows
        → IsSoFar plan inputs (i + 1) (and_relation rows after) (kept ++ k ∷ []) stores
    keep_step k input count kind unsorted statement same =
        let whole : slice_get plan i ≡ Some (record { op = p_limit input count; statement = node.statement }) = at ∙ (λ j. Some (record { op = kind j; statement = node.statement })) in
        let bare : is_bare (is_sorted plan) node.op ≡ true = ap (is_bare (is_sorted plan)) kind ∙ ap not unsorted in
        let one : bare_of plan i ≡ node ∷ [] = bare_one plan i node at live bare in
        let found : relation_rows rows ≡ take count (rows_of before input) = is ∙ ap (λ o. found_rows inputs (width_at plan) o (rows_of before)) kind in
        let kept_rows : (more : List Kept) → kept_at (kept ++ (k ∷ more)) node.statement ≡ relation_rows rows =
        λ more. no_statement kept node.statement (new_statement kind) (k ∷ more)
        ∙ ap (λ b. option_map_or (λ (x : Kept). rows_tree x.rows) (if b then Some k else find (λ x. x.statement == node.statement) more) []) (eq-eqb k.statement node.statement statement) ∙ same in
        advance (and_relation rows after) (k ∷ []) stores (longer rows) used.ends (front rows)
        (λ more l. subst (AnswersFor plan inputs (kept ++ (k ∷ more)) i) (kept_rows more ∙ sym (at_end after.relations rows i end))
        (bare_answers plan valid inputs (kept ++ (k ∷ more)) i node.statement input count whole unsorted))
        (λ more. subst (λ ks. EachAnswers plan inputs (kept ++ (k ∷ more)) ks stores) (sym (unstored_more (ap is_store kind))) (so_far.stored (k ∷ more)))
        (λ more number from most is_node alive un.
        let ops : p_limit input count ≡ p_limit from most = sym kind ∙ ap (λ n. n.op) is_node in
        let source : AnswersFor plan inputs (kept ++ (k ∷ more)) input (rows_of before input) =
        (subst (λ o. AllByRecursion (λ j. AnswersFor plan inputs (kept ++ (k ∷ more)) j (rows_of before j)) (inputs_of o)) kind (inputs_answer (k ∷ more))).0 in
        let are : AreKept count (meaning plan inputs (kept ++ (k ∷ more)) input) (take count (rows_of before input)) =
        first_are_kept count (rows_of before input) (meaning plan inputs (kept ++ (k ∷ more)) input) source.bag in
        let said : AreKept count (meaning plan inputs (kept ++ (k ∷ more)) input) (kept_at (kept ++ (k ∷ more)) node.statement) =
        subst (AreKept count (meaning plan inputs (kept ++ (k ∷ more)) input)) (sym (kept_rows more ∙ found)) are in
        subst (λ (n : ℕ × ℕ × ℕ). AreKept n.0 (meaning plan inputs (kept ++ (k ∷ more)) n.1) (kept_at (kept ++ (k ∷ more)) n.2))
        (λ j. (count_of (ops j), input_of (ops j), (is_node j).statement)) said)
        (map-append (λ x. x.statement) kept (k ∷ []) ∙ (λ j. so_far.entries j ++ statement j ∷ [])
        ∙ sym (ap (map (λ n. n.statement)) (ap (λ ns. bare_before plan i ++ ns) one) ∙ map-append (λ n. n.statement) (bare_before plan i) (node ∷ [])))
      where
        count_of : PlanOp → ℕ
        count_of (p_limit input count) = count
        count_of o = 0

        input_of : PlanOp → ℕ
        input_of (p_limit input count) = input
        input_of o = 0

        -- no LIMIT before has this statement
        new_statement : node.op ≡ p_limit input count → list_any (λ s. s == node.statement) (map (λ k. k.statement) kept) ≡ false
        new_statement kind =
            ap (list_any (λ s. s == node.statement)) so_far.entries ∙ no_twin plan valid i node at input count kind

-- ---- kinds of nodes

pub stored_kind : (sorted : ℕ → Bool) (o : PlanOp) → kind_in sorted o ≡ Stored → (input : ℕ) × (path : List ℕ) × (delim : ℕ) × (o ≡ p_store input path delim)
stored_kind sorted (p_load path delim columns) h = absurd (cc)
stored_kind sorted (p_filter input cond) h = absurd (cc)
stored_kind sorted (p_foreach input block) h = absurd (cc)
stored_kind sorted (p_group_all input) h = absurd (cc)
stored_kind sorted (p_group keyed) h = absurd (cc)
stored_kind sorted (p_join keyed side replicated) h = absurd (cc)
stored_kind sorted (p_union numbers) h = absurd (cc)
stored_kind sorted (p_distinct input) h = absurd (cc)
stored_kind sorted (p_order input keys) h = absurd (cc)
stored_kind sorted (p_limit input count) h = by_sorted (sorted input) h
  where
    by_sorted : {A : Type 0} (b : Bool) → limit_kind b ≡ Stored → A
    by_sorted true e = absurd (cc)
    by_sorted false e = absurd (cc)
stored_kind sorted (p_store input path delim) h = (input, path, delim, refl)
stored_kind sorted (p_assert input cond message) h = absurd (cc)
stored_kind sorted (p_rank input keys dense) h = absurd (cc)

pub kept_kind : (sorted : ℕ → Bool) (o : PlanOp) → kind_in sorted o ≡ Kind.Kept → (input : ℕ) × (count : ℕ) × (o ≡ p_limit input count) × (sorted input ≡ false)
kept_kind sorted (p_load path delim columns) h = absurd (cc)
kept_kind sorted (p_filter input cond) h = absurd (cc)
kept_kind sorted (p_foreach input block) h = absurd (cc)
kept_kind sorted (p_group_all input) h = absurd (cc)
kept_kind sorted (p_group keyed) h = absurd (cc)
kept_kind sorted (p_join keyed side replicated) h = absurd (cc)
kept_kind sorted (p_union numbers) h = absurd (cc)
kept_kind sorted (p_distinct input) h = absurd (cc)
kept_kind sorted (p_order input keys) h = absurd (cc)
kept_kind sorted (p_limit input count) h = (input, count, refl, by_sorted (sorted input) h)
  where
    by_sorted : (b : Bool) → limit_kind b ≡ Kind.Kept → b ≡ false
    by_sorted true e = absurd (cc)
    by_sorted false e = refl
kept_kind sorted (p_store input path delim) h = absurd (cc)
kept_kind sorted (p_assert input cond message) h = absurd (cc)
kept_kind sorted (p_rank input keys dense) h = absurd (cc)

pub standing_kind : (sorted : ℕ → Bool) (o : PlanOp) → kind_in sorted o ≡ Standing → (is_store o ≡ false) × (is_bare sorted o ≡ false)
standing_kind sorted (p_load path delim columns) h = (refl, refl)
standing_kind sorted (p_filter input cond) h = (refl, refl)
standing_kind sorted (p_foreach input block) h = (refl, refl)
standing_kind sorted (p_group_all input) h = (refl, refl)
standing_kind sorted (p_group keyed) h = (refl, refl)
standing_kind sorted (p_join keyed side replicated) h = (refl, refl)
standing_kind sorted (p_union numbers) h = (refl, refl)
standing_kind sorted (p_distinct input) h = (refl, refl)
standing_kind sorted (p_order input keys) h = (refl, refl)
standing_kind sorted (p_limit input count) h = (refl, by_sorted (sorted input) h)
  where
    by_sorted : (b : Bool) → limit_kind b ≡ Standing → not b ≡ false
    by_sorted true e = refl
    by_sorted false e = absurd (cc)
standing_kind sorted (p_store input path delim) h = absurd (cc)
standing_kind sorted (p_assert input cond message) h = (refl, refl)
standing_kind sorted (p_rank input keys dense) h = (refl, refl)

-- ---- the same under other names

pub same_so_far : (plan : Plan) (inputs : List Input) (i : ℕ) (table new_table : Held) (kept new_kept : List Kept) (stores new_stores : List (List (List Tree)))
    → new_table ≡ table → new_kept ≡ kept → new_stores ≡ stores → IsSoFar plan inputs i table kept stores → IsSoFar plan inputs i new_table new_kept new_stores
same_so_far plan inputs i table new_table kept new_kept stores new_stores a b c h =
    subst (λ t. IsSoFar plan inputs i t new_kept new_stores) (sym a)
    (subst (λ k. IsSoFar plan inputs i table k new_stores) (sym b)
    (subst (λ s. IsSoFar plan inputs i table kept s) (sym c) h))

-- nothing stands before the first node
pub begun : (plan : Plan) (inputs : List Input) (ends : List ℕ) → AreLate plan (length plan) ends → IsSoFar plan inputs 0 (record { relations = []; ends = ends }) [] []
begun plan inputs ends late = record {
  size = refl;
  late = late;
  each = λ more k n node below. absurd (omega (arith, below));
  stored = λ more. tt;
  limits = λ more k statement input count below. absurd (omega (arith, below));
  entries = refl;
}

-- ---- the end

pub ended : (plan : Plan) (inputs : List Input) (table : Held) (kept : List Kept) (stores : List (List (List Tree)))
    → IsSoFar plan inputs (length plan) table kept stores → IsAnswer plan inputs kept stores
ended plan inputs table kept stores h = record {
  kept = record {
    entries = h.entries;
    each = λ k statement input count stands live unsorted.
        subst (λ all. AreKept count (meaning plan inputs all input) (kept_at all statement)) (append-nil kept)
        (h.limits [] k statement input count (slice_get_within plan k _ stands) stands live unsorted);
  };
  stores = subst (λ all. EachAnswers plan inputs all (stored_relations plan) stores) (append-nil kept)
      (subst (λ p. EachAnswers plan inputs (kept ++ []) (stored_relations p) stores) (take_all (length plan) plan (omega arith)) (h.stored []));
}
