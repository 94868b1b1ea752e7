-- A plan without its dead nodes means what the plan meant: its outputs, its first ASSERT that fails, and what its bare LIMITs may keep.
use Rattle.std.specs.Prelude.{◌≡◌, ◌<◌, ◌+◌, ℕ, Bool, true, false, not, List, [], ◌∷◌, map, length, Option, Some, None, slice_get, refl}
use Rattle.std.proofs.Common.{ap, sym, ◌∙◌, subst, arith, cond}
use Rattle.std.specs.List.{AllByRecursion, cons_option, filter, filter_map, list_all, range_with_len}
use Rattle.pig_value.proofs.list_laws.Elementwise.{placed, range_below}
use Rattle.pig_value.proofs.list_laws.Indexing.{some_at}
use Rattle.pig_value.proofs.list_laws.Listing.{each_weaker, filter_all}
use Rattle.pig_value.specs.declared.inputs.Input.{Input}
use Rattle.pig_value.specs.declared.outcomes.Kept.{Kept}
use Rattle.pig_value.specs.Trees.{Tree}
use Rattle.pig_typed.specs.Evaluation.{passes}
use Rattle.pig_typed.specs.Typed.{Typed}
use Rattle.pig_plan.specs.Meaning.{AreKept, EachIsKept, IsKept, kept_at, meaning}
use Rattle.pig_plan.specs.Nodes.{bare_limits, inputs_of, is_bare, is_list, is_live, is_sorted, live}
use Rattle.pig_plan.specs.Plans.{Plan, PlanNode, PlanOp, p_load, p_filter, p_foreach, p_group_all, p_group, p_join, p_union, p_distinct, p_order, p_limit, p_store, p_assert, p_rank}
use Rattle.pig_plan.specs.Renumbered.{IsSame, rename, renamed}
use Rattle.pig_plan.specs.Rewrites.{Fails, SameMeaning, Stores}
use Rattle.pig_plan.specs.Valid.{IsPlan}
use Rattle.pig_plan.proofs.Living.{store_lives}
use Rattle.pig_share.proofs.Meaning.{was_assert, was_limit, was_store}
use Rattle.pig_moves.proofs.Keeps.{IsInput, inputs_live}
use Rattle.pig_alive.specs.Alive.{LivePlansMeanTheSame, alive, new_number}
use Rattle.pig_alive.proofs.Places.{Came, came, there}
use Rattle.pig_alive.proofs.Stays.{each_lives, lists_at, same_at, stays_live}

module _ (at : ℕ → ℕ) where
  bare_moved : (f g : ℕ → Bool) (o : PlanOp) → AllByRecursion (λ i. f (at i) ≡ g i) (inputs_of o) → is_bare f (rename at o) ≡ is_bare g o
  bare_moved f g (p_load path delim columns) h = refl
  bare_moved f g (p_filter input c) h = refl
  bare_moved f g (p_foreach input block) h = refl
  bare_moved f g (p_group_all input) h = refl
  bare_moved f g (p_group inputs) h = refl
  bare_moved f g (p_join inputs side replicated) h = refl
  bare_moved f g (p_union inputs) h = refl
  bare_moved f g (p_distinct input) h = refl
  bare_moved f g (p_order input keys) h = refl
  bare_moved f g (p_limit input count) h = ap not h.0
  bare_moved f g (p_store input path delim) h = refl
  bare_moved f g (p_assert input c message) h = refl
  bare_moved f g (p_rank input keys dense) h = refl

-- ---- lists by their numbers

module _ {X : Type 0} where
  abbrev somes : List (Option X) → List X
  somes [] = []
  somes (o ∷ os) = cons_option o (somes os)

  by_somes : (get : ℕ → Option X) (ns : List ℕ) → filter_map get ns ≡ somes (map get ns)
  by_somes get [] = refl
  by_somes get (n ∷ ns) = ap (cons_option (get n)) (by_somes get ns)

  somes_all : (xs : List X) → somes (map Some xs) ≡ xs
  somes_all [] = refl
  somes_all (x ∷ xs) = ap (λ ys. x ∷ ys) (somes_all xs)

  all_listed : (xs : List X) → filter_map (slice_get xs) (range_with_len 0 (length xs)) ≡ xs
  all_listed xs = by_somes (slice_get xs) (range_with_len 0 (length xs)) ∙ ap somes (placed xs) ∙ somes_all xs

-- what holds of all live nodes holds of each that is found
each_found : (p : Plan) (P : PlanNode → Type 0) → ((k : ℕ) (v : PlanNode) → slice_get p k ≡ Some v → is_live p k ≡ true → P v) → (ns : List ℕ)
    → AllByRecursion P (filter_map (slice_get p) (filter (is_live p) ns))
each_found p P h [] = tt
each_found p P h (n ∷ ns) = by_test (is_live p n) refl (each_found p P h ns)
  where
    by_node : is_live p n ≡ true → (o : Option PlanNode) → slice_get p n ≡ o → (rest : Plan) → AllByRecursion P rest → AllByRecursion P (cons_option o rest)
    by_node lives None e rest more = more
    by_node lives (Some v) e rest more = (h n v e lives, more)

    by_test : (b : Bool) → is_live p n ≡ b → AllByRecursion P (filter_map (slice_get p) (filter (is_live p) ns))
        → AllByRecursion P (filter_map (slice_get p) (cond b (n ∷ filter (is_live p) ns) (filter (is_live p) ns)))
    by_test true e rest = by_node e (slice_get p n) refl (filter_map (slice_get p) (filter (is_live p) ns)) rest
    by_test false e rest = rest

abbrev statements : Plan → List ℕ
statements nodes = map (λ node. node.statement) nodes

same_statements : (at : ℕ → ℕ) (f g : PlanOp → Bool) (nodes : Plan) → AllByRecursion (λ v. f (rename at v.op) ≡ g v.op) nodes
    → map (λ node. node.statement) (filter (λ node. f node.op) (map (renamed at) nodes)) ≡ map (λ node. node.statement) (filter (λ node. g node.op) nodes)
same_statements at f g [] h = refl
same_statements at f g (v ∷ nodes) h =
    ap (λ b. statements (cond b (renamed at v ∷ filter (λ node. f node.op) (map (renamed at) nodes)) (filter (λ node. f node.op) (map (renamed at) nodes)))) h.0
    ∙ by_test (g v.op) (same_statements at f g nodes h.1)
  where
    by_test : (b : Bool) → map (λ node. node.statement) (filter (λ node. f node.op) (map (renamed at) nodes)) ≡ map (λ node. node.statement) (filter (λ node. g node.op) nodes)
        → map (λ node. node.statement) (cond b (renamed at v ∷ filter (λ node. f node.op) (map (renamed at) nodes)) (filter (λ node. f node.op) (map (renamed at) nodes)))
        ≡ map (λ node. node.statement) (cond b (v ∷ filter (λ node. g node.op) nodes) (filter (λ node. g node.op) nodes))
    by_test true same = ap (λ ns. v.statement ∷ ns) same
    by_test false same = same

module _ (p : Plan) (valid : IsPlan p) (valid_q : IsPlan (alive p)) where
  abbrev at : ℕ → ℕ
  at = new_number p

  abbrev q : Plan
  q = alive p

  abbrev node_with : PlanOp → ℕ → PlanNode
  node_with o statement = record { op = o; statement = statement }

  input_same : (inputs : List Input) (kept : List Kept) (k : ℕ) (v : PlanNode) → slice_get p k ≡ Some v → is_live p k ≡ true → AllByRecursion (IsSame p q at inputs kept) (inputs_of v.op)
  input_same inputs kept k v stands lives =
      each_weaker (IsInput p k) (IsSame p q at inputs kept) (λ i i_is. same_at p valid valid_q inputs kept i i_is.node i_is.stands i_is.lives) (inputs_of v.op) (inputs_live p valid k v stands lives)

  input_lists : (k : ℕ) (v : PlanNode) → slice_get p k ≡ Some v → is_live p k ≡ true → AllByRecursion (λ i. is_list q (at i) ≡ is_list p i) (inputs_of v.op)
  input_lists k v stands lives =
      each_weaker (IsInput p k) (λ i. is_list q (at i) ≡ is_list p i) (λ i i_is. lists_at p valid valid_q i i_is.node i_is.stands i_is.lives) (inputs_of v.op) (inputs_live p valid k v stands lives)

  -- ---- bare LIMITs

  bare_same : (k : ℕ) (v : PlanNode) → slice_get p k ≡ Some v → is_live p k ≡ true → is_bare (is_sorted q) (rename at v.op) ≡ is_bare (is_sorted p) v.op
  bare_same k v stands lives =
      bare_moved at (is_sorted q) (is_sorted p) v.op
      (each_weaker (IsSame p q at [] []) (λ i. is_sorted q (at i) ≡ is_sorted p i) (λ i s. s.sorted) (inputs_of v.op) (input_same [] [] k v stands lives))

  all_live : live q ≡ range_with_len 0 (length q)
  all_live =
      filter_all (is_live q) (range_with_len 0 (length q))
      (each_weaker (λ i. i < 0 + length q) (λ i. is_live q i ≡ true)
      (λ i below. let found = some_at q i (omega (arith, below)) in each_lives p valid valid_q i found.0 found.1)
      (range_with_len 0 (length q)) (range_below 0 (length q)))

  limits_same : map (λ node. node.statement) (bare_limits q) ≡ map (λ node. node.statement) (bare_limits p)
  limits_same =
      ap (λ ns. statements (filter (λ node. is_bare (is_sorted q) node.op) (filter_map (slice_get q) ns))) all_live
      ∙ ap (λ nodes. statements (filter (λ node. is_bare (is_sorted q) node.op) nodes)) (all_listed q)
      ∙ same_statements at (is_bare (is_sorted q)) (is_bare (is_sorted p)) (filter_map (slice_get p) (live p))
      (each_found p (λ v. is_bare (is_sorted q) (rename at v.op) ≡ is_bare (is_sorted p) v.op) bare_same (range_with_len 0 (length p)))

  -- ---- what a node was

  record Was (j : ℕ) (statement : ℕ) (o : PlanOp) : Type 0 where
    pub k : ℕ
    pub stands : slice_get p k ≡ Some (node_with o statement)
    pub lives : is_live p k ≡ true
    pub number : at k ≡ j

  was : (j : ℕ) (w : PlanNode) (c : Came p j w) (o : PlanOp) → c.v.op ≡ o → Was j w.statement o
  was j w c o e = record {
    k = c.k;
    stands = c.stands ∙ (λ i. Some (node_with (e i) ((c.is i).statement)));
    lives = c.lives;
    number = c.number;
  }

  -- ---- what is kept

  each_on : (inputs : List Input) (kept : List Kept) → EachIsKept p inputs kept → EachIsKept q inputs kept
  each_on inputs kept each j statement input count stands lives unsorted =
      let c : Came p j (node_with (p_limit input count) statement) = came p j (node_with (p_limit input count) statement) stands in
      let limit = was_limit at c.v.op input count (ap (λ w. w.op) c.is) in
      let own : Was j statement (p_limit limit.0 count) = was j (node_with (p_limit input count) statement) c (p_limit limit.0 count) limit.1 in
      let same : IsSame p q at inputs kept limit.0 = (input_same inputs kept own.k (node_with (p_limit limit.0 count) statement) own.stands own.lives).0 in
      let bare : is_sorted p limit.0 ≡ false = sym same.sorted ∙ ap (is_sorted q) limit.2 ∙ unsorted in
      subst (λ rows. AreKept count rows (kept_at kept statement)) (sym same.rows ∙ ap (meaning q inputs kept) limit.2)
      (each own.k statement limit.0 count own.stands own.lives bare)

  each_back : (inputs : List Input) (kept : List Kept) → EachIsKept q inputs kept → EachIsKept p inputs kept
  each_back inputs kept each k statement input count stands lives unsorted =
      let same : IsSame p q at inputs kept input = (input_same inputs kept k (node_with (p_limit input count) statement) stands lives).0 in
      subst (λ rows. AreKept count rows (kept_at kept statement)) same.rows
      (each (at k) statement (at input) count (there p k (node_with (p_limit input count) statement) stands lives)
      (stays_live p valid valid_q k (node_with (p_limit input count) statement) stands lives) (same.sorted ∙ unsorted))

  kept_on : (inputs : List Input) (kept : List Kept) → IsKept p inputs kept → IsKept q inputs kept
  kept_on inputs kept h = record { entries = h.entries ∙ sym limits_same; each = each_on inputs kept h.each }

  kept_back : (inputs : List Input) (kept : List Kept) → IsKept q inputs kept → IsKept p inputs kept
  kept_back inputs kept h = record { entries = h.entries ∙ limits_same; each = each_back inputs kept h.each }

  -- ---- what is stored, and what fails

  stores_on : (inputs : List Input) (kept : List Kept) (path : List ℕ) (delim : ℕ) (rows : List (List Tree)) (listed : Bool) → Stores p inputs kept path delim rows listed → Stores q inputs kept path delim rows listed
  stores_on inputs kept path delim rows listed s =
      let lives : is_live p s.node ≡ true = store_lives p s.node (node_with (p_store s.input path delim) s.statement) s.stands refl in
      record {
        node = at s.node;
        input = at s.input;
        statement = s.statement;
        stands = there p s.node (node_with (p_store s.input path delim) s.statement) s.stands lives;
        rows_are = (same_at p valid valid_q inputs kept s.node (node_with (p_store s.input path delim) s.statement) s.stands lives).rows ∙ s.rows_are;
        list_is = (input_lists s.node (node_with (p_store s.input path delim) s.statement) s.stands lives).0 ∙ s.list_is;
      }

  stores_back : (inputs : List Input) (kept : List Kept) (path : List ℕ) (delim : ℕ) (rows : List (List Tree)) (listed : Bool) → Stores q inputs kept path delim rows listed → Stores p inputs kept path delim rows listed
  stores_back inputs kept path delim rows listed s =
      let c : Came p s.node (node_with (p_store s.input path delim) s.statement) = came p s.node (node_with (p_store s.input path delim) s.statement) s.stands in
      let store = was_store at c.v.op s.input path delim (ap (λ w. w.op) c.is) in
      let own : Was s.node s.statement (p_store store.0 path delim) = was s.node (node_with (p_store s.input path delim) s.statement) c (p_store store.0 path delim) store.1 in
      record {
        node = own.k;
        input = store.0;
        statement = s.statement;
        stands = own.stands;
        rows_are = sym (same_at p valid valid_q inputs kept own.k (node_with (p_store store.0 path delim) s.statement) own.stands own.lives).rows ∙ ap (meaning q inputs kept) own.number ∙ s.rows_are;
        list_is = sym ((input_lists own.k (node_with (p_store store.0 path delim) s.statement) own.stands own.lives).0) ∙ ap (is_list q) store.2 ∙ s.list_is;
      }

  fails_on : (inputs : List Input) (kept : List Kept) (statement : ℕ) → Fails p inputs kept statement → Fails q inputs kept statement
  fails_on inputs kept statement f =
      let same : IsSame p q at inputs kept f.input = (input_same inputs kept f.node (node_with (p_assert f.input f.cond f.message) statement) f.stands f.lives).0 in
      record {
        node = at f.node;
        input = at f.input;
        cond = f.cond;
        message = f.message;
        stands = there p f.node (node_with (p_assert f.input f.cond f.message) statement) f.stands f.lives;
        lives = stays_live p valid valid_q f.node (node_with (p_assert f.input f.cond f.message) statement) f.stands f.lives;
        unmet = ap (list_all (passes f.cond)) same.rows ∙ f.unmet;
      }

  fails_back : (inputs : List Input) (kept : List Kept) (statement : ℕ) → Fails q inputs kept statement → Fails p inputs kept statement
  fails_back inputs kept statement f =
      let c : Came p f.node (node_with (p_assert f.input f.cond f.message) statement) = came p f.node (node_with (p_assert f.input f.cond f.message) statement) f.stands in
      let test = was_assert at c.v.op f.input f.cond f.message (ap (λ w. w.op) c.is) in
      let own : Was f.node statement (p_assert test.0 f.cond f.message) = was f.node (node_with (p_assert f.input f.cond f.message) statement) c (p_assert test.0 f.cond f.message) test.1 in
      let same : IsSame p q at inputs kept test.0 = (input_same inputs kept own.k (node_with (p_assert test.0 f.cond f.message) statement) own.stands own.lives).0 in
      record {
        node = own.k;
        input = test.0;
        cond = f.cond;
        message = f.message;
        stands = own.stands;
        lives = own.lives;
        unmet = ap (list_all (passes f.cond)) (sym same.rows ∙ ap (meaning q inputs kept) test.2) ∙ f.unmet;
      }

  pub means_the_same : SameMeaning p (alive p)
  means_the_same = record {
    kept_on = kept_on;
    kept_back = kept_back;
    goes = λ inputs kept h. record {
      stores = stores_on inputs kept;
      fails = λ statement f. record { first = statement; no_later = omega arith; fails = fails_on inputs kept statement f };
    };
    comes = λ inputs kept h. record {
      stores = stores_back inputs kept;
      fails = λ statement f. record { first = statement; no_later = omega arith; fails = fails_back inputs kept statement f };
    };
  }

pub live_plans_mean : LivePlansMeanTheSame
live_plans_mean p valid valid_q = means_the_same p valid valid_q
