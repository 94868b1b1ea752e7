-- What stands at the live paths is enough: over inputs that agree there, live nodes mean the same, and as many lines are read.
use Rattle.std.specs.Prelude.{◌≡◌, ◌<◌, ◌≤◌, ◌+◌, ◌-◌, ◌%◌, ◌&&◌, ◌||◌, ◌==◌, ℕ, zero, suc, Bool, true, false, not, List, [], ◌∷◌, ◌++◌, length, map, drop, Option, Some, None, bytes_eq, slice_get, refl, if◌then◌else◌, ⊤}
use Rattle.std.proofs.Common.{ap, sym, subst, ◌∙◌, arith, inl, inr, cond}
use Rattle.std.specs.List.{AllByRecursion, cons_option, filter, filter_map, flat_map, list_any, range_with_len, sum_by}
use Rattle.std.specs.Option.{option_map_or, unwrap_or}
use Rattle.std.proofs.lemmas.Bool.{cases_Bool, cases_lt}
use Rattle.std.proofs.lemmas.Bool.Decides.{Decides-eqb}
use Rattle.std.proofs.lemmas.List.{drop_all}
use Rattle.std.proofs.lemmas.List.Sums.{sum_by-cons}
use Rattle.std.proofs.lemmas.Option.{slice_get_within}
use Rattle.std.proofs.lemmas.Slice.Eq.{bytes_eq-Decides}
use Rattle.pig_value.specs.declared.inputs.Input.{Input}
use Rattle.pig_value.specs.declared.outcomes.Kept.{Kept}
use Rattle.pig_value.specs.declared.inputs.Column.{Column}
use Rattle.pig_value.specs.FieldRows.{row_of}
use Rattle.pig_value.specs.Lines.{lines}
use Rattle.pig_value.specs.Orders.{bag_of}
use Rattle.pig_value.specs.Trees.{Tree}
use Rattle.pig_value.proofs.list_laws.Indexing.{dropped, drop-add, get-drop, some_at}
use Rattle.pig_value.proofs.list_laws.Listing.{each_weaker}
use Rattle.pig_plan.specs.Meaning.{AreKept, EachIsKept, IsKept, meaning, setting, kept_at}
use Rattle.pig_plan.specs.Nodes.{inputs_of, is_live, is_sorted, is_source, is_store, is_used, live, names, paths_of, read_paths, is_boundary}
use Rattle.pig_plan.specs.Operators.{Setting, load_rows, operator_rows, pieces_of}
use Rattle.pig_plan.specs.Plans.{Plan, PlanNode, PlanOp, p_load, p_filter, p_foreach, p_group_all, p_group, p_join, p_union, p_distinct, p_order, p_limit, p_store, p_assert, p_rank}
use Rattle.pig_plan.specs.Valid.{IsPlan}
use Rattle.pig_plan.proofs.Looking.{looks}
use Rattle.pig_plan.proofs.Lower.{meaning_of_node, names_lower}
use Rattle.pig_reach.specs.Paths.{is_among}
use Rattle.pig_reach.specs.Reach.{lines_at, lines_of, lines_read, live_nodes, live_paths, loaded_path, once}
use Rattle.pig_reach.proofs.Flowing.{flow, flow_step, read_at, reads, sum_joined, sum_same}

true_not_false : {A : Type 0} → true ≡ false → A
true_not_false e = absurd (cc)

either : (a b : Bool) → b ≡ true → (a || b) ≡ true
either true b h = refl
either false b h = h

first_true : (a b : Bool) → a ≡ true → (a || b) ≡ true
first_true true b h = refl
first_true false b h = true_not_false (sym h)

both : (a b : Bool) → a ≡ true → b ≡ true → (a && b) ≡ true
both true true h k = refl
both true false h k = k
both false b h k = h

-- ---- what a live node names is live

-- a node at a place behind, which names k and is itself a STORE or used
used_by : (k n : ℕ) (nodes : Plan) (j : ℕ) (v : PlanNode) → slice_get nodes j ≡ Some v → names v.op k ≡ true
    → (is_store v.op || is_used (n + j) (n + j + 1) (drop (j + 1) nodes)) ≡ true → is_used k n nodes ≡ true
used_by k n [] j v at named lives = absurd (cc)
used_by k n (node ∷ nodes) zero v at named lives =
    let same : node ≡ v = cc in
    let here : (is_store node.op || is_used n (n + 1) nodes) ≡ true =
    ap (λ w. is_store w.op || is_used n (n + 1) nodes) same
    ∙ (let e : n + 0 ≡ n = omega arith in ap (λ m. is_store v.op || is_used m (m + 1) nodes) (sym e)) ∙ lives in
    let name : names node.op k ≡ true = ap (λ w. names w.op k) same ∙ named in
    first_true (names node.op k && (is_store node.op || is_used n (n + 1) nodes)) (is_used k (n + 1) nodes) (both (names node.op k) (is_store node.op || is_used n (n + 1) nodes) name here)
used_by k n (node ∷ nodes) (suc j) v at named lives =
    let e : n + suc j ≡ n + 1 + j = omega arith in
    either (names node.op k && (is_store node.op || is_used n (n + 1) nodes)) (is_used k (n + 1) nodes)
    (used_by k (n + 1) nodes j v at named (ap (λ m. is_store v.op || is_used m (m + 1) (drop (j + 1) nodes)) (sym e) ∙ shorter ∙ lives))
  where
    shorter : (is_store v.op || is_used (n + suc j) (n + suc j + 1) (drop (j + 1) nodes)) ≡ (is_store v.op || is_used (n + suc j) (n + suc j + 1) (drop (suc j + 1) (node ∷ nodes)))
    shorter = let f : suc j + 1 ≡ suc (j + 1) = omega arith in ap (λ m. is_store v.op || is_used (n + suc j) (n + suc j + 1) (drop m (node ∷ nodes))) (sym f)

module _ (plan : Plan) where
  itself : (k : ℕ) (v : PlanNode) → slice_get plan k ≡ Some v → is_live plan k ≡ (is_store v.op || is_used k (k + 1) (drop (k + 1) plan))
  itself k v at = ap (λ o. option_map_or (λ node. is_store node.op || is_used k (k + 1) (drop (k + 1) plan)) o false) at

  pub named_lives : (k : ℕ) (v : PlanNode) → slice_get plan k ≡ Some v → is_live plan k ≡ true → (i : ℕ) → i < k → names v.op i ≡ true → is_live plan i ≡ true
  named_lives k v at lives i below named =
      let within : k < length plan = slice_get_within plan k v at in
      let found = some_at plan i (omega (arith, below, within)) in
      let j = k - (i + 1) in
      let place : i + 1 + j ≡ k = omega (arith, below) in
      let there : slice_get (drop (i + 1) plan) j ≡ Some v = get-drop plan (i + 1) j ∙ ap (slice_get plan) place ∙ at in
      let behind : drop (j + 1) (drop (i + 1) plan) ≡ drop (k + 1) plan = drop-add plan (i + 1) (j + 1) ∙ (let e : i + 1 + (j + 1) ≡ k + 1 = omega (arith, below) in ap (λ m. drop m plan) e) in
      itself i found.0 found.1
      ∙ either (is_store found.0.op) (is_used i (i + 1) (drop (i + 1) plan))
      (used_by i (i + 1) (drop (i + 1) plan) j v there named
      (ap (λ ns. is_store v.op || is_used (i + 1 + j) (i + 1 + j + 1) ns) behind ∙ ap (λ m. is_store v.op || is_used m (m + 1) (drop (k + 1) plan)) place ∙ sym (itself k v at) ∙ lives))

  -- a live number has a node
  pub live_node : (k : ℕ) → is_live plan k ≡ true → (v : PlanNode) × (slice_get plan k ≡ Some v)
  live_node k lives = by_found (slice_get plan k) refl
    where
      by_found : (o : Option PlanNode) → slice_get plan k ≡ o → (v : PlanNode) × (slice_get plan k ≡ Some v)
      by_found None e = true_not_false (sym lives ∙ ap (λ o. option_map_or (λ node. is_store node.op || is_used k (k + 1) (drop (k + 1) plan)) o false) e)
      by_found (Some v) e = (v, e)

  -- each input of a live node is lower and live
  pub inputs_live : IsPlan plan → (k : ℕ) (v : PlanNode) → slice_get plan k ≡ Some v → is_live plan k ≡ true → AllByRecursion (λ i. (i < k) × (is_live plan i ≡ true)) (inputs_of v.op)
  inputs_live valid k v at lives = each (inputs_of v.op) (λ i h. h) (names_lower plan valid k v at)
    where
      each : (ns : List ℕ) → ((i : ℕ) → list_any (λ j. j == i) ns ≡ true → names v.op i ≡ true) → AllByRecursion (λ i. i < k) ns → AllByRecursion (λ i. (i < k) × (is_live plan i ≡ true)) ns
      each [] named lower = tt
      each (n ∷ ns) named lower = (
        (lower.0, named_lives k v at lives n lower.0 (named n (first_true (n == n) (list_any (λ j. j == n) ns) ((Decides-eqb n n).1 refl)))),
        each ns (λ i h. named i (either (n == i) (list_any (λ j. j == i) ns) h)) lower.1,
      )

-- ---- the path of a live LOAD is a live path

among_filter : (path : List ℕ) (p : List ℕ → Bool) (xs : List (List ℕ)) → p path ≡ true → is_among path xs ≡ true → is_among path (filter p xs) ≡ true
among_filter path p [] passes h = h
among_filter path p (x ∷ xs) passes h = elim (cases_Bool (bytes_eq path x)) [
  | inl same ↦
      let is : path ≡ x = (bytes_eq-Decides path x).0 same in
      let kept : p x ≡ true = ap p (sym is) ∙ passes in
      ap (λ b. is_among path (cond b (x ∷ filter p xs) (filter p xs))) kept ∙ first_true (bytes_eq path x) (is_among path (filter p xs)) same
  | inr other ↦
      let rest : is_among path (filter p xs) ≡ true = among_filter path p xs passes (sym (ap (λ b. b || is_among path xs) other) ∙ h) in
      either_kept (p x) rest
]
  where
    either_kept : (b : Bool) → is_among path (filter p xs) ≡ true → is_among path (cond b (x ∷ filter p xs) (filter p xs)) ≡ true
    either_kept true rest = either (bytes_eq path x) (is_among path (filter p xs)) rest
    either_kept false rest = rest

among_once : (path : List ℕ) (xs : List (List ℕ)) → is_among path xs ≡ true → is_among path (once xs) ≡ true
among_once path [] h = h
among_once path (x ∷ xs) h = elim (cases_Bool (bytes_eq path x)) [
  | inl same ↦ first_true (bytes_eq path x) (is_among path (filter (λ other. not (bytes_eq other x)) (once xs))) same
  | inr other ↦ either (bytes_eq path x) (is_among path (filter (λ other. not (bytes_eq other x)) (once xs)))
      (among_filter path (λ other. not (bytes_eq other x)) (once xs) (ap not other) (among_once path xs (sym (ap (λ b. b || is_among path xs) other) ∙ h)))
]

among_loaded : (plan : Plan) (k : ℕ) (v : PlanNode) (path : List ℕ) → slice_get plan k ≡ Some v → loaded_path v ≡ Some path → (ns : List ℕ) → list_any (λ n. n == k) ns ≡ true
    → is_among path (filter_map loaded_path (filter_map (slice_get plan) ns)) ≡ true
among_loaded plan k v path at loads [] h = absurd (cc)
among_loaded plan k v path at loads (n ∷ ns) h = elim (cases_Bool (n == k)) [
  | inl same ↦
      let is : n ≡ k = (Decides-eqb n k).0 same in
      let here : slice_get plan n ≡ Some v = ap (slice_get plan) is ∙ at in
      ap (λ o. is_among path (filter_map loaded_path (cons_option o (filter_map (slice_get plan) ns)))) here
      ∙ ap (λ o. is_among path (cons_option o (filter_map loaded_path (filter_map (slice_get plan) ns)))) loads
      ∙ first_true (bytes_eq path path) (is_among path (filter_map loaded_path (filter_map (slice_get plan) ns))) ((bytes_eq-Decides path path).1 refl)
  | inr other ↦
      let rest = among_loaded plan k v path at loads ns (sym (ap (λ b. b || list_any (λ n. n == k) ns) other) ∙ h) in
      by_node (slice_get plan n) rest
]
  where
    by_path : (o : Option (List ℕ)) (xs : List (List ℕ)) → is_among path xs ≡ true → is_among path (cons_option o xs) ≡ true
    by_path None xs h = h
    by_path (Some x) xs h = either (bytes_eq path x) (is_among path xs) h

    by_node : (o : Option PlanNode) → is_among path (filter_map loaded_path (filter_map (slice_get plan) ns)) ≡ true
        → is_among path (filter_map loaded_path (cons_option o (filter_map (slice_get plan) ns))) ≡ true
    by_node None h = h
    by_node (Some w) h = by_path (loaded_path w) (filter_map loaded_path (filter_map (slice_get plan) ns)) h

in_range : (k a n : ℕ) → a ≤ k → k < a + n → list_any (λ m. m == k) (range_with_len a n) ≡ true
in_range k a zero from below = absurd (omega (arith, from, below))
in_range k a (suc n) from below = elim (cases_Bool (a == k)) [
  | inl same ↦ first_true (a == k) (list_any (λ m. m == k) (range_with_len (a + 1) n)) same
  | inr other ↦
      let apart : a ≡ k → ⊥ = λ e. true_not_false (sym ((Decides-eqb a k).1 e) ∙ other) in
      either (a == k) (list_any (λ m. m == k) (range_with_len (a + 1) n)) (in_range k (a + 1) n (omega (arith, from, other_than a k apart from)) (omega (arith, below)))
]
  where
    other_than : (a k : ℕ) → (a ≡ k → ⊥) → a ≤ k → a < k
    other_than a k apart from = elim (cases_lt a k) [ inl less ↦ less | inr more ↦ absurd (apart (omega (arith, from, more))) ]

kept_in_filter : (k : ℕ) (p : ℕ → Bool) (xs : List ℕ) → p k ≡ true → list_any (λ m. m == k) xs ≡ true → list_any (λ m. m == k) (filter p xs) ≡ true
kept_in_filter k p [] passes h = h
kept_in_filter k p (x ∷ xs) passes h = elim (cases_Bool (x == k)) [
  | inl same ↦
      let is : x ≡ k = (Decides-eqb x k).0 same in
      let kept : p x ≡ true = ap p is ∙ passes in
      ap (λ b. list_any (λ m. m == k) (cond b (x ∷ filter p xs) (filter p xs))) kept ∙ first_true (x == k) (list_any (λ m. m == k) (filter p xs)) same
  | inr other ↦ either_kept (p x) (kept_in_filter k p xs passes (sym (ap (λ b. b || list_any (λ m. m == k) xs) other) ∙ h))
]
  where
    either_kept : (b : Bool) → list_any (λ m. m == k) (filter p xs) ≡ true → list_any (λ m. m == k) (cond b (x ∷ filter p xs) (filter p xs)) ≡ true
    either_kept true rest = either (x == k) (list_any (λ m. m == k) (filter p xs)) rest
    either_kept false rest = rest

pub live_load : (plan : Plan) (k : ℕ) (v : PlanNode) (path : List ℕ) → slice_get plan k ≡ Some v → is_live plan k ≡ true → loaded_path v ≡ Some path → is_among path (live_paths plan) ≡ true
live_load plan k v path at lives loads =
    among_once path (filter_map loaded_path (live_nodes plan)) (among_loaded plan k v path at loads (live plan)
    (kept_in_filter k (is_live plan) (range_with_len 0 (length plan)) lives (in_range k 0 (length plan) (omega arith) (let h = slice_get_within plan k v at in omega (arith, h)))))

-- ---- inputs that agree at the live paths

pub record Agree (plan : Plan) (i j : List Input) : Type 0 where
  pub same : (path : List ℕ) → is_among path (live_paths plan) ≡ true → pieces_of i path ≡ pieces_of j path

module _ (plan : Plan) (valid : IsPlan plan) (i j : List Input) (agree : Agree plan i j) where
  load_agrees : (k statement : ℕ) (path : List ℕ) (delim : ℕ) (columns : List Column) → slice_get plan k ≡ Some (record { op = p_load path delim columns; statement = statement }) → is_live plan k ≡ true
      → pieces_of i path ≡ pieces_of j path
  load_agrees k statement path delim columns at lives = agree.same path (live_load plan k (record { op = p_load path delim columns; statement = statement }) path at lives refl)

  module _ (kept : List Kept) where
    own_agrees : (k statement : ℕ) (o : PlanOp) → slice_get plan k ≡ Some (record { op = o; statement = statement }) → is_live plan k ≡ true → (f : ℕ → List (List Tree))
        → operator_rows (setting plan i kept) statement o f ≡ operator_rows (setting plan j kept) statement o f
    own_agrees k statement (p_load path delim columns) at lives f = ap (λ ps. bag_of (flat_map (λ piece. map (row_of columns delim) (lines piece)) ps)) (load_agrees k statement path delim columns at lives)
    own_agrees k statement (p_filter input test) at lives f = refl
    own_agrees k statement (p_foreach input block) at lives f = refl
    own_agrees k statement (p_group_all input) at lives f = refl
    own_agrees k statement (p_group keyed) at lives f = refl
    own_agrees k statement (p_join keyed side replicated) at lives f = refl
    own_agrees k statement (p_union numbers) at lives f = refl
    own_agrees k statement (p_distinct input) at lives f = refl
    own_agrees k statement (p_order input keys) at lives f = refl
    own_agrees k statement (p_limit input count) at lives f = refl
    own_agrees k statement (p_store input path delim) at lives f = refl
    own_agrees k statement (p_assert input test message) at lives f = refl
    own_agrees k statement (p_rank input keys dense) at lives f = refl

    up_to : (n k : ℕ) → k < n → is_live plan k ≡ true → meaning plan i kept k ≡ meaning plan j kept k
    up_to zero k below lives = absurd (omega (arith, below))
    up_to (suc n) k below lives =
        let found = live_node plan k lives in
        let v = found.0 in
        meaning_of_node plan i kept valid k v found.1
        ∙ looks (meaning plan i kept) (meaning plan j kept) (setting plan i kept) v.statement v.op
        (each_weaker (λ m. (m < k) × (is_live plan m ≡ true)) (λ m. meaning plan i kept m ≡ meaning plan j kept m) (λ m h. up_to n m (omega (arith, below, h.0)) h.1) (inputs_of v.op)
        (inputs_live plan valid k v found.1 lives))
        ∙ own_agrees k v.statement v.op found.1 lives (meaning plan j kept)
        ∙ sym (meaning_of_node plan j kept valid k v found.1)

    pub meanings_agree : (k : ℕ) → is_live plan k ≡ true → meaning plan i kept k ≡ meaning plan j kept k
    meanings_agree k lives = up_to (suc k) k (omega arith) lives

    pub kept_agrees : IsKept plan i kept → IsKept plan j kept
    kept_agrees h = record {
      entries = h.entries;
      each = λ k statement input count at lives unsorted.
          let below = inputs_live plan valid k (record { op = p_limit input count; statement = statement }) at lives in
          subst (λ rows. AreKept count rows (kept_at kept statement)) (meanings_agree input below.0.1) (h.each k statement input count at lives unsorted);
    }

  -- ---- lines

  lines_up_to : (n k : ℕ) → k < n → is_live plan k ≡ true → flow plan i k ≡ flow plan j k
  lines_up_to zero k below lives = absurd (omega (arith, below))
  lines_up_to (suc n) k below lives =
      let found = live_node plan k lives in
      let v = found.0 in
      flow_step plan i valid k v found.1
      ∙ ap (λ m. cond (is_source v.op) m (sum_by (flow plan i) (inputs_of v.op))) (own_lines k v.statement v.op found.1 lives)
      ∙ ap (λ m. cond (is_source v.op) (lines_of j v.op) m)
      (sum_same (flow plan i) (flow plan j) (inputs_of v.op) (each_weaker (λ m. (m < k) × (is_live plan m ≡ true)) (λ m. flow plan i m ≡ flow plan j m) (λ m h. lines_up_to n m (omega (arith, below, h.0)) h.1)
      (inputs_of v.op) (inputs_live plan valid k v found.1 lives)))
      ∙ sym (flow_step plan j valid k v found.1)
    where
      own_lines : (k statement : ℕ) (o : PlanOp) → slice_get plan k ≡ Some (record { op = o; statement = statement }) → is_live plan k ≡ true → lines_of i o ≡ lines_of j o
      own_lines k statement (p_load path delim columns) at lives = ap (λ ps. length (flat_map lines ps)) (load_agrees k statement path delim columns at lives)
      own_lines k statement (p_filter input test) at lives = refl
      own_lines k statement (p_foreach input block) at lives = refl
      own_lines k statement (p_group_all input) at lives = refl
      own_lines k statement (p_group keyed) at lives = refl
      own_lines k statement (p_join keyed side replicated) at lives = refl
      own_lines k statement (p_union numbers) at lives = refl
      own_lines k statement (p_distinct input) at lives = refl
      own_lines k statement (p_order input keys) at lives = refl
      own_lines k statement (p_limit input count) at lives = refl
      own_lines k statement (p_store input path delim) at lives = refl
      own_lines k statement (p_assert input test message) at lives = refl
      own_lines k statement (p_rank input keys dense) at lives = refl

  flows_agree : (k : ℕ) → is_live plan k ≡ true → flow plan i k ≡ flow plan j k
  flows_agree k lives = lines_up_to (suc k) k (omega arith) lives

  read_agrees : (k : ℕ) → is_live plan k ≡ true → read_at plan i k ≡ read_at plan j k
  read_agrees k lives =
      let found = live_node plan k lives in
      let v = found.0 in
      ap (λ o. option_map_or (λ node. sum_by (lines_at plan i) (read_paths plan k node.op)) o 0) found.1
      ∙ by_kind (is_boundary v.op) (is_store v.op) (inputs_live plan valid k v found.1 lives)
      ∙ sym (ap (λ o. option_map_or (λ node. sum_by (lines_at plan j) (read_paths plan k node.op)) o 0) found.1)
    where
      by_kind : (b s : Bool) → AllByRecursion (λ m. (m < k) × (is_live plan m ≡ true)) (inputs_of (live_node plan k lives).0.op)
          → sum_by (lines_at plan i) (cond b (flat_map (paths_of plan) (inputs_of (live_node plan k lives).0.op)) (cond s (paths_of plan k) []))
          ≡ sum_by (lines_at plan j) (cond b (flat_map (paths_of plan) (inputs_of (live_node plan k lives).0.op)) (cond s (paths_of plan k) []))
      by_kind true s below =
          let ns = inputs_of (live_node plan k lives).0.op in
          sum_joined (lines_at plan i) (paths_of plan) ns
          ∙ sum_same (flow plan i) (flow plan j) ns (each_weaker (λ m. (m < k) × (is_live plan m ≡ true)) (λ m. flow plan i m ≡ flow plan j m) (λ m h. flows_agree m h.1) ns below)
          ∙ sym (sum_joined (lines_at plan j) (paths_of plan) ns)
      by_kind false true below = flows_agree k lives
      by_kind false false below = refl

  pub lines_agree : lines_read plan i ≡ lines_read plan j
  lines_agree = reads plan i valid ∙ each (range_with_len 0 (length plan)) ∙ sym (reads plan j valid)
    where
      each : (ns : List ℕ) → sum_by (read_at plan i) (filter (is_live plan) ns) ≡ sum_by (read_at plan j) (filter (is_live plan) ns)
      each [] = refl
      each (n ∷ ns) = elim (cases_Bool (is_live plan n)) [
        | inl lives ↦
            let a = sum_by-cons (read_at plan i) n (filter (is_live plan) ns) in
            let b = sum_by-cons (read_at plan j) n (filter (is_live plan) ns) in
            let one = read_agrees n lives in
            let more = each ns in
            let sums : sum_by (read_at plan i) (n ∷ filter (is_live plan) ns) ≡ sum_by (read_at plan j) (n ∷ filter (is_live plan) ns) = omega (arith, a, b, one, more) in
            ap (λ c. sum_by (read_at plan i) (cond c (n ∷ filter (is_live plan) ns) (filter (is_live plan) ns))) lives ∙ sums
            ∙ sym (ap (λ c. sum_by (read_at plan j) (cond c (n ∷ filter (is_live plan) ns) (filter (is_live plan) ns))) lives)
        | inr dead ↦
            ap (λ c. sum_by (read_at plan i) (cond c (n ∷ filter (is_live plan) ns) (filter (is_live plan) ns))) dead ∙ each ns
            ∙ sym (ap (λ c. sum_by (read_at plan j) (cond c (n ∷ filter (is_live plan) ns) (filter (is_live plan) ns))) dead)
      ]
