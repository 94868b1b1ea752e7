-- Paths, cut at a node on them, and taken on to where rows are read.
use Rattle.std.specs.Prelude.{◌≡◌, ◌<◌, ◌≤◌, ◌+◌, ◌==◌, ◌&&◌, ◌||◌, ℕ, zero, suc, Bool, true, false, not, List, [], ◌∷◌, ◌++◌, length, map, take, drop, Option, Some, slice_get, get_or, refl}
use Rattle.std.proofs.Common.{inl, inr, ap, sym, ◌∙◌, arith, subst, append_assoc, append-nil, cond, true≢false}
use Rattle.std.specs.List.{flat_map, list_any}
use Rattle.std.specs.Option.{option_map_or}
use Rattle.std.proofs.lemmas.Bool.{cases_Bool, eq-eqb, eqb-true}
use Rattle.std.proofs.lemmas.Bool.{cases_lt}
use Rattle.std.proofs.lemmas.List.{length-append}
use Rattle.std.proofs.lemmas.Option.{slice_get_within}
use Rattle.pig_value.proofs.list_laws.Indexing.{drop-add, get-drop, some_at}
use Rattle.pig_value.proofs.list_laws.Listing.{each_at, some_same}
use Rattle.pig_typed.specs.Typed.{Typed}
use Rattle.pig_plan.proofs.Lower.{names_lower}
use Rattle.pig_plan.proofs.Paths.{paths_of_node}
use Rattle.pig_plan.specs.Nodes.{Entering, Path, and_then, entering, inputs_of, is_boundary, is_live, is_source, is_store, is_used, names, paths_of}
use Rattle.pig_plan.specs.Plans.{Plan, PlanNode, PlanOp, p_load, p_filter, p_foreach, p_group_all, p_group, p_join, p_union, p_distinct, p_order, p_limit, p_store, p_assert, p_rank}
use Rattle.pig_plan.specs.Valid.{IsPlan, are_twins, fits, is_twin}
use Rattle.pig_waves.proofs.Among.{Among, MadeOf, among_behind, among_flat, among_front, among_map, any_holds, made_of, mapped_from, some_holds}

-- ---- a list with one more element, cut

pub data CutAt {X : Type 0} (xs : List X) (y : X) (before : List X) (k : X) (after : List X) : Type 0 where
  at_last : after ≡ [] → y ≡ k → xs ≡ before → CutAt xs y before k after
  at_inner : (rest : List X) → after ≡ rest ++ y ∷ [] → xs ≡ before ++ k ∷ rest → CutAt xs y before k after

module _ {X : Type 0} where
  heads_same : (x y : X) (xs ys : List X) → x ∷ xs ≡ y ∷ ys → x ≡ y
  heads_same x y xs ys e = ap (λ l. get_or l 0 x) e

  tails_same : (x y : X) (xs ys : List X) → x ∷ xs ≡ y ∷ ys → xs ≡ ys
  tails_same x y xs ys e = ap (drop 1) e

  none_is_none : (before : List X) (k : X) (after : List X) → [] ≡ before ++ k ∷ after → ⊥
  none_is_none before k after e = let size = ap length e in let sum = length-append before (k ∷ after) in omega (arith, size, sum)

  pub cut_at : (xs : List X) (y : X) (before : List X) (k : X) (after : List X) → xs ++ y ∷ [] ≡ before ++ k ∷ after → CutAt xs y before k after
  cut_at [] y [] k after e = at_last (sym (tails_same y k [] after e)) (heads_same y k [] after e) refl
  cut_at [] y (b ∷ before) k after e = absurd (none_is_none before k after (tails_same y b [] (before ++ k ∷ after) e))
  cut_at (x ∷ xs) y [] k after e = at_inner xs (sym (tails_same x k (xs ++ y ∷ []) after e)) (λ i. heads_same x k (xs ++ y ∷ []) after e i ∷ xs)
  cut_at (x ∷ xs) y (b ∷ before) k after e = more (cut_at xs y before k after (tails_same x b (xs ++ y ∷ []) (before ++ k ∷ after) e))
    where
      first : x ≡ b
      first = heads_same x b (xs ++ y ∷ []) (before ++ k ∷ after) e

      more : CutAt xs y before k after → CutAt (x ∷ xs) y (b ∷ before) k after
      more (at_last none same is) = at_last none same (λ i. first i ∷ is i)
      more (at_inner rest is cut) = at_inner rest is (λ i. first i ∷ cut i)

module _ (plan : Plan) (valid : IsPlan plan) where
  -- ---- a path of a node, up to a node on it, is a path of one of this one's inputs

  pub record Before (path : Path) (before : List ℕ) (v : PlanNode) : Type 0 where
    pub input : ℕ
    pub among : Among input (inputs_of v.op)
    pub path_there : Among (record { source = path.source; nodes = before }) (paths_of plan input)

  path_cut : (n j : ℕ) → j < n → (w : PlanNode) → slice_get plan j ≡ Some w → (path : Path) → Among path (paths_of plan j)
      → (before : List ℕ) (k : ℕ) (after : List ℕ) → path.nodes ≡ before ++ k ∷ after → (v : PlanNode) → slice_get plan k ≡ Some v → Before path before v
  path_cut zero j below w there path among before k after e v at = absurd (omega (arith, below))
  path_cut (suc n) j below w there path among before k after e v at = elim (cases_Bool (is_source w.op)) [
    | inl source ↦
        let own : Among path (record { source = j; nodes = [] } ∷ []) =
        subst (Among path) (paths_of_node plan valid j w there ∙ ap (λ b. cond b (record { source = j; nodes = [] } ∷ []) (flat_map (λ i. map (and_then j) (paths_of plan i)) (inputs_of w.op))) source) among in
        absurd (none_is_none before k after (ap (λ p. p.nodes) (single (record { source = j; nodes = [] }) own.at own.is) ∙ e))
    | inr by_row ↦
        let found : MadeOf (λ i. map (and_then j) (paths_of plan i)) (inputs_of w.op) path =
        made_of (λ i. map (and_then j) (paths_of plan i)) (inputs_of w.op) path
        (subst (Among path) (paths_of_node plan valid j w there ∙ ap (λ b. cond b (record { source = j; nodes = [] } ∷ []) (flat_map (λ i. map (and_then j) (paths_of plan i)) (inputs_of w.op))) by_row) among) in
        let from = mapped_from (and_then j) (paths_of plan found.x) path found.made in
        let lower : found.x < j = each_at (λ i. i < j) (inputs_of w.op) found.among.at found.x found.among.is (names_lower plan valid j w there) in
        by_cut (path_cut n) found.x found.among from.x from.among from.is lower (cut_at from.x.nodes j before k after (ap (λ p. p.nodes) from.is ∙ e))
  ]
    where
      single : (own : Path) (i : ℕ) → slice_get (own ∷ []) i ≡ Some path → own ≡ path
      single own zero h = some_same own path h
      single own (suc i) h = absurd (cc)

      by_cut : ((i : ℕ) → i < n → (u : PlanNode) → slice_get plan i ≡ Some u → (p : Path) → Among p (paths_of plan i)
          → (front : List ℕ) (l : ℕ) (rest : List ℕ) → p.nodes ≡ front ++ l ∷ rest → (x : PlanNode) → slice_get plan l ≡ Some x → Before p front x)
          → (i : ℕ) → Among i (inputs_of w.op) → (p : Path) → Among p (paths_of plan i) → and_then j p ≡ path → i < j → CutAt p.nodes j before k after → Before path before v
      by_cut inside i named p there_too is lower (at_last none same cut) =
          let node_is : w ≡ v = some_same w v (sym there ∙ ap (slice_get plan) same ∙ at) in
          let path_is : p ≡ record { source = path.source; nodes = before } = λ l. record { source = ap (λ q. q.source) is l; nodes = cut l } in
          record {
            input = i;
            among = subst (λ u. Among i (inputs_of u.op)) node_is named;
            path_there = subst (λ q. Among q (paths_of plan i)) path_is there_too;
          }
      by_cut inside i named p there_too is lower (at_inner rest end cut) =
          let short = slice_get_within plan j w there in
          let found = some_at plan i (omega (arith, lower, short)) in
          let inner = inside i (omega (arith, lower, below)) found.0 found.1 p there_too before k rest cut v at in
          record {
            input = inner.input;
            among = inner.among;
            path_there = subst (λ source. Among (record { source = source; nodes = before }) (paths_of plan inner.input)) (ap (λ q. q.source) is) inner.path_there;
          }

  pub cut_path : (j : ℕ) (w : PlanNode) → slice_get plan j ≡ Some w → (path : Path) → Among path (paths_of plan j)
      → (before : List ℕ) (k : ℕ) (after : List ℕ) → path.nodes ≡ before ++ k ∷ after → (v : PlanNode) → slice_get plan k ≡ Some v → Before path before v
  cut_path j = path_cut (j + 1) j (omega arith)

  -- ---- a path of a live node goes on to where rows are read

  -- a way into a boundary node, or to a STORE
  pub data IsRead (m : ℕ) (o : PlanOp) (way : Entering) : Type 0 where
    into : is_boundary o ≡ true → Among way (entering (paths_of plan) 0 (inputs_of o)) → IsRead m o way
    stored : is_store o ≡ true → Among way (entering (paths_of plan) 0 (m ∷ [])) → IsRead m o way

  pub record GoesOn (path : Path) : Type 0 where
    pub node : ℕ
    pub v : PlanNode
    pub at : slice_get plan node ≡ Some v
    pub alive : is_live plan node ≡ true
    pub way : Entering
    pub read : IsRead node v.op way
    pub rest : List ℕ
    pub is : way.path ≡ record { source = path.source; nodes = path.nodes ++ rest }

  -- a live node that is no STORE is named by a live one
  record Named (k n : ℕ) (nodes : Plan) : Type 0 where
    pub j : ℕ
    pub v : PlanNode
    pub at : slice_get nodes j ≡ Some v
    pub name : names v.op k ≡ true
    pub live : (is_store v.op || is_used (n + j) (n + j + 1) (drop (j + 1) nodes)) ≡ true

  named_by : (k n : ℕ) (nodes : Plan) → is_used k n nodes ≡ true → Named k n nodes
  named_by k n [] h = absurd (true≢false (sym h))
  named_by k n (v ∷ nodes) h = by_test (named_by k (n + 1) nodes) (names v.op k && (is_store v.op || is_used n (n + 1) nodes)) refl h
    where
      both : (a b : Bool) → (a && b) ≡ true → (a ≡ true) × (b ≡ true)
      both true b e = (refl, e)
      both false b e = absurd (true≢false (sym e))

      later : Named k (n + 1) nodes → Named k n (v ∷ nodes)
      later g =
          let place : n + 1 + g.j ≡ n + suc g.j = omega arith in
          let one : g.j + 1 ≡ suc g.j = omega arith in
          let two : suc g.j + 1 ≡ suc (g.j + 1) = omega arith in
          record {
            j = suc g.j;
            v = g.v;
            at = g.at;
            name = g.name;
            live = ap (λ m. is_store g.v.op || is_used (n + suc g.j) (n + suc g.j + 1) (drop m (v ∷ nodes))) two
                ∙ (λ i. is_store g.v.op || is_used (sym place i) (sym place i + 1) (drop (g.j + 1) nodes)) ∙ g.live;
          }

      by_test : (is_used k (n + 1) nodes ≡ true → Named k (n + 1) nodes) → (b : Bool) → (names v.op k && (is_store v.op || is_used n (n + 1) nodes)) ≡ b → (b || is_used k (n + 1) nodes) ≡ true → Named k n (v ∷ nodes)
      by_test rest true e g =
          let two = both (names v.op k) (is_store v.op || is_used n (n + 1) nodes) e in
          let here : n + 0 ≡ n = omega arith in
          record { j = 0; v = v; at = refl; name = two.0; live = (λ i. is_store v.op || is_used (here i) (here i + 1) nodes) ∙ two.1 }
      by_test rest false e g = later (rest g)

  -- the place of an input, and the ways by it
  entered : (i : ℕ) (ns : List ℕ) (k : ℕ) → list_any (λ n. n == k) ns ≡ true → (path : Path) → Among path (paths_of plan k)
      → (j : ℕ) × Among (record { input = j; path = path }) (entering (paths_of plan) i ns)
  entered i [] k h path among = absurd (true≢false (sym h))
  entered i (n ∷ ns) k h path among = by_test (λ g. entered (i + 1) ns k g path among) (n == k) refl h
    where
      by_test : (list_any (λ m. m == k) ns ≡ true → (j : ℕ) × Among (record { input = j; path = path }) (entering (paths_of plan) (i + 1) ns))
          → (b : Bool) → (n == k) ≡ b → (b || list_any (λ m. m == k) ns) ≡ true → (j : ℕ) × Among (record { input = j; path = path }) (entering (paths_of plan) i (n ∷ ns))
      by_test more true e g =
          let same : n ≡ k = eqb-true n k e in
          let way : Entering = record { input = i; path = path } in (
            i,
            among_front way (map (λ p. record { input = i; path = p }) (paths_of plan n)) (entering (paths_of plan) (i + 1) ns)
                (among_map (λ p. record { input = i; path = p }) (paths_of plan n) path (subst (λ m. Among path (paths_of plan m)) (sym same) among)),
          )
      by_test more false e g =
          let rest = more g in
          (rest.0, among_behind (record { input = rest.0; path = path }) (map (λ p. record { input = i; path = p }) (paths_of plan n)) (entering (paths_of plan) (i + 1) ns) rest.1)

  -- a node that names another, and brings nothing together, works row by row
  by_row_of : (o : PlanOp) (k : ℕ) → names o k ≡ true → is_boundary o ≡ false → is_source o ≡ false
  by_row_of (p_load path delim columns) k h b = absurd (true≢false (sym h))
  by_row_of (p_filter input test) k h b = refl
  by_row_of (p_foreach input block) k h b = refl
  by_row_of (p_group_all input) k h b = absurd (true≢false b)
  by_row_of (p_group keyed) k h b = absurd (true≢false b)
  by_row_of (p_join keyed side replicated) k h b = absurd (true≢false b)
  by_row_of (p_union numbers) k h b = refl
  by_row_of (p_distinct input) k h b = absurd (true≢false b)
  by_row_of (p_order input keys) k h b = absurd (true≢false b)
  by_row_of (p_limit input count) k h b = absurd (true≢false b)
  by_row_of (p_store input path delim) k h b = refl
  by_row_of (p_assert input test message) k h b = refl
  by_row_of (p_rank input keys dense) k h b = absurd (true≢false b)

  -- a node that works row by row hands the paths of its inputs on
  pub handed_path : (k : ℕ) (v : PlanNode) → slice_get plan k ≡ Some v → is_source v.op ≡ false → (i : ℕ) → Among i (inputs_of v.op) → (path : Path) → Among path (paths_of plan i)
      → Among (and_then k path) (paths_of plan k)
  handed_path k v at by_row i named path among =
      subst (Among (and_then k path)) (sym (paths_of_node plan valid k v at ∙ ap (λ b. cond b (record { source = k; nodes = [] } ∷ []) (flat_map (λ n. map (and_then k) (paths_of plan n)) (inputs_of v.op))) by_row))
      (among_flat (λ n. map (and_then k) (paths_of plan n)) (inputs_of v.op) i (and_then k path) named (among_map (and_then k) (paths_of plan i) path among))

  same_path : (path : Path) → path ≡ record { source = path.source; nodes = path.nodes ++ [] }
  same_path path = λ i. record { source = path.source; nodes = sym (append-nil path.nodes) i }

  goes_on : (fuel k : ℕ) → length plan ≤ k + fuel → (v : PlanNode) → slice_get plan k ≡ Some v → is_live plan k ≡ true → (path : Path) → Among path (paths_of plan k) → GoesOn path
  goes_on zero k far v at alive path among = let within = slice_get_within plan k v at in absurd (omega (arith, far, within))
  goes_on (suc fuel) k far v at alive path among = by_store (goes_on fuel) (is_store v.op) refl
    where
      itself : list_any (λ n. n == k) (k ∷ []) ≡ true
      itself = ap (λ b. b || false) (eq-eqb k k refl)

      Onwards : Type 0
      Onwards = (m : ℕ) → length plan ≤ m + fuel → (u : PlanNode) → slice_get plan m ≡ Some u → is_live plan m ≡ true → (p : Path) → Among p (paths_of plan m) → GoesOn p

      by_store : Onwards → (b : Bool) → is_store v.op ≡ b → GoesOn path
      by_store onwards true e =
          let way = entered 0 (k ∷ []) k itself path among in
          record { node = k; v = v; at = at; alive = alive; way = record { input = way.0; path = path }; read = stored e way.1; rest = []; is = same_path path }
      by_store onwards false e = by_user (named_by k (k + 1) (drop (k + 1) plan) used)
        where
          used : is_used k (k + 1) (drop (k + 1) plan) ≡ true
          used =
              ap (λ b. b || is_used k (k + 1) (drop (k + 1) plan)) (sym e)
              ∙ sym (ap (λ found. option_map_or (λ node. is_store node.op || is_used k (k + 1) (drop (k + 1) plan)) found false) at) ∙ alive

          by_user : Named k (k + 1) (drop (k + 1) plan) → GoesOn path
          by_user user = by_bounds (is_boundary user.v.op) refl
            where
              m : ℕ
              m = k + 1 + user.j

              there : slice_get plan m ≡ Some user.v
              there = sym (get-drop plan (k + 1) user.j) ∙ user.at

              lives : is_live plan m ≡ true
              lives =
                  ap (λ found. option_map_or (λ node. is_store node.op || is_used m (m + 1) (drop (m + 1) plan)) found false) there
                  ∙ ap (λ rest. is_store user.v.op || is_used m (m + 1) rest) ((let n : m + 1 ≡ k + 1 + (user.j + 1) = omega arith in ap (λ l. drop l plan) n) ∙ sym (drop-add plan (k + 1) (user.j + 1)))
                  ∙ user.live

              by_bounds : (b : Bool) → is_boundary user.v.op ≡ b → GoesOn path
              by_bounds true bounds =
                  let way = entered 0 (inputs_of user.v.op) k user.name path among in
                  record { node = m; v = user.v; at = there; alive = lives; way = record { input = way.0; path = path }; read = into bounds way.1; rest = []; is = same_path path }
              by_bounds false bounds =
                  let by_row = by_row_of user.v.op k user.name bounds in
                  let held = some_holds (λ n. n == k) (inputs_of user.v.op) user.name in
                  let same : held.x ≡ k = eqb-true held.x k held.is in
                  let on = handed_path m user.v there by_row k (subst (λ n. Among n (inputs_of user.v.op)) same held.among) path among in
                  let next = onwards m (omega (arith, far)) user.v there lives (and_then m path) on in
                  record {
                    node = next.node;
                    v = next.v;
                    at = next.at;
                    alive = next.alive;
                    way = next.way;
                    read = next.read;
                    rest = m ∷ next.rest;
                    is = next.is ∙ (λ i. record { source = path.source; nodes = append_assoc path.nodes (m ∷ []) next.rest i });
                  }

  pub path_goes_on : (k : ℕ) (v : PlanNode) → slice_get plan k ≡ Some v → is_live plan k ≡ true → (path : Path) → Among path (paths_of plan k) → GoesOn path
  path_goes_on k v at alive path among = goes_on (length plan) k (omega arith) v at alive path among

  -- ---- no two ASSERTs have one statement

  module _ (j k : ℕ) (v w : PlanNode) (at : slice_get plan j ≡ Some v) (there : slice_get plan k ≡ Some w) (asserts : are_twins w.op v.op ≡ true) (same : v.statement ≡ w.statement) where
    twin : is_twin w v ≡ true
    twin = (λ i. asserts i && eq-eqb v.statement w.statement same i)

    not_before : j < k → ⊥
    not_before before =
        let fit : fits (take k plan) w ≡ true = valid k w there in
        let found : slice_get (take k plan) j ≡ Some v = get_taken plan k j before ∙ at in
        let any = any_holds (is_twin w) (take k plan) v (record { at = j; is = found }) twin in
        true≢false (sym (last_true _ _ fit) ∙ ap not any)
      where
        last_true : (a b : Bool) → (a && b) ≡ true → b ≡ true
        last_true true b h = h
        last_true false b h = absurd (true≢false (sym h))

        get_taken : {X : Type 0} (xs : List X) (n i : ℕ) → i < n → slice_get (take n xs) i ≡ slice_get xs i
        get_taken xs zero i h = absurd (omega (arith, h))
        get_taken [] (suc n) i h = refl
        get_taken (x ∷ xs) (suc n) zero h = refl
        get_taken (x ∷ xs) (suc n) (suc i) h = get_taken xs n i (omega (arith, h))

  -- so they are one node
  pub asserts_differ : (j k : ℕ) (v w : PlanNode) → slice_get plan j ≡ Some v → slice_get plan k ≡ Some w
      → {i l : ℕ} {e d : Typed} {m n : Option (List ℕ)} → v.op ≡ p_assert i e m → w.op ≡ p_assert l d n → v.statement ≡ w.statement → j ≡ k
  asserts_differ j k v w at there {i} {l} {e} {d} {m} {n} first second same =
      let one : are_twins w.op v.op ≡ true = (λ q. are_twins (second q) (first q)) in
      let other : are_twins v.op w.op ≡ true = (λ q. are_twins (first q) (second q)) in
      elim (cases_lt j k) [
        | inl less ↦ absurd (not_before j k v w at there one same less)
        | inr more ↦ elim (cases_lt k j) [
          | inl less ↦ absurd (not_before k j w v there at other (sym same) less)
          | inr most ↦ omega (arith, more, most)
        ]
      ]
