-- A plan with room for one node at a place is a plan, and each node gives what it gave.
use Rattle.std.specs.Prelude.{◌≡◌, ◌<◌, ◌≤◌, ◌+◌, ◌==◌, ◌||◌, ℕ, zero, suc, Bool, true, false, ◌&&◌, List, [], ◌∷◌, map, length, take, Option, Some, None, slice_get, refl}
use Rattle.std.proofs.Common.{ap, sym, ◌∙◌, subst, arith, true≢false}
use Rattle.std.specs.List.{AllByRecursion, insert, list_any}
use Rattle.std.specs.Option.{is_some, option_map, unwrap_or}
use Rattle.std.proofs.lemmas.Bool.{ne_eqb}
use Rattle.std.proofs.lemmas.List.{length-map}
use Rattle.std.proofs.lemmas.Option.{none-some, slice_get_within}
use Rattle.pig_value.proofs.list_laws.Indexing.{get_map, some_at}
use Rattle.pig_value.proofs.list_laws.Listing.{each_weaker, some_same}
use Rattle.pig_value.specs.Trees.{Tree}
use Rattle.pig_value.specs.Valid.{IsValue}
use Rattle.pig_typed.specs.Typed.{Typed}
use Rattle.pig_plan.proofs.Exchanged.{GivesIn, Holds, Kinds, either_false, from_parts, gives_its, never_second, none_first, parts_of, placed, results_are, results_take}
use Rattle.pig_plan.proofs.Lower.{names_lower}
use Rattle.pig_plan.proofs.Renumbering.{gives_moved, inputs_renamed}
use Rattle.pig_plan.proofs.Unfolds.{get-take, length-results}
use Rattle.pig_plan.specs.Exchanged.{may_be_twin}
use Rattle.pig_plan.specs.Given.{kinds_of_given}
use Rattle.pig_plan.specs.Laws.{KeyLiteralsAre, OpLiteralsAre, PlanLiteralsAre}
use Rattle.pig_plan.specs.NodeKinds.{RowKinds, kinds_at, kinds_step, kinds_table, node_gives}
use Rattle.pig_plan.specs.Nodes.{inputs_of, names}
use Rattle.pig_plan.specs.Plans.{Keyed, Plan, PlanNode, PlanOp, node_of, op_of, p_load, p_filter, p_foreach, p_group_all, p_group, p_join, p_union, p_distinct, p_order, p_limit, p_store, p_assert, p_rank, plan_of}
use Rattle.pig_plan.specs.Renumbered.{rename, rename_keyed, renamed}
use Rattle.pig_plan.specs.Results.{at_place}
use Rattle.pig_plan.specs.Room.{idle, past, roomy}
use Rattle.pig_plan.specs.Valid.{AreUpTo, IsPlan, are_twins, is_twin, keys_write_lf, op_writes_lf}
use Rattle.pig_plan.specs.Written.{writes_lf}
use Rattle.pig_plan.specs.declared.given.Given.{Given}
use Rattle.pig_plan.specs.declared.nodes.Node.{Node}
use Rattle.pig_plan.specs.declared.nodes.NodeOp.{NodeOp}

-- ---- the numbers

pub past_one : (at m n : ℕ) → past at m ≡ past at n → m ≡ n
past_one zero m n e = omega (arith, e)
past_one (suc at) zero zero e = refl
past_one (suc at) zero (suc n) e = absurd (omega (arith, e))
past_one (suc at) (suc m) zero e = absurd (omega (arith, e))
past_one (suc at) (suc m) (suc n) e = ap (λ k. suc k) (past_one at m n (omega (arith, e)))

pub past_below : (at n : ℕ) → n < at → past at n ≡ n
past_below zero n h = absurd (omega (arith, h))
past_below (suc at) zero h = refl
past_below (suc at) (suc n) h = ap (λ k. suc k) (past_below at n (omega (arith, h)))

pub past_behind : (at n : ℕ) → at ≤ n → past at n ≡ n + 1
past_behind zero n h = omega arith
past_behind (suc at) zero h = absurd (omega (arith, h))
past_behind (suc at) (suc n) h = let rest = past_behind at n (omega (arith, h)) in omega (arith, rest)

pub past_rises : (at i n : ℕ) → i < n → past at i < past at n
past_rises zero i n h = omega (arith, h)
past_rises (suc at) i zero h = absurd (omega (arith, h))
past_rises (suc at) zero (suc n) h = omega arith
past_rises (suc at) (suc i) (suc n) h = let rest = past_rises at i n (omega (arith, h)) in omega (arith, rest)

-- no node has the number of the new one
pub never_past : (at n : ℕ) → past at n ≡ at → ⊥
never_past zero n e = omega (arith, e)
never_past (suc at) zero e = omega (arith, e)
never_past (suc at) (suc n) e = never_past at n (omega (arith, e))

-- ---- a list with one element more

module _ {X : Type 0} (y : X) where
  pub insert_length : (at : ℕ) (xs : List X) → length (insert xs at y) ≡ suc (length xs)
  insert_length zero xs = refl
  insert_length (suc at) [] = refl
  insert_length (suc at) (x ∷ xs) = ap (λ n. suc n) (insert_length at xs)

  pub insert_there : (at n : ℕ) (xs : List X) (x : X) → slice_get xs n ≡ Some x → slice_get (insert xs at y) (past at n) ≡ Some x
  insert_there zero n xs x h = h
  insert_there (suc at) n [] x h = let within = slice_get_within [] n x h in absurd (omega (arith, within))
  insert_there (suc at) zero (z ∷ xs) x h = h
  insert_there (suc at) (suc n) (z ∷ xs) x h = insert_there at n xs x h

  pub insert_new : (at : ℕ) (xs : List X) → at ≤ length xs → slice_get (insert xs at y) at ≡ Some y
  insert_new zero xs h = refl
  insert_new (suc at) [] h = absurd (omega (arith, h))
  insert_new (suc at) (x ∷ xs) h = insert_new at xs (omega (arith, h))

  pub data From (at : ℕ) (xs : List X) (j : ℕ) (w : X) : Type 0 where
    new : y ≡ w → (at ≤ length xs → j ≡ at) → From at xs j w
    old : (n : ℕ) → past at n ≡ j → slice_get xs n ≡ Some w → From at xs j w

  pub insert_from : (at j : ℕ) (xs : List X) (w : X) → slice_get (insert xs at y) j ≡ Some w → From at xs j w
  insert_from zero zero xs w h = new (some_same y w h) (λ short. refl)
  insert_from zero (suc j) xs w h = old j (omega arith) h
  insert_from (suc at) zero [] w h = new (some_same y w h) (λ short. absurd (omega (arith, short)))
  insert_from (suc at) (suc j) [] w h = let within = slice_get_within (y ∷ []) (suc j) w h in absurd (omega (arith, within))
  insert_from (suc at) zero (x ∷ xs) w h = old 0 refl h
  insert_from (suc at) (suc j) (x ∷ xs) w h = behind (insert_from at j xs w h)
    where
      behind : From at xs j w → From (suc at) (x ∷ xs) (suc j) w
      behind (new e is) = new e (λ short. ap (λ k. suc k) (is (omega (arith, short))))
      behind (old n e g) = old (suc n) (ap (λ k. suc k) e) g

  each_inserted : (P : X → Type 0) (at : ℕ) (xs : List X) → P y → AllByRecursion P xs → AllByRecursion P (insert xs at y)
  each_inserted P zero xs h all = (h, all)
  each_inserted P (suc at) [] h all = (h, tt)
  each_inserted P (suc at) (x ∷ xs) h all = (all.0, each_inserted P at xs h all.1)

  none_inserted : (t : X → Bool) (at n : ℕ) (xs : List X) → n ≤ length xs → t y ≡ false → list_any t (take n xs) ≡ false → list_any t (take (past at n) (insert xs at y)) ≡ false
  none_inserted t zero n xs short h none = ap (λ b. b || list_any t (take n xs)) h ∙ none
  none_inserted t (suc at) zero xs short h none = refl
  none_inserted t (suc at) (suc n) [] short h none = absurd (omega (arith, short))
  none_inserted t (suc at) (suc n) (x ∷ xs) short h none =
      let both = either_false (t x) (list_any t (take n xs)) none in
      ap (λ b. b || list_any t (take (past at n) (insert xs at y))) both.0 ∙ none_inserted t at n xs (omega (arith, short)) h both.1

inserted_map : {X Y : Type 0} (f : X → Y) (at : ℕ) (y : X) (xs : List X) → map f (insert xs at y) ≡ insert (map f xs) at (f y)
inserted_map f zero y xs = refl
inserted_map f (suc at) y [] = refl
inserted_map f (suc at) y (x ∷ xs) = ap (λ ys. f x ∷ ys) (inserted_map f at y xs)

-- ---- a node over inputs at other numbers

module _ (f : ℕ → ℕ) where
  keys_written : (inputs : List Keyed) → keys_write_lf (map (rename_keyed f) inputs) ≡ keys_write_lf inputs
  keys_written [] = refl
  keys_written (k ∷ inputs) = ap (λ b. list_any writes_lf k.keys || b) (keys_written inputs)

  written : (o : PlanOp) → op_writes_lf (rename f o) ≡ op_writes_lf o
  written (p_group inputs) = keys_written inputs
  written (p_join inputs side replicated) = keys_written inputs
  written (p_load path delim columns) = refl
  written (p_filter input cond) = refl
  written (p_foreach input block) = refl
  written (p_group_all input) = refl
  written (p_union inputs) = refl
  written (p_distinct input) = refl
  written (p_order input keys) = refl
  written (p_limit input count) = refl
  written (p_store input path delim) = refl
  written (p_assert input cond message) = refl
  written (p_rank input keys dense) = refl

  limits_renamed : (i j m : ℕ) (u : PlanOp) → are_twins (p_limit i m) (rename f u) ≡ are_twins (p_limit j m) u
  limits_renamed i j m (p_limit input count) = refl
  limits_renamed i j m (p_load path delim columns) = refl
  limits_renamed i j m (p_filter input cond) = refl
  limits_renamed i j m (p_foreach input block) = refl
  limits_renamed i j m (p_group_all input) = refl
  limits_renamed i j m (p_group inputs) = refl
  limits_renamed i j m (p_join inputs side replicated) = refl
  limits_renamed i j m (p_union inputs) = refl
  limits_renamed i j m (p_distinct input) = refl
  limits_renamed i j m (p_order input keys) = refl
  limits_renamed i j m (p_store input path delim) = refl
  limits_renamed i j m (p_assert input cond message) = refl
  limits_renamed i j m (p_rank input keys dense) = refl

  asserts_renamed : (i j : ℕ) (c : Typed) (m : Option (List ℕ)) (u : PlanOp) → are_twins (p_assert i c m) (rename f u) ≡ are_twins (p_assert j c m) u
  asserts_renamed i j c m (p_assert input cond message) = refl
  asserts_renamed i j c m (p_limit input count) = refl
  asserts_renamed i j c m (p_load path delim columns) = refl
  asserts_renamed i j c m (p_filter input cond) = refl
  asserts_renamed i j c m (p_foreach input block) = refl
  asserts_renamed i j c m (p_group_all input) = refl
  asserts_renamed i j c m (p_group inputs) = refl
  asserts_renamed i j c m (p_join inputs side replicated) = refl
  asserts_renamed i j c m (p_union inputs) = refl
  asserts_renamed i j c m (p_distinct input) = refl
  asserts_renamed i j c m (p_order input keys) = refl
  asserts_renamed i j c m (p_store input path delim) = refl
  asserts_renamed i j c m (p_rank input keys dense) = refl

  twins_renamed : (o u : PlanOp) → are_twins (rename f o) (rename f u) ≡ are_twins o u
  twins_renamed (p_limit input count) u = limits_renamed (f input) input count u
  twins_renamed (p_assert input cond message) u = asserts_renamed (f input) input cond message u
  twins_renamed (p_load path delim columns) u = refl
  twins_renamed (p_filter input cond) u = refl
  twins_renamed (p_foreach input block) u = refl
  twins_renamed (p_group_all input) u = refl
  twins_renamed (p_group inputs) u = refl
  twins_renamed (p_join inputs side replicated) u = refl
  twins_renamed (p_union inputs) u = refl
  twins_renamed (p_distinct input) u = refl
  twins_renamed (p_order input keys) u = refl
  twins_renamed (p_store input path delim) u = refl
  twins_renamed (p_rank input keys dense) u = refl

  twin_in : (v : PlanNode) (n : ℕ) (p : Plan) → list_any (is_twin (renamed f v)) (take n (map (renamed f) p)) ≡ list_any (is_twin v) (take n p)
  twin_in v zero p = refl
  twin_in v (suc n) [] = refl
  twin_in v (suc n) (u ∷ p) = λ i. (twins_renamed v.op u.op i && u.statement == v.statement) || twin_in v n p i

  keys_known : (P : Tree → Type 0) (inputs : List Keyed) → KeyLiteralsAre P inputs → KeyLiteralsAre P (map (rename_keyed f) inputs)
  keys_known P [] h = tt
  keys_known P (k ∷ inputs) h = (h.0, keys_known P inputs h.1)

  known : (P : Tree → Type 0) (o : PlanOp) → OpLiteralsAre P o → OpLiteralsAre P (rename f o)
  known P (p_group inputs) h = keys_known P inputs h
  known P (p_join inputs side replicated) h = keys_known P inputs h
  known P (p_filter input cond) h = h
  known P (p_foreach input block) h = h
  known P (p_assert input cond message) h = h
  known P (p_load path delim columns) h = tt
  known P (p_group_all input) h = tt
  known P (p_union inputs) h = tt
  known P (p_distinct input) h = tt
  known P (p_order input keys) h = tt
  known P (p_limit input count) h = tt
  known P (p_store input path delim) h = tt
  known P (p_rank input keys dense) h = tt

  all_known : (P : Tree → Type 0) (p : Plan) → PlanLiteralsAre P p → PlanLiteralsAre P (map (renamed f) p)
  all_known P [] h = tt
  all_known P (v ∷ p) h = (known P v.op h.0, all_known P p h.1)

  statements_up_to : (latest : ℕ) (p : Plan) → AreUpTo latest p → AreUpTo latest (map (renamed f) p)
  statements_up_to latest [] h = tt
  statements_up_to latest (v ∷ p) h = (h.0, statements_up_to latest p h.1)

-- ---- the plan with room

module _ (p : Plan) (at : ℕ) (short : at ≤ length p) where
  abbrev f : ℕ → ℕ
  f n = past at n

  abbrev q : Plan
  q = roomy at p

  mapped_short : at ≤ length (map (renamed f) p)
  mapped_short = let long = length-map p (renamed f) in omega (arith, short, long)

  there : (n : ℕ) (v : PlanNode) → slice_get p n ≡ Some v → slice_get q (f n) ≡ Some (renamed f v)
  there n v stands = insert_there idle at n (map (renamed f) p) (renamed f v) (get_map (renamed f) p n ∙ ap (option_map (renamed f)) stands)

  data Origin (j : ℕ) (w : PlanNode) : Type 0 where
    added : idle ≡ w → j ≡ at → Origin j w
    from_node : (n : ℕ) (v : PlanNode) → slice_get p n ≡ Some v → f n ≡ j → renamed f v ≡ w → Origin j w

  origin : (j : ℕ) (w : PlanNode) → slice_get q j ≡ Some w → Origin j w
  origin j w stands = by_from (insert_from idle at j (map (renamed f) p) w stands)
    where
      by_node : (n : ℕ) → past at n ≡ j → (o : Option PlanNode) → slice_get p n ≡ o → option_map (renamed (past at)) o ≡ Some w → Origin j w
      by_node n e None g h = absurd (none-some w h)
      by_node n e (Some v) g h = from_node n v g e (some_same (renamed (past at) v) w h)

      by_from : From idle at (map (renamed (past at)) p) j w → Origin j w
      by_from (new e is) = added e (is mapped_short)
      by_from (old n e g) = by_node n e (slice_get p n) refl (sym (get_map (renamed (past at)) p n) ∙ g)

  pub none_reads : (n m : ℕ) (u : PlanNode) → slice_get q n ≡ Some u → m ≡ at → names u.op m ≡ true → ⊥
  none_reads n m u stands is name = by_origin (origin n u stands)
    where
      never_named : (ns : List ℕ) → list_any (λ i. i == m) (map (past at) ns) ≡ false
      never_named [] = refl
      never_named (i ∷ ns) = λ j. ne_eqb (past at i) m (λ e. never_past at i (e ∙ is)) j || never_named ns j

      by_origin : Origin n u → ⊥
      by_origin (added e here) = true≢false (sym name ∙ ap (λ w. names w.op m) (sym e))
      by_origin (from_node l v at_l is_n is_u) =
          true≢false (sym name ∙ ap (λ w. names w.op m) (sym is_u) ∙ ap (λ ns. list_any (λ i. i == m) ns) (inputs_renamed f v.op) ∙ never_named (inputs_of v.op))

module _ (p : Plan) (valid : IsPlan p) (at : ℕ) (short : at ≤ length p) where
  abbrev rows : Option RowKinds
  rows = Some []

  abbrev old_table : Kinds
  old_table = kinds_table p

  abbrev table : Kinds
  table = insert old_table at rows

  table_short : at ≤ length old_table
  table_short = let long = length-results kinds_step None p in omega (arith, short, long)

  in_table : (n : ℕ) → n < length old_table → at_place None table (past at n) ≡ at_place None old_table n
  in_table n within =
      let found = some_at old_table n within in
      ap (λ o. unwrap_or o None) (insert_there rows at n old_table found.0 found.1 ∙ sym found.1)

  before_it : (n i : ℕ) → n ≤ length old_table → i < n → at_place None (take (past at n) table) (past at i) ≡ at_place None (take n old_table) i
  before_it n i within lower =
      ap (λ o. unwrap_or o None) (get-take table (past at n) (past at i) (past_rises at i n lower))
      ∙ in_table i (omega (arith, within, lower))
      ∙ ap (λ o. unwrap_or o None) (sym (get-take old_table n i lower))

  gives_idle : GivesIn table at idle.op
  gives_idle = ap (λ o. Some (unwrap_or o None)) (sym (insert_new rows at old_table table_short))

  gives_there : (n : ℕ) (v : PlanNode) → slice_get p n ≡ Some v → GivesIn table (past at n) (rename (past at) v.op)
  gives_there n v stands =
      let inside = slice_get_within p n v stands in
      let long = length-results kinds_step None p in
      let within : n < length old_table = omega (arith, inside, long) in
      gives_moved (past at) (at_place None (take (past at n) table)) (at_place None (take n old_table)) v.op
      (each_weaker (λ i. i < n) (λ i. at_place None (take (past at n) table) (past at i) ≡ at_place None (take n old_table) i)
      (λ i lower. before_it n i (omega (arith, within)) lower) (inputs_of v.op) (names_lower p valid n v stands))
      ∙ gives_its p valid n v stands
      ∙ ap Some (sym (in_table n within))

  gives_in : (j : ℕ) (w : PlanNode) → Origin p at short j w → GivesIn table j w.op
  gives_in j w (added e is) = subst (λ k. GivesIn table k w.op) (sym is) (subst (λ v. GivesIn table at v.op) e gives_idle)
  gives_in j w (from_node n v stands e is) = subst (λ k. GivesIn table k w.op) e (subst (λ u. GivesIn table (past at n) u.op) is (gives_there n v stands))

  pub roomy_table : kinds_table (roomy at p) ≡ table
  roomy_table =
      let size = insert_length rows at old_table in
      let long = insert_length idle at (map (renamed (past at)) p) in
      let mapped = length-map p (renamed (past at)) in
      let whole = length-results kinds_step None p in
      results_are kinds_step None (roomy at p) table (omega (arith, size, long, mapped, whole))
      (λ j w stands.
      let inside = slice_get_within (roomy at p) j w stands in
      placed table j (omega (arith, inside, size, long, mapped, whole))
      ∙ ap Some (sym (ap (λ o. unwrap_or o None) (gives_in j w (origin p at short j w stands)))))

  writes_none : (j : ℕ) (w : PlanNode) → Origin p at short j w → op_writes_lf w.op ≡ false
  writes_none j w (added e is) = ap (λ v. op_writes_lf v.op) (sym e)
  writes_none j w (from_node n v stands e is) =
      ap (λ u. op_writes_lf u.op) (sym is) ∙ written (past at) v.op
      ∙ (parts_of (is_some (node_gives (kinds_at (take n p)) v.op)) (op_writes_lf v.op) (list_any (is_twin v) (take n p)) (valid n v stands)).1

  has_none : (j : ℕ) (w : PlanNode) → Origin p at short j w → list_any (is_twin w) (take j (roomy at p)) ≡ false
  has_none j w (added e is) = none_first w (take j (roomy at p)) (ap (λ v. may_be_twin v.op) (sym e))
  has_none j w (from_node n v stands e is) =
      let inside = slice_get_within p n v stands in
      let mapped = length-map p (renamed (past at)) in
      (λ i. list_any (is_twin (sym is i)) (take (sym e i) (roomy at p)))
      ∙ none_inserted idle (is_twin (renamed (past at) v)) at n (map (renamed (past at)) p) (omega (arith, inside, mapped)) (never_second (renamed (past at) v) idle refl)
      (twin_in (past at) v n p
      ∙ (parts_of (is_some (node_gives (kinds_at (take n p)) v.op)) (op_writes_lf v.op) (list_any (is_twin v) (take n p)) (valid n v stands)).2)

  pub roomy_plan : IsPlan (roomy at p)
  roomy_plan j w stands =
      from_parts (is_some (node_gives (kinds_at (take j (roomy at p))) w.op)) (op_writes_lf w.op) (list_any (is_twin w) (take j (roomy at p)))
      (ap (λ t. is_some (node_gives (at_place None t) w.op)) (results_take kinds_step None (roomy at p) j ∙ ap (take j) roomy_table) ∙ ap is_some (gives_in j w (origin p at short j w stands)))
      (writes_none j w (origin p at short j w stands)) (has_none j w (origin p at short j w stands))

-- ---- nodes, and what is kept beside them

pub made_roomy : (made all : List Node) (idle_node : Node) (nodes : List Node) (at : ℕ) → all ≡ insert made at idle_node → plan_of made ≡ map (renamed (past at)) (plan_of nodes) → node_of idle_node ≡ idle
    → plan_of all ≡ roomy at (plan_of nodes)
made_roomy made all idle_node nodes at is made_is idle_is =
    ap plan_of is ∙ inserted_map node_of at idle_node made ∙ (λ i. insert (made_is i) at (idle_is i))

module _ (nodes made : List Node) (kept all : List Given) (first : Given) (latest at : ℕ) (holds : Holds latest nodes kept) (within : at < length nodes)
    (made_is : plan_of made ≡ roomy at (plan_of nodes)) (first_is : kinds_of_given first ≡ Some []) (all_is : all ≡ insert kept at first) where
  short : at ≤ length (plan_of nodes)
  short = let long = length-map nodes node_of in omega (arith, within, long)

  pub roomy_holds : Holds latest made all
  roomy_holds = (
    subst IsPlan (sym made_is) (roomy_plan (plan_of nodes) holds.0 at short),
    ap (map kinds_of_given) all_is ∙ inserted_map kinds_of_given at first kept ∙ (λ i. insert (holds.1 i) at (first_is i))
        ∙ sym (roomy_table (plan_of nodes) holds.0 at short) ∙ ap kinds_table (sym made_is),
    subst (PlanLiteralsAre IsValue) (sym made_is)
        (each_inserted idle (λ node. OpLiteralsAre IsValue node.op) at (map (renamed (past at)) (plan_of nodes)) tt (all_known (past at) IsValue (plan_of nodes) holds.2)),
    subst (AreUpTo latest) (sym made_is)
        (each_inserted idle (λ node. node.statement ≤ latest) at (map (renamed (past at)) (plan_of nodes)) (omega arith) (statements_up_to (past at) latest (plan_of nodes) holds.3)),
  )

-- there is a place among the renamed nodes, and among what is given
pub no_longer : (made nodes : List Node) (at : ℕ) → plan_of made ≡ map (renamed (past at)) (plan_of nodes) → at < length nodes → at ≤ length made
no_longer made nodes at is within =
    let size : length (plan_of made) ≡ length (map (renamed (past at)) (plan_of nodes)) = ap (λ xs. length xs) is in
    let long = length-map made node_of in
    let mapped = length-map (plan_of nodes) (renamed (past at)) in
    let same = length-map nodes node_of in
    omega (arith, within, size, long, mapped, same)

pub as_many_given : (nodes : List Node) (kept : List Given) (at : ℕ) → map kinds_of_given kept ≡ kinds_table (plan_of nodes) → at < length nodes → at ≤ length kept
as_many_given nodes kept at is within =
    let size : length (map kinds_of_given kept) ≡ length (kinds_table (plan_of nodes)) = ap (λ xs. length xs) is in
    let mapped = length-map kept kinds_of_given in
    let whole = length-results kinds_step None (plan_of nodes) in
    let same = length-map nodes node_of in
    omega (arith, within, size, mapped, whole, same)

pub idle_of : (op : NodeOp) → op_of op ≡ idle.op → node_of (record { op = op; statement = 0 }) ≡ idle
idle_of op is = λ i. record { op = is i; statement = 0 }
