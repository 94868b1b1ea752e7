-- A live ASSERT is met by the meaning just where no task tells of it.
use Rattle.std.specs.Prelude.{◌≡◌, ◌<◌, ◌+◌, ◌==◌, ℕ, zero, suc, Bool, true, false, not, List, [], ◌∷◌, ◌++◌, map, Option, None, Some, slice_get, refl}
use Rattle.std.proofs.Common.{inl, inr, ap, sym, ◌∙◌, arith, subst, append_assoc, true≢false}
use Rattle.std.specs.List.{AllByRecursion, filter, flat_map, list_all, list_any}
use Rattle.std.specs.Option.{option_map, option_map_or, unwrap_or}
use Rattle.std.proofs.lemmas.Bool.{cases_Bool, eq-eqb, eqb-true}
use Rattle.std.proofs.lemmas.Option.{slice_get_within}
use Rattle.pig_value.specs.declared.inputs.Input.{Input}
use Rattle.pig_value.specs.declared.outcomes.Kept.{Kept}
use Rattle.pig_value.specs.Elementwise.{Each}
use Rattle.pig_value.specs.Orders.{bag_of}
use Rattle.pig_value.specs.Trees.{Tree}
use Rattle.pig_value.proofs.list_laws.Indexing.{some_at}
use Rattle.pig_value.proofs.list_laws.Listing.{each-append, each-filter, each-map, each_at, each_filtered, each_of_all, each_weaker, some_same}
use Rattle.pig_typed.specs.Evaluation.{passes}
use Rattle.pig_typed.specs.Typed.{Typed}
use Rattle.pig_plan.proofs.Lower.{names_lower}
use Rattle.pig_plan.specs.Asserts.{unmet_on}
use Rattle.pig_plan.specs.Meaning.{meaning}
use Rattle.pig_plan.specs.Nodes.{Entering, Path, and_then, entering, inputs_of, is_live, is_store, live, op_at, paths_of}
use Rattle.pig_plan.specs.Plans.{PlanNode, PlanOp, p_assert}
use Rattle.pig_plan.specs.Steps.{rows_along, through}
use Rattle.pig_plan.specs.Valid.{IsPlan}
use Rattle.pig_runs.specs.Cutting.{Point}
use Rattle.pig_physical.specs.Combining.{folds}
use Rattle.pig_physical.specs.declared.parts.Part.{Part}
use Rattle.pig_physical.specs.declared.waves.WaveHead.{WaveHead}
use Rattle.pig_physical.specs.declared.waves.WaveKind.{WaveKind}
use Rattle.pig_physical.specs.declared.waves.WaveKind.TheVariants as kinds
use Rattle.pig_physical.specs.Outs.{Outs, TaskOut, outs_at}
use Rattle.pig_physical.specs.Running.{IsRun, all_unmet, store_wave}
use Rattle.pig_physical.specs.Stages.{MapTask, Stages, Task, enters_first, first_wave, heads, is_replicated, map_tasks, partition_tasks, parts_at, path_tasks, store_tasks, stores, t_map, t_rank, t_reduce, tasks_by, tasks_in, tasks_of, tasks_on, ways_into, ways_to}
use Rattle.pig_physical.specs.Values.{IsValue, read_rows, source_rows}
use Rattle.pig_waves.proofs.Heads.{probes_at, stands_at}
use Rattle.pig_waves.proofs.Places.{all_flat_where, filtered_at}
use Rattle.pig_waves.proofs.Sources.{rows_of_parts}
use Rattle.pig_waves.proofs.Tasks.{rows_at_node, through_parts}
use Rattle.pig_waves.specs.Laws.{copy_tasks, probe_tasks}
use Rattle.pig_waves.proofs.Among.{Among, among_flat, among_map, any_holds, made_of, not_all, some_fails, some_holds}
use Rattle.pig_cutter.proofs.Stores.{store_among, store_tasks_last}
use Rattle.pig_cutter.proofs.Told.{all_alike, all_among, in_none, any_sorted, from_sorted, told_at, tells}
use Rattle.pig_cutter.proofs.Ways.{IsRead, asserts_differ, cut_path, handed_path, into, path_goes_on, stored}

-- ---- two lists element beside element

module _ {X Y : Type 0} (P : X → Y → Type 0) where
  pub record Beside (xs : List X) (ys : List Y) (i : ℕ) : Type 0 where
    pub x : X
    pub y : Y
    pub first : slice_get xs i ≡ Some x
    pub second : slice_get ys i ≡ Some y
    pub both : P x y

  beside_right : (xs : List X) (ys : List Y) → Each P xs ys → (i : ℕ) (y : Y) → slice_get ys i ≡ Some y → Beside xs ys i
  beside_right [] [] h i y at = absurd (cc)
  beside_right [] (v ∷ ys) h i y at = absurd h
  beside_right (x ∷ xs) [] h i y at = absurd h
  beside_right (x ∷ xs) (v ∷ ys) h zero y at = record { x = x; y = v; first = refl; second = refl; both = h.0 }
  beside_right (x ∷ xs) (v ∷ ys) h (suc i) y at = let rest = beside_right xs ys h.1 i y at in record { x = rest.x; y = rest.y; first = rest.first; second = rest.second; both = rest.both }

  beside_left : (xs : List X) (ys : List Y) → Each P xs ys → (i : ℕ) (x : X) → slice_get xs i ≡ Some x → Beside xs ys i
  beside_left [] [] h i x at = absurd (cc)
  beside_left [] (v ∷ ys) h i x at = absurd h
  beside_left (u ∷ xs) [] h i x at = absurd h
  beside_left (u ∷ xs) (v ∷ ys) h zero x at = record { x = u; y = v; first = refl; second = refl; both = h.0 }
  beside_left (u ∷ xs) (v ∷ ys) h (suc i) x at = let rest = beside_left xs ys h.1 i x at in record { x = rest.x; y = rest.y; first = rest.first; second = rest.second; both = rest.both }

-- an element that passes a test is one of those that do
among_filtered : {X : Type 0} (p : X → Bool) (x : X) (xs : List X) → Among x xs → p x ≡ true → Among x (filter p xs)
among_filtered p x xs h passes = let found = filtered_at p xs h.at x h.is passes in record { at = found.0; is = found.1 }

module _ (s : Stages) (inputs : List Input) (points : ℕ → List Point) (outs : Outs) (valid : IsPlan s.plan) (run : IsRun s inputs points outs) where
  -- ---- what is known of each task

  pub record IsWay (way : Entering) : Type 0 where
    pub j : ℕ
    pub v : PlanNode
    pub at : slice_get s.plan j ≡ Some v
    pub among : Among way.path (paths_of s.plan j)

  pub record Reads (t : MapTask) : Type 0 where
    pub o : PlanOp
    pub known : op_at s.plan t.node ≡ Some o
    pub way : IsWay t.way
    pub part : Among t.part (parts_at s t.way.path.source)

  abbrev IsKnown : Task → Type 0
  IsKnown (t_map t) = Reads t
  IsKnown (t_reduce t) = (o : PlanOp) × (op_at s.plan t.node ≡ Some o)
  IsKnown (t_rank t) = (o : PlanOp) × (op_at s.plan t.node ≡ Some o)

  abbrev IsNode : ℕ → Type 0
  IsNode n = (v : PlanNode) × (slice_get s.plan n ≡ Some v)

  known_parts : (k : ℕ) (o : PlanOp) → op_at s.plan k ≡ Some o → (way : Entering) → IsWay way → AllByRecursion Reads (path_tasks s k way)
  known_parts k o at way is =
      each-map Reads (λ part. record { node = k; way = way; part = part }) (parts_at s way.path.source)
      (each_weaker (λ part. Among part (parts_at s way.path.source)) (λ part. Reads (record { node = k; way = way; part = part }))
      (λ part among. record { o = o; known = at; way = is; part = among }) (parts_at s way.path.source) (all_among (parts_at s way.path.source)))

  known_on : (k : ℕ) (o : PlanOp) → op_at s.plan k ≡ Some o → (ways : List Entering) → AllByRecursion IsWay ways → AllByRecursion Reads (tasks_on s k ways)
  known_on k o at ways h = all_flat_where Reads IsWay (path_tasks s k) (known_parts k o at) ways h

  known_ways : (i : ℕ) (ns : List ℕ) → AllByRecursion IsNode ns → AllByRecursion IsWay (entering (paths_of s.plan) i ns)
  known_ways i [] h = tt
  known_ways i (n ∷ ns) h =
      each-append IsWay (map (λ path. record { input = i; path = path }) (paths_of s.plan n)) (entering (paths_of s.plan) (i + 1) ns)
      (each-map IsWay (λ path. record { input = i; path = path }) (paths_of s.plan n)
      (each_weaker (λ path. Among path (paths_of s.plan n)) (λ path. IsWay (record { input = i; path = path })) (λ path among. record { j = n; v = h.0.0; at = h.0.1; among = among })
      (paths_of s.plan n) (all_among (paths_of s.plan n))))
      (known_ways (i + 1) ns h.1)

  known_inputs : (k : ℕ) (v : PlanNode) → slice_get s.plan k ≡ Some v → AllByRecursion IsNode (inputs_of v.op)
  known_inputs k v at =
      let short = slice_get_within s.plan k v at in
      each_weaker (λ i. i < k) IsNode (λ i below. some_at s.plan i (omega (arith, below, short))) (inputs_of v.op) (names_lower s.plan valid k v at)

  known_maps : (k : ℕ) (v : PlanNode) → slice_get s.plan k ≡ Some v → AllByRecursion Reads (map_tasks s k v.op)
  known_maps k v at = known_on k v.op (ap (option_map (λ n. n.op)) at) (ways_into s.plan v.op) (known_ways 0 (inputs_of v.op) (known_inputs k v at))

  known_partitions : (wave k : ℕ) (v : PlanNode) → slice_get s.plan k ≡ Some v → AllByRecursion (λ t. (o : PlanOp) × (op_at s.plan t.node ≡ Some o)) (partition_tasks s wave k v.op)
  known_partitions wave k v at =
      each-map (λ t. (o : PlanOp) × (op_at s.plan t.node ≡ Some o)) (λ p. record { node = k; wave = wave; part = p }) _
      (each_of_all (λ p. (o : PlanOp) × (op_at s.plan k ≡ Some o)) (λ p. (v.op, ap (option_map (λ n. n.op)) at)) _)

  is_here : ℕ → Bool
  is_here n = option_map_or is_store (op_at s.plan n) false

  known_stores : AllByRecursion Reads (flat_map (store_tasks s) (stores s.plan))
  known_stores =
      all_flat_where Reads (λ n. option_map_or is_store (op_at s.plan n) false ≡ true) (store_tasks s)
      (λ n h. by_node n (slice_get s.plan n) refl h) (stores s.plan) (each_filtered (λ n. option_map_or is_store (op_at s.plan n) false) (live s.plan))
    where
      by_node : (n : ℕ) (found : Option PlanNode) → slice_get s.plan n ≡ found → option_map_or is_store (option_map (λ v. v.op) found) false ≡ true → AllByRecursion Reads (store_tasks s n)
      by_node n None e h = absurd (true≢false (sym h))
      by_node n (Some v) e h = known_on n v.op (ap (option_map (λ m. m.op)) e) (ways_to s.plan n) (known_ways 0 (n ∷ []) ((v, e), tt))

  known_by : (w : ℕ) (kind : WaveKind) (k : ℕ) (v : PlanNode) → slice_get s.plan k ≡ Some v → AllByRecursion IsKnown (tasks_by s w kind k v.op)
  known_by w kinds.Map k v at = each-map IsKnown t_map (map_tasks s k v.op) (known_maps k v at)
  known_by w kinds.Reduce k v at = each-map IsKnown t_reduce _ (known_partitions _ k v at)
  known_by w kinds.Copy k v at = each-map IsKnown t_map _ (each-filter _ Reads (map_tasks s k v.op) (known_maps k v at))
  known_by w kinds.Probe k v at = each-map IsKnown t_map _ (each-filter _ Reads (map_tasks s k v.op) (known_maps k v at))
  known_by w kinds.Rank k v at = each-map IsKnown t_rank _ (known_partitions _ k v at)
  known_by w kinds.Store k v at = each-map IsKnown t_map (flat_map (store_tasks s) (stores s.plan)) known_stores

  known_tasks : (w : ℕ) → AllByRecursion IsKnown (tasks_in s w)
  known_tasks w = by_head (slice_get (heads s.plan) w)
    where
      by_node : (head : WaveHead) (found : Option PlanNode) → slice_get s.plan head.node ≡ found → AllByRecursion IsKnown (option_map_or (tasks_by s w head.kind head.node) (option_map (λ v. v.op) found) [])
      by_node head None e = tt
      by_node head (Some v) e = known_by w head.kind head.node v e

      by_head : (found : Option WaveHead) → AllByRecursion IsKnown (option_map_or (tasks_of s w) found [])
      by_head None = tt
      by_head (Some head) = by_node head (slice_get s.plan head.node) refl

  -- ---- an ASSERT that the meaning may not meet

  module _ (kept : List Kept)
      (k statement input : ℕ) (test : Typed) (message : Option (List ℕ)) (at : slice_get s.plan k ≡ Some (record { op = p_assert input test message; statement = statement })) (alive : is_live s.plan k ≡ true)
      (same_rows : bag_of (rows_at_node s inputs outs input) ≡ bag_of (meaning s.plan inputs kept input)) where
    abbrev v : PlanNode
    v = record { op = p_assert input test message; statement = statement }

    abbrev rows : List (List Tree)
    rows = rows_at_node s inputs outs input

    abbrev put : List ℕ → List (List Tree) → List (List Tree)
    put = through (folds s.plan) s.plan

    -- a row on a path and of a part is one of those that come to the node
    row_comes : (path : Path) (part : Part) (row : List Tree) → Among path (paths_of s.plan input) → Among part (parts_at s path.source)
        → Among row (put path.nodes (source_rows s.plan inputs outs path.source part)) → Among row rows
    row_comes path part row on of_source h =
        among_flat (rows_along (folds s.plan) s.plan (rows_of_parts s inputs outs)) (paths_of s.plan input) path row on
        (subst (Among row) (through_parts s inputs outs path.nodes (source_rows s.plan inputs outs path.source) (parts_at s path.source))
        (among_flat (λ p. put path.nodes (source_rows s.plan inputs outs path.source p)) (parts_at s path.source) part row of_source h))

    -- told by a task, and not met
    told_by_task : (t : MapTask) → Reads t → Among statement (unmet_on (folds s.plan) s.plan t.way.path.nodes (read_rows s.plan inputs outs t)) → list_all (passes test) rows ≡ false
    told_by_task t reads h =
        let told = told_at s.plan t.way.path.nodes (read_rows s.plan inputs outs t) statement h in
        let one : told.k ≡ k = asserts_differ s.plan valid told.k k told.v v told.at at told.op refl told.statement_is in
        let node_is : told.v ≡ v = some_same told.v v (sym told.at ∙ ap (slice_get s.plan) one ∙ at) in
        let before = cut_path s.plan valid reads.way.j reads.way.v reads.way.at t.way.path reads.way.among told.before told.k told.after told.is told.v told.at in
        let tests_same : told.test ≡ test = test_of told.input told.test told.message (sym told.op ∙ ap (λ n. n.op) node_is) in
        let failing = some_fails (passes told.test) (put told.before (read_rows s.plan inputs outs t)) told.fails in
        let input_is : before.input ≡ input = only_one before.input (subst (λ n. Among before.input (inputs_of n.op)) node_is before.among) in
        not_all (passes test) rows failing.x
        (row_comes (record { source = t.way.path.source; nodes = told.before }) t.part failing.x
        (subst (λ n. Among (record { source = t.way.path.source; nodes = told.before }) (paths_of s.plan n)) input_is before.path_there) reads.part failing.among)
        (ap (λ e. passes e failing.x) (sym tests_same) ∙ failing.is)
      where
        test_in : PlanOp → Typed
        test_in (p_assert i e m) = e
        test_in o = test

        test_of : (i : ℕ) (e : Typed) (m : Option (List ℕ)) → p_assert i e m ≡ p_assert input test message → e ≡ test
        test_of i e m is = ap test_in is

        only_one : (i : ℕ) → Among i (input ∷ []) → i ≡ input
        only_one i among = by_place among.at among.is
          where
            by_place : (n : ℕ) → slice_get (input ∷ []) n ≡ Some i → i ≡ input
            by_place zero e = sym (some_same input i e)
            by_place (suc n) e = absurd (cc)

    abbrev is_ours : ℕ → Bool
    is_ours n = n == statement

    pub told_unmet : list_any is_ours (all_unmet outs) ≡ true → list_all (passes test) (meaning s.plan inputs kept input) ≡ false
    told_unmet told =
        let held = some_holds is_ours (all_unmet outs) told in
        let wave = made_of (λ os. flat_map (λ out. out.unmet) os) outs held.x held.among in
        let out = made_of (λ o. o.unmet) wave.x held.x wave.made in
        let w = wave.among.at in
        let there : outs_at outs w ≡ wave.x = ap (λ f. unwrap_or f []) wave.among.is in
        let place = subst (λ os. slice_get os out.among.at ≡ Some out.x) (sym there) out.among.is in
        let beside = beside_right (IsValue s inputs (Some (points w)) outs) (tasks_in s w) (outs_at outs w) (run.values w) out.among.at out.x place in
        let same_out : beside.y ≡ out.x = some_same beside.y out.x (sym beside.second ∙ place) in
        let ours : held.x ≡ statement = eqb-true held.x statement held.is in
        let said : Among statement beside.y.unmet = subst (λ n. Among n beside.y.unmet) ours (subst (λ o. Among held.x o.unmet) (sym same_out) out.made) in
        sym (all_alike (passes test) rows (meaning s.plan inputs kept input) same_rows)
        ∙ by_task (Some (points w)) beside.x beside.y beside.both (each_at IsKnown (tasks_in s w) out.among.at beside.x beside.first (known_tasks w)) said
      where
        by_task : (pts : Option (List Point)) (task : Task) (out : TaskOut) → IsValue s inputs pts outs task out → IsKnown task → Among statement out.unmet → list_all (passes test) rows ≡ false
        by_task pts (t_map t) out value reads said =
            let is = value reads.o reads.known in
            told_by_task t reads (from_sorted statement _ (subst (Among statement) is.unmet said))
        by_task pts (t_reduce t) out value known said = let is = value known.0 known.1 in absurd (in_none (subst (Among statement) is.unmet said))
        by_task pts (t_rank t) out value known said = let is = value known.0 known.1 in absurd (in_none (subst (Among statement) is.unmet said))

    -- not met, and told by a task
    told_in : (w : ℕ) (t : MapTask) (o : PlanOp) → Among (t_map t) (tasks_in s w) → op_at s.plan t.node ≡ Some o → Among statement (unmet_on (folds s.plan) s.plan t.way.path.nodes (read_rows s.plan inputs outs t))
        → list_any is_ours (all_unmet outs) ≡ true
    told_in w t o task known h =
        let beside = beside_left (IsValue s inputs (Some (points w)) outs) (tasks_in s w) (outs_at outs w) (run.values w) task.at (t_map t) task.is in
        let same : beside.x ≡ t_map t = some_same beside.x (t_map t) (sym beside.first ∙ task.is) in
        let value = subst (λ x. IsValue s inputs (Some (points w)) outs x beside.y) same beside.both in
        let is = value o known in
        let itself : is_ours statement ≡ true = eq-eqb statement statement refl in
        let in_out : list_any is_ours beside.y.unmet ≡ true =
        ap (list_any is_ours) is.unmet ∙ sym (any_sorted is_ours (unmet_on (folds s.plan) s.plan t.way.path.nodes (read_rows s.plan inputs outs t))) ∙ any_holds is_ours _ statement h itself in
        let held = some_holds is_ours beside.y.unmet in_out in
        let wave = wave_there (slice_get outs w) refl beside.second in
        any_holds is_ours (all_unmet outs) held.x
        (among_flat (λ os. flat_map (λ out. out.unmet) os) outs wave.0 held.x wave.1
        (among_flat (λ out. out.unmet) wave.0 beside.y held.x (record { at = task.at; is = wave.2 }) held.among)) held.is
      where
        wave_there : {i : ℕ} {out : TaskOut} (found : Option (List TaskOut)) → slice_get outs w ≡ found → slice_get (outs_at outs w) i ≡ Some out
            → (os : List TaskOut) × Among os outs × (slice_get os i ≡ Some out)
        wave_there {i = i} None e h2 = absurd (cc)
        wave_there {i = i} {out = out} (Some os) e h2 = (os, record { at = w; is = e }, subst (λ found. slice_get (unwrap_or found []) i ≡ Some out) e h2)

    pub unmet_told : list_all (passes test) (meaning s.plan inputs kept input) ≡ false → list_any is_ours (all_unmet outs) ≡ true
    unmet_told fails =
        let failing = some_fails (passes test) rows (all_alike (passes test) rows (meaning s.plan inputs kept input) same_rows ∙ fails) in
        let on = made_of (rows_along (folds s.plan) s.plan (rows_of_parts s inputs outs)) (paths_of s.plan input) failing.x failing.among in
        let path = on.x in
        let of_part = made_of (λ p. put path.nodes (source_rows s.plan inputs outs path.source p)) (parts_at s path.source) failing.x
        (subst (Among failing.x) (sym (through_parts s inputs outs path.nodes (source_rows s.plan inputs outs path.source) (parts_at s path.source))) on.made) in
        let next = path_goes_on s.plan valid k v at alive (and_then k path) (handed_path s.plan valid k v at refl input (record { at = 0; is = refl }) path on.among) in
        let t : MapTask = record { node = next.node; way = next.way; part = of_part.x } in
        let source_is : next.way.path.source ≡ path.source = ap (λ p. p.source) next.is in
        let nodes_are : next.way.path.nodes ≡ path.nodes ++ (k ∷ next.rest) = ap (λ p. p.nodes) next.is ∙ append_assoc path.nodes (k ∷ []) next.rest in
        let part_there : Among of_part.x (parts_at s next.way.path.source) = subst (λ n. Among of_part.x (parts_at s n)) (sym source_is) of_part.among in
        let says : Among statement (unmet_on (folds s.plan) s.plan next.way.path.nodes (source_rows s.plan inputs outs next.way.path.source of_part.x)) =
        subst (λ ns. Among statement (unmet_on (folds s.plan) s.plan ns (source_rows s.plan inputs outs next.way.path.source of_part.x))) (sym nodes_are)
        (subst (λ n. Among statement (unmet_on (folds s.plan) s.plan (path.nodes ++ (k ∷ next.rest)) (source_rows s.plan inputs outs n of_part.x))) (sym source_is)
        (tells s.plan path.nodes k next.rest (source_rows s.plan inputs outs path.source of_part.x) statement input test message at
        (not_all (passes test) (put path.nodes (source_rows s.plan inputs outs path.source of_part.x)) failing.x of_part.made failing.is))) in
        by_read next.node next.v next.at next.alive next.way part_there says next.read
      where
        by_read : (m : ℕ) (u : PlanNode) → slice_get s.plan m ≡ Some u → is_live s.plan m ≡ true → (way : Entering) {part : Part} → Among part (parts_at s way.path.source)
            → Among statement (unmet_on (folds s.plan) s.plan way.path.nodes (source_rows s.plan inputs outs way.path.source part)) → IsRead s.plan valid m u.op way → list_any is_ours (all_unmet outs) ≡ true
        by_read m u there lives way {part = part} of_source says (into bounds among) =
            let own = ap (option_map (λ n. n.op)) there in
            let t : MapTask = record { node = m; way = way; part = part } in
            let mine : Among t (map_tasks s m u.op) =
            among_flat (path_tasks s m) (ways_into s.plan u.op) way t among (among_map (λ p. record { node = m; way = way; part = p }) (parts_at s way.path.source) part of_source) in
            elim (cases_Bool (is_replicated u.op)) [
              | inl replicated ↦
                  let stands = probes_at s m u.op own lives replicated in
                  elim (cases_Bool (enters_first t)) [
                    | inl first ↦
                        told_in (first_wave s.plan m + 1) t u.op
                        (subst (Among (t_map t)) (sym stands.probes) (among_map t_map (probe_tasks s m u.op) t (among_filtered enters_first t (map_tasks s m u.op) mine first))) own says
                    | inr later ↦
                        told_in (first_wave s.plan m) t u.op
                        (subst (Among (t_map t)) (sym stands.copies)
                        (among_map t_map (copy_tasks s m u.op) t (among_filtered (λ other. not (enters_first other)) t (map_tasks s m u.op) mine (ap not later)))) own says
                  ]
              | inr other ↦
                  let stands = stands_at s m u.op own lives bounds other in
                  told_in (first_wave s.plan m) t u.op (subst (Among (t_map t)) (sym stands.maps) (among_map t_map (map_tasks s m u.op) t mine)) own says
            ]
        by_read m u there lives way {part = part} of_source says (stored store among) =
            let own = ap (option_map (λ n. n.op)) there in
            told_in (store_wave s.plan) (record { node = m; way = way; part = part }) u.op
            (subst (Among (t_map (record { node = m; way = way; part = part }))) (sym (store_tasks_last s m u there lives store))
            (among_map t_map (flat_map (store_tasks s) (stores s.plan)) (record { node = m; way = way; part = part })
            (among_flat (store_tasks s) (stores s.plan) m (record { node = m; way = way; part = part }) (record { at = (store_among s m u there lives store).0; is = (store_among s m u there lives store).1 })
            (among_flat (path_tasks s m) (ways_to s.plan m) way (record { node = m; way = way; part = part }) among
            (among_map (λ p. record { node = m; way = way; part = p }) (parts_at s way.path.source) part of_source)))))
            own says

    pub told_just : list_any is_ours (all_unmet outs) ≡ not (list_all (passes test) (meaning s.plan inputs kept input))
    told_just = elim (cases_Bool (list_all (passes test) (meaning s.plan inputs kept input))) [
      | inl holds ↦ elim (cases_Bool (list_any is_ours (all_unmet outs))) [
        | inl told ↦ absurd (true≢false (sym holds ∙ told_unmet told))
        | inr silent ↦ silent ∙ sym (ap not holds)
      ]
      | inr fails ↦ unmet_told fails ∙ sym (ap not fails)
    ]
