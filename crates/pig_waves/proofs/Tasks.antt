-- What the tasks on all ways into a node make of their rows is, joined, what is made of the rows that come to its inputs.
use Rattle.std.specs.Prelude.{◌≡◌, ◌+◌, ℕ, not, List, [], ◌∷◌, ◌++◌, map, refl}
use Rattle.std.proofs.Common.{ap, sym, ◌∙◌}
use Rattle.std.specs.List.{AllByRecursion, filter, flat_map}
use Rattle.std.proofs.lemmas.Grind.{flat_map-append}
use Rattle.std.proofs.lemmas.List.Folds.{flat_map-map}
use Rattle.pig_value.specs.declared.inputs.Input.{Input}
use Rattle.pig_value.specs.Trees.{Tree}
use Rattle.pig_value.proofs.list_laws.Listing.{each_of_all, each-append, each-map, flat_map-flat_map, flat_map_each}
use Rattle.pig_plan.proofs.Through.{through_both, through_none}
use Rattle.pig_plan.specs.Entries.{from_inputs}
use Rattle.pig_plan.specs.Nodes.{Entering, Path, entering, inputs_of, paths_of}
use Rattle.pig_plan.specs.Plans.{PlanOp}
use Rattle.pig_plan.specs.Steps.{rows_along, rows_to, through}
use Rattle.pig_physical.specs.declared.parts.Part.{Part}
use Rattle.pig_physical.specs.Combining.{folds}
use Rattle.pig_physical.specs.Outs.{Outs}
use Rattle.pig_physical.specs.Stages.{MapTask, Stages, enters_first, map_tasks, parts_at, path_tasks, store_tasks, tasks_on}
use Rattle.pig_physical.specs.Values.{source_rows, task_rows}
use Rattle.pig_waves.proofs.Counted.{tasks_of_first, tasks_of_others}
use Rattle.pig_waves.proofs.Places.{all_flat, all_flat_where}
use Rattle.pig_waves.proofs.Sources.{rows_of_parts}
use Rattle.pig_waves.specs.Laws.{copy_tasks, probe_tasks}

abbrev Rows : Type 0
Rows = List (List Tree)

-- the tasks of a node name it
pub name_node : (s : Stages) (k : ℕ) (ways : List Entering) → AllByRecursion (λ t. t.node ≡ k) (tasks_on s k ways)
name_node s k ways =
    all_flat (λ t. t.node ≡ k) (path_tasks s k)
    (λ way. each-map (λ t. t.node ≡ k) (λ part. record { node = k; way = way; part = part }) (parts_at s way.path.source) (each_of_all (λ part. k ≡ k) (λ part. refl) (parts_at s way.path.source))) ways

-- those of a node with one input enter it there
pub enter_first : (s : Stages) (k input : ℕ) → AllByRecursion (λ t. t.way.input ≡ 0) (tasks_on s k (entering (paths_of s.plan) 0 (input ∷ [])))
enter_first s k input =
    all_flat_where (λ t. t.way.input ≡ 0) (λ way. way.input ≡ 0) (path_tasks s k)
    (λ way h. each-map (λ t. t.way.input ≡ 0) (λ part. record { node = k; way = way; part = part }) (parts_at s way.path.source) (each_of_all (λ part. way.input ≡ 0) (λ part. h) (parts_at s way.path.source)))
    (entering (paths_of s.plan) 0 (input ∷ []))
    (each-append (λ way. way.input ≡ 0) (map (λ path. record { input = 0; path = path }) (paths_of s.plan input)) []
    (each-map (λ way. way.input ≡ 0) (λ path. record { input = 0; path = path }) (paths_of s.plan input) (each_of_all (λ path. ◌≡◌ {A = ℕ} 0 0) (λ path. refl) (paths_of s.plan input))) tt)

module _ (s : Stages) (inputs : List Input) (outs : Outs) where
  abbrev pub rows_at_node : ℕ → List (List Tree)
  rows_at_node = rows_to (folds s.plan) s.plan (rows_of_parts s inputs outs)

  pub through_parts : {Y : Type 0} (nodes : List ℕ) (f : Y → Rows) (ys : List Y) → flat_map (λ y. through (folds s.plan) s.plan nodes (f y)) ys ≡ through (folds s.plan) s.plan nodes (flat_map f ys)
  through_parts nodes f [] = sym (through_none (folds s.plan) s.plan nodes)
  through_parts nodes f (y ∷ ys) =
      ap (λ rest. through (folds s.plan) s.plan nodes (f y) ++ rest) (through_parts nodes f ys) ∙ sym (through_both (folds s.plan) s.plan nodes (f y) (flat_map f ys))

  -- where what is made of joined rows is what is made of each
  module _ {X : Type 0} (make : ℕ → Rows → List X) (none : (i : ℕ) → make i [] ≡ []) (both : (i : ℕ) (xs ys : Rows) → make i (xs ++ ys) ≡ make i xs ++ make i ys) where
    abbrev pub of_task : MapTask → List X
    of_task t = make t.way.input (task_rows s.plan inputs outs t)

    of_lists : {Y : Type 0} (i : ℕ) (f : Y → Rows) (ys : List Y) → flat_map (λ y. make i (f y)) ys ≡ make i (flat_map f ys)
    of_lists i f [] = sym (none i)
    of_lists i f (y ∷ ys) = ap (λ rest. make i (f y) ++ rest) (of_lists i f ys) ∙ sym (both i (f y) (flat_map f ys))

    abbrev along : Path → Rows
    along = rows_along (folds s.plan) s.plan (rows_of_parts s inputs outs)

    on_way : (k : ℕ) (way : Entering) → flat_map of_task (path_tasks s k way) ≡ make way.input (along way.path)
    on_way k way =
        let of_part = λ (part : Part). source_rows s.plan inputs outs way.path.source part in
        flat_map-map of_task (λ part. record { node = k; way = way; part = part }) (parts_at s way.path.source)
        ∙ of_lists way.input (λ part. through (folds s.plan) s.plan way.path.nodes (source_rows s.plan inputs outs way.path.source part)) (parts_at s way.path.source)
        ∙ ap (make way.input) (through_parts way.path.nodes (source_rows s.plan inputs outs way.path.source) (parts_at s way.path.source))

    on_ways : (k : ℕ) (ways : List Entering) → flat_map of_task (tasks_on s k ways) ≡ flat_map (λ way. make way.input (along way.path)) ways
    on_ways k ways =
        flat_map-flat_map of_task (path_tasks s k) ways
        ∙ flat_map_each (λ way. flat_map of_task (path_tasks s k way)) (λ way. make way.input (along way.path)) ways
        (each_of_all (λ way. flat_map of_task (path_tasks s k way) ≡ make way.input (along way.path)) (on_way k) ways)

    by_inputs : (i : ℕ) (nodes : List ℕ) → flat_map (λ way. make way.input (along way.path)) (entering (paths_of s.plan) i nodes) ≡ from_inputs make i nodes rows_at_node
    by_inputs i [] = refl
    by_inputs i (n ∷ nodes) =
        flat_map-append (λ way. make way.input (along way.path)) (map (λ path. record { input = i; path = path }) (paths_of s.plan n)) (entering (paths_of s.plan) (i + 1) nodes)
        ∙ ap (λ first. first ++ flat_map (λ way. make way.input (along way.path)) (entering (paths_of s.plan) (i + 1) nodes))
        (flat_map-map (λ way. make way.input (along way.path)) (λ path. record { input = i; path = path }) (paths_of s.plan n) ∙ of_lists i along (paths_of s.plan n))
        ∙ ap (λ rest. make i (rows_at_node n) ++ rest) (by_inputs (i + 1) nodes)

    pub from_tasks : (k : ℕ) (o : PlanOp) → flat_map of_task (map_tasks s k o) ≡ from_inputs make 0 (inputs_of o) rows_at_node
    from_tasks k o = on_ways k (entering (paths_of s.plan) 0 (inputs_of o)) ∙ by_inputs 0 (inputs_of o)

    pub from_store_tasks : (k : ℕ) → flat_map of_task (store_tasks s k) ≡ make 0 (rows_at_node k) ++ []
    from_store_tasks k = on_ways k (entering (paths_of s.plan) 0 (k ∷ [])) ∙ by_inputs 0 (k ∷ [])

    -- of a replicated JOIN, the tasks of its first input, and those of the others
    pub from_probes : (k : ℕ) (o : PlanOp) (n : ℕ) (ns : List ℕ) → inputs_of o ≡ n ∷ ns → flat_map of_task (probe_tasks s k o) ≡ make 0 (rows_at_node n)
    from_probes k o n ns are =
        ap (λ nodes. flat_map of_task (filter enters_first (tasks_on s k (entering (paths_of s.plan) 0 nodes)))) are
        ∙ ap (flat_map of_task) (tasks_of_first s k n ns)
        ∙ on_ways k (map (λ path. record { input = 0; path = path }) (paths_of s.plan n))
        ∙ flat_map-map (λ way. make way.input (along way.path)) (λ path. record { input = 0; path = path }) (paths_of s.plan n)
        ∙ of_lists 0 along (paths_of s.plan n)

    pub from_copies : (k : ℕ) (o : PlanOp) (n : ℕ) (ns : List ℕ) → inputs_of o ≡ n ∷ ns → flat_map of_task (copy_tasks s k o) ≡ from_inputs make 1 ns rows_at_node
    from_copies k o n ns are =
        ap (λ nodes. flat_map of_task (filter (λ t. not (enters_first t)) (tasks_on s k (entering (paths_of s.plan) 0 nodes)))) are
        ∙ ap (flat_map of_task) (tasks_of_others s k n ns)
        ∙ on_ways k (entering (paths_of s.plan) 1 ns)
        ∙ by_inputs 1 ns
