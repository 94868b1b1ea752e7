-- The runs that are made of what is held are those of the shuffle; and a shuffle that is made for a plan's node hands on what its map
-- tasks do.
use Rattle.std.proofs.Common.{inl, inr, ◌≡◌, ◌≢◌, ℕ, List, [], ◌∷◌, length, map, refl, sym, ◌∙◌, ap}
use Rattle.std.specs.Prelude.{◌==◌, ◌&&◌, false, Option, Some, None, if◌then◌else◌}
use Rattle.std.specs.List.{range_with_len}
use Rattle.std.specs.Option.{option_and_then, option_map, option_map_or}
use Rattle.std.proofs.lemmas.List.Concat.{flat_map_single}
use Rattle.pig_value.specs.Elementwise.{Each}
use Rattle.pig_value.specs.Gathering.{Entry}
use Rattle.pig_value.specs.Orders.{tree_cmp}
use Rattle.pig_value.specs.Sorts.{distinct}
use Rattle.pig_value.specs.declared.operators.Dir.{Dir}
use Rattle.pig_value.specs.Trees.{Tree}
use Rattle.pig_typed.specs.Typed.{TypedBlock}
use Rattle.pig_typed.specs.declared.blocks.SortKey.{SortKey}
use Rattle.pig_algebra.specs.Combining.{combined, parts_by, parts_of_rows}
use Rattle.pig_algebra.specs.Cuts.{TypedCut, c_row, cuts_in}
use Rattle.pig_plan.specs.Entries.{dirs_of, entries_of, sort_keys}
use Rattle.pig_plan.specs.Nodes.{op_at, uses}
use Rattle.pig_plan.specs.Plans.{Plan, PlanOp, p_load, p_filter, p_foreach, p_group_all, p_group, p_join, p_union, p_distinct, p_order, p_limit, p_store, p_assert, p_rank}
use Rattle.pig_runs.specs.Alone.{alone, alone_once, keys_in}
use Rattle.pig_runs.specs.Entries.{InDirections, run_of}
use Rattle.pig_combine.specs.Holdings.{Holding}
use Rattle.pig_physical.specs.Combining.{blocks_on, folds, groups_one, only, where_combinable}
use Rattle.pig_physical.specs.Values.{handed_on, runs_of}
use Rattle.pig_shuffle.specs.Held.{HasAddedPart, Held, Hold, HoldRuns, IsFlushed, as_added, entries_in, keys_of_held, runs_held, runs_of_held, tables_of_held}
use Rattle.pig_shuffle.specs.Shuffling.{RunsAreOfTheNode, Shuffling, cuts_by, entries_by, runs_by}
use Rattle.pig_shuffle.proofs.Entries.{all_in_one, combined_added, partitions_combined}
use Rattle.pig_shuffle.proofs.Places.{listed, listed_beside}

abbrev of_run : InDirections → InDirections
of_run b = run_of b.dirs b.entries

-- ---- what is made of what is held

runs_made : (ds : List Dir) (n : ℕ) (entries : List Entry) (held : Held) → HoldRuns ds n entries held
    → map of_run (runs_of_held held) ≡ map (λ p. run_of ds (entries_in n p entries)) (range_with_len 0 n)
runs_made ds n entries held h =
    listed of_run (λ p. run_of ds (entries_in n p entries)) n (runs_of_held held)
    (record { count = h.runs.count; each = λ p b is. ap of_run (h.runs.each p b is) })

-- where there are no tables and no keys
pub sorted_made : (cuts : Option (List TypedCut)) (sorting : Option (List SortKey)) (n : ℕ) (entries : List Entry) (held : Held) → tables_of_held held ≡ []
    → keys_of_held held ≡ [] → Hold cuts sorting n entries held → map of_run (runs_of_held held) ≡ runs_held cuts sorting n entries
sorted_made (Some cuts) sorting n entries held none no_keys (inl h) =
    ap (map of_run) h.runs
    ∙ ap (λ m. map (λ p. run_of [] (combined (parts_by cuts) (entries_in n p entries))) (range_with_len 0 m)) (sym (ap length none) ∙ h.tables.count)
sorted_made (Some cuts) sorting n entries held none no_keys (inr h) =
    ap (map of_run) h.runs
    ∙ ap (λ m. map (λ p. run_of [] (combined (parts_by cuts) (entries_in n p entries))) (range_with_len 0 m)) (sym (ap length no_keys) ∙ h.keys.count)
sorted_made None (Some keys) n entries held none no_keys h =
    runs_made (dirs_of keys) 1 entries held h ∙ ap (λ es. run_of (dirs_of keys) es ∷ []) (all_in_one entries)
sorted_made None None n entries held none no_keys h = runs_made [] n entries held h

-- combined entries of which the one part is the key
keys_combined : (cuts : List TypedCut) (es : List Entry) → cuts ≡ c_row ∷ [] → alone_once (keys_in es) ≡ combined (parts_by cuts) es
keys_combined cuts es is = sym (ap (λ cs. combined (parts_by cs) es) is ∙ flat_map_single alone (distinct tree_cmp (keys_in es)))

-- where there are keys
pub keys_made : (cuts : Option (List TypedCut)) (sorting : Option (List SortKey)) (n : ℕ) (entries : List Entry) (held : Held) → keys_of_held held ≢ []
    → Hold cuts sorting n entries held → map (λ keys. run_of [] (alone_once keys)) (keys_of_held held) ≡ runs_held cuts sorting n entries
keys_made (Some cuts) sorting n entries held some (inl h) = absurd (some h.keys)
keys_made (Some cuts) sorting n entries held some (inr h) =
    listed (λ keys. run_of [] (alone_once keys)) (λ p. run_of [] (combined (parts_by cuts) (entries_in n p entries))) n (keys_of_held held)
    (record {
      count = h.keys.count;
      each = λ p keys is. ap (λ ks. run_of [] (map alone ks)) (sym (h.keys.each p keys is)) ∙ ap (run_of []) (keys_combined cuts (entries_in n p entries) h.one);
    })
keys_made None (Some keys) n entries held some h = absurd (some h.keys)
keys_made None None n entries held some h = absurd (some h.keys)

table_run : (cuts : List TypedCut) (n p : ℕ) (entries : List Entry) (table : Holding) (run : InDirections)
    → HasAddedPart cuts n entries p table → IsFlushed table run → run ≡ run_of [] (combined (parts_by cuts) (entries_in n p entries))
table_run cuts n p entries table run has flushed =
    flushed (as_added (entries_in n p entries)) has.1
    ∙ ap (λ cs. run_of [] (combined (parts_by cs) (as_added (entries_in n p entries)))) has.0
    ∙ ap (run_of []) (combined_added (parts_by cuts) (entries_in n p entries))

-- where there are tables
pub flushed_made : (cuts : Option (List TypedCut)) (sorting : Option (List SortKey)) (n : ℕ) (entries : List Entry) (held : Held) → tables_of_held held ≢ []
    → Hold cuts sorting n entries held → (runs : List InDirections) → Each IsFlushed (tables_of_held held) runs → runs ≡ runs_held cuts sorting n entries
flushed_made (Some cuts) sorting n entries held some (inl h) runs each =
    listed_beside IsFlushed (λ p. run_of [] (combined (parts_by cuts) (entries_in n p entries))) n (tables_of_held held) runs
    (record { count = h.tables.count; each = λ p t is run flushed. table_run cuts n p entries t run (h.tables.each p t is) flushed }) each
flushed_made (Some cuts) sorting n entries held some (inr h) runs each = absurd (some h.tables)
flushed_made None (Some keys) n entries held some h runs each = absurd (some h.tables)
flushed_made None None n entries held some h runs each = absurd (some h.tables)

-- ---- which is what the shuffle hands on

abbrev handed_by_cuts : Option (List TypedCut) → List Entry → List Entry
handed_by_cuts cuts entries = option_map_or (λ cs. combined (parts_by cs) entries) cuts entries

abbrev IsHeldBy : ℕ → Option TypedBlock → PlanOp → List Entry → Type 0
IsHeldBy n fold o entries = runs_held (cuts_by fold o) (sort_keys o) n entries ≡ runs_of n None o (handed_by_cuts (cuts_by fold o) entries)

by_op : (n : ℕ) (fold : Option TypedBlock) (o : PlanOp) (entries : List Entry) → IsHeldBy n fold o entries
by_op n fold (p_distinct input) entries = sym (partitions_combined (parts_by (c_row ∷ [])) n entries)
by_op n None (p_group_all input) entries = refl
by_op n (Some block) (p_group_all input) entries = sym (partitions_combined (parts_by (cuts_in block)) n entries)
by_op n None (p_group inputs) entries = refl
by_op n (Some block) (p_group inputs) entries = sym (partitions_combined (parts_by (cuts_in block)) n entries)
by_op n fold (p_order input keys) entries = refl
by_op n fold (p_rank input keys dense) entries = refl
by_op n fold (p_load path delim columns) entries = refl
by_op n fold (p_filter input cond) entries = refl
by_op n fold (p_foreach input block) entries = refl
by_op n fold (p_join inputs side replicated) entries = refl
by_op n fold (p_union inputs) entries = refl
by_op n fold (p_limit input count) entries = refl
by_op n fold (p_store input path delim) entries = refl
by_op n fold (p_assert input cond message) entries = refl

pub held_are_runs : (w : Shuffling) (rows : List (List Tree)) → runs_held (cuts_by w.fold w.op) (sort_keys w.op) w.parts (entries_by w rows) ≡ runs_by w rows
held_are_runs w rows = by_op w.parts w.fold w.op (entries_by w rows)

-- ---- a plan's node

none_folds : (plan : Plan) (k : ℕ) (o : PlanOp) → op_at plan k ≡ Some o → groups_one o ≡ false → folds plan k ≡ None
none_folds plan k o at off =
    let found : Option TypedBlock = option_and_then where_combinable (only (blocks_on plan k)) in
    ap (λ r. if option_map_or groups_one r false && (uses plan k == 1) then found else None) at
    ∙ ap (λ b. if b && (uses plan k == 1) then found else None) off

abbrev by_parts : Option (Tree → List (List Tree) → List Tree) → List Entry → List Entry
by_parts parts entries = option_map_or (λ ps. combined ps entries) parts entries

of_group : (fold : Option TypedBlock) (entries : List Entry)
    → handed_by_cuts (option_map cuts_in fold) entries ≡ by_parts (option_map parts_of_rows fold) entries
of_group None entries = refl
of_group (Some block) entries = refl

not_combined : (plan : Plan) (k : ℕ) (o : PlanOp) (entries : List Entry) → op_at plan k ≡ Some o → groups_one o ≡ false
    → entries ≡ by_parts (option_map parts_of_rows (folds plan k)) entries
not_combined plan k o entries at off = sym (ap (λ fold. by_parts (option_map parts_of_rows fold) entries) (none_folds plan k o at off))

handed_same : (plan : Plan) (k : ℕ) (o : PlanOp) (entries : List Entry) → op_at plan k ≡ Some o
    → handed_by_cuts (cuts_by (folds plan k) o) entries ≡ handed_on plan k o entries
handed_same plan k (p_distinct input) entries at = refl
handed_same plan k (p_group_all input) entries at = of_group (folds plan k) entries
handed_same plan k (p_group inputs) entries at = of_group (folds plan k) entries
handed_same plan k (p_order input keys) entries at = not_combined plan k (p_order input keys) entries at refl
handed_same plan k (p_rank input keys dense) entries at = not_combined plan k (p_rank input keys dense) entries at refl
handed_same plan k (p_load path delim columns) entries at = not_combined plan k (p_load path delim columns) entries at refl
handed_same plan k (p_filter input cond) entries at = not_combined plan k (p_filter input cond) entries at refl
handed_same plan k (p_foreach input block) entries at = not_combined plan k (p_foreach input block) entries at refl
handed_same plan k (p_join inputs side replicated) entries at = not_combined plan k (p_join inputs side replicated) entries at refl
handed_same plan k (p_union inputs) entries at = not_combined plan k (p_union inputs) entries at refl
handed_same plan k (p_limit input count) entries at = not_combined plan k (p_limit input count) entries at refl
handed_same plan k (p_store input path delim) entries at = not_combined plan k (p_store input path delim) entries at refl
handed_same plan k (p_assert input cond message) entries at = not_combined plan k (p_assert input cond message) entries at refl

pub runs_are_of_node : RunsAreOfTheNode
runs_are_of_node plan k o i n rows at = ap (runs_of n None o) (handed_same plan k o (entries_of o i rows) at)
