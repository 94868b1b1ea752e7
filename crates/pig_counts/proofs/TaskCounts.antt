-- A map task's output holds as many entries as are due of its rows.
use Rattle.std.specs.Prelude.{◌≡◌, ◌<◌, ◌+◌, ℕ, suc, Bool, true, false, List, [], ◌∷◌, map, length, min, Option, Some, None, refl}
use Rattle.std.proofs.Common.{ap, ◌∙◌, arith}
use Rattle.std.proofs.Math.Nat.{mod-lt}
use Rattle.std.specs.List.{flat_map, range_with_len, sum_by}
use Rattle.std.specs.Option.{option_map_or}
use Rattle.std.specs.declared.cmp.Ordering.{Ordering}
use Rattle.std.proofs.lemmas.List.{length-map, length-take}
use Rattle.std.proofs.lemmas.List.Concat.{length-flat_map}
use Rattle.std.proofs.lemmas.List.Sorted.{length_permutation}
use Rattle.std.proofs.lemmas.List.Sums.{sum_by-cons}
use Rattle.pig_value.specs.declared.operators.Dir.{Dir}
use Rattle.pig_value.specs.Gathering.{Entry, in_part, with_key}
use Rattle.pig_value.specs.Orders.{tree_cmp}
use Rattle.pig_value.specs.Sorts.{Ascends, distinct, sort}
use Rattle.pig_value.specs.Trees.{Tree}
use Rattle.pig_value.proofs.list_laws.Bags.{sort_ascends, sort_permutes}
use Rattle.pig_value.proofs.list_laws.Partitions.{parted}
use Rattle.pig_typed.specs.declared.blocks.SortKey.{SortKey}
use Rattle.pig_algebra.specs.Combining.{combined}
use Rattle.pig_plan.specs.Entries.{dirs_of, entries_of, key_at, sort_keys}
use Rattle.pig_plan.specs.Nodes.{is_sorted}
use Rattle.pig_plan.specs.Plans.{PlanOp, p_load, p_filter, p_foreach, p_group_all, p_group, p_join, p_union, p_distinct, p_order, p_limit, p_store, p_assert, p_rank}
use Rattle.pig_runs.specs.Cutting.{Point, point_cmp, slice_of}
use Rattle.pig_runs.specs.Entries.{InDirections, run_cmp, run_of}
use Rattle.pig_runs.specs.Parts.{pn}
use Rattle.pig_runs.proofs.Order.{run_total}
use Rattle.pig_runs.proofs.Parted.{slices_join}
use Rattle.pig_physical.specs.Combining.{combining}
use Rattle.pig_physical.specs.Outs.{Form, Outs, o_runs}
use Rattle.pig_physical.specs.Stages.{Stages}
use Rattle.pig_physical.specs.Values.{IsMapForm, Keeps, handed_on, partitions, runs_of, slices}
use Rattle.pig_driver.specs.Handing.{entries_in, handed_of}
use Rattle.pig_counts.specs.Due.{count_due, due_of}

abbrev Rows : Type 0
Rows = List (List Tree)

pub entries_length : (o : PlanOp) (i : ℕ) (rows : List (List Tree)) → length (entries_of o i rows) ≡ length rows
entries_length o i rows = length-map rows (λ row. record { key = key_at o i row; input = i; row = row })

length_sort : {X : Type 0} (R : X → X → Ordering) (xs : List X) → length (sort R xs) ≡ length xs
length_sort R xs = length_permutation xs (sort R xs) (sort_permutes R xs)

-- ---- runs

abbrev run_length : InDirections → ℕ
run_length run = length run.entries

-- runs that are made by their numbers hold what is made, joined
held_together : (make : ℕ → InDirections) (es : ℕ → List Entry) → ((p : ℕ) → length (make p).entries ≡ length (es p)) → (ps : List ℕ)
    → sum_by run_length (map make ps) ≡ length (flat_map es ps)
held_together make es same [] = refl
held_together make es same (p ∷ ps) =
    let first = sum_by-cons run_length (make p) (map make ps) in
    let one = same p in
    let more = held_together make es same ps in
    let both = length-flat_map es (p ∷ ps) in
    let rest = length-flat_map es ps in
    let cut = sum_by-cons (λ q. length (es q)) p ps in
    omega (arith, first, one, more, both, rest, cut)

in_partitions : (n : ℕ) → 0 < n → (es : List Entry) → sum_by run_length (partitions n es) ≡ length es
in_partitions n some es =
    let part : Entry → ℕ = λ e. pn e.key n in
    held_together (λ p. run_of [] (in_part part p es)) (λ p. in_part part p es) (λ p. length_sort (run_cmp []) (in_part part p es)) (range_with_len 0 n)
    ∙ length_permutation es (flat_map (λ p. in_part part p es) (range_with_len 0 n)) (parted part n (λ e. mod-lt _ some) es)

in_slices : (ds : List Dir) (points : List Point) → Ascends (point_cmp ds) points → (es : List Entry) → sum_by run_length (slices (Some points) ds es) ≡ length es
in_slices ds points rise es =
    let whole : List Entry = sort (run_cmp ds) es in
    held_together (λ p. record { dirs = ds; entries = slice_of ds points p whole }) (λ p. slice_of ds points p whole) (λ p. refl) (range_with_len 0 (length points + 1))
    ∙ ap length (slices_join ds points whole rise (sort_ascends (run_cmp ds) (run_total ds) es))
    ∙ length_sort (run_cmp ds) es

-- the points ascend by which the runs of a node that sorts are cut
abbrev pub AreAscending : PlanOp → List Point → Type 0
AreAscending o points = (keys : List SortKey) → sort_keys o ≡ Some keys → Ascends (point_cmp (dirs_of keys)) points

in_runs : (n : ℕ) → 0 < n → (points : List Point) (o : PlanOp) → AreAscending o points → (es : List Entry) → sum_by run_length (runs_of n (Some points) o es) ≡ length es
in_runs n some points o rise es = by_keys (sort_keys o) rise
  where
    by_keys : (keys : Option (List SortKey)) → ((ks : List SortKey) → keys ≡ Some ks → Ascends (point_cmp (dirs_of ks)) points)
        → sum_by run_length (option_map_or (λ ks. slices (Some points) (dirs_of ks) es) keys (partitions n es)) ≡ length es
    by_keys None h = in_partitions n some es
    by_keys (Some ks) h = in_slices (dirs_of ks) points (h ks refl) es

-- ---- entries that are combined

each_once : (make : Tree → Entry) (keys : List Tree) → length (flat_map (λ key. make key ∷ []) keys) ≡ length keys
each_once make [] = refl
each_once make (key ∷ keys) = ap suc (each_once make keys)

combined_length : (parts : Tree → Rows → List Tree) (es : List Entry) → length (combined parts es) ≡ length (distinct tree_cmp (map (λ e. e.key) es))
combined_length parts es =
    each_once (λ key. record { key = key; input = 0; row = parts key (map (λ e. e.row) (with_key tree_cmp (λ e. e.key) key es)) }) (distinct tree_cmp (map (λ e. e.key) es))

handed_length : (s : Stages) (k : ℕ) (o : PlanOp) (es : List Entry) → length (handed_on s.plan k o es) ≡ count_due (combining s.plan k o) es
handed_length s k o es = by_parts (combining s.plan k o)
  where
    by_parts : (found : Option (Tree → Rows → List Tree)) → length (option_map_or (λ parts. combined parts es) found es) ≡ count_due found es
    by_parts None = refl
    by_parts (Some parts) = combined_length parts es

-- ---- outputs

kept_length : (sorted : Bool) (count : ℕ) (rows : Rows) (form : Form) → Keeps sorted count rows form → entries_in form ≡ min count (length rows)
kept_length true count rows form h = ap entries_in h.is ∙ ap length (h.first refl) ∙ length-take count rows
kept_length false count rows form h = ap entries_in h.is ∙ (h.some refl).size

module _ (s : Stages) (some : 0 < s.sizing.reducers) (points : List Point) (outs : Outs) where
  in_form : (k : ℕ) (o : PlanOp) → AreAscending o points → (i : ℕ) (rows : Rows) (form : Form)
      → form ≡ o_runs (runs_of s.sizing.reducers (Some points) o (handed_on s.plan k o (entries_of o i rows)))
      → entries_in form ≡ count_due (combining s.plan k o) (entries_of o i rows)
  in_form k o rise i rows form is =
      ap entries_in is ∙ in_runs s.sizing.reducers some points o rise (handed_on s.plan k o (entries_of o i rows)) ∙ handed_length s k o (entries_of o i rows)

  pub form_counts : (k : ℕ) (o : PlanOp) → AreAscending o points → (i : ℕ) (rows : List (List Tree)) (form : Form)
      → IsMapForm s (Some points) outs k o i rows form → handed_of o form ≡ due_of s k o i rows
  form_counts k (p_limit input count) rise i rows form is = kept_length (is_sorted s.plan input) count rows form is.keeps
  form_counts k (p_store input path delim) rise i rows form is = ap entries_in is
  form_counts k (p_load path delim columns) rise i rows form is = in_form k (p_load path delim columns) rise i rows form is
  form_counts k (p_filter input test) rise i rows form is = in_form k (p_filter input test) rise i rows form is
  form_counts k (p_foreach input block) rise i rows form is = in_form k (p_foreach input block) rise i rows form is
  form_counts k (p_group_all input) rise i rows form is = in_form k (p_group_all input) rise i rows form is
  form_counts k (p_group keyed) rise i rows form is = in_form k (p_group keyed) rise i rows form is
  form_counts k (p_join keyed side true) rise i rows form is = refl
  form_counts k (p_join keyed side false) rise i rows form is = in_form k (p_join keyed side false) rise i rows form is
  form_counts k (p_union numbers) rise i rows form is = in_form k (p_union numbers) rise i rows form is
  form_counts k (p_distinct input) rise i rows form is = in_form k (p_distinct input) rise i rows form is
  form_counts k (p_order input keys) rise i rows form is = in_form k (p_order input keys) rise i rows form is
  form_counts k (p_assert input test message) rise i rows form is = in_form k (p_assert input test message) rise i rows form is
  form_counts k (p_rank input keys dense) rise i rows form is = in_form k (p_rank input keys dense) rise i rows form is
