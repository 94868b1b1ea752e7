-- What loops over parts, ways and tasks leave.
use Rattle.std.specs.Prelude.{◌≡◌, ◌<◌, ◌≤◌, ◌+◌, ◌-◌, ℕ, suc, List, [], ◌∷◌, ◌++◌, drop, get_or, length, map, min, None, Some, refl}
use Rattle.std.proofs.Common.{ap, sym, ◌∙◌, arith, append-nil, inl, inr}
use Rattle.std.specs.List.{flat_map, range_with_len, sum_by}
use Rattle.std.specs.Option.{option_map, option_map_or}
use Rattle.std.proofs.lemmas.Bool.{cases_lt}
use Rattle.std.proofs.lemmas.List.{drop-map, length-append, length-map}
use Rattle.std.proofs.lemmas.List.FromFn.{length-map-range_with_len}
use Rattle.std.proofs.lemmas.List.Sums.{sum_by-cons}
use Rattle.std.proofs.lemmas.Option.{none-some, slice_get-map, slice_get_past, slice_get_read}
use Rattle.pig_value.proofs.list_laws.Indexing.{some_at}
use Rattle.pig_plan.specs.Nodes.{Entering, op_at}
use Rattle.pig_plan.specs.Plans.{Plan, PlanOp, node_of, op_of, plan_of}
use Rattle.pig_plan.specs.declared.nodes.Node.{Node}
use Rattle.pig_storage.specs.Splits.{split_at, split_count, splits_from, splits_of}
use Rattle.pig_physical.specs.declared.parts.Part.TheVariants as parts
use Rattle.pig_physical.specs.declared.parts.ReduceTask.{ReduceTask}
use Rattle.pig_physical.specs.declared.parts.Task.{Task}
use Rattle.pig_physical.specs.declared.parts.Way.{Way}
use Rattle.pig_physical.specs.declared.waves.WaveHead.{WaveHead}
use Rattle.pig_physical.specs.Seen.{entering_of}
use Rattle.pig_cutter.specs.Feeds.{made_on, partition_count, partition_task, partitions_by, partitions_of}
use Rattle.pig_cutter.specs.Tables.{parts_for, parts_read, reading_of}
use Rattle.pig_cutter.specs.declared.reading.Source.{Source}
use Rattle.pig_cutter.specs.declared.reading.Source.TheVariants as sources

-- ---- splits

splits_length : (split piece : ℕ) (sizes : List ℕ) → length (splits_from split piece sizes) ≡ sum_by (split_count split) sizes
splits_length split piece [] = refl
splits_length split piece (size ∷ sizes) =
    let a = length-append (map (split_at split piece size) (range_with_len 0 (split_count split size))) (splits_from split (piece + 1) sizes) in
    let b = length-map-range_with_len (split_at split piece size) 0 (split_count split size) in
    let c = sum_by-cons (split_count split) size sizes in
    let more = splits_length split (piece + 1) sizes in
    omega (arith, a, b, c, more)

-- the sum over all lengths is the number of splits
pub splits_counted : (limit split sum : ℕ) (left lengths : List ℕ) → length left < 1
    → (sum ≤ limit) × (min limit (sum + sum_by (split_count split) left) ≡ min limit (sum_by (split_count split) lengths))
    → sum ≡ min limit (length (splits_of split lengths))
splits_counted limit split sum [] lengths none h =
    let z : sum_by (split_count split) [] ≡ 0 = refl in
    let size = splits_length split 0 lengths in
    let within = h.0 in
    let all = h.1 in
    omega (arith, z, size, within, all)
splits_counted limit split sum (x ∷ left) lengths none h = absurd (omega (arith, none))

-- ---- parts

pub outputs_read : (split from count k w way : ℕ) (source : Source) → source ≡ sources.Outputs from count
    → map (λ at. made_on k w way (parts.Output from at)) (range_with_len 0 count) ≡ map (made_on k w way) (parts_read split (reading_of source))
outputs_read split from count k w way source is =
    each (range_with_len 0 count) ∙ ap (λ s. map (made_on k w way) (parts_read split (reading_of s))) (sym is)
  where
    each : (ns : List ℕ) → map (λ at. made_on k w way (parts.Output from at)) ns ≡ map (made_on k w way) (map (parts.Output from) ns)
    each [] = refl
    each (n ∷ ns) = ap (λ ts. made_on k w way (parts.Output from n) ∷ ts) (each ns)

-- nothing is added for a source that there isn't
pub none_for : (split k w way source : ℕ) (table : List Source) (tasks : List Task) → length table ≤ source
    → tasks ≡ tasks ++ map (made_on k w way) (parts_for split table source)
none_for split k w way source table tasks past =
    sym (append-nil tasks)
    ∙ ap (λ o. tasks ++ map (made_on k w way) (option_map_or (λ source. parts_read split (reading_of source)) o [])) (sym (slice_get_past table source past))

-- ---- ways

drop_front : {X : Type 0} (xs ys : List X) (n : ℕ) → n ≡ length xs → drop n (xs ++ ys) ≡ ys
drop_front [] ys n is = ap (λ m. drop m ys) is
drop_front (x ∷ xs) ys n is = let e : n ≡ suc (length xs) = omega (arith, is) in ap (λ m. drop m (x ∷ (xs ++ ys))) e ∙ drop_front xs ys (length xs) refl

-- the ways that were added are those from the old number on
pub added_ways : (old new read : List Way) (begin : ℕ) (made : List Entering) → read ≡ new → begin ≡ length old → map entering_of new ≡ map entering_of old ++ made
    → map entering_of (drop begin read) ≡ made
added_ways old new read begin made same is adds =
    let size : begin ≡ length (map entering_of old) = is ∙ sym (length-map old entering_of) in
    ap (λ ws. map entering_of (drop begin ws)) same ∙ sym (drop-map entering_of begin new) ∙ ap (drop begin) adds ∙ drop_front (map entering_of old) made begin size

-- what is left of nothing adds nothing
pub ended : {X Y : Type 0} (f : X → List Y) (left : List X) (xs ys : List Y) → length left < 1 → xs ++ flat_map f left ≡ ys → xs ≡ ys
ended f [] xs ys none h = sym (append-nil xs) ∙ h
ended f (x ∷ left) xs ys none h = absurd (omega (arith, none))

-- ---- nodes

-- the operator that an index finds
pub op_here : (nodes : List Node) (k : ℕ) (node : Node) → k < length nodes → node ≡ get_or nodes k node → op_at (plan_of nodes) k ≡ Some (op_of node.op)
op_here nodes k node within at =
    ap (option_map (λ n. n.op)) (slice_get-map node_of nodes k ∙ ap (option_map node_of) (slice_get_read nodes (length nodes) k node refl within at))

pub plan_size : (nodes : List Node) (k : ℕ) → k < length nodes → k < length (plan_of nodes)
plan_size nodes k within = let size : length (plan_of nodes) ≡ length nodes = length-map nodes node_of in omega (arith, size, within)

-- where there is no operator, the plan has ended
pub no_node : (plan : Plan) (k : ℕ) → op_at plan k ≡ None → length plan ≤ k
no_node plan k none = elim (cases_lt k (length plan)) [
  | inl within ↦ (let found = some_at plan k within in absurd (none-some found.0.op (sym none ∙ ap (option_map (λ node. node.op)) found.1)))
  | inr past ↦ past
]

-- ---- partitions

module _ (nodes : List Node) (reducers w : ℕ) (head : WaveHead) where
  -- the tasks that are made of the partitions of a node that there is
  pub partitions_made : (o : PlanOp) (before count : ℕ) → op_at (plan_of nodes) head.node ≡ Some o → before ≡ w - 1 → count ≡ partition_count reducers head.kind o
      → map (λ p. partition_task head.kind (record { node = head.node; wave = before; part = p })) (range_with_len 0 count) ≡ map (partition_task head.kind) (partitions_of (plan_of nodes) reducers w head)
  partitions_made o before count at is counted =
      each before (range_with_len 0 count)
      ∙ (λ i. map (partition_task head.kind) (map (made (is i)) (range_with_len 0 (counted i))))
      ∙ ap (λ found. map (partition_task head.kind) (option_map_or (partitions_by reducers w head.kind head.node) found [])) (sym at)
    where
      made : ℕ → ℕ → ReduceTask
      made wave p = record { node = head.node; wave = wave; part = p }

      each : (wave : ℕ) (ns : List ℕ) → map (λ p. partition_task head.kind (record { node = head.node; wave = wave; part = p })) ns ≡ map (partition_task head.kind) (map (made wave) ns)
      each wave [] = refl
      each wave (n ∷ ns) = ap (λ ts. partition_task head.kind (made wave n) ∷ ts) (each wave ns)

  pub no_partitions : (tasks : List Task) → op_at (plan_of nodes) head.node ≡ None → tasks ≡ tasks ++ map (partition_task head.kind) (partitions_of (plan_of nodes) reducers w head)
  no_partitions tasks none =
      sym (append-nil tasks) ∙ ap (λ found. tasks ++ map (partition_task head.kind) (option_map_or (partitions_by reducers w head.kind head.node) found [])) (sym none)
