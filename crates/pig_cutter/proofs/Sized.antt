-- How much a wave counts, feed by feed: each path of the node whose rows come counts one, and one for each part of its source.
use Rattle.std.specs.Prelude.{◌≡◌, ◌+◌, ℕ, List, [], ◌∷◌, ◌++◌, map, length, Some, slice_get, refl}
use Rattle.std.proofs.Common.{ap, ◌∙◌, arith}
use Rattle.std.specs.List.{filter, flat_map, sum_by}
use Rattle.std.proofs.lemmas.List.{length-append, length-map}
use Rattle.std.proofs.lemmas.List.Sums.{sum_by-cons}
use Rattle.pig_plan.specs.Nodes.{Path, paths_of}
use Rattle.pig_physical.specs.declared.parts.Part.{Part}
use Rattle.pig_physical.specs.declared.parts.ReduceTask.{ReduceTask}
use Rattle.pig_physical.specs.declared.waves.WaveHead.{WaveHead}
use Rattle.pig_physical.specs.declared.waves.WaveKind.{WaveKind}
use Rattle.pig_physical.specs.declared.waves.WaveKind.TheVariants as kinds
use Rattle.pig_physical.specs.Stages.{MapTask, Stages, heads, is_map_task, parts_at, path_tasks, stores, t_map, tasks_on, wave_size}
use Rattle.pig_cutter.specs.Feeds.{feeds_of, partitions_of, ways_on}
use Rattle.pig_cutter.specs.declared.feeding.Feed.{Feed}
use Rattle.pig_cutter.proofs.Fed.{enter, fed_tasks, partition_seen, tasks_are_fed, ways_are_fed}

only_maps : (kind : WaveKind) (xs : List MapTask) (ys : List ReduceTask) → length (filter is_map_task (map t_map xs ++ map (partition_seen kind) ys)) ≡ length xs
only_maps kind [] [] = refl
only_maps kinds.Map [] (y ∷ ys) = only_maps kinds.Map [] ys
only_maps kinds.Reduce [] (y ∷ ys) = only_maps kinds.Reduce [] ys
only_maps kinds.Copy [] (y ∷ ys) = only_maps kinds.Copy [] ys
only_maps kinds.Probe [] (y ∷ ys) = only_maps kinds.Probe [] ys
only_maps kinds.Rank [] (y ∷ ys) = only_maps kinds.Rank [] ys
only_maps kinds.Store [] (y ∷ ys) = only_maps kinds.Store [] ys
only_maps kind (x ∷ xs) ys = let more = only_maps kind xs ys in omega (arith, more)

module _ (s : Stages) where
  abbrev pub path_weight : Path → ℕ
  path_weight path = length (parts_at s path.source) + 1

  abbrev pub node_weight : ℕ → ℕ
  node_weight k = sum_by path_weight (paths_of s.plan k)

  on_paths : (k i : ℕ) (ps : List Path) → length (tasks_on s k (map (enter i) ps)) + length (map (enter i) ps) ≡ sum_by path_weight ps
  on_paths k i [] = refl
  on_paths k i (p ∷ ps) =
      let a = length-append (path_tasks s k (enter i p)) (tasks_on s k (map (enter i) ps)) in
      let b : length (path_tasks s k (enter i p)) ≡ length (parts_at s p.source) = length-map (parts_at s p.source) made in
      let c = sum_by-cons path_weight p ps in
      let more = on_paths k i ps in
      omega (arith, a, b, c, more)
    where
      made : Part → MapTask
      made part = record { node = k; way = enter i p; part = part }

  abbrev pub feed_weight : Feed → ℕ
  feed_weight feed = node_weight feed.from

  on_feeds : (feeds : List Feed) → length (flat_map (fed_tasks s) feeds) + length (flat_map (ways_on s.plan) feeds) ≡ sum_by feed_weight feeds
  on_feeds [] = refl
  on_feeds (feed ∷ feeds) =
      let a = length-append (fed_tasks s feed) (flat_map (fed_tasks s) feeds) in
      let b = length-append (ways_on s.plan feed) (flat_map (ways_on s.plan) feeds) in
      let c = sum_by-cons feed_weight feed feeds in
      let one : length (fed_tasks s feed) + length (ways_on s.plan feed) ≡ feed_weight feed = on_paths feed.node feed.input (paths_of s.plan feed.from) in
      let more = on_feeds feeds in
      omega (arith, a, b, c, one, more)

  pub size_is : (w : ℕ) (head : WaveHead) → slice_get (heads s.plan) w ≡ Some head → wave_size s w ≡ sum_by feed_weight (feeds_of s.plan (stores s.plan) head)
  size_is w head at =
      let feeds = feeds_of s.plan (stores s.plan) head in
      (λ i. length (filter is_map_task (tasks_are_fed s w head at i)) + length (ways_are_fed s w head at i))
      ∙ ap (λ n. n + length (flat_map (ways_on s.plan) feeds)) (only_maps head.kind (flat_map (fed_tasks s) feeds) (partitions_of s.plan s.sizing.reducers w head))
      ∙ on_feeds feeds
