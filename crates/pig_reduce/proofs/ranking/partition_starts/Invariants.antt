use Rattle.std.proofs.Common.{◌≡◌, length, map, take}
use Rattle.pig_physical.specs.Handed.{out_of}
use Rattle.pig_physical.specs.Values.{all_rows}
use Rattle.pig_rank.specs.Ranks.{AreSorted, summary_tree}
use Rattle.pig_reduce.proofs.PartRanks.{summed}
use Rattle.pig_reduce.proofs.ranking.partition_starts.Given as goal

abbrev pub invariant-loop-out : goal.invariant-loop-out
invariant-loop-out l = (length l.parts ≡ l.out-index)
    × (AreSorted l.keys (all_rows (map out_of l.outs)) → map summary_tree l.parts ≡ map (summed l.keys) (take l.out-index l.outs))
