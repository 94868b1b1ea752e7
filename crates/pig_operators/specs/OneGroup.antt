-- That entries are a group is one fact.
use Rattle.std.specs.Prelude.{◌≡◌, ℕ}
use Rattle.std.specs.Coded.{Coded-set, coded_option}
use Rattle.std.proofs.Math.Bridge.{le_prop}
use Rattle.pig_value.specs.TreeCode.{coded_tree}
use Rattle.pig_runs.specs.Entries.{InDirections, key_at}
use Rattle.pig_operators.specs.Groups.{IsGroup}

pub group_prop : (run : InDirections) (from end : ℕ) → IsProp (IsGroup run from end)
group_prop run from end x y = λ i. record {
  some = le_prop x.some y.some i;
  within = le_prop x.within y.within i;
  same = λ k low high. Coded-set (coded_option coded_tree) (key_at run k) (key_at run from) (x.same k low high) (y.same k low high) i;
  other = λ more same. (let e : x.other more same ≡ y.other more same = absurd (x.other more same) in e) i;
}
