-- What is compared of two plans' STOREs.
use Rattle.std.specs.Prelude.{ℕ, Bool, false, List, map}
use Rattle.pig_plan.specs.Nodes.{is_list, is_sorted, lists}
use Rattle.pig_plan.specs.Plans.{Plan}
use Rattle.pig_plan.specs.Results.{results}
use Rattle.pig_reach.specs.Reach.{stores_of}
use Rattle.pig_reach.specs.declared.storing.Store.{Store}

-- a STORE but for where its relation stands: its statement, directory and delimiter, and whether the relation is a list
pub record End : Type 0 where
  pub statement : ℕ
  pub dir : List ℕ
  pub delim : ℕ
  pub listed : Bool

abbrev pub end_of : (ℕ → Bool) → Store → End
end_of listed store = record { statement = store.statement; dir = store.dir; delim = store.delim; listed = listed store.relation }

abbrev pub ends_of : Plan → List End
ends_of plan = map (end_of (is_list plan)) (stores_of plan)

-- of each node whether it is a list, by which are sorted
abbrev pub marks_over : (ℕ → Bool) → Plan → List Bool
marks_over sorted plan = results (λ k node. lists sorted node.op) false plan

abbrev pub list_marks : Plan → List Bool
list_marks plan = marks_over (is_sorted plan) plan
