-- What stands before a statement: what the aliases mean, and the nodes so far; and what a statement adds to that.
-- (Pig Latin Basics: "Relations, Bags, Tuples, Fields".)
use Rattle.std.specs.Prelude.{⊤, ◌≡◌, ◌<◌, ◌++◌, ℕ, Bool, true, false, List, [], ◌∷◌, map, Option, Some, None, bytes_eq}
use Rattle.std.specs.List.{AllByRecursion, IsDistinct, filter_map, list_any}
use Rattle.pig_schema.specs.FieldTrees.{FieldTree}
use Rattle.pig_plan.specs.Plans.{Plan, PlanNode, PlanOp, p_load, p_store}
use Rattle.pig_plan.specs.NodeKinds.{kinds_at}
use Rattle.pig_plan.specs.Valid.{fits}
use Rattle.pig_relations.specs.Aliases.{Aliases, IsTable}
use Rattle.pig_typing.specs.Columns.{Place}
use Rattle.pig_check.specs.Paths.{collide}

pub record State : Type 0 where
  pub aliases : Aliases
  pub nodes : Plan

abbrev pub nothing_yet : State
nothing_yet = record { aliases = []; nodes = [] }

-- the operators of a statement's nodes in turn, and the relations that it gives
pub record Added : Type 0 where
  pub ops : List PlanOp
  pub given : Aliases

abbrev pub adds_nothing : Added
adds_nothing = record { ops = []; given = [] }

-- nodes have the number of their statement
abbrev pub node_of_statement : ℕ → PlanOp → PlanNode
node_of_statement statement o = record { op = o; statement = statement }

-- the state behind the statement of this number
abbrev pub after : ℕ → State → Added → State
after statement s added = record { aliases = s.aliases ++ added.given; nodes = s.nodes ++ map (node_of_statement statement) added.ops }

-- the operators make nodes of this statement that fit the plan in turn, each behind those before it
abbrev pub AllFit : ℕ → Plan → List PlanOp → Type 0
AllFit statement plan [] = ⊤
AllFit statement plan (o ∷ os) = (fits plan (node_of_statement statement o) ≡ true) × AllFit statement (plan ++ node_of_statement statement o ∷ []) os

-- ---- what holds of each state that the statements before one of this number lead to

-- an earlier statement's node
abbrev pub IsEarlier : ℕ → PlanNode → Type 0
IsEarlier statement node = node.statement < statement

pub record IsSound (statement : ℕ) (s : State) : Type 0 where
  pub table : IsTable (kinds_at s.nodes) s.aliases
  pub earlier : AllByRecursion (IsEarlier statement) s.nodes

-- ---- rows

-- the row of a relation, as what an expression may refer to
abbrev pub row_of : List FieldTree → Place
row_of columns = record { columns = columns; locals = [] }

-- ---- paths of earlier statements

abbrev pub loads_beside : List ℕ → PlanOp → Bool
loads_beside path (p_load other delimiter columns) = collide path other
loads_beside path o = false

abbrev pub stores_beside : List ℕ → PlanOp → Bool
stores_beside path (p_store input other delimiter) = collide path other
stores_beside path o = false

-- the path collides with that of a LOAD, or of a STORE, among the nodes
abbrev pub is_loaded : List ℕ → Plan → Bool
is_loaded path nodes = list_any (λ node. loads_beside path node.op) nodes

abbrev pub is_stored : List ℕ → Plan → Bool
is_stored path nodes = list_any (λ node. stores_beside path node.op) nodes

-- ---- the STOREs of a plan

-- the path of a STORE
abbrev pub stored_path : PlanOp → Option (List ℕ)
stored_path (p_store input path delimiter) = Some path
stored_path o = None

-- the paths of a plan's STOREs, in order
abbrev pub stored_paths : Plan → List (List ℕ)
stored_paths plan = filter_map (λ node. stored_path node.op) plan

-- no two STOREs have one path
abbrev pub StoresAreApart : Plan → Type 0
StoresAreApart plan = IsDistinct bytes_eq (stored_paths plan)

-- nor is the path of one within that of another
abbrev pub NoStoresCollide : Plan → Type 0
NoStoresCollide plan = IsDistinct collide (stored_paths plan)
