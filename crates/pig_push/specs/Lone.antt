-- Which nodes no two others read, as a pass over the nodes tells it.
use Rattle.std.specs.Prelude.{◌≡◌, ◌==◌, ◌+◌, ◌&&◌, ℕ, Bool, true, false, List, [], ◌∷◌, Option, None, Some, get_or, slice_get, if◌then◌else◌}
use Rattle.pig_plan.specs.Nodes.{inputs_of, names}
use Rattle.pig_plan.specs.Plans.{Plan, PlanNode, PlanOp}
use Rattle.pig_moves.specs.Pushed.{GoesOn}
use Rattle.pig_push.specs.declared.readers.ReadCount.{ReadCount}
use Rattle.pig_push.specs.declared.readers.ReadCount.TheVariants as readers

-- no two nodes read the node numbered i
abbrev pub IsLone : Plan → ℕ → Type 0
IsLone p i = (n m : ℕ) (v w : PlanNode) → slice_get p n ≡ Some v → slice_get p m ≡ Some w → names v.op i ≡ true → names w.op i ≡ true → n ≡ m

-- what is known of a node's readers once a node is known to read it
abbrev pub noted : ℕ → ReadCount → ReadCount
noted user readers.Never = readers.Once user
noted user (readers.Once other) = if other == user then readers.Once other else readers.Often
noted user readers.Often = readers.Often

-- once the inputs of a node are known, and those of nodes in turn, of which the first has this number
abbrev pub noted_in : ℕ → ℕ → List ℕ → ReadCount → ReadCount
noted_in k user [] found = found
noted_in k user (i ∷ inputs) found = noted_in k user inputs (if i == k then noted user found else found)

abbrev pub noted_by : ℕ → ℕ → Plan → ReadCount → ReadCount
noted_by k own [] found = found
noted_by k own (v ∷ p) found = noted_by k (own + 1) p (noted_in k own (inputs_of v.op) found)

-- of each node, by all
abbrev pub AreReaders : Plan → List ReadCount → Type 0
AreReaders p table = (k : ℕ) → get_or table k readers.Never ≡ noted_by k 0 p readers.Never

abbrev pub is_often : ReadCount → Bool
is_often readers.Often = true
is_often found = false

abbrev pub is_shared : List ReadCount → ℕ → Bool
is_shared table i = is_often (get_or table i readers.Never)

-- no two nodes read a node that the table doesn't say is read often, and two read each of the others
abbrev pub AreSound : Plan → List ReadCount → Type 0
AreSound p table = (i : ℕ) → is_shared table i ≡ false → IsLone p i

abbrev pub AreExact : Plan → List ReadCount → Type 0
AreExact p table = (i : ℕ) → is_shared table i ≡ true → IsLone p i → ⊥

-- a step of a sweep: the plan is reached by moves, and the table is sound of it
pub record StepsOn (p q : Plan) (table : List ReadCount) : Type 0 where
  pub goes : GoesOn p q
  pub sound : AreSound q table

-- no node is read by both operators, or none but one
abbrev pub NotBoth : PlanOp → PlanOp → Type 0
NotBoth o u = (x : ℕ) → (names o x && names u x) ≡ false

abbrev pub NotBothBut : ℕ → PlanOp → PlanOp → Type 0
NotBothBut i o u = (x : ℕ) → (x ≡ i → ⊥) → (names o x && names u x) ≡ false

abbrev pub where_read : ℕ → PlanOp → Option ℕ
where_read i o = if names o i then Some i else None

-- Two nodes changed places: what both read, the table says is read often, and it says no less than it did.
pub record IsCountedOn (q : Plan) (old new : List ReadCount) (low high x : ℕ) : Type 0 where
  pub was : is_shared old x ≡ false
  pub not_both : (v w : PlanNode) → slice_get q low ≡ Some v → slice_get q high ≡ Some w → (names v.op x && names w.op x) ≡ false

abbrev pub CountedOn : Plan → List ReadCount → List ReadCount → ℕ → ℕ → Type 0
CountedOn q old new low high = (x : ℕ) → is_shared new x ≡ false → IsCountedOn q old new low high x
