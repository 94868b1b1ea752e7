-- Scripts: the plan of a script is the nodes that its statements add in turn; and the first statement without a typing.
-- (Pig Latin Basics: "Pig Latin Statements".)
use Rattle.std.specs.Prelude.{◌≡◌, ◌+◌, ℕ, true, List, [], ◌∷◌}
use Rattle.std.specs.declared.result.Result.{Result}
use Rattle.std.specs.declared.result.Result.TheVariants.{Ok, Err}
use Rattle.pig_syntax.specs.declared.trees.Stmt.{Stmt}
use Rattle.pig_plan.specs.Plans.{Plan}
use Rattle.pig_plan.specs.Valid.{in_order}
use Rattle.pig_typing.specs.declared.faults.CheckKind.{CheckKind}
use Rattle.pig_typing.specs.Results.{Checked}
use Rattle.pig_check.specs.declared.faults.CheckFault.{CheckFault}
use Rattle.pig_check.specs.declared.faults.CheckFault.TheVariants as fault
use Rattle.pig_check.specs.Statements.{StatementNot, StatementTypes, statement_of}
use Rattle.pig_check.specs.States.{Added, State, after, nothing_yet}

-- statements in turn, the first of them of this number
pub data TypesAll : ℕ → State → List Stmt → State → Type 0 where
  none_left : {n : ℕ} {s : State} → TypesAll n s [] s
  next_types : {n : ℕ} {s t : State} {st : Stmt} {ss : List Stmt} {added : Added}
      → StatementTypes s st added → TypesAll (n + 1) (after n s added) ss t → TypesAll n s (st ∷ ss) t

-- the first of them without a typing, and a kind of refusal whose condition holds of it
pub data FirstUntyped : ℕ → State → List Stmt → ℕ → CheckKind → Type 0 where
  first_not : {n : ℕ} {s : State} {st : Stmt} {ss : List Stmt} {f : CheckKind} → StatementNot s st f → FirstUntyped n s (st ∷ ss) n f
  later_not : {n m : ℕ} {s : State} {st : Stmt} {ss : List Stmt} {added : Added} {f : CheckKind}
      → StatementTypes s st added → FirstUntyped (n + 1) (after n s added) ss m f → FirstUntyped n s (st ∷ ss) m f

-- the nodes of the statements of a script, which are numbered from 1, empty ones too
pub data IsPlanOf (ss : List Stmt) : Plan → Type 0 where
  plan_of_all : {s : State} → TypesAll 1 nothing_yet ss s → IsPlanOf ss s.nodes

-- the nodes of a plan stand in the order of the script's statements
abbrev pub PlansStandInOrder : Type 0
PlansStandInOrder = (ss : List Stmt) (plan : Plan) → IsPlanOf ss plan → in_order plan ≡ true

abbrev pub IsFirstUntyped : List Stmt → ℕ → CheckKind → Type 0
IsFirstUntyped = FirstUntyped 1 nothing_yet

-- of a refusal, what is said of its statement and kind
abbrev pub IfRefusedAt : {B : Type 0} → Result B CheckFault → (ℕ → CheckKind → Type 0) → Type 0
IfRefusedAt (Ok b) P = Unit {0}
IfRefusedAt (Err (fault.Check statement kind)) P = P statement kind
IfRefusedAt (Err fault.OutOfMemory) P = Unit {0}

-- ---- the same as functions

-- the state behind all statements, or the first without a typing with its kind
abbrev pub goes_on : {A : Type 0} → ℕ → (A → Result State (ℕ × CheckKind)) → Checked A → Result State (ℕ × CheckKind)
goes_on n next (Ok added) = next added
goes_on n next (Err f) = Err (n, f)

unfoldable pub script_of : ℕ → State → List Stmt → Result State (ℕ × CheckKind)
script_of n s [] = Ok s
script_of n s (st ∷ ss) = goes_on n (λ added. script_of (n + 1) (after n s added) ss) (statement_of s st)
