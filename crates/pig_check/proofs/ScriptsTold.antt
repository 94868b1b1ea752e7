-- Scripts: what the reader of a script tells holds, and a script has one plan, or one first statement without a typing.
use Rattle.std.proofs.Common.{◌≡◌, ◌∙◌, ◌+◌, ◌≤◌, ℕ, List, [], ◌∷◌, ap, drop, inl, inr, length, refl, subst, sym}
use Rattle.std.specs.Prelude.{◌⊎◌}
use Rattle.std.specs.declared.result.Result.{Result}
use Rattle.std.specs.declared.result.Result.TheVariants.{Ok, Err}
use Rattle.std.proofs.lemmas.List.{drop_all}
use Rattle.pig_syntax.specs.declared.trees.Stmt.{Stmt}
use Rattle.pig_plan.specs.Plans.{Plan}
use Rattle.pig_typing.specs.declared.faults.CheckKind.{CheckKind}
use Rattle.pig_typing.specs.Results.{Checked}
use Rattle.pig_check.specs.declared.faults.CheckFault.{CheckFault}
use Rattle.pig_check.specs.declared.faults.CheckFault.TheVariants as fault
use Rattle.pig_check.specs.Views.{StepTells, TellsState}
use Rattle.pig_check.specs.Scripts.{FirstUntyped, IfRefusedAt, IsFirstUntyped, IsPlanOf, TypesAll, first_not, later_not, next_types, goes_on, none_left, plan_of_all, script_of}
use Rattle.pig_check.specs.Statements.{StatementTypes, statement_of}
use Rattle.pig_check.specs.States.{Added, State, after, nothing_yet}
use Rattle.pig_check.proofs.Found.{no_statement, one_statement}
use Rattle.pig_check.proofs.Told.{IsStatementTold, statement_told}

-- ---- what is told

abbrev pub IsScriptTold : ℕ → State → List Stmt → Result State (ℕ × CheckKind) → Type 0
IsScriptTold n s ss (Ok t) = TypesAll n s ss t
IsScriptTold n s ss (Err refused) = FirstUntyped n s ss refused.0 refused.1

next_told : (n : ℕ) (s : State) (st : Stmt) (ss : List Stmt) (added : Added) → StatementTypes s st added → (r : Result State (ℕ × CheckKind))
    → IsScriptTold (n + 1) (after n s added) ss r → IsScriptTold n s (st ∷ ss) r
next_told n s st ss added h (Ok t) g = next_types h g
next_told n s st ss added h (Err refused) g = later_not h g

pub script_told : (n : ℕ) (s : State) (ss : List Stmt) → IsScriptTold n s ss (script_of n s ss)
unfolding script_of
script_told n s [] = none_left
script_told n s (st ∷ ss) = by (statement_of s st) (statement_told s st) (λ added. script_told (n + 1) (after n s added) ss)
  where
    by : (r : Checked Added) → IsStatementTold s st r
        → ((added : Added) → IsScriptTold (n + 1) (after n s added) ss (script_of (n + 1) (after n s added) ss))
        → IsScriptTold n s (st ∷ ss) (goes_on n (λ added. script_of (n + 1) (after n s added) ss) r)
    by (Ok added) h later = next_told n s st ss added h (script_of (n + 1) (after n s added) ss) (later added)
    by (Err f) h later = first_not h

-- ---- one plan, or one refusal

pub one_state : {n : ℕ} {s t u : State} {ss : List Stmt} → TypesAll n s ss t → TypesAll n s ss u → t ≡ u
one_state none_left none_left = refl
one_state {n = n} {s = s} {u = u} {ss = st ∷ ss} (next_types h hs) (next_types g gs) =
    one_state hs (subst (λ a. TypesAll (n + 1) (after n s a) ss u) (one_statement g h) gs)

pub no_state : {n m : ℕ} {s t : State} {ss : List Stmt} {f : CheckKind} → TypesAll n s ss t → FirstUntyped n s ss m f → ⊥
no_state none_left g = elim g [ ]
no_state (next_types h hs) (first_not g) = no_statement h g
no_state {n = n} {m = m} {s = s} {ss = st ∷ ss} {f = f} (next_types h hs) (later_not g gs) =
    no_state hs (subst (λ a. FirstUntyped (n + 1) (after n s a) ss m f) (one_statement g h) gs)

pub one_refusal : {n l m : ℕ} {s : State} {ss : List Stmt} {f g : CheckKind} → FirstUntyped n s ss l f → FirstUntyped n s ss m g → l ≡ m
one_refusal (first_not h) (first_not g) = refl
one_refusal (first_not h) (later_not g gs) = absurd (no_statement g h)
one_refusal (later_not h hs) (first_not g) = absurd (no_statement h g)
one_refusal {n = n} {m = m} {s = s} {ss = st ∷ ss} {g = f} (later_not h hs) (later_not g gs) =
    one_refusal hs (subst (λ a. FirstUntyped (n + 1) (after n s a) ss m f) (one_statement g h) gs)

pub one_plan : {ss : List Stmt} {p q : Plan} → IsPlanOf ss p → IsPlanOf ss q → p ≡ q
one_plan (plan_of_all h) (plan_of_all g) = ap (λ s. s.nodes) (one_state h g)

pub no_plan : {ss : List Stmt} {p : Plan} {n : ℕ} {f : CheckKind} → IsPlanOf ss p → IsFirstUntyped ss n f → ⊥
no_plan (plan_of_all h) g = no_state h g

pub some_answer : (ss : List Stmt) → ((p : Plan) × IsPlanOf ss p) ⊎ ((n : ℕ) × (f : CheckKind) × IsFirstUntyped ss n f)
some_answer ss = by (script_of 1 nothing_yet ss) (script_told 1 nothing_yet ss)
  where
    by : (r : Result State (ℕ × CheckKind)) → IsScriptTold 1 nothing_yet ss r → ((p : Plan) × IsPlanOf ss p) ⊎ ((n : ℕ) × (f : CheckKind) × IsFirstUntyped ss n f)
    by (Ok t) h = inl (t.nodes, plan_of_all h)
    by (Err refused) h = inr (refused.0, refused.1, h)

-- ---- what the code tells

pub plan_told : (ss : List Stmt) (t : State) → script_of 1 nothing_yet ss ≡ Ok t → IsPlanOf ss t.nodes
plan_told ss t e = plan_of_all (subst (IsScriptTold 1 nothing_yet ss) e (script_told 1 nothing_yet ss))

pub refusal_told : (ss : List Stmt) (fault : CheckFault) → TellsState (script_of 1 nothing_yet ss) (Err fault) → IfRefusedAt {B = Plan} (Err fault) (IsFirstUntyped ss)
refusal_told ss (fault.Check n f) e = subst (IsScriptTold 1 nothing_yet ss) e (script_told 1 nothing_yet ss)
refusal_told ss fault.OutOfMemory e = tt

-- one statement more
pub next_state : (n : ℕ) (s : State) (st : Stmt) (rest : List Stmt) (t : State) (next : ℕ) → ((added : Added) × (statement_of s st ≡ Ok added) × (t ≡ after n s added)) → next ≡ n + 1
    → script_of n s (st ∷ rest) ≡ script_of next t rest
unfolding script_of
next_state n s st rest t next w e =
    ap (goes_on n (λ added. script_of (n + 1) (after n s added) rest)) w.1 ∙ (λ i. script_of (sym e i) (sym w.2 i) rest)

-- a statement that is refused
pub fault_told : (n : ℕ) (s t : State) (st : Stmt) (rest all : List Stmt) (fault : CheckFault) → StepTells n s (statement_of s st) t (Err fault)
    → script_of n s (st ∷ rest) ≡ script_of 1 nothing_yet all → TellsState (script_of 1 nothing_yet all) (Err fault)
unfolding script_of
fault_told n s t st rest all (fault.Check m f) w h =
    sym h ∙ ap (goes_on n (λ added. script_of (n + 1) (after n s added) rest)) w.1 ∙ ap (λ k. Err (k, f)) (sym w.0)
fault_told n s t st rest all fault.OutOfMemory w h = tt

-- no statement is left
pub script_ends : (n : ℕ) (s : State) (ss : List Stmt) (k : ℕ) → length ss ≤ k → script_of n s (drop k ss) ≡ Ok s
unfolding script_of
script_ends n s ss k h = ap (script_of n s) (drop_all k ss h)
