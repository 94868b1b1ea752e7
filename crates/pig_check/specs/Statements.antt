-- Statements: what each adds to what stands before it, or why it has no typing.
-- (Pig Latin Basics: "LOAD" to "UNION". That an output is not an input of the same script is a choice of this profile.)
use Rattle.std.specs.Prelude.{◌≡◌, ℕ, Bool, true, false, List, [], ◌∷◌, length, map, Option, Some, None, if◌then◌else◌}
use Rattle.std.specs.declared.result.Result.TheVariants.{Ok, Err}
use Rattle.pig_syntax.specs.ExprTrees.{expr_form}
use Rattle.pig_syntax.specs.declared.trees.Branch.{Branch}
use Rattle.pig_syntax.specs.declared.trees.Expr.{Expr}
use Rattle.pig_syntax.specs.declared.trees.FieldRef.{FieldRef}
use Rattle.pig_syntax.specs.declared.trees.Func.{Func}
use Rattle.pig_syntax.specs.declared.trees.Op.{Op}
use Rattle.pig_syntax.specs.declared.trees.Op.TheVariants as operator
use Rattle.pig_syntax.specs.declared.trees.Stmt.{Stmt}
use Rattle.pig_syntax.specs.declared.trees.Stmt.TheVariants as stmt
use Rattle.pig_typed.specs.Typed.{Typed}
use Rattle.pig_plan.specs.Plans.{Plan, p_assert, p_store}
use Rattle.pig_typing.specs.declared.faults.CheckKind.{CheckKind}
use Rattle.pig_typing.specs.declared.faults.CheckKind.TheVariants as kind
use Rattle.pig_typing.specs.Conditions.{Conditions, ConditionsNot, condition_on}
use Rattle.pig_typing.specs.Results.{Checked, ◌>>=◌}
use Rattle.pig_relations.specs.Aliases.{RelationTree, relation_at, relation_of}
use Rattle.pig_relations.specs.Keyed.{group_form, join_form}
use Rattle.pig_relations.specs.Operators.{TypedOp, group_all_of, group_of, join_of}
use Rattle.pig_relations.specs.Unions.{TypedUnion, Unions, UnionsNot}
use Rattle.pig_check.specs.Functions.{HasDelimiter, HasNoDelimiter, delimiter_by}
use Rattle.pig_check.specs.Operators.{OpNot, OpTypes, made, load_of, filter_of, block_of, distinct_of, order_of, limit_of, rank_of}
use Rattle.pig_check.specs.Paths.{GivesNoPath, GivesPath, path_of}
use Rattle.pig_check.specs.Splits.{AllConditions, AllConditionsNot, split_into, split_of}
use Rattle.pig_check.specs.Unions.{union_at, united}
use Rattle.pig_check.specs.Cubes.{Cubes, CubesNot, TypedCube, cube_at, cubed}
use Rattle.pig_check.specs.States.{Added, State, adds_nothing, is_loaded, is_stored, row_of}

-- the node of an operator, and the relation that it makes, behind so many nodes
abbrev pub assigned : ℕ → List ℕ → TypedOp → Added
assigned n alias t = record { ops = t.op ∷ []; given = (alias, record { node = n; columns = t.columns }) ∷ [] }

abbrev pub stored_at : RelationTree → List ℕ → ℕ → Added
stored_at r path d = record { ops = p_store r.node path d ∷ []; given = [] }

-- ASSERT makes its alias anew: the same columns, at a node of the condition
abbrev pub asserted : ℕ → List ℕ → RelationTree → Typed → Option (List ℕ) → Added
asserted n alias r t message = assigned n alias (made (p_assert r.node t message) r.columns)

pub data StatementTypes (s : State) : Stmt → Added → Type 0 where
  nothing : StatementTypes s stmt.Empty adds_nothing
  assigns : {alias : List ℕ} {o : Op} {t : TypedOp} → OpTypes s o t → StatementTypes s (stmt.Assign alias o) (assigned (length s.nodes) alias t)
  unites : {alias : List ℕ} {onschema : Bool} {names : List (List ℕ)} {t : TypedUnion}
      → Unions s.aliases onschema names t → StatementTypes s (stmt.Assign alias (operator.Union onschema names)) (united (length s.nodes) alias t)
  makes_cube : {alias from : List ℕ} {rollup : Bool} {dims : List FieldRef} {t : TypedCube}
      → Cubes s.aliases from dims t → StatementTypes s (stmt.Assign alias (operator.Cube from rollup dims)) (cubed (length s.nodes) alias rollup t)
  splits : {from : List ℕ} {bs : List Branch} {otherwise : Option (List ℕ)} {r : RelationTree} {ts : List Typed}
      → relation_at from s.aliases ≡ Some r → AllConditions (row_of r.columns) bs ts
      → StatementTypes s (stmt.Split from bs otherwise) (split_into (length s.nodes) r bs otherwise ts)
  stores : {from text path : List ℕ} {func : Option Func} {r : RelationTree} {d : ℕ}
      → relation_at from s.aliases ≡ Some r → GivesPath text path → is_stored path s.nodes ≡ false → is_loaded path s.nodes ≡ false → HasDelimiter func d
      → StatementTypes s (stmt.Store from text func) (stored_at r path d)
  asserts : {from : List ℕ} {cond : Expr} {message : Option (List ℕ)} {r : RelationTree} {t : Typed}
      → relation_at from s.aliases ≡ Some r → Conditions (row_of r.columns) (expr_form cond) t
      → StatementTypes s (stmt.Assert from cond message) (asserted (length s.nodes) from r t message)

pub data StatementNot (s : State) : Stmt → CheckKind → Type 0 where
  left_out : StatementNot s stmt.Unsupported kind.Unsupported
  assigns_not : {alias : List ℕ} {o : Op} {f : CheckKind} → OpNot s o f → StatementNot s (stmt.Assign alias o) f
  unites_not : {alias : List ℕ} {onschema : Bool} {names : List (List ℕ)} {f : CheckKind}
      → UnionsNot s.aliases onschema names f → StatementNot s (stmt.Assign alias (operator.Union onschema names)) f
  makes_no_cube : {alias from : List ℕ} {rollup : Bool} {dims : List FieldRef} {f : CheckKind}
      → CubesNot s.aliases from dims f → StatementNot s (stmt.Assign alias (operator.Cube from rollup dims)) f
  split_of_none : {from : List ℕ} {bs : List Branch} {otherwise : Option (List ℕ)}
      → relation_at from s.aliases ≡ None → StatementNot s (stmt.Split from bs otherwise) kind.UnknownAlias
  no_branch : {from : List ℕ} {bs : List Branch} {otherwise : Option (List ℕ)} {r : RelationTree} {f : CheckKind}
      → relation_at from s.aliases ≡ Some r → AllConditionsNot (row_of r.columns) bs f → StatementNot s (stmt.Split from bs otherwise) f
  store_of_none : {from text : List ℕ} {func : Option Func} → relation_at from s.aliases ≡ None → StatementNot s (stmt.Store from text func) kind.UnknownAlias
  stored_at_none : {from text : List ℕ} {func : Option Func} {f : CheckKind} → GivesNoPath text f → StatementNot s (stmt.Store from text func) f
  stored_twice : {from text path : List ℕ} {func : Option Func}
      → GivesPath text path → is_stored path s.nodes ≡ true → StatementNot s (stmt.Store from text func) kind.OutputTwice
  stored_over_input : {from text path : List ℕ} {func : Option Func}
      → GivesPath text path → is_loaded path s.nodes ≡ true → StatementNot s (stmt.Store from text func) kind.SelfLoad
  stored_by_none : {from text : List ℕ} {func : Option Func} {f : CheckKind} → HasNoDelimiter func f → StatementNot s (stmt.Store from text func) f
  assert_of_none : {from : List ℕ} {cond : Expr} {message : Option (List ℕ)}
      → relation_at from s.aliases ≡ None → StatementNot s (stmt.Assert from cond message) kind.UnknownAlias
  no_test : {from : List ℕ} {cond : Expr} {message : Option (List ℕ)} {r : RelationTree} {f : CheckKind}
      → relation_at from s.aliases ≡ Some r → ConditionsNot (row_of r.columns) (expr_form cond) f
      → StatementNot s (stmt.Assert from cond message) f

-- ---- the same as functions

unfoldable pub apart_from : List ℕ → Plan → Checked (List ℕ)
apart_from path nodes = if is_stored path nodes then Err kind.OutputTwice else if is_loaded path nodes then Err kind.SelfLoad else Ok path

unfoldable pub output_of : Plan → List ℕ → Checked (List ℕ)
output_of nodes text = do
  path ← path_of text
  apart_from path nodes

unfoldable pub store_of : State → List ℕ → List ℕ → Option Func → Checked Added
store_of s from text func = do
  r ← relation_of s.aliases from
  path ← output_of s.nodes text
  d ← delimiter_by func
  Ok (stored_at r path d)

unfoldable pub assert_of : State → List ℕ → Expr → Option (List ℕ) → Checked Added
assert_of s from cond message = do
  r ← relation_of s.aliases from
  t ← condition_on (row_of r.columns) (expr_form cond)
  Ok (asserted (length s.nodes) from r t message)

unfoldable pub op_of : State → Op → Checked TypedOp
op_of s (operator.Load text func fields) = load_of s.nodes text func fields
op_of s (operator.Filter from cond) = filter_of s.aliases from cond
op_of s (operator.Foreach from steps items) = block_of s.aliases from steps items
op_of s (operator.GroupAll from using) = group_all_of s.aliases from using
op_of s (operator.Group inputs using) = group_of s.aliases (map group_form inputs) using
op_of s (operator.Join inputs side using) = join_of s.aliases (map join_form inputs) side using
op_of s (operator.Distinct from) = distinct_of s.aliases from
op_of s (operator.Order from keys) = order_of s.aliases from keys
op_of s (operator.Limit from count) = limit_of s.aliases from count
op_of s (operator.Rank from keys dense) = rank_of s.aliases from keys dense
-- nodes may stand before that of a UNION, and one stands before that of a CUBE
op_of s (operator.Union onschema names) = Err kind.Unsupported
op_of s (operator.Cube from rollup dims) = Err kind.Unsupported

unfoldable pub node_of : State → List ℕ → Op → Checked Added
node_of s alias o = do
  t ← op_of s o
  Ok (assigned (length s.nodes) alias t)

abbrev pub assign_of : State → List ℕ → Op → Checked Added
assign_of s alias (operator.Union onschema names) = union_at s alias onschema names
assign_of s alias (operator.Cube from rollup dims) = cube_at s alias from rollup dims
assign_of s alias o = node_of s alias o

unfoldable pub statement_of : State → Stmt → Checked Added
statement_of s stmt.Empty = Ok adds_nothing
statement_of s (stmt.Assign alias o) = assign_of s alias o
statement_of s (stmt.Split from bs otherwise) = split_of s from bs otherwise
statement_of s (stmt.Store from text func) = store_of s from text func
statement_of s (stmt.Assert from cond message) = assert_of s from cond message
statement_of s stmt.Unsupported = Err kind.Unsupported
