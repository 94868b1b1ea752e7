-- Operators: the node that stands for what a relation is made by, and the columns of its rows.
-- (Pig Latin Basics: "LOAD", "FILTER", "FOREACH", "DISTINCT", "ORDER BY", "LIMIT", "RANK".)
use Rattle.std.specs.Prelude.{◌≡◌, ◌+◌, ◌++◌, ℕ, Bool, true, false, List, [], ◌∷◌, map, codes, Option, Some, None, if◌then◌else◌}
use Rattle.std.specs.declared.result.Result.TheVariants.{Ok, Err}
use Rattle.pig_value.specs.declared.inputs.Column.{Column}
use Rattle.pig_value.specs.declared.operators.Side.{Side}
use Rattle.pig_value.specs.declared.values.Kind.{Kind}
use Rattle.pig_value.specs.declared.values.Kind.TheVariants as as_kind
use Rattle.pig_value.specs.Trees.{KindTree, KindTrees, k_boolean, k_int, k_long, k_chars, k_bytes, k_tuple, k_bag, k_map, no_kinds, more_kinds}
use Rattle.pig_schema.specs.FieldTrees.{FieldTree, tree_kind}
use Rattle.pig_syntax.specs.ExprTrees.{expr_form, field_form, field_forms}
use Rattle.pig_syntax.specs.declared.trees.Expr.{Expr}
use Rattle.pig_syntax.specs.declared.trees.FieldTree as written
use Rattle.pig_syntax.specs.declared.trees.Func.{Func}
use Rattle.pig_syntax.specs.declared.trees.GroupInput.{GroupInput}
use Rattle.pig_syntax.specs.declared.trees.Item.{Item}
use Rattle.pig_syntax.specs.declared.trees.JoinInput.{JoinInput}
use Rattle.pig_syntax.specs.declared.trees.Op.{Op}
use Rattle.pig_syntax.specs.declared.trees.Op.TheVariants as operator
use Rattle.pig_syntax.specs.declared.trees.OrderKeys.{OrderKeys}
use Rattle.pig_syntax.specs.declared.trees.Step.{Step}
use Rattle.pig_typed.specs.declared.blocks.SortKey.{SortKey}
use Rattle.pig_typed.specs.Typed.{Typed}
use Rattle.pig_plan.specs.Plans.{Plan, PlanOp, p_load, p_filter, p_foreach, p_distinct, p_order, p_limit, p_rank}
use Rattle.pig_typing.specs.declared.faults.CheckKind.{CheckKind}
use Rattle.pig_typing.specs.declared.faults.CheckKind.TheVariants as kind
use Rattle.pig_typing.specs.Conditions.{Conditions, ConditionsNot, condition_on}
use Rattle.pig_typing.specs.Limits.{limited_row}
use Rattle.pig_typing.specs.Results.{Checked, due, ◌>>=◌}
use Rattle.pig_typing.specs.Written.{scalar_column, with_name, written_fields}
use Rattle.pig_blocks.specs.Foreach.{Foreach, ForeachFaults, TypesForeach, block_in, columns_of, foreach_of}
use Rattle.pig_blocks.specs.SortKeys.{SortsBy, SortsByNot, sorted_by}
use Rattle.pig_relations.specs.Aliases.{Aliases, RelationTree, relation_at, relation_of}
use Rattle.pig_relations.specs.Keyed.{group_form, join_form}
use Rattle.pig_relations.specs.Operators.{Groups, GroupsAll, GroupsAllNot, GroupsNot, Joins, JoinsNot, TypedOp}
use Rattle.pig_check.specs.Functions.{HasDelimiter, HasNoDelimiter, delimiter_by}
use Rattle.pig_check.specs.Paths.{GivesPath, GivesNoPath, path_of}
use Rattle.pig_check.specs.States.{State, is_stored, row_of}

-- ---- the columns of a LOAD

-- the kind of a tree
abbrev mutual
  pub kind_from : KindTree → Kind
  kind_from k_boolean = as_kind.Boolean
  kind_from k_int = as_kind.Int
  kind_from k_long = as_kind.Long
  kind_from k_chars = as_kind.Chararray
  kind_from k_bytes = as_kind.Bytearray
  kind_from (k_tuple ks) = as_kind.Tuple (kinds_from ks)
  kind_from (k_bag ks) = as_kind.Bag (kinds_from ks)
  kind_from (k_map k) = as_kind.Map (kind_from k)

  pub kinds_from : KindTrees → List Kind
  kinds_from no_kinds = []
  kinds_from (more_kinds k ks) = kind_from k ∷ kinds_from ks

-- a column for each field, at the positions from one on
abbrev pub columns_from : ℕ → List FieldTree → List Column
columns_from at [] = []
columns_from at (c ∷ cs) = record { position = at; kind = kind_from (tree_kind c) } ∷ columns_from (at + 1) cs

abbrev pub written_columns : List written.FieldTree → Option (List FieldTree)
written_columns fields = written_fields (field_forms (map field_form fields))

-- ---- the columns of a RANK

abbrev pub rank_name : List ℕ → List ℕ
rank_name from = codes "rank_" ++ from

-- the rank, a long with the input's alias in its name, and then the input's columns
abbrev pub rank_columns : List ℕ → List FieldTree → List FieldTree
rank_columns from columns = with_name (rank_name from) (scalar_column k_long) ∷ columns

-- ---- operators

abbrev pub made : PlanOp → List FieldTree → TypedOp
made o columns = record { op = o; columns = columns }

pub data OpTypes (s : State) : Op → TypedOp → Type 0 where
  load : {text path : List ℕ} {func : Option Func} {d : ℕ} {fields : List written.FieldTree} {columns row : List FieldTree}
      → GivesPath text path → is_stored path s.nodes ≡ false → HasDelimiter func d → written_columns fields ≡ Some columns → limited_row columns ≡ Ok row
      → OpTypes s (operator.Load text func fields) (made (p_load path d (columns_from 0 columns)) columns)
  filter : {from : List ℕ} {cond : Expr} {r : RelationTree} {t : Typed}
      → relation_at from s.aliases ≡ Some r → Conditions (row_of r.columns) (expr_form cond) t
      → OpTypes s (operator.Filter from cond) (made (p_filter r.node t) r.columns)
  foreach : {from : List ℕ} {steps : List Step} {items : List Item} {r : RelationTree} {f : Foreach}
      → relation_at from s.aliases ≡ Some r → TypesForeach r.columns steps items f
      → OpTypes s (operator.Foreach from steps items) (made (p_foreach r.node (block_in f)) (columns_of f))
  group_all : {from : List ℕ} {using : Option (List ℕ)} {t : TypedOp} → GroupsAll s.aliases from using t → OpTypes s (operator.GroupAll from using) t
  group : {inputs : List GroupInput} {using : Option (List ℕ)} {t : TypedOp} → Groups s.aliases (map group_form inputs) using t → OpTypes s (operator.Group inputs using) t
  join : {inputs : List JoinInput} {side : Side} {using : Option (List ℕ)} {t : TypedOp}
      → Joins s.aliases (map join_form inputs) side using t → OpTypes s (operator.Join inputs side using) t
  distinct : {from : List ℕ} {r : RelationTree} → relation_at from s.aliases ≡ Some r → OpTypes s (operator.Distinct from) (made (p_distinct r.node) r.columns)
  order : {from : List ℕ} {keys : OrderKeys} {r : RelationTree} {ks : List SortKey}
      → relation_at from s.aliases ≡ Some r → SortsBy r.columns keys ks → OpTypes s (operator.Order from keys) (made (p_order r.node ks) r.columns)
  limit : {from : List ℕ} {count : ℕ} {r : RelationTree} → relation_at from s.aliases ≡ Some r → OpTypes s (operator.Limit from count) (made (p_limit r.node count) r.columns)
  rank : {from : List ℕ} {keys : OrderKeys} {dense : Bool} {r : RelationTree} {ks : List SortKey} {within : List FieldTree}
      → relation_at from s.aliases ≡ Some r → SortsBy r.columns keys ks → limited_row (rank_columns from r.columns) ≡ Ok within
      → OpTypes s (operator.Rank from keys dense) (made (p_rank r.node ks dense) (rank_columns from r.columns))

pub data OpNot (s : State) : Op → CheckKind → Type 0 where
  no_path : {text : List ℕ} {func : Option Func} {fields : List written.FieldTree} {f : CheckKind} → GivesNoPath text f → OpNot s (operator.Load text func fields) f
  own_output : {text path : List ℕ} {func : Option Func} {fields : List written.FieldTree}
      → GivesPath text path → is_stored path s.nodes ≡ true → OpNot s (operator.Load text func fields) kind.SelfLoad
  no_delimiter : {text : List ℕ} {func : Option Func} {fields : List written.FieldTree} {f : CheckKind} → HasNoDelimiter func f → OpNot s (operator.Load text func fields) f
  float_written : {text : List ℕ} {func : Option Func} {fields : List written.FieldTree} → written_columns fields ≡ None → OpNot s (operator.Load text func fields) kind.FloatType
  past_limits : {text : List ℕ} {func : Option Func} {fields : List written.FieldTree} {columns : List FieldTree} {f : CheckKind}
      → written_columns fields ≡ Some columns → limited_row columns ≡ Err f → OpNot s (operator.Load text func fields) f
  filter_of_none : {from : List ℕ} {cond : Expr} → relation_at from s.aliases ≡ None → OpNot s (operator.Filter from cond) kind.UnknownAlias
  no_condition : {from : List ℕ} {cond : Expr} {r : RelationTree} {f : CheckKind}
      → relation_at from s.aliases ≡ Some r → ConditionsNot (row_of r.columns) (expr_form cond) f → OpNot s (operator.Filter from cond) f
  foreach_of_none : {from : List ℕ} {steps : List Step} {items : List Item} → relation_at from s.aliases ≡ None → OpNot s (operator.Foreach from steps items) kind.UnknownAlias
  no_block : {from : List ℕ} {steps : List Step} {items : List Item} {r : RelationTree} {f : CheckKind}
      → relation_at from s.aliases ≡ Some r → ForeachFaults r.columns steps items f → OpNot s (operator.Foreach from steps items) f
  no_group_all : {from : List ℕ} {using : Option (List ℕ)} {f : CheckKind} → GroupsAllNot s.aliases from using f → OpNot s (operator.GroupAll from using) f
  no_group : {inputs : List GroupInput} {using : Option (List ℕ)} {f : CheckKind} → GroupsNot s.aliases (map group_form inputs) using f → OpNot s (operator.Group inputs using) f
  no_join : {inputs : List JoinInput} {side : Side} {using : Option (List ℕ)} {f : CheckKind}
      → JoinsNot s.aliases (map join_form inputs) side using f → OpNot s (operator.Join inputs side using) f
  distinct_of_none : {from : List ℕ} → relation_at from s.aliases ≡ None → OpNot s (operator.Distinct from) kind.UnknownAlias
  order_of_none : {from : List ℕ} {keys : OrderKeys} → relation_at from s.aliases ≡ None → OpNot s (operator.Order from keys) kind.UnknownAlias
  no_order : {from : List ℕ} {keys : OrderKeys} {r : RelationTree} {f : CheckKind}
      → relation_at from s.aliases ≡ Some r → SortsByNot r.columns keys f → OpNot s (operator.Order from keys) f
  limit_of_none : {from : List ℕ} {count : ℕ} → relation_at from s.aliases ≡ None → OpNot s (operator.Limit from count) kind.UnknownAlias
  rank_of_none : {from : List ℕ} {keys : OrderKeys} {dense : Bool} → relation_at from s.aliases ≡ None → OpNot s (operator.Rank from keys dense) kind.UnknownAlias
  no_rank : {from : List ℕ} {keys : OrderKeys} {dense : Bool} {r : RelationTree} {f : CheckKind}
      → relation_at from s.aliases ≡ Some r → SortsByNot r.columns keys f → OpNot s (operator.Rank from keys dense) f
  rank_past_limits : {from : List ℕ} {keys : OrderKeys} {dense : Bool} {r : RelationTree} {f : CheckKind}
      → relation_at from s.aliases ≡ Some r → limited_row (rank_columns from r.columns) ≡ Err f → OpNot s (operator.Rank from keys dense) f

-- ---- the same as functions

unfoldable pub not_stored : List ℕ → Plan → Checked (List ℕ)
not_stored path nodes = if is_stored path nodes then Err kind.SelfLoad else Ok path

unfoldable pub input_of : Plan → List ℕ → Checked (List ℕ)
input_of nodes text = do
  path ← path_of text
  not_stored path nodes

unfoldable pub schema_of : List written.FieldTree → Checked (List FieldTree)
schema_of fields = do
  columns ← due kind.FloatType (written_columns fields)
  row ← limited_row columns
  Ok columns

unfoldable pub load_of : Plan → List ℕ → Option Func → List written.FieldTree → Checked TypedOp
load_of nodes text func fields = do
  path ← input_of nodes text
  d ← delimiter_by func
  columns ← schema_of fields
  Ok (made (p_load path d (columns_from 0 columns)) columns)

unfoldable pub filter_of : Aliases → List ℕ → Expr → Checked TypedOp
filter_of aliases from cond = do
  r ← relation_of aliases from
  t ← condition_on (row_of r.columns) (expr_form cond)
  Ok (made (p_filter r.node t) r.columns)

unfoldable pub block_of : Aliases → List ℕ → List Step → List Item → Checked TypedOp
block_of aliases from steps items = do
  r ← relation_of aliases from
  f ← foreach_of r.columns steps items
  Ok (made (p_foreach r.node (block_in f)) (columns_of f))

unfoldable pub distinct_of : Aliases → List ℕ → Checked TypedOp
distinct_of aliases from = do
  r ← relation_of aliases from
  Ok (made (p_distinct r.node) r.columns)

unfoldable pub order_of : Aliases → List ℕ → OrderKeys → Checked TypedOp
order_of aliases from keys = do
  r ← relation_of aliases from
  ks ← sorted_by r.columns keys
  Ok (made (p_order r.node ks) r.columns)

unfoldable pub limit_of : Aliases → List ℕ → ℕ → Checked TypedOp
limit_of aliases from count = do
  r ← relation_of aliases from
  Ok (made (p_limit r.node count) r.columns)

unfoldable pub rank_of : Aliases → List ℕ → OrderKeys → Bool → Checked TypedOp
rank_of aliases from keys dense = do
  r ← relation_of aliases from
  ks ← sorted_by r.columns keys
  within ← limited_row (rank_columns from r.columns)
  Ok (made (p_rank r.node ks dense) (rank_columns from r.columns))
