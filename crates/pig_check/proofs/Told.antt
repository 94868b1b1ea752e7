-- What the readers of statements tell holds: what a statement adds, and of what is refused a condition.
use Rattle.std.proofs.Common.{◌≡◌, ℕ, Bool, true, false, List, [], ◌∷◌, map, refl}
use Rattle.std.specs.Prelude.{Option, Some, None, if◌then◌else◌}
use Rattle.std.specs.Bool.{Decides}
use Rattle.std.specs.Str.{bytes_eq}
use Rattle.std.specs.declared.result.Result.TheVariants.{Ok, Err}
use Rattle.std.proofs.lemmas.Bool.{false≢true}
use Rattle.std.proofs.lemmas.Slice.Eq.{bytes_eq-Decides}
use Rattle.pig_schema.specs.FieldTrees.{FieldTree}
use Rattle.pig_syntax.specs.ExprTrees.{expr_form}
use Rattle.pig_syntax.specs.declared.trees.Branch.{Branch}
use Rattle.pig_syntax.specs.declared.trees.Expr.{Expr}
use Rattle.pig_syntax.specs.declared.trees.FieldRef.{FieldRef}
use Rattle.pig_syntax.specs.declared.trees.FieldTree as written
use Rattle.pig_syntax.specs.declared.trees.Func.{Func}
use Rattle.pig_syntax.specs.declared.trees.Item.{Item}
use Rattle.pig_syntax.specs.declared.trees.Op.{Op}
use Rattle.pig_syntax.specs.declared.trees.Op.TheVariants as operator
use Rattle.pig_syntax.specs.declared.trees.OrderKeys.{OrderKeys}
use Rattle.pig_syntax.specs.declared.trees.Step.{Step}
use Rattle.pig_syntax.specs.declared.trees.Stmt.{Stmt}
use Rattle.pig_syntax.specs.declared.trees.Stmt.TheVariants as stmt
use Rattle.pig_typed.specs.Typed.{Typed}
use Rattle.pig_typing.specs.declared.faults.CheckKind.TheVariants as kind
use Rattle.pig_typing.specs.Columns.{Place}
use Rattle.pig_typing.specs.Conditions.{condition_on}
use Rattle.pig_typing.specs.Limits.{limited_row}
use Rattle.pig_typing.specs.Results.{Checked, due}
use Rattle.pig_typing.proofs.Chains.{then_told, passes, then_is, due_is}
use Rattle.pig_typing.proofs.ConditionsTold.{IsConditionTold, condition_told}
use Rattle.pig_blocks.specs.Foreach.{foreach_of}
use Rattle.pig_blocks.specs.SortKeys.{sorted_by}
use Rattle.pig_blocks.proofs.Told.{IsForeachTold, IsOrderTold, foreach_told, order_told}
use Rattle.pig_relations.specs.Aliases.{relation_at, relation_of}
use Rattle.pig_relations.specs.Keyed.{group_form, join_form}
use Rattle.pig_relations.specs.Operators.{TypedOp, group_all_of, group_of, join_of}
use Rattle.pig_relations.specs.Unions.{union_of}
use Rattle.pig_relations.proofs.OperatorsTold.{IsGroupTold, IsGroupAllTold, IsJoinTold, IsUnionTold, group_told, group_all_told, join_told, union_told}
use Rattle.pig_check.specs.Functions.{HasDelimiter, HasNoDelimiter, none_written, of_pig_storage, other_function, odd_arguments, delimiter_by, delimiter_in, pig_storage}
use Rattle.pig_check.specs.Operators.{OpTypes, OpNot, load, filter, foreach, group_all, group, join, distinct, order, limit, rank, no_path, own_output, no_delimiter, float_written, past_limits, filter_of_none, no_condition, foreach_of_none, no_block, no_group_all, no_group, no_join, distinct_of_none, order_of_none, no_order, limit_of_none, rank_of_none, no_rank, rank_past_limits, rank_columns, written_columns, not_stored, input_of, schema_of, load_of, filter_of, block_of, distinct_of, order_of, limit_of, rank_of}
use Rattle.pig_check.specs.Paths.{GivesPath, GivesNoPath, a_path, not_plain, compressed, is_compressed, is_plain, kept, path_of}
use Rattle.pig_check.specs.Splits.{AllConditions, AllConditionsNot, no_branches, more_branches, here_not, later_not, conditions_of, split_of}
use Rattle.pig_check.specs.States.{Added, State, is_loaded, is_stored, row_of}
use Rattle.pig_check.specs.Statements.{StatementTypes, StatementNot, nothing, assigns, unites, makes_cube, splits, stores, asserts, left_out, assigns_not, unites_not, makes_no_cube, split_of_none, no_branch, store_of_none, stored_at_none, stored_twice, stored_over_input, stored_by_none, assert_of_none, no_test, assert_of, apart_from, output_of, store_of, op_of, node_of, assign_of, statement_of}
use Rattle.pig_check.specs.Unions.{union_at}
use Rattle.pig_check.specs.Cubes.{cube_at, cube_of}
use Rattle.pig_check.proofs.CubesTold.{IsCubeTold, cube_told}

-- ---- paths and storage functions

abbrev IsPathTold : List ℕ → Checked (List ℕ) → Type 0
IsPathTold text (Ok path) = GivesPath text path
IsPathTold text (Err f) = GivesNoPath text f

path_told : (text : List ℕ) → IsPathTold text (path_of text)
unfolding path_of
path_told text = by (is_plain (kept text)) refl (is_compressed (kept text)) refl
  where
    by : (a : Bool) → is_plain (kept text) ≡ a → (b : Bool) → is_compressed (kept text) ≡ b
        → IsPathTold text (if a then (if b then Err kind.Compressed else Ok (kept text)) else Err kind.Unsupported)
    by true e true g = compressed g
    by true e false g = a_path e g
    by false e b g = not_plain e

abbrev IsDelimiterTold : Option Func → Checked ℕ → Type 0
IsDelimiterTold func (Ok d) = HasDelimiter func d
IsDelimiterTold func (Err f) = HasNoDelimiter func f

delimiter_told : (func : Option Func) → IsDelimiterTold func (delimiter_by func)
unfolding delimiter_by
delimiter_told None = none_written
delimiter_told (Some f) = by (bytes_eq f.name pig_storage) (bytes_eq-Decides f.name pig_storage) (delimiter_in f.args) refl
  where
    by : (same : Bool) → Decides same (f.name ≡ pig_storage) → (o : Option ℕ) → delimiter_in f.args ≡ o
        → IsDelimiterTold (Some f) (if same then due kind.WrongArguments o else Err kind.UnknownFunction)
    by true d (Some delimiter) e = of_pig_storage (d.0 refl) e
    by true d None e = odd_arguments (d.0 refl) e
    by false d o e = other_function (λ k. false≢true (d.1 k))

-- ---- operators

abbrev IsOpTold : State → Op → Checked TypedOp → Type 0
IsOpTold s o (Ok t) = OpTypes s o t
IsOpTold s o (Err f) = OpNot s o f

-- the path of a LOAD
abbrev IsInput : State → List ℕ → Checked (List ℕ) → Type 0
IsInput s text (Ok path) = GivesPath text path × (is_stored path s.nodes ≡ false)
IsInput s text (Err f) = (func : Option Func) (fields : List written.FieldTree) → OpNot s (operator.Load text func fields) f

not_stored_told : (s : State) (text path : List ℕ) → GivesPath text path → IsInput s text (not_stored path s.nodes)
unfolding not_stored
not_stored_told s text path h = by (is_stored path s.nodes) refl
  where
    by : (b : Bool) → is_stored path s.nodes ≡ b → IsInput s text (if b then Err kind.SelfLoad else Ok path)
    by true e = λ func fields. own_output h e
    by false e = (h, e)

input_told : (s : State) (text : List ℕ) → IsInput s text (input_of s.nodes text)
unfolding input_of
input_told s text =
    then_told (IsPathTold text) (IsInput s text) _ (path_of text) (path_told text) (λ path h. not_stored_told s text path h) (λ f h func fields. no_path h)

-- its columns
abbrev IsSchema : State → List written.FieldTree → Checked (List FieldTree) → Type 0
IsSchema s fields (Ok columns) = (row : List FieldTree) × (written_columns fields ≡ Some columns) × (limited_row columns ≡ Ok row)
IsSchema s fields (Err f) = (text : List ℕ) (func : Option Func) → OpNot s (operator.Load text func fields) f

schema_told : (s : State) (fields : List written.FieldTree) → IsSchema s fields (schema_of fields)
unfolding schema_of
schema_told s fields =
    due_is (IsSchema s fields) _ kind.FloatType (written_columns fields)
    (λ columns e. then_is (IsSchema s fields) _ (limited_row columns) (λ row within. (row, e, within)) (λ f past text func. past_limits e past))
    (λ e text func. float_written e)

load_told : (s : State) (text : List ℕ) (func : Option Func) (fields : List written.FieldTree) → IsOpTold s (operator.Load text func fields) (load_of s.nodes text func fields)
unfolding load_of
load_told s text func fields =
    then_told (IsInput s text) (IsOpTold s (operator.Load text func fields)) _ (input_of s.nodes text) (input_told s text)
    (λ path h. then_told (IsDelimiterTold func) (IsOpTold s (operator.Load text func fields)) _ (delimiter_by func) (delimiter_told func)
    (λ d g. then_told (IsSchema s fields) (IsOpTold s (operator.Load text func fields)) _ (schema_of fields) (schema_told s fields)
    (λ columns w. load h.0 h.1 g w.1 w.2) (λ f w. w text func))
    (λ f g. no_delimiter g))
    (λ f h. h func fields)

filter_told : (s : State) (from : List ℕ) (cond : Expr) → IsOpTold s (operator.Filter from cond) (filter_of s.aliases from cond)
unfolding filter_of relation_of
filter_told s from cond =
    due_is (IsOpTold s (operator.Filter from cond)) _ kind.UnknownAlias (relation_at from s.aliases)
    (λ r e. then_told (IsConditionTold (row_of r.columns) (expr_form cond)) (IsOpTold s (operator.Filter from cond)) _
    (condition_on (row_of r.columns) (expr_form cond)) (condition_told (row_of r.columns) (expr_form cond))
    (λ t h. filter e h) (λ f h. no_condition e h))
    (λ e. filter_of_none e)

block_told : (s : State) (from : List ℕ) (steps : List Step) (items : List Item) → IsOpTold s (operator.Foreach from steps items) (block_of s.aliases from steps items)
unfolding block_of relation_of
block_told s from steps items =
    due_is (IsOpTold s (operator.Foreach from steps items)) _ kind.UnknownAlias (relation_at from s.aliases)
    (λ r e. then_told (IsForeachTold r.columns steps items) (IsOpTold s (operator.Foreach from steps items)) _ (foreach_of r.columns steps items) (foreach_told r.columns steps items)
    (λ b h. foreach e h) (λ f h. no_block e h))
    (λ e. foreach_of_none e)

distinct_told : (s : State) (from : List ℕ) → IsOpTold s (operator.Distinct from) (distinct_of s.aliases from)
unfolding distinct_of relation_of
distinct_told s from = due_is (IsOpTold s (operator.Distinct from)) _ kind.UnknownAlias (relation_at from s.aliases) (λ r e. distinct e) (λ e. distinct_of_none e)

sorted_told : (s : State) (from : List ℕ) (keys : OrderKeys) → IsOpTold s (operator.Order from keys) (order_of s.aliases from keys)
unfolding order_of relation_of
sorted_told s from keys =
    due_is (IsOpTold s (operator.Order from keys)) _ kind.UnknownAlias (relation_at from s.aliases)
    (λ r e. then_told (IsOrderTold r.columns keys) (IsOpTold s (operator.Order from keys)) _ (sorted_by r.columns keys) (order_told r.columns keys) (λ ks h. order e h) (λ f h. no_order e h))
    (λ e. order_of_none e)

limit_told : (s : State) (from : List ℕ) (count : ℕ) → IsOpTold s (operator.Limit from count) (limit_of s.aliases from count)
unfolding limit_of relation_of
limit_told s from count = due_is (IsOpTold s (operator.Limit from count)) _ kind.UnknownAlias (relation_at from s.aliases) (λ r e. limit e) (λ e. limit_of_none e)

ranked_told : (s : State) (from : List ℕ) (keys : OrderKeys) (dense : Bool) → IsOpTold s (operator.Rank from keys dense) (rank_of s.aliases from keys dense)
unfolding rank_of relation_of
ranked_told s from keys dense =
    due_is (IsOpTold s (operator.Rank from keys dense)) _ kind.UnknownAlias (relation_at from s.aliases)
    (λ r e. then_told (IsOrderTold r.columns keys) (IsOpTold s (operator.Rank from keys dense)) _ (sorted_by r.columns keys) (order_told r.columns keys)
    (λ ks h. then_is (IsOpTold s (operator.Rank from keys dense)) _ (limited_row (rank_columns from r.columns)) (λ within w. rank e h w) (λ f w. rank_past_limits e w))
    (λ f h. no_rank e h))
    (λ e. rank_of_none e)

-- ---- statements

abbrev pub IsStatementTold : State → Stmt → Checked Added → Type 0
IsStatementTold s st (Ok added) = StatementTypes s st added
IsStatementTold s st (Err f) = StatementNot s st f

-- UNION and CUBE alone add more than one node
abbrev AddsOne : Op → Type 0
AddsOne (operator.Union onschema names) = ⊥
AddsOne (operator.Cube from rollup dims) = ⊥
AddsOne o = Unit {0}

op_told : (s : State) (o : Op) → AddsOne o → IsOpTold s o (op_of s o)
unfolding op_of
op_told s (operator.Load text func fields) one = load_told s text func fields
op_told s (operator.Filter from cond) one = filter_told s from cond
op_told s (operator.Foreach from steps items) one = block_told s from steps items
op_told s (operator.GroupAll from using) one =
    passes (IsGroupAllTold s.aliases from using) (IsOpTold s (operator.GroupAll from using)) (group_all_of s.aliases from using) (group_all_told s.aliases from using)
    (λ t h. group_all h) (λ f h. no_group_all h)
op_told s (operator.Group inputs using) one =
    passes (IsGroupTold s.aliases (map group_form inputs) using) (IsOpTold s (operator.Group inputs using)) (group_of s.aliases (map group_form inputs) using)
    (group_told s.aliases (map group_form inputs) using) (λ t h. group h) (λ f h. no_group h)
op_told s (operator.Join inputs side using) one =
    passes (IsJoinTold s.aliases (map join_form inputs) side using) (IsOpTold s (operator.Join inputs side using)) (join_of s.aliases (map join_form inputs) side using)
    (join_told s.aliases (map join_form inputs) side using) (λ t h. join h) (λ f h. no_join h)
op_told s (operator.Union onschema names) one = absurd one
op_told s (operator.Distinct from) one = distinct_told s from
op_told s (operator.Order from keys) one = sorted_told s from keys
op_told s (operator.Limit from count) one = limit_told s from count
op_told s (operator.Cube from rollup dims) one = absurd one
op_told s (operator.Rank from keys dense) one = ranked_told s from keys dense

node_told : (s : State) (alias : List ℕ) (o : Op) → AddsOne o → IsStatementTold s (stmt.Assign alias o) (node_of s alias o)
unfolding node_of
node_told s alias o one =
    then_told (IsOpTold s o) (IsStatementTold s (stmt.Assign alias o)) _ (op_of s o) (op_told s o one) (λ t h. assigns h) (λ f h. assigns_not h)

united_told : (s : State) (alias : List ℕ) (onschema : Bool) (names : List (List ℕ)) → IsStatementTold s (stmt.Assign alias (operator.Union onschema names)) (union_at s alias onschema names)
unfolding union_at
united_told s alias onschema names =
    then_told (IsUnionTold s.aliases onschema names) (IsStatementTold s (stmt.Assign alias (operator.Union onschema names))) _
    (union_of s.aliases onschema names) (union_told s.aliases onschema names) (λ t h. unites h) (λ f h. unites_not h)

cubed_told : (s : State) (alias from : List ℕ) (rollup : Bool) (dims : List FieldRef) → IsStatementTold s (stmt.Assign alias (operator.Cube from rollup dims)) (cube_at s alias from rollup dims)
unfolding cube_at
cubed_told s alias from rollup dims =
    then_told (IsCubeTold s.aliases from dims) (IsStatementTold s (stmt.Assign alias (operator.Cube from rollup dims))) _
    (cube_of s.aliases from dims) (cube_told s.aliases from dims) (λ t h. makes_cube h) (λ f h. makes_no_cube h)

assign_told : (s : State) (alias : List ℕ) (o : Op) → IsStatementTold s (stmt.Assign alias o) (assign_of s alias o)
assign_told s alias (operator.Union onschema names) = united_told s alias onschema names
assign_told s alias (operator.Cube from rollup dims) = cubed_told s alias from rollup dims
assign_told s alias o = node_told s alias o tt

abbrev AreConditions : Place → List Branch → Checked (List Typed) → Type 0
AreConditions s bs (Ok ts) = AllConditions s bs ts
AreConditions s bs (Err f) = AllConditionsNot s bs f

conditions_told : (s : Place) (bs : List Branch) → AreConditions s bs (conditions_of s bs)
unfolding conditions_of
conditions_told s [] = no_branches
conditions_told s (b ∷ bs) =
    then_told (IsConditionTold s (expr_form b.cond)) (AreConditions s (b ∷ bs)) _ (condition_on s (expr_form b.cond)) (condition_told s (expr_form b.cond))
    (λ t h. then_told (AreConditions s bs) (AreConditions s (b ∷ bs)) _ (conditions_of s bs) (conditions_told s bs) (λ ts g. more_branches h g) (λ f g. later_not g))
    (λ f h. here_not h)

split_told : (s : State) (from : List ℕ) (bs : List Branch) (otherwise : Option (List ℕ)) → IsStatementTold s (stmt.Split from bs otherwise) (split_of s from bs otherwise)
unfolding split_of relation_of
split_told s from bs otherwise =
    due_is (IsStatementTold s (stmt.Split from bs otherwise)) _ kind.UnknownAlias (relation_at from s.aliases)
    (λ r e. then_told (AreConditions (row_of r.columns) bs) (IsStatementTold s (stmt.Split from bs otherwise)) _ (conditions_of (row_of r.columns) bs) (conditions_told (row_of r.columns) bs)
    (λ ts h. splits e h) (λ f h. no_branch e h))
    (λ e. split_of_none e)

-- the path of a STORE
abbrev IsOutput : State → List ℕ → Checked (List ℕ) → Type 0
IsOutput s text (Ok path) = GivesPath text path × (is_stored path s.nodes ≡ false) × (is_loaded path s.nodes ≡ false)
IsOutput s text (Err f) = (from : List ℕ) (func : Option Func) → StatementNot s (stmt.Store from text func) f

apart_told : (s : State) (text path : List ℕ) → GivesPath text path → IsOutput s text (apart_from path s.nodes)
unfolding apart_from
apart_told s text path h = by (is_stored path s.nodes) refl (is_loaded path s.nodes) refl
  where
    by : (a : Bool) → is_stored path s.nodes ≡ a → (b : Bool) → is_loaded path s.nodes ≡ b
        → IsOutput s text (if a then Err kind.OutputTwice else if b then Err kind.SelfLoad else Ok path)
    by true e b g = λ from func. stored_twice h e
    by false e true g = λ from func. stored_over_input h g
    by false e false g = (h, e, g)

output_told : (s : State) (text : List ℕ) → IsOutput s text (output_of s.nodes text)
unfolding output_of
output_told s text =
    then_told (IsPathTold text) (IsOutput s text) _ (path_of text) (path_told text) (λ path h. apart_told s text path h) (λ f h from func. stored_at_none h)

store_told : (s : State) (from text : List ℕ) (func : Option Func) → IsStatementTold s (stmt.Store from text func) (store_of s from text func)
unfolding store_of relation_of
store_told s from text func =
    due_is (IsStatementTold s (stmt.Store from text func)) _ kind.UnknownAlias (relation_at from s.aliases)
    (λ r e. then_told (IsOutput s text) (IsStatementTold s (stmt.Store from text func)) _ (output_of s.nodes text) (output_told s text)
    (λ path w. then_told (IsDelimiterTold func) (IsStatementTold s (stmt.Store from text func)) _ (delimiter_by func) (delimiter_told func)
    (λ d g. stores e w.0 w.1 w.2 g) (λ f g. stored_by_none g))
    (λ f w. w from func))
    (λ e. store_of_none e)

assert_told : (s : State) (from : List ℕ) (cond : Expr) (message : Option (List ℕ)) → IsStatementTold s (stmt.Assert from cond message) (assert_of s from cond message)
unfolding assert_of relation_of
assert_told s from cond message =
    due_is (IsStatementTold s (stmt.Assert from cond message)) _ kind.UnknownAlias (relation_at from s.aliases)
    (λ r e. then_told (IsConditionTold (row_of r.columns) (expr_form cond)) (IsStatementTold s (stmt.Assert from cond message)) _
    (condition_on (row_of r.columns) (expr_form cond)) (condition_told (row_of r.columns) (expr_form cond))
    (λ t h. asserts e h) (λ f h. no_test e h))
    (λ e. assert_of_none e)

pub statement_told : (s : State) (st : Stmt) → IsStatementTold s st (statement_of s st)
unfolding statement_of
statement_told s stmt.Empty = nothing
statement_told s (stmt.Assign alias o) = assign_told s alias o
statement_told s (stmt.Split from bs otherwise) = split_told s from bs otherwise
statement_told s (stmt.Store from text func) = store_told s from text func
statement_told s (stmt.Assert from cond message) = assert_told s from cond message
statement_told s stmt.Unsupported = left_out
