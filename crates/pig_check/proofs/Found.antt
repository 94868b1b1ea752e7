-- What holds of statements is found, so there is one typing of a statement, or a refusal, and never both.
use Rattle.std.proofs.Common.{◌≡◌, ◌∙◌, ℕ, Bool, true, false, List, refl, subst, sym}
use Rattle.std.specs.Prelude.{Option, if◌then◌else◌}
use Rattle.std.specs.Bool.{Decides}
use Rattle.std.specs.Str.{bytes_eq}
use Rattle.std.specs.declared.result.Result.TheVariants.{Ok, Err}
use Rattle.std.proofs.lemmas.Slice.Eq.{bytes_eq-Decides}
use Rattle.pig_syntax.specs.ExprTrees.{expr_form}
use Rattle.pig_syntax.specs.declared.trees.Branch.{Branch}
use Rattle.pig_syntax.specs.declared.trees.Func.{Func}
use Rattle.pig_syntax.specs.declared.trees.Op.{Op}
use Rattle.pig_syntax.specs.declared.trees.Stmt.{Stmt}
use Rattle.pig_plan.specs.Plans.{Plan}
use Rattle.pig_typed.specs.Typed.{Typed}
use Rattle.pig_typing.specs.declared.faults.CheckKind.{CheckKind}
use Rattle.pig_typing.specs.declared.faults.CheckKind.TheVariants as kind
use Rattle.pig_typing.specs.Columns.{Place}
use Rattle.pig_typing.specs.Conditions.{condition_on}
use Rattle.pig_typing.specs.Results.{due}
use Rattle.pig_typing.proofs.ConditionsFound.{condition_found, condition_fails}
use Rattle.pig_typing.proofs.References.{Fails, failed, fails_first, fails_next, not_both}
use Rattle.pig_blocks.specs.SortKeys.{sorted_by}
use Rattle.pig_blocks.proofs.Found.{foreach_found, foreach_fails, order_found, order_fails}
use Rattle.pig_relations.specs.Aliases.{relation_of}
use Rattle.pig_relations.specs.Operators.{TypedOp}
use Rattle.pig_relations.proofs.OperatorsTold.{group_found, group_fails, group_all_found, group_all_fails, join_found, join_fails, union_found, union_fails}
use Rattle.pig_check.specs.Functions.{HasDelimiter, HasNoDelimiter, none_written, of_pig_storage, other_function, odd_arguments, delimiter_by, delimiter_in, pig_storage}
use Rattle.pig_check.specs.Operators.{OpTypes, OpNot, load, filter, foreach, group_all, group, join, distinct, order, limit, rank, no_path, own_output, no_delimiter, float_written, past_limits, filter_of_none, no_condition, foreach_of_none, no_block, no_group_all, no_group, no_join, distinct_of_none, order_of_none, no_order, limit_of_none, rank_of_none, no_rank, rank_past_limits, not_stored, input_of, schema_of, load_of, filter_of, block_of, distinct_of, order_of, limit_of, rank_of}
use Rattle.pig_check.specs.Paths.{GivesPath, GivesNoPath, a_path, not_plain, compressed, is_plain, kept, path_of}
use Rattle.pig_check.specs.Splits.{AllConditions, AllConditionsNot, no_branches, more_branches, here_not, later_not, conditions_of, split_of}
use Rattle.pig_check.specs.States.{Added, State, is_loaded, is_stored}
use Rattle.pig_check.specs.Statements.{StatementTypes, StatementNot, nothing, assigns, unites, makes_cube, splits, stores, asserts, left_out, assigns_not, unites_not, makes_no_cube, split_of_none, no_branch, store_of_none, stored_at_none, stored_twice, stored_over_input, stored_by_none, assert_of_none, no_test, assert_of, apart_from, output_of, store_of, op_of, node_of, assign_of, statement_of}
use Rattle.pig_check.specs.Unions.{union_at}
use Rattle.pig_check.specs.Cubes.{cube_at}
use Rattle.pig_check.proofs.CubesTold.{cube_fails, cube_found}

-- ---- paths and storage functions

path_found : {text path : List ℕ} → GivesPath text path → path_of text ≡ Ok path
unfolding path_of
path_found (a_path e g) = rw (e, g) refl

-- either way it is refused
either_fails : {A : Type 0} (b : Bool) (f g : CheckKind) → Fails {A = A} (if b then Err f else Err g)
either_fails true f g = failed
either_fails false f g = failed

path_fails : {text : List ℕ} {f : CheckKind} → GivesNoPath text f → Fails (path_of text)
unfolding path_of
path_fails (not_plain e) = rw (e) failed
path_fails (compressed {text = text} e) = rw (e) (either_fails (is_plain (kept text)) kind.Compressed kind.Unsupported)

delimiter_found : {func : Option Func} {d : ℕ} → HasDelimiter func d → delimiter_by func ≡ Ok d
unfolding delimiter_by
delimiter_found none_written = refl
delimiter_found (of_pig_storage {f = f} e g) = rw ((bytes_eq-Decides f.name pig_storage).1 e, g) refl

delimiter_fails : {func : Option Func} {f : CheckKind} → HasNoDelimiter func f → Fails (delimiter_by func)
unfolding delimiter_by
delimiter_fails (odd_arguments {f = f} e g) = rw ((bytes_eq-Decides f.name pig_storage).1 e, g) failed
delimiter_fails (other_function {f = f} n) = by (bytes_eq f.name pig_storage) (bytes_eq-Decides f.name pig_storage)
  where
    by : (same : Bool) → Decides same (f.name ≡ pig_storage) → Fails (if same then due kind.WrongArguments (delimiter_in f.args) else Err kind.UnknownFunction)
    by true d = absurd (n (d.0 refl))
    by false d = failed

-- ---- operators

input_found : (nodes : Plan) {text path : List ℕ} → GivesPath text path → is_stored path nodes ≡ false → input_of nodes text ≡ Ok path
unfolding input_of not_stored
input_found nodes h e = rw (path_found h, e) refl

input_fails : (nodes : Plan) {text path : List ℕ} → GivesPath text path → is_stored path nodes ≡ true → Fails (input_of nodes text)
unfolding input_of not_stored
input_fails nodes h e = rw (path_found h, e) failed

op_found : {s : State} {o : Op} {t : TypedOp} → OpTypes s o t → op_of s o ≡ Ok t
unfolding op_of load_of schema_of filter_of block_of distinct_of order_of limit_of rank_of relation_of
op_found {s = s} (load h e g w v) = rw (input_found s.nodes h e, delimiter_found g, w, v) refl
op_found (filter e h) = rw (e, condition_found h) refl
op_found (foreach e h) = rw (e, foreach_found h) refl
op_found (group_all h) = group_all_found h
op_found (group h) = group_found h
op_found (join h) = join_found h
op_found (distinct e) = rw (e) refl
op_found (order e h) = rw (e, order_found h) refl
op_found (limit e) = rw (e) refl
op_found (rank e h w) = rw (e, order_found h, w) refl

op_fails : {s : State} {o : Op} {f : CheckKind} → OpNot s o f → Fails (op_of s o)
unfolding op_of load_of input_of schema_of filter_of block_of distinct_of order_of limit_of rank_of relation_of
op_fails (no_path h) = fails_first _ (fails_first _ (path_fails h))
op_fails {s = s} (own_output h e) = fails_first _ (input_fails s.nodes h e)
op_fails {s = s} (no_delimiter {text = text} h) = fails_next _ (input_of s.nodes text) (λ path. fails_first _ (delimiter_fails h))
op_fails {s = s} (float_written {text = text} {func = func} e) = fails_next _ (input_of s.nodes text) (λ path. fails_next _ (delimiter_by func) (λ d. rw (e) failed))
op_fails {s = s} (past_limits {text = text} {func = func} e g) = fails_next _ (input_of s.nodes text) (λ path. fails_next _ (delimiter_by func) (λ d. rw (e, g) failed))
op_fails (filter_of_none e) = rw (e) failed
op_fails (no_condition e h) = rw (e) (fails_first _ (condition_fails h))
op_fails (foreach_of_none e) = rw (e) failed
op_fails (no_block e h) = rw (e) (fails_first _ (foreach_fails h))
op_fails (no_group_all h) = group_all_fails h
op_fails (no_group h) = group_fails h
op_fails (no_join h) = join_fails h
op_fails (distinct_of_none e) = rw (e) failed
op_fails (order_of_none e) = rw (e) failed
op_fails (no_order e h) = rw (e) (fails_first _ (order_fails h))
op_fails (limit_of_none e) = rw (e) failed
op_fails (rank_of_none e) = rw (e) failed
op_fails (no_rank e h) = rw (e) (fails_first _ (order_fails h))
op_fails (rank_past_limits {keys = keys} {r = r} e w) = rw (e) (fails_next _ (sorted_by r.columns keys) (λ ks. rw (w) failed))

-- ---- statements

conditions_found : {s : Place} {bs : List Branch} {ts : List Typed} → AllConditions s bs ts → conditions_of s bs ≡ Ok ts
unfolding conditions_of
conditions_found no_branches = refl
conditions_found (more_branches h g) = rw (condition_found h, conditions_found g) refl

conditions_fail : {s : Place} {bs : List Branch} {f : CheckKind} → AllConditionsNot s bs f → Fails (conditions_of s bs)
unfolding conditions_of
conditions_fail (here_not h) = fails_first _ (condition_fails h)
conditions_fail {s = s} (later_not {b = b} h) = fails_next _ (condition_on s (expr_form b.cond)) (λ t. fails_first _ (conditions_fail h))

-- an operator that is typed alone is no UNION and no CUBE
node_found : {s : State} (alias : List ℕ) {o : Op} {t : TypedOp} → OpTypes s o t → assign_of s alias o ≡ node_of s alias o
node_found alias (load h e g w v) = refl
node_found alias (filter e h) = refl
node_found alias (foreach e h) = refl
node_found alias (group_all h) = refl
node_found alias (group h) = refl
node_found alias (join h) = refl
node_found alias (distinct e) = refl
node_found alias (order e h) = refl
node_found alias (limit e) = refl
node_found alias (rank e h w) = refl

node_not : {s : State} (alias : List ℕ) {o : Op} {f : CheckKind} → OpNot s o f → assign_of s alias o ≡ node_of s alias o
node_not alias (no_path h) = refl
node_not alias (own_output h e) = refl
node_not alias (no_delimiter h) = refl
node_not alias (float_written e) = refl
node_not alias (past_limits e g) = refl
node_not alias (filter_of_none e) = refl
node_not alias (no_condition e h) = refl
node_not alias (foreach_of_none e) = refl
node_not alias (no_block e h) = refl
node_not alias (no_group_all h) = refl
node_not alias (no_group h) = refl
node_not alias (no_join h) = refl
node_not alias (distinct_of_none e) = refl
node_not alias (order_of_none e) = refl
node_not alias (no_order e h) = refl
node_not alias (limit_of_none e) = refl
node_not alias (rank_of_none e) = refl
node_not alias (no_rank e h) = refl
node_not alias (rank_past_limits e w) = refl

stored_before : (nodes : Plan) {text path : List ℕ} → GivesPath text path → is_stored path nodes ≡ true → Fails (output_of nodes text)
unfolding output_of apart_from
stored_before nodes h e = rw (path_found h, e) failed

over_input : (nodes : Plan) {text path : List ℕ} → GivesPath text path → is_loaded path nodes ≡ true → Fails (output_of nodes text)
unfolding output_of apart_from
over_input nodes {path = path} h e = rw (path_found h, e) (either_fails (is_stored path nodes) kind.OutputTwice kind.SelfLoad)

pub statement_found : {s : State} {st : Stmt} {added : Added} → StatementTypes s st added → statement_of s st ≡ Ok added
unfolding statement_of node_of union_at cube_at split_of store_of output_of apart_from relation_of assert_of
statement_found nothing = refl
statement_found (assigns {alias = alias} h) = node_found alias h ∙ (rw (op_found h) refl)
statement_found (unites h) = rw (union_found h) refl
statement_found (makes_cube h) = rw (cube_found h) refl
statement_found (splits e h) = rw (e, conditions_found h) refl
statement_found (stores e h g w d) = rw (e, path_found h, g, w, delimiter_found d) refl
statement_found (asserts e h) = rw (e, condition_found h) refl

pub statement_fails : {s : State} {st : Stmt} {f : CheckKind} → StatementNot s st f → Fails (statement_of s st)
unfolding statement_of node_of union_at cube_at split_of store_of output_of apart_from relation_of assert_of
statement_fails left_out = failed
statement_fails (assert_of_none e) = rw (e) failed
statement_fails (no_test e h) = rw (e) (fails_first _ (condition_fails h))
statement_fails (assigns_not {alias = alias} h) = subst Fails (sym (node_not alias h)) (fails_first _ (op_fails h))
statement_fails (unites_not h) = fails_first _ (union_fails h)
statement_fails (makes_no_cube h) = fails_first _ (cube_fails h)
statement_fails (split_of_none e) = rw (e) failed
statement_fails (no_branch e h) = rw (e) (fails_first _ (conditions_fail h))
statement_fails (store_of_none e) = rw (e) failed
statement_fails {s = s} (stored_at_none {from = from} h) = fails_next _ (relation_of s.aliases from) (λ r. fails_first _ (fails_first _ (path_fails h)))
statement_fails {s = s} (stored_twice {from = from} h e) = fails_next _ (relation_of s.aliases from) (λ r. fails_first _ (stored_before s.nodes h e))
statement_fails {s = s} (stored_over_input {from = from} h e) = fails_next _ (relation_of s.aliases from) (λ r. fails_first _ (over_input s.nodes h e))
statement_fails {s = s} (stored_by_none {from = from} {text = text} h) =
    fails_next _ (relation_of s.aliases from) (λ r. fails_next _ (output_of s.nodes text) (λ path. fails_first _ (delimiter_fails h)))

pub one_statement : {s : State} {st : Stmt} {a b : Added} → StatementTypes s st a → StatementTypes s st b → a ≡ b
one_statement h g = let e : Ok _ ≡ Ok _ = sym (statement_found h) ∙ statement_found g in cc

pub no_statement : {s : State} {st : Stmt} {added : Added} {f : CheckKind} → StatementTypes s st added → StatementNot s st f → ⊥
no_statement h g = not_both (statement_found h) (statement_fails g)
