-- Statements of tokens without an LF have trees as the grammar gives them.
use Rattle.std.specs.Prelude.{◌≡◌, ◌≤◌, ℕ, Bool, List, [], ◌∷◌, length, map, Option, Some, None, All, IfSome}
use Rattle.std.proofs.Common.{◌-◌, arith, drop}
use Rattle.std.proofs.lemmas.List.Elements.{All-cons, All-nil, All-head, All-tail, All-take, All-drop}
use Rattle.pig_value.specs.declared.operators.Dir.{Dir}
use Rattle.pig_value.specs.declared.operators.Side.{Side}
use Rattle.pig_value.specs.Texts.{HasNoLf}
use Rattle.pig_syntax.specs.declared.cutting.Piece.{Piece}
use Rattle.pig_syntax.specs.declared.tokens.Symbol.TheVariants as s
use Rattle.pig_syntax.specs.declared.tokens.Token.{Token}
use Rattle.pig_syntax.specs.declared.tokens.TokenForm.{TokenForm}
use Rattle.pig_syntax.specs.declared.tokens.TokenForm.TheVariants as f
use Rattle.pig_syntax.specs.declared.trees.AsNames.{AsNames}
use Rattle.pig_syntax.specs.declared.trees.BagRef.{BagRef}
use Rattle.pig_syntax.specs.declared.trees.Branch.{Branch}
use Rattle.pig_syntax.specs.declared.trees.Expr.{Expr}
use Rattle.pig_syntax.specs.declared.trees.Func.{Func}
use Rattle.pig_syntax.specs.declared.trees.GroupInput.{GroupInput}
use Rattle.pig_syntax.specs.declared.trees.Item.{Item}
use Rattle.pig_syntax.specs.declared.trees.JoinInput.{JoinInput}
use Rattle.pig_syntax.specs.declared.trees.Nested.{Nested}
use Rattle.pig_syntax.specs.declared.trees.Op.{Op}
use Rattle.pig_syntax.specs.declared.trees.OrderField.{OrderField}
use Rattle.pig_syntax.specs.declared.trees.OrderKeys.{OrderKeys}
use Rattle.pig_syntax.specs.declared.trees.Step.{Step}
use Rattle.pig_syntax.specs.declared.trees.Stmt.{Stmt}
use Rattle.pig_syntax.specs.Cutting.{piece_of}
use Rattle.pig_syntax.specs.Tokens.{HoldsNoLf}
use Rattle.pig_syntax.specs.Formed.{AtLeast, FieldRefFormed, SelectionFormed, FuncFormed, AsNamesFormed, ItemFormed, OrderFieldFormed, OrderKeysFormed, BagRefFormed, NestedFormed, StepFormed, GroupInputFormed, JoinInputFormed, BranchFormed, IsExprFormed, OpFormed, StmtFormed}
use Rattle.pig_exprs.specs.Grammar.{Forms, Listed, IsSchemaField}
use Rattle.pig_exprs.specs.Reader.{forms}
use Rattle.pig_exprs.proofs.ExprsFormed.{Free, Formed, listed_formed, field_ref_formed, selection_formed, type_formed, schema_formed, field_formed, expr_formed}
use Rattle.pig_parser.specs.Parsing.{AreTrees, no_trees, trees}
use Rattle.pig_parser.specs.Statements.{AreKeys, IsDir, IsOrderField, AreOrderKeys, IsTextToken, IsIdent, IsFunc, IsUsingFunc, IsUsingText, IsParallel, AreNames, IsNaming, IsItem, IsBagRef, IsNested, AreSteps, IsGroupInput, IsJoinInput, IsSide, IsOnSchema, IsDense, IsOp, IsBranch, IsOtherwise, IsMessage, IsStatement}

-- ---- parts

keys_formed : {ts rest : Forms} {keys : List Expr} → AreKeys ts keys rest → Free ts → Formed (AtLeast 1 IsExprFormed keys) rest
keys_formed (AreKeys.one_key {a = a} h) free =
    let one = expr_formed h free in
    record { tree = record { many = omega arith; each = All-cons IsExprFormed a [] one.tree (All-nil IsExprFormed) }; free = one.free }
keys_formed (AreKeys.several_keys {a = a} {b = b} {others = others} h later) free =
    let first = expr_formed h free.1 in
    let behind = listed_formed IsExprFormed (λ ts x rest is from. expr_formed is from) later first.free.1 in
    record { tree = record { many = omega arith; each = All-cons IsExprFormed a (b ∷ others) first.tree behind.tree.each }; free = behind.free.1 }

dir_free : {ts rest : Forms} {d : Dir} → IsDir ts d rest → Free ts → Free rest
dir_free IsDir.no_dir free = free
dir_free IsDir.asc free = free.1
dir_free IsDir.desc free = free.1

order_field_formed : {ts rest : Forms} {o : OrderField} → IsOrderField ts o rest → Free ts → Formed (OrderFieldFormed o) rest
order_field_formed (IsOrderField.order_field h d) free = let field = field_ref_formed h free in record { tree = field.tree; free = dir_free d field.free }

order_keys_formed : {ts rest : Forms} {o : OrderKeys} → AreOrderKeys ts o rest → Free ts → Formed (OrderKeysFormed o) rest
order_keys_formed (AreOrderKeys.all_fields d) free = record { tree = tt; free = dir_free d free.1 }
order_keys_formed (AreOrderKeys.order_fields h) free =
    let fields = listed_formed OrderFieldFormed (λ ts x rest is from. order_field_formed is from) h free in
    record { tree = fields.tree; free = fields.free }

text_formed : {ts rest : Forms} {content : List ℕ} → IsTextToken ts content rest → Free ts → Formed (HasNoLf content) rest
text_formed IsTextToken.text free = record { tree = free.0; free = free.1 }

ident_formed : {ts rest : Forms} {name : List ℕ} → IsIdent ts name rest → Free ts → Formed (HasNoLf name) rest
ident_formed IsIdent.ident free = record { tree = free.0; free = free.1 }

func_formed : {ts rest : Forms} {func : Func} → IsFunc ts func rest → Free ts → Formed (FuncFormed func) rest
func_formed IsFunc.func_bare free = record { tree = record { name = free.0; args = All-nil HasNoLf }; free = free.1.1.1 }
func_formed (IsFunc.func_args h) free =
    let args = listed_formed HasNoLf (λ ts x rest is from. text_formed is from) h free.1.1 in
    record { tree = record { name = free.0; args = args.tree.each }; free = args.free.1 }

using_func_formed : {ts rest : Forms} {func : Option Func} → IsUsingFunc ts func rest → Free ts → Formed (IfSome func FuncFormed) rest
using_func_formed IsUsingFunc.no_func free = record { tree = tt; free = free }
using_func_formed (IsUsingFunc.using_func h) free = let func = func_formed h free.1 in record { tree = func.tree; free = func.free }

using_text_formed : {ts rest : Forms} {content : Option (List ℕ)} → IsUsingText ts content rest → Free ts → Formed (IfSome content HasNoLf) rest
using_text_formed IsUsingText.no_text free = record { tree = tt; free = free }
using_text_formed IsUsingText.using_text free = record { tree = free.1.0; free = free.1.1 }

parallel_free : {ts rest : Forms} → IsParallel ts rest → Free ts → Free rest
parallel_free IsParallel.no_par free = free
parallel_free IsParallel.par free = free.1.1

dense_free : {ts rest : Forms} {dense : Bool} → IsDense ts dense rest → Free ts → Free rest
dense_free IsDense.not_dense free = free
dense_free IsDense.is_dense free = free.1

-- ---- items and blocks

names_formed : {ts rest : Forms} {names : AsNames} → AreNames ts names rest → Free ts → Formed (AsNamesFormed names) rest
names_formed AreNames.one_name free = let field = field_formed IsSchemaField.field_bare free in record { tree = field.tree; free = field.free }
names_formed (AreNames.typed_name h) free = let field = field_formed (IsSchemaField.field_typed h) free in record { tree = field.tree; free = field.free }
names_formed (AreNames.several_names h) free = let fields = schema_formed h free in record { tree = fields.tree; free = fields.free }

naming_formed : {ts rest : Forms} {names : Option AsNames} → IsNaming ts names rest → Free ts → Formed (IfSome names AsNamesFormed) rest
naming_formed IsNaming.no_naming free = record { tree = tt; free = free }
naming_formed (IsNaming.naming h) free = let names = names_formed h free.1 in record { tree = names.tree; free = names.free }

item_formed : {ts rest : Forms} {i : Item} → IsItem ts i rest → Free ts → Formed (ItemFormed i) rest
item_formed IsItem.all_items free = record { tree = tt; free = free.1 }
item_formed (IsItem.flattened h n) free =
    let value = expr_formed h free.1.1 in
    let names = naming_formed n value.free.1 in
    record { tree = (value.tree, names.tree); free = names.free }
item_formed (IsItem.value h n) free =
    let value = expr_formed h free in
    let names = naming_formed n value.free in
    record { tree = (value.tree, names.tree); free = names.free }

items_formed : {ts rest : Forms} {items : List Item} → Listed IsItem ts items rest → Free ts → Formed (AtLeast 1 ItemFormed items) rest
items_formed h free = listed_formed ItemFormed (λ ts x rest is from. item_formed is from) h free

bag_ref_formed : {ts rest : Forms} {b : BagRef} → IsBagRef ts b rest → Free ts → Formed (BagRefFormed b) rest
bag_ref_formed (IsBagRef.bag_field h) free = let field = field_ref_formed h free in record { tree = record { field = field.tree; selection = tt }; free = field.free }
bag_ref_formed (IsBagRef.bag_selection h p) free =
    let field = field_ref_formed h free in
    let selection = selection_formed p field.free.1 in
    record { tree = record { field = field.tree; selection = selection.tree }; free = selection.free }

nested_formed : {ts rest : Forms} {n : Nested} → IsNested ts n rest → Free ts → Formed (NestedFormed n) rest
nested_formed (IsNested.nested_filter b h) free =
    let bag = bag_ref_formed b free.1 in
    let cond = expr_formed h bag.free.1 in
    record { tree = (bag.tree, cond.tree); free = cond.free }
nested_formed (IsNested.nested_distinct b) free = let bag = bag_ref_formed b free.1 in record { tree = bag.tree; free = bag.free }
nested_formed (IsNested.nested_order b o) free =
    let bag = bag_ref_formed b free.1 in
    let keys = order_keys_formed o bag.free.1 in
    record { tree = (bag.tree, keys.tree); free = keys.free }
nested_formed (IsNested.nested_limit b is) free = let bag = bag_ref_formed b free.1 in record { tree = bag.tree; free = bag.free.1 }
nested_formed (IsNested.nested_take b) free = let bag = bag_ref_formed b free in record { tree = bag.tree; free = bag.free }

block_formed : {ts rest : Forms} {steps : List Step} → AreSteps ts steps rest → Free ts → Formed (All StepFormed steps) rest
block_formed AreSteps.no_step free = record { tree = All-nil StepFormed; free = free }
block_formed (AreSteps.step {name = name} {n = n} {steps = steps} h later) free =
    let made = nested_formed h free.1.1 in
    let others = block_formed later made.free.1 in
    record { tree = All-cons StepFormed (record { alias = name; nested = n }) steps (record { alias = free.0; nested = made.tree }) others.tree; free = others.free }

-- ---- inputs

group_input_formed : {ts rest : Forms} {i : GroupInput} → IsGroupInput ts i rest → Free ts → Formed (GroupInputFormed i) rest
group_input_formed (IsGroupInput.input_bare h) free = let keys = keys_formed h free.1.1 in record { tree = record { name = free.0; keys = keys.tree }; free = keys.free }
group_input_formed (IsGroupInput.input_inner h) free = let keys = keys_formed h free.1.1 in record { tree = record { name = free.0; keys = keys.tree }; free = keys.free.1 }
group_input_formed (IsGroupInput.input_outer h) free = let keys = keys_formed h free.1.1 in record { tree = record { name = free.0; keys = keys.tree }; free = keys.free.1 }

join_input_formed : {ts rest : Forms} {i : JoinInput} → IsJoinInput ts i rest → Free ts → Formed (JoinInputFormed i) rest
join_input_formed (IsJoinInput.join_input h) free = let keys = keys_formed h free.1.1 in record { tree = record { name = free.0; keys = keys.tree }; free = keys.free }

side_free : {ts rest : Forms} {x : Side} → IsSide ts x rest → Free ts → Free rest
side_free IsSide.no_side free = free
side_free (IsSide.side_bare is) free = free.1
side_free (IsSide.side_outer is) free = free.1.1

on_schema_free : {ts rest : Forms} {by_name : _} → IsOnSchema ts by_name rest → Free ts → Free rest
on_schema_free IsOnSchema.by_place free = free
on_schema_free IsOnSchema.by_name free = free.1

-- one in front of some, of which there are then two at least
two_at_least : {X : Type 0} (P : X → Type 0) (x : X) (xs : List X) → P x → AtLeast 1 P xs → AtLeast 2 P (x ∷ xs)
two_at_least P x xs h others = let some : 1 ≤ length xs = others.many in record { many = omega (arith, some); each = All-cons P x xs h others.each }

-- ---- operators and statements

op_formed : {ts rest : Forms} {o : Op} → IsOp ts o rest → Free ts → Formed (OpFormed o) rest
op_formed (IsOp.load h g) free =
    let func = using_func_formed h free.1.1 in
    let fields = schema_formed g func.free.1 in
    record { tree = (free.1.0, func.tree, fields.tree); free = fields.free }
op_formed (IsOp.filter h) free = let cond = expr_formed h free.1.1.1 in record { tree = (free.1.0, cond.tree); free = cond.free }
op_formed (IsOp.foreach h) free = let items = items_formed h free.1.1.1 in record { tree = (free.1.0, All-nil StepFormed, items.tree); free = items.free }
op_formed (IsOp.foreach_block b h) free =
    let steps = block_formed b free.1.1.1 in
    let items = items_formed h steps.free.1 in
    record { tree = (free.1.0, steps.tree, items.tree); free = items.free.1.1 }
op_formed (IsOp.group_all is u p) free = let using_ = using_text_formed u free.1.1.1 in record { tree = (free.1.0, using_.tree); free = parallel_free p using_.free }
op_formed (IsOp.group is h u p) free =
    let inputs = listed_formed GroupInputFormed (λ ts x rest is from. group_input_formed is from) h free.1 in
    let using_ = using_text_formed u inputs.free in
    record { tree = (inputs.tree, using_.tree); free = parallel_free p using_.free }
op_formed (IsOp.join {first = first} {others = others} h x l u p) free =
    let one = join_input_formed h free.1 in
    let inputs = listed_formed JoinInputFormed (λ ts x rest is from. join_input_formed is from) l (side_free x one.free).1 in
    let using_ = using_text_formed u inputs.free in
    record { tree = (two_at_least JoinInputFormed first others one.tree inputs.tree, using_.tree); free = parallel_free p using_.free }
op_formed (IsOp.union {name = name} {others = others} s l) free =
    let named = on_schema_free s free.1 in
    let names = listed_formed HasNoLf (λ ts x rest is from. ident_formed is from) l named.1.1 in
    record { tree = two_at_least HasNoLf name others named.0 names.tree; free = names.free }
op_formed (IsOp.distinct p) free = record { tree = free.1.0; free = parallel_free p free.1.1 }
op_formed (IsOp.order o p) free = let keys = order_keys_formed o free.1.1.1 in record { tree = (free.1.0, keys.tree); free = parallel_free p keys.free }
op_formed (IsOp.limit is) free = record { tree = free.1.0; free = free.1.1.1 }
op_formed (IsOp.cube is l p) free =
    let dims = listed_formed FieldRefFormed (λ ts x rest h from. field_ref_formed h from) l free.1.1.1.1.1 in
    record { tree = (free.1.0, dims.tree); free = parallel_free p dims.free.1 }
op_formed (IsOp.rank o d) free = let keys = order_keys_formed o free.1.1.1 in record { tree = (free.1.0, keys.tree); free = dense_free d keys.free }

branch_formed : {ts rest : Forms} {b : Branch} → IsBranch ts b rest → Free ts → Formed (BranchFormed b) rest
branch_formed (IsBranch.branch h) free = let cond = expr_formed h free.1.1 in record { tree = record { alias = free.0; cond = cond.tree }; free = cond.free }

otherwise_formed : {ts rest : Forms} {name : Option (List ℕ)} → IsOtherwise ts name rest → Free ts → IfSome name HasNoLf
otherwise_formed IsOtherwise.no_otherwise free = tt
otherwise_formed IsOtherwise.otherwise free = free.1.0

message_formed : {ts rest : Forms} {content : Option (List ℕ)} → IsMessage ts content rest → Free ts → IfSome content HasNoLf
message_formed IsMessage.no_message free = tt
message_formed IsMessage.with_message free = free.1.0

statement_formed : {ts : Forms} {tree : Stmt} → IsStatement ts tree → Free ts → StmtFormed tree
statement_formed IsStatement.empty free = tt
statement_formed (IsStatement.assign h) free = (free.0, (op_formed h free.1.1).tree)
statement_formed (IsStatement.split b o) free =
    let branches = listed_formed BranchFormed (λ ts x rest is from. branch_formed is from) b free.1.1.1 in
    (free.1.0, branches.tree, otherwise_formed o branches.free)
statement_formed (IsStatement.store h) free = (free.1.0, free.1.1.1.0, (using_func_formed h free.1.1.1.1).tree)
statement_formed (IsStatement.assertion h m) free =
    let met = expr_formed h free.1.1.1 in
    (free.1.0, met.tree, message_formed m met.free)
statement_formed (IsStatement.unsupported is) free = tt
statement_formed (IsStatement.unsupported_named is) free = tt

-- ---- scripts

-- tokens that hold no LF, as forms
free_forms : (ts : List Token) → All (λ token. HoldsNoLf token.form) ts → Free (forms ts)
free_forms [] h = tt
free_forms (t ∷ ts) h = (All-head (λ token. HoldsNoLf token.form) t ts h, free_forms ts (All-tail (λ token. HoldsNoLf token.form) t ts h))

pub trees_formed : (ts : List Token) {ps : List Piece} {ss : List Stmt} → AreTrees ts ps ss → All (λ token. HoldsNoLf token.form) ts → All StmtFormed ss
trees_formed ts no_trees free = All-nil StmtFormed
trees_formed ts (trees {p = p} {s = s} {ss = ss} is later) free =
    let P : Token → Type 0 = λ token. HoldsNoLf token.form in
    let within : All P (piece_of ts p) = All-take P (p.to - p.from) (drop p.from ts) (All-drop P p.from ts free) in
    All-cons StmtFormed s ss (statement_formed is.stands (free_forms (piece_of ts p) within)) (trees_formed ts later free)
