-- Operators of typed statements may be added, and give rows of the kinds of their columns.
use Rattle.std.proofs.Common.{◌≡◌, ◌∙◌, ◌+◌, ℕ, true, List, [], ◌∷◌, map, length, refl, ap, subst, arith}
use Rattle.std.specs.Prelude.{Some, nat_lt}
use Rattle.std.specs.Option.{option_map}
use Rattle.std.proofs.lemmas.Bool.{lt-ltb}
use Rattle.pig_value.specs.Trees.{KindTree, KindTrees, k_boolean, k_int, k_long, k_chars, k_bytes, k_tuple, k_bag, k_map, kind_tree, kinds_of, no_kinds, more_kinds}
use Rattle.pig_value.proofs.TreeLaws.{kind_tree-Boolean, kind_tree-Int, kind_tree-Long, kind_tree-Chararray, kind_tree-Bytearray, kind_tree-Tuple, kind_tree-Bag, kind_tree-Map}
use Rattle.pig_schema.specs.FieldTrees.{FieldTree, inner_list, inner_of, tree_kind}
use Rattle.pig_syntax.specs.ExprTrees.{expr_form, field_form, field_forms, t_tuple}
use Rattle.pig_syntax.specs.Formed.{IsExprFormed, OpFormed}
use Rattle.pig_syntax.specs.declared.trees.Expr.{Expr}
use Rattle.pig_syntax.specs.declared.trees.FieldTree as syntax
use Rattle.pig_syntax.specs.declared.trees.Op.{Op}
use Rattle.pig_typed.specs.Typed.{Typed}
use Rattle.pig_plan.specs.NodeKinds.{ascend, kinds_at}
use Rattle.pig_plan.specs.Plans.{Plan}
use Rattle.pig_typing.specs.Columns.{AreColumns}
use Rattle.pig_typing.specs.Conditions.{Conditions}
use Rattle.pig_typing.specs.Written.{of_fields, written}
use Rattle.pig_typing.proofs.Inside.{inner_all, written_field_is}
use Rattle.pig_typing.proofs.ConditionsHold.{condition_kind}
use Rattle.pig_typing.proofs.NoLineEnds.{condition_free}
use Rattle.pig_blocks.specs.Foreach.{block_in}
use Rattle.pig_blocks.proofs.BlockKinds.{foreach_holds, order_keys, order_some}
use Rattle.pig_blocks.proofs.LineFree.{foreach_free}
use Rattle.pig_relations.specs.Aliases.{IsTable, RelationTree}
use Rattle.pig_relations.specs.Keyed.{group_form}
use Rattle.pig_relations.specs.Operators.{TypedOp}
use Rattle.pig_relations.proofs.Gives.{group_all_gives, group_gives, join_gives}
use Rattle.pig_relations.proofs.LineEnds.{block_writes_none, group_all_free, group_free, join_free, writes_none}
use Rattle.pig_check.specs.Operators.{OpTypes, columns_from, distinct, filter, foreach, group, group_all, join, kind_from, kinds_from, limit, load, order, rank, written_columns}
use Rattle.pig_check.specs.States.{State, row_of}
use Rattle.pig_check.proofs.Filters.{IsTest, filter_may}
use Rattle.pig_check.proofs.Grown.{MayAdd}

-- ---- the columns of a LOAD

mutual
  kind_there : (k : KindTree) → kind_tree (kind_from k) ≡ k
  kind_there k_boolean = kind_tree-Boolean
  kind_there k_int = kind_tree-Int
  kind_there k_long = kind_tree-Long
  kind_there k_chars = kind_tree-Chararray
  kind_there k_bytes = kind_tree-Bytearray
  kind_there (k_tuple ks) = kind_tree-Tuple (kinds_from ks) ∙ ap k_tuple (kinds_there ks)
  kind_there (k_bag ks) = kind_tree-Bag (kinds_from ks) ∙ ap k_bag (kinds_there ks)
  kind_there (k_map k) = kind_tree-Map (kind_from k) ∙ ap k_map (kind_there k)

  kinds_there : (ks : KindTrees) → kinds_of (map kind_tree (kinds_from ks)) ≡ ks
  kinds_there no_kinds = refl
  kinds_there (more_kinds k ks) = λ i. more_kinds (kind_there k i) (kinds_there ks i)

columns_kinds : (at : ℕ) (columns : List FieldTree) → map (λ column. kind_tree column.kind) (columns_from at columns) ≡ map tree_kind columns
columns_kinds at [] = refl
columns_kinds at (c ∷ columns) = λ i. kind_there (tree_kind c) i ∷ columns_kinds (at + 1) columns i

next_above : (n : ℕ) → nat_lt n (n + 1) ≡ true
next_above n = lt-ltb n (n + 1) (omega (arith))

columns_ascend : (at : ℕ) (columns : List FieldTree) → ascend (columns_from at columns) ≡ true
columns_ascend at [] = refl
columns_ascend at (c ∷ []) = refl
columns_ascend at (c ∷ d ∷ columns) = rw (next_above at) (columns_ascend (at + 1) (d ∷ columns))

columns_back : (columns : List FieldTree) → inner_list (inner_of columns) ≡ columns
columns_back [] = refl
columns_back (c ∷ columns) = ap (λ cs. c ∷ cs) (columns_back columns)

written_inside : (fields : List syntax.FieldTree) (columns : List FieldTree) → written_columns fields ≡ Some columns → AreColumns columns
written_inside fields columns e =
    let whole : written (t_tuple (field_forms (map field_form fields))) ≡ Some (of_fields k_tuple columns) = ap (option_map (of_fields k_tuple)) e in
    subst AreColumns (columns_back columns) (inner_all (kinds_of (map tree_kind columns)) (inner_of columns) (written_field_is (t_tuple (field_forms (map field_form fields))) (of_fields k_tuple columns) whole))

-- ---- operators

pub condition_tests : (r : RelationTree) (cond : Expr) (t : Typed) → AreColumns r.columns → IsExprFormed cond → Conditions (row_of r.columns) (expr_form cond) t
    → IsTest (map tree_kind r.columns) t
condition_tests r cond t inside formed h = record {
  kind = condition_kind (row_of r.columns) (inside, tt) (expr_form cond) t h;
  plain = writes_none t (condition_free (row_of r.columns) (expr_form cond) t formed h);
}

-- the operator may be added, and each of its columns has inside it what is of its kind
pub record IsMade (p : Plan) (t : TypedOp) : Type 0 where
  pub may : MayAdd p t.op (Some (map tree_kind t.columns))
  pub columns : AreColumns t.columns

pub op_made : (s : State) (o : Op) (t : TypedOp) → IsTable (kinds_at s.nodes) s.aliases → OpFormed o → OpTypes s o t → IsMade s.nodes t
op_made s o t table formed (load {fields = fields} {columns = columns} h e g w v) = record {
  may = record { gives = rw (columns_ascend 0 columns) (ap (λ row. Some (Some row)) (columns_kinds 0 columns)); plain = refl };
  columns = written_inside fields columns w;
}
op_made s o t table formed (filter {from = from} {cond = cond} {r = r} {t = test} e h) =
    let is = table from r e in
    record { may = filter_may 0 r s.nodes test is (condition_tests r cond test is.columns formed.1 h); columns = is.columns }
op_made s o t table formed (foreach {from = from} {steps = steps} {items = items} {r = r} {f = f} e h) =
    let is = table from r e in
    let holds = foreach_holds r.columns steps items f is.columns h in
    record {
      may = record { gives = rw (is.rows, holds.kinds) refl; plain = block_writes_none (block_in f) (foreach_free r.columns steps items f formed.1 formed.2.each h) };
      columns = holds.inside;
    }
op_made s o t table formed (group_all {from = from} {using = hint} h) =
    let w = group_all_gives (kinds_at s.nodes) s.aliases from hint t table h in
    record { may = record { gives = w.0; plain = group_all_free s.aliases from hint t h }; columns = w.1 }
op_made s o t table formed (group {inputs = inputs} {using = hint} h) =
    let w = group_gives (kinds_at s.nodes) s.aliases (map group_form inputs) hint t table h in
    record { may = record { gives = w.0; plain = group_free s.aliases inputs hint t formed.0.each h }; columns = w.1 }
op_made s o t table formed (join {inputs = inputs} {side = side} {using = hint} h) =
    let w = join_gives (kinds_at s.nodes) s.aliases inputs side hint t table h in
    record { may = record { gives = w.0; plain = join_free s.aliases inputs side hint t formed.0.each h }; columns = w.1 }
op_made s o t table formed (distinct {from = from} {r = r} e) = let is = table from r e in record { may = record { gives = rw (is.rows) refl; plain = refl }; columns = is.columns }
op_made s o t table formed (order {from = from} {keys = keys} {r = r} {ks = ks} e h) =
    let is = table from r e in
    record {
      may = record { gives = rw (is.rows, order_keys r.columns keys ks h, lt-ltb 0 (length ks) (order_some r.columns keys ks h)) refl; plain = refl };
      columns = is.columns;
    }
op_made s o t table formed (limit {from = from} {r = r} e) = let is = table from r e in record { may = record { gives = rw (is.rows) refl; plain = refl }; columns = is.columns }
op_made s o t table formed (rank {from = from} {keys = keys} {r = r} {ks = ks} e h w) =
    let is = table from r e in
    record {
      may = record { gives = rw (is.rows, order_keys r.columns keys ks h, lt-ltb 0 (length ks) (order_some r.columns keys ks h)) refl; plain = refl };
      columns = (refl, is.columns);
    }
