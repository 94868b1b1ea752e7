-- Typings, computed.
use Rattle.std.specs.Prelude.{◌≡◌, ℕ, pos, true, List, [], ◌∷◌, codes, Some, None, refl}
use Rattle.std.specs.declared.result.Result.TheVariants.{Ok, Err}
use Rattle.pig_value.specs.Trees.{k_int, k_long, k_chars, k_bytes, k_bag, k_map, kinds_of}
use Rattle.pig_value.specs.declared.functions.Function.TheVariants as function
use Rattle.pig_value.specs.declared.operators.ChainOp.TheVariants as op
use Rattle.pig_value.specs.declared.operators.Rel.TheVariants as rel
use Rattle.pig_schema.specs.FieldTrees.{a_field, no_inner, inner_of}
use Rattle.pig_syntax.specs.ExprTrees.{ExprForm, e_int, e_null, e_text, e_field, e_chain, e_compare, e_post, e_call, e_choose, no_links, more_links, no_exprs, more_exprs}
use Rattle.pig_syntax.specs.declared.trees.FieldRef.TheVariants as ref
use Rattle.pig_syntax.specs.declared.trees.PostStep.TheVariants as step
use Rattle.pig_typed.specs.Typed.{x_null, x_int, x_chars, x_field, x_local, x_chain, x_compare, x_choose, x_cast, x_project, x_look, x_call, links_of, args_of}
use Rattle.pig_typing.specs.declared.faults.CheckKind.TheVariants as kind
use Rattle.pig_typing.specs.Columns.{Place, column_at, refer, unnamed}
use Rattle.pig_typing.specs.Limits.{limited}
use Rattle.pig_typing.specs.Parts.{chosen_of, given_of, select, step_of, steps_of, typing}
use Rattle.pig_typing.specs.Reader.{args_on, call_of, kind_due, choose_of, compare_of, condition_of, with_count, field_of, function_of, typed_link, links_on, reference_of, type_of}
use Rattle.pig_value.specs.Functions.{function_named}

-- the columns `a` and `m`, and a grouped bag of ranks, before which a nested alias of the name `a` may stand
abbrev plain : Place
plain = record {
  columns = a_field (Some (codes "a")) k_int no_inner ∷ a_field (Some (codes "m")) (k_map k_bytes) no_inner
      ∷ a_field (Some (codes "good")) (k_bag (kinds_of (k_int ∷ []))) (inner_of (a_field (Some (codes "rank_of")) k_int no_inner ∷ [])) ∷ [];
  locals = [];
}

abbrev nested : Place
nested = record { columns = plain.columns; locals = (codes "a", a_field (Some (codes "good")) (k_bag (kinds_of (k_int ∷ []))) no_inner) ∷ [] }

abbrev named : List ℕ → ExprForm
named name = e_field (ref.Name name)

-- `a + 1`
adds : type_of plain (e_chain (named (codes "a")) (more_links op.Add (e_int (pos 1)) no_links))
    ≡ Ok (typing (x_chain (x_field 0) (links_of ((op.Add, x_int (pos 1)) ∷ []))) (unnamed k_int))
unfolding type_of links_on typed_link reference_of field_of refer column_at
adds = refl

-- `(m#'b' == 'x' ? 'yes' : 'no')`
looks_up : type_of plain (e_choose (e_compare rel.Eq (e_post (named (codes "m")) (step.Look (codes "b") ∷ [])) (e_text (codes "x"))) (e_text (codes "yes")) (e_text (codes "no")))
    ≡ Ok (typing (x_choose (x_compare rel.Eq (x_cast k_chars (x_look (x_field 1) (codes "b"))) (x_chars (codes "x"))) (x_chars (codes "yes")) (x_chars (codes "no"))) (unnamed k_chars))
unfolding type_of compare_of condition_of choose_of reference_of field_of refer column_at steps_of step_of
looks_up = refl

-- `SUM(good.rank_of)`
sums : type_of plain (e_call (codes "SUM") (more_exprs (e_post (named (codes "good")) (step.Project (ref.Name (codes "rank_of") ∷ []) true ∷ [])) no_exprs))
    ≡ Ok (typing (x_call function.Sum (args_of (x_project (x_field 2) (0 ∷ []) true ∷ []))) (unnamed k_long))
unfolding type_of args_on function_of function_named with_count call_of kind_due limited reference_of field_of refer column_at steps_of step_of chosen_of select given_of
sums = refl

-- `(a == 1 ? null : good).rank_of`: the null is cast, so the names inside are those of the other
keeps : type_of plain (e_post (e_choose (e_compare rel.Eq (named (codes "a")) (e_int (pos 1))) e_null (named (codes "good"))) (step.Project (ref.Name (codes "rank_of") ∷ []) true ∷ []))
    ≡ Ok (typing (x_project (x_choose (x_compare rel.Eq (x_field 0) (x_int (pos 1))) (x_cast (k_bag (kinds_of (k_int ∷ []))) x_null) (x_field 2)) (0 ∷ []) true)
    (a_field (Some (codes "rank_of")) (k_bag (kinds_of (k_int ∷ []))) (inner_of (a_field (Some (codes "rank_of")) k_int no_inner ∷ []))))
unfolding type_of compare_of condition_of choose_of reference_of field_of refer column_at steps_of step_of chosen_of select given_of limited
keeps = refl

-- `TOBAG(good)`: its tuples have one field, without a name, and inside that the names of the argument
bags : type_of plain (e_call (codes "TOBAG") (more_exprs (named (codes "good")) no_exprs))
    ≡ Ok (typing (x_call (function.ToBag None) (args_of (x_field 2 ∷ [])))
    (a_field None (k_bag (kinds_of (k_bag (kinds_of (k_int ∷ [])) ∷ [])))
    (inner_of (a_field None (k_bag (kinds_of (k_int ∷ []))) (inner_of (a_field (Some (codes "rank_of")) k_int no_inner ∷ [])) ∷ []))))
unfolding type_of args_on function_of function_named with_count call_of kind_due limited reference_of field_of refer column_at
bags = refl

-- a nested alias hides the field, and has no name
hides : type_of nested (named (codes "a")) ≡ Ok (typing (x_local 0) (a_field None (k_bag (kinds_of (k_int ∷ []))) no_inner))
unfolding type_of reference_of
hides = refl

-- `a == 'x'`, and a name that fits nothing
mismatched : type_of plain (e_compare rel.Eq (named (codes "a")) (e_text (codes "x"))) ≡ Err kind.TypeMismatch
unfolding type_of compare_of reference_of field_of refer column_at
mismatched = refl

unknown : type_of plain (named (codes "b")) ≡ Err kind.UnknownField
unfolding type_of reference_of field_of refer column_at
unknown = refl
