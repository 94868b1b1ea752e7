-- The bags of a nested block: each is a nested alias or a field, or a projection of one, and is typed as the expression that it reads as.
-- (Pig Latin Basics: "FOREACH", nested blocks.)
use Rattle.std.specs.Prelude.{◌≡◌, Bool, true, false, List, [], ◌∷◌, Option, Some, None, if◌then◌else◌}
use Rattle.std.specs.declared.result.Result.TheVariants.{Ok, Err}
use Rattle.pig_value.specs.Trees.{KindTree, k_bag}
use Rattle.pig_schema.specs.FieldTrees.{FieldTree, inner_list, tree_inner}
use Rattle.pig_syntax.specs.ExprTrees.{ExprForm, e_field, e_post}
use Rattle.pig_syntax.specs.declared.trees.BagRef.{BagRef}
use Rattle.pig_syntax.specs.declared.trees.PostStep.{PostStep}
use Rattle.pig_typing.specs.declared.faults.CheckKind.{CheckKind}
use Rattle.pig_typing.specs.declared.faults.CheckKind.TheVariants as kind
use Rattle.pig_typing.specs.Columns.{Place}
use Rattle.pig_typing.specs.Faults.{Faults}
use Rattle.pig_typing.specs.Parts.{Typing, typed_column, kind_in}
use Rattle.pig_typing.specs.Reader.{type_of}
use Rattle.pig_typing.specs.Results.{Checked, ◌>>=◌}
use Rattle.pig_typing.specs.Typing.{Types}

abbrev pub projected_form : ExprForm → Option PostStep → ExprForm
projected_form a (Some step) = e_post a (step ∷ [])
projected_form a None = a

abbrev pub bag_form : BagRef → ExprForm
bag_form b = projected_form (e_field b.field) b.sel

abbrev pub is_bag : KindTree → Bool
is_bag (k_bag ks) = true
is_bag k = false

-- the columns of the tuples of a bag
abbrev pub columns_in : Typing → List FieldTree
columns_in p = inner_list (tree_inner (typed_column p))

pub data Bags (s : Place) : BagRef → Typing → Type 0 where
  a_bag : {b : BagRef} {p : Typing} → Types s (bag_form b) p → is_bag (kind_in p) ≡ true → Bags s b p

pub data BagsNot (s : Place) : BagRef → CheckKind → Type 0 where
  untyped_bag : {b : BagRef} {f : CheckKind} → Faults s (bag_form b) f → BagsNot s b f
  no_bag : {b : BagRef} {p : Typing} → Types s (bag_form b) p → is_bag (kind_in p) ≡ false → BagsNot s b kind.TypeMismatch

-- ---- the same as functions

unfoldable pub as_bag : Typing → Checked Typing
as_bag p = if is_bag (kind_in p) then Ok p else Err kind.TypeMismatch

unfoldable pub bag_of : Place → BagRef → Checked Typing
bag_of s b = do
  p ← type_of s (bag_form b)
  as_bag p
