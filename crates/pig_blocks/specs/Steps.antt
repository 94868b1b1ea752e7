-- The steps of a nested block: each makes a bag of a bag of the row or of an earlier step, and has the columns of that bag.
-- (Pig Latin Basics: "FOREACH", nested blocks. That a condition of a nested FILTER sees the fields of its bag alone is a choice of this profile.)
use Rattle.std.specs.Prelude.{◌++◌, ℕ, List, [], ◌∷◌}
use Rattle.std.specs.declared.result.Result.TheVariants.{Ok}
use Rattle.pig_schema.specs.FieldTrees.{FieldTree}
use Rattle.pig_syntax.specs.ExprTrees.{ExprForm, expr_form}
use Rattle.pig_syntax.specs.declared.trees.BagRef.{BagRef}
use Rattle.pig_syntax.specs.declared.trees.Expr.{Expr}
use Rattle.pig_syntax.specs.declared.trees.Nested.{Nested}
use Rattle.pig_syntax.specs.declared.trees.Nested.TheVariants as nested
use Rattle.pig_syntax.specs.declared.trees.OrderKeys.{OrderKeys}
use Rattle.pig_syntax.specs.declared.trees.Step.{Step}
use Rattle.pig_typed.specs.Typed.{Typed, TypedStep, s_filter, s_order, s_limit, s_distinct, s_take}
use Rattle.pig_typed.specs.declared.blocks.SortKey.{SortKey}
use Rattle.pig_typing.specs.declared.faults.CheckKind.{CheckKind}
use Rattle.pig_typing.specs.Columns.{Place}
use Rattle.pig_typing.specs.Conditions.{Conditions, ConditionsNot, condition_on}
use Rattle.pig_typing.specs.Parts.{Typing, typed_of, typed_column}
use Rattle.pig_typing.specs.Results.{Checked, ◌>>=◌}
use Rattle.pig_blocks.specs.Bags.{Bags, BagsNot, bag_of, columns_in}
use Rattle.pig_blocks.specs.SortKeys.{SortsBy, SortsByNot, sorted_by}

-- a row before any step: its fields, and no nested alias
abbrev pub row_place : List FieldTree → Place
row_place columns = record { columns = columns; locals = [] }

-- what expressions over a bag's tuples see: their fields alone
abbrev pub within : Typing → Place
within bag = row_place (columns_in bag)

-- a typed step, and the column that its bag has
pub data Made : Type 0 where
  made : TypedStep → FieldTree → Made

-- ---- a step

pub data Makes (s : Place) : Nested → Made → Type 0 where
  makes_filter : {b : BagRef} {cond : Expr} {p : Typing} {t : Typed}
      → Bags s b p → Conditions (within p) (expr_form cond) t → Makes s (nested.Filter b cond) (made (s_filter (typed_of p) t) (typed_column p))
  makes_distinct : {b : BagRef} {p : Typing} → Bags s b p → Makes s (nested.Distinct b) (made (s_distinct (typed_of p)) (typed_column p))
  makes_order : {b : BagRef} {keys : OrderKeys} {p : Typing} {ks : List SortKey}
      → Bags s b p → SortsBy (columns_in p) keys ks → Makes s (nested.Order b keys) (made (s_order (typed_of p) ks) (typed_column p))
  makes_limit : {b : BagRef} {count : ℕ} {p : Typing} → Bags s b p → Makes s (nested.Limit b count) (made (s_limit (typed_of p) count) (typed_column p))
  makes_take : {b : BagRef} {p : Typing} → Bags s b p → Makes s (nested.Take b) (made (s_take (typed_of p)) (typed_column p))

pub data MakesNot (s : Place) : Nested → CheckKind → Type 0 where
  filter_of_none : {b : BagRef} {cond : Expr} {f : CheckKind} → BagsNot s b f → MakesNot s (nested.Filter b cond) f
  filter_by_none : {b : BagRef} {cond : Expr} {p : Typing} {f : CheckKind}
      → Bags s b p → ConditionsNot (within p) (expr_form cond) f → MakesNot s (nested.Filter b cond) f
  distinct_of_none : {b : BagRef} {f : CheckKind} → BagsNot s b f → MakesNot s (nested.Distinct b) f
  order_of_none : {b : BagRef} {keys : OrderKeys} {f : CheckKind} → BagsNot s b f → MakesNot s (nested.Order b keys) f
  order_by_none : {b : BagRef} {keys : OrderKeys} {p : Typing} {f : CheckKind}
      → Bags s b p → SortsByNot (columns_in p) keys f → MakesNot s (nested.Order b keys) f
  limit_of_none : {b : BagRef} {count : ℕ} {f : CheckKind} → BagsNot s b f → MakesNot s (nested.Limit b count) f
  take_of_none : {b : BagRef} {f : CheckKind} → BagsNot s b f → MakesNot s (nested.Take b) f

-- ---- steps in turn, each of which sees those before it

-- one nested alias more
abbrev pub behind : Place → List ℕ → FieldTree → Place
behind s alias c = record { columns = s.columns; locals = s.locals ++ (alias, c) ∷ [] }

-- the typed steps, and what stands behind them
pub data Stepped : Type 0 where
  stepped : List TypedStep → Place → Stepped

abbrev pub steps_made : Stepped → List TypedStep
steps_made (stepped ts s) = ts

abbrev pub place_behind : Stepped → Place
place_behind (stepped ts s) = s

abbrev pub step_first : TypedStep → Stepped → Stepped
step_first t more = stepped (t ∷ steps_made more) (place_behind more)

pub data AllMake : Place → List Step → Stepped → Type 0 where
  none_make : {s : Place} → AllMake s [] (stepped [] s)
  more_make : {s : Place} {step : Step} {steps : List Step} {t : TypedStep} {c : FieldTree} {more : Stepped}
      → Makes s step.nested (made t c) → AllMake (behind s step.alias c) steps more → AllMake s (step ∷ steps) (step_first t more)

pub data AllMakeNot : Place → List Step → CheckKind → Type 0 where
  step_not : {s : Place} {step : Step} {steps : List Step} {f : CheckKind} → MakesNot s step.nested f → AllMakeNot s (step ∷ steps) f
  later_not : {s : Place} {step : Step} {steps : List Step} {t : TypedStep} {c : FieldTree} {f : CheckKind}
      → Makes s step.nested (made t c) → AllMakeNot (behind s step.alias c) steps f → AllMakeNot s (step ∷ steps) f

-- ---- the same as functions

abbrev pub step_made : Made → TypedStep
step_made (made t c) = t

abbrev pub column_made : Made → FieldTree
column_made (made t c) = c

abbrev pub filter_of : Typing → ExprForm → Checked Made
filter_of p cond = do
  t ← condition_on (within p) cond
  Ok (made (s_filter (typed_of p) t) (typed_column p))

abbrev pub order_of : Typing → OrderKeys → Checked Made
order_of p keys = do
  ks ← sorted_by (columns_in p) keys
  Ok (made (s_order (typed_of p) ks) (typed_column p))

abbrev pub on_bag : Typing → Nested → Checked Made
on_bag p (nested.Filter b cond) = filter_of p (expr_form cond)
on_bag p (nested.Distinct b) = Ok (made (s_distinct (typed_of p)) (typed_column p))
on_bag p (nested.Order b keys) = order_of p keys
on_bag p (nested.Limit b count) = Ok (made (s_limit (typed_of p) count) (typed_column p))
on_bag p (nested.Take b) = Ok (made (s_take (typed_of p)) (typed_column p))

abbrev pub bag_in : Nested → BagRef
bag_in (nested.Filter b cond) = b
bag_in (nested.Distinct b) = b
bag_in (nested.Order b keys) = b
bag_in (nested.Limit b count) = b
bag_in (nested.Take b) = b

unfoldable pub made_of : Place → Nested → Checked Made
made_of s n = do
  p ← bag_of s (bag_in n)
  on_bag p n

-- a step more
abbrev pub one_more : Stepped → List ℕ → Made → Stepped
one_more so_far alias m = stepped (steps_made so_far ++ step_made m ∷ []) (behind (place_behind so_far) alias (column_made m))

-- more steps behind those so far
abbrev pub steps_behind : Stepped → Stepped → Stepped
steps_behind so_far more = stepped (steps_made so_far ++ steps_made more) (place_behind more)

unfoldable pub steps_of : Place → List Step → Checked Stepped
steps_of s [] = Ok (stepped [] s)
steps_of s (step ∷ steps) = do
  m ← made_of s step.nested
  more ← steps_of (behind s step.alias (column_made m)) steps
  Ok (step_first (step_made m) more)
