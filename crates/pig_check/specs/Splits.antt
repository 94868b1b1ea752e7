-- SPLIT: a FILTER for each branch in turn, all over one relation; OTHERWISE is the negation of all conditions.
-- (Pig Latin Basics: "SPLIT". That a row for which the negation is null goes nowhere is a choice of this profile.)
use Rattle.std.specs.Prelude.{◌++◌, ◌+◌, ℕ, false, List, [], ◌∷◌, length, map, Option, Some, None}
use Rattle.std.specs.Option.{option_to_list}
use Rattle.std.specs.declared.result.Result.TheVariants.{Ok}
use Rattle.pig_value.specs.declared.operators.ChainOp.{ChainOp}
use Rattle.pig_value.specs.declared.operators.ChainOp.TheVariants as op
use Rattle.pig_schema.specs.FieldTrees.{FieldTree}
use Rattle.pig_syntax.specs.ExprTrees.{expr_form}
use Rattle.pig_syntax.specs.declared.trees.Branch.{Branch}
use Rattle.pig_typed.specs.Typed.{Typed, x_bool, x_chain, x_not, links_of}
use Rattle.pig_plan.specs.Plans.{p_filter}
use Rattle.pig_typing.specs.declared.faults.CheckKind.{CheckKind}
use Rattle.pig_typing.specs.Columns.{Place}
use Rattle.pig_typing.specs.Conditions.{Conditions, ConditionsNot, condition_on}
use Rattle.pig_typing.specs.Results.{Checked, ◌>>=◌}
use Rattle.pig_relations.specs.Aliases.{Aliases, RelationTree, relation_of}
use Rattle.pig_check.specs.States.{Added, State, row_of}

-- ---- the conditions of the branches

pub data AllConditions (s : Place) : List Branch → List Typed → Type 0 where
  no_branches : AllConditions s [] []
  more_branches : {b : Branch} {bs : List Branch} {t : Typed} {ts : List Typed}
      → Conditions s (expr_form b.cond) t → AllConditions s bs ts → AllConditions s (b ∷ bs) (t ∷ ts)

pub data AllConditionsNot (s : Place) : List Branch → CheckKind → Type 0 where
  here_not : {b : Branch} {bs : List Branch} {f : CheckKind} → ConditionsNot s (expr_form b.cond) f → AllConditionsNot s (b ∷ bs) f
  later_not : {b : Branch} {bs : List Branch} {f : CheckKind} → AllConditionsNot s bs f → AllConditionsNot s (b ∷ bs) f

-- ---- OTHERWISE

abbrev pub or_link : Typed → ChainOp × Typed
or_link t = (op.Or, t)

-- one of the conditions at least
abbrev pub any_of : List Typed → Typed
any_of [] = x_bool false
any_of (t ∷ []) = t
any_of (t ∷ u ∷ ts) = x_chain t (links_of (map or_link (u ∷ ts)))

abbrev pub all_conditions : List Typed → Option (List ℕ) → List Typed
all_conditions ts None = ts
all_conditions ts (Some alias) = ts ++ x_not (any_of ts) ∷ []

-- ---- the relations

abbrev pub branch_aliases : List Branch → Option (List ℕ) → List (List ℕ)
branch_aliases bs otherwise = map (λ b. b.alias) bs ++ option_to_list otherwise

-- relations of these columns, at the nodes from a number on
abbrev pub relations_from : ℕ → List FieldTree → List (List ℕ) → Aliases
relations_from n columns [] = []
relations_from n columns (alias ∷ more) = (alias, record { node = n; columns = columns }) ∷ relations_from (n + 1) columns more

-- what SPLIT of a relation adds behind so many nodes
abbrev pub split_into : ℕ → RelationTree → List Branch → Option (List ℕ) → List Typed → Added
split_into n r bs otherwise ts = record {
  ops = map (p_filter r.node) (all_conditions ts otherwise);
  given = relations_from n r.columns (branch_aliases bs otherwise);
}

-- ---- the same as a function

unfoldable pub conditions_of : Place → List Branch → Checked (List Typed)
conditions_of s [] = Ok []
conditions_of s (b ∷ bs) = do
  t ← condition_on s (expr_form b.cond)
  ts ← conditions_of s bs
  Ok (t ∷ ts)

unfoldable pub split_of : State → List ℕ → List Branch → Option (List ℕ) → Checked Added
split_of s from bs otherwise = do
  r ← relation_of s.aliases from
  ts ← conditions_of (row_of r.columns) bs
  Ok (split_into (length s.nodes) r bs otherwise ts)
