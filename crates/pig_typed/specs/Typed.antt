-- Typed expressions and blocks as trees, which is what clauses say of them.
use Rattle.std.specs.Prelude.{ℕ, ℤ, Bool, List, [], ◌∷◌, map}
use Rattle.pig_value.specs.Trees.{KindTree, kind_tree}
use Rattle.pig_value.specs.declared.functions.Function.{Function}
use Rattle.pig_value.specs.declared.operators.ChainOp.{ChainOp}
use Rattle.pig_value.specs.declared.operators.Rel.{Rel}
use Rattle.pig_typed.specs.declared.blocks.Block.{Block}
use Rattle.pig_typed.specs.declared.blocks.BlockItem.{BlockItem}
use Rattle.pig_typed.specs.declared.blocks.BlockStep.{BlockStep}
use Rattle.pig_typed.specs.declared.blocks.BlockStep.TheVariants as step
use Rattle.pig_typed.specs.declared.blocks.SortKey.{SortKey}
use Rattle.pig_typed.specs.declared.exprs.TExpr.{TExpr}
use Rattle.pig_typed.specs.declared.exprs.TExpr.TheOpen.{TExpr-F, TLink-F}
use Rattle.pig_typed.specs.declared.exprs.TExpr.TheFolds.{fold-TExpr, fold-TLink}
use Rattle.pig_typed.specs.declared.exprs.TLink.{TLink}

mutual
  pub data Typed : Type 0 where
    x_null : Typed
    x_bool : Bool → Typed
    x_int : ℤ → Typed
    x_long : ℤ → Typed
    x_chars : List ℕ → Typed
    x_field : ℕ → Typed
    x_local : ℕ → Typed
    x_chain : Typed → TypedLinks → Typed
    x_compare : Rel → Typed → Typed → Typed
    x_is_null : Typed → Bool → Typed
    x_not : Typed → Typed
    x_minus : Typed → Typed
    x_choose : Typed → Typed → Typed → Typed
    x_cast : KindTree → Typed → Typed
    x_project : Typed → List ℕ → Bool → Typed
    x_look : Typed → List ℕ → Typed
    x_call : Function → TypedArgs → Typed

  -- the operators of a chain, each with its right operand
  pub data TypedLinks : Type 0 where
    no_links : TypedLinks
    more_links : ChainOp → Typed → TypedLinks → TypedLinks

  -- the arguments of a function
  pub data TypedArgs : Type 0 where
    no_args : TypedArgs
    more_args : Typed → TypedArgs → TypedArgs

-- lists as the forms above
abbrev pub links_of : List (ChainOp × Typed) → TypedLinks
links_of [] = no_links
links_of (l ∷ ls) = more_links l.0 l.1 (links_of ls)

abbrev pub args_of : List Typed → TypedArgs
args_of [] = no_args
args_of (e ∷ es) = more_args e (args_of es)

-- one level of an expression, with the tree of each inner one in its place
abbrev pub typed_step : TExpr-F Typed (ChainOp × Typed) → Typed
typed_step TExpr-F.Null = x_null
typed_step (TExpr-F.Bool b) = x_bool b
typed_step (TExpr-F.Int z) = x_int z
typed_step (TExpr-F.Long z) = x_long z
typed_step (TExpr-F.Chars text) = x_chars text
typed_step (TExpr-F.Field n) = x_field n
typed_step (TExpr-F.Local n) = x_local n
typed_step (TExpr-F.Chain first rest) = x_chain first (links_of rest)
typed_step (TExpr-F.Compare op a b) = x_compare op a b
typed_step (TExpr-F.IsNull a not) = x_is_null a not
typed_step (TExpr-F.Not a) = x_not a
typed_step (TExpr-F.Minus a) = x_minus a
typed_step (TExpr-F.Choose cond a b) = x_choose cond a b
typed_step (TExpr-F.Cast to a) = x_cast (kind_tree to) a
typed_step (TExpr-F.Project a fields single) = x_project a fields single
typed_step (TExpr-F.Look a key) = x_look a key
typed_step (TExpr-F.Call function args) = x_call function (args_of args)

abbrev pub link_step : TLink-F Typed (ChainOp × Typed) → ChainOp × Typed
link_step l = (l.op, l.a)

-- an expression as a tree
abbrev pub typed : TExpr → Typed
typed = fold-TExpr Typed (ChainOp × Typed) typed_step link_step

-- a link as its operator and the tree of its operand
abbrev pub link_of : TLink → ChainOp × Typed
link_of = fold-TLink Typed (ChainOp × Typed) typed_step link_step

-- ---- blocks

-- a nested step, on the bag that its first expression gives
pub data TypedStep : Type 0 where
  s_filter : Typed → Typed → TypedStep
  s_order : Typed → List SortKey → TypedStep
  s_limit : Typed → ℕ → TypedStep
  s_distinct : Typed → TypedStep
  s_take : Typed → TypedStep

pub record TypedItem : Type 0 where
  pub value : Typed
  pub flatten : Bool
  pub width : ℕ

pub record TypedBlock : Type 0 where
  pub steps : List TypedStep
  pub items : List TypedItem

abbrev pub step_typed : BlockStep → TypedStep
step_typed (step.Filter from cond) = s_filter (typed from) (typed cond)
step_typed (step.Order from keys) = s_order (typed from) keys
step_typed (step.Limit from count) = s_limit (typed from) count
step_typed (step.Distinct from) = s_distinct (typed from)
step_typed (step.Take from) = s_take (typed from)

abbrev pub item_typed : BlockItem → TypedItem
item_typed item = record { value = typed item.value; flatten = item.flatten; width = item.width }

abbrev pub block_typed : Block → TypedBlock
block_typed block = record { steps = map step_typed block.steps; items = map item_typed block.items }
