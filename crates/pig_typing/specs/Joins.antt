-- Two operands of one operator: what kind they are brought to, and which of them is cast to it.
-- (Pig Latin Basics: "Arithmetic Operators", "Comparison Operators", "Boolean Operators", "Nulls". That an int stands with a long
-- in comparisons, and which kinds are compared, are choices of this profile.)
use Rattle.std.specs.Prelude.{Bool, true, false, Option, Some, None, if◌then◌else◌}
use Rattle.std.specs.Option.{option_and_then}
use Rattle.pig_value.specs.Kinds.{kind_eq}
use Rattle.pig_value.specs.Trees.{KindTree, k_boolean, k_int, k_long, k_bytes}
use Rattle.pig_value.specs.declared.operators.ChainOp.{ChainOp}
use Rattle.pig_value.specs.declared.operators.ChainOp.TheVariants as op
use Rattle.pig_value.specs.declared.operators.Rel.{Rel}
use Rattle.pig_schema.specs.FieldTrees.{FieldTree, a_field, tree_inner}
use Rattle.pig_typed.specs.ExprKinds.{may_compare}
use Rattle.pig_typed.specs.Typed.{Typed, x_cast}

-- the kind of both operands together, and whether the left and the right one is cast to it
pub record Join : Type 0 where
  pub kind : KindTree
  pub left : Bool
  pub right : Bool

abbrev pub join : KindTree → Bool → Bool → Join
join k l r = record { kind = k; left = l; right = r }

abbrev pub cast_if : Bool → KindTree → Typed → Typed
cast_if true k t = x_cast k t
cast_if false k t = t

-- two operands as they are cast, and their kind together
pub record Operands : Type 0 where
  pub kind : KindTree
  pub left : Typed
  pub right : Typed

abbrev pub operands_of : Join → Typed → Typed → Operands
operands_of j t u = record { kind = j.kind; left = cast_if j.left j.kind t; right = cast_if j.right j.kind u }

-- alike up to int with long, which is cast to long, or one a bytearray, which is cast to the other's kind
abbrev pub alike : KindTree → KindTree → Option Join
alike k_bytes k_bytes = Some (join k_bytes false false)
alike k_bytes l = Some (join l true false)
alike k k_bytes = Some (join k false true)
alike k_int k_long = Some (join k_long true false)
alike k_long k_int = Some (join k_long false true)
alike k l = if kind_eq k l then Some (join k false false) else None

-- The column of a choice of two: it has no name, and inside it stands what is inside the first, or inside the second where the first
-- is cast to its kind.
abbrev pub chosen : Join → FieldTree → FieldTree → FieldTree
chosen j c d = a_field None j.kind (tree_inner (if j.left then d else c))

-- alike, and of a kind that the comparison takes
abbrev pub compared : Rel → KindTree → KindTree → Option Join
compared r k l = option_and_then (λ j. if may_compare r j.kind then Some j else None) (alike k l)

-- Numbers on both sides, or a bytearray with a number, which is cast. An int with a long stays an int: the operator gives the long.
abbrev pub numbers : KindTree → KindTree → Option Join
numbers k_int k_int = Some (join k_int false false)
numbers k_int k_long = Some (join k_long false false)
numbers k_long k_int = Some (join k_long false false)
numbers k_long k_long = Some (join k_long false false)
numbers k_bytes k_int = Some (join k_int true false)
numbers k_bytes k_long = Some (join k_long true false)
numbers k_int k_bytes = Some (join k_int false true)
numbers k_long k_bytes = Some (join k_long false true)
numbers k l = None

-- a condition is boolean, or a bytearray, which is cast: whether it is
abbrev pub condition : KindTree → Option Bool
condition k_boolean = Some false
condition k_bytes = Some true
condition k = None

abbrev pub conditions : KindTree → KindTree → Option Join
conditions k l = option_and_then (λ left. option_and_then (λ right. Some (join k_boolean left right)) (condition l)) (condition k)

-- an operator of a chain
abbrev pub chained : ChainOp → KindTree → KindTree → Option Join
chained op.Or k l = conditions k l
chained op.And k l = conditions k l
chained o k l = numbers k l
