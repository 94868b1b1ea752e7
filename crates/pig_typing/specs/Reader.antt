-- The typing of expressions as a function, which the code follows.
use Rattle.std.specs.Prelude.{ℕ, List, [], ◌∷◌, map, Option, Some, None, if◌then◌else◌}
use Rattle.std.specs.Str.{bytes_eq}
use Rattle.std.specs.declared.result.Result.TheVariants.{Ok, Err}
use Rattle.pig_value.specs.Casts.{may_cast}
use Rattle.pig_value.specs.Functions.{function_named}
use Rattle.pig_value.specs.Trees.{KindTree, k_boolean, k_int, k_long, k_chars, k_bytes}
use Rattle.pig_value.specs.declared.functions.Function.{Function}
use Rattle.pig_value.specs.declared.operators.ChainOp.{ChainOp}
use Rattle.pig_value.specs.declared.operators.Rel.{Rel}
use Rattle.pig_schema.specs.FieldTrees.{FieldTree, tree_kind}
use Rattle.pig_syntax.specs.ExprTrees.{TypeForm, ExprForm, LinkForms, ExprForms, e_int, e_long, e_float, e_text, e_bool, e_null, e_field, e_chain, e_compare, e_is_null, e_not, e_minus, e_cast, e_post, e_call, e_choose, no_links, more_links, no_exprs, more_exprs, type_form}
use Rattle.pig_syntax.specs.declared.trees.FieldRef.{FieldRef}
use Rattle.pig_syntax.specs.declared.trees.FieldRef.TheVariants as ref
use Rattle.pig_typed.specs.ExprKinds.{minus_kind}
use Rattle.pig_typed.specs.Typed.{Typed, x_null, x_bool, x_int, x_long, x_chars, x_field, x_local, x_compare, x_is_null, x_not, x_minus, x_cast, x_call, args_of}
use Rattle.pig_typing.specs.declared.faults.CheckKind.TheVariants as kind
use Rattle.pig_typing.specs.Calls.{average, allows, given}
use Rattle.pig_typing.specs.Columns.{Place, latest, nameless, refer, unnamed}
use Rattle.pig_typing.specs.Joins.{alike, cast_if, chained, compared, condition}
use Rattle.pig_typing.specs.Limits.{limited}
use Rattle.pig_typing.specs.Parts.{Typing, typing, typed_of, typed_column, kind_in, steps_of}
use Rattle.pig_typing.specs.Results.{Checked, due, ◌>>=◌}
use Rattle.pig_typing.specs.Typing.{ChainSoFar, begun, after, chain_typing, choice, called, call_kind, cast_args, count}
use Rattle.pig_typing.specs.Written.{written}

-- ---- names

abbrev pub field_typing : ℕ × FieldTree → Typing
field_typing p = typing (x_field p.0) p.1

abbrev pub local_typing : ℕ × FieldTree → Typing
local_typing p = typing (x_local p.0) (nameless p.1)

unfoldable pub field_of : List FieldTree → FieldRef → Checked Typing
field_of columns r = do
  p ← refer columns r
  Ok (field_typing p)

-- the latest step of the alias, or else the field
abbrev pub local_or : Option (ℕ × FieldTree) → Checked Typing → Checked Typing
local_or (Some p) field = Ok (local_typing p)
local_or None field = field

unfoldable pub reference_of : Place → FieldRef → Checked Typing
reference_of s (ref.Name name) = local_or (latest name s.locals) (field_of s.columns (ref.Name name))
reference_of s (ref.Position n) = field_of s.columns (ref.Position n)

-- ---- what stands behind operands

unfoldable pub compare_of : Rel → Typing → Typing → Checked Typing
compare_of r p q = do
  j ← due kind.TypeMismatch (compared r (kind_in p) (kind_in q))
  Ok (typing (x_compare r (cast_if j.left j.kind (typed_of p)) (cast_if j.right j.kind (typed_of q))) (unnamed k_boolean))

-- an operand as a condition
unfoldable pub condition_of : Typing → Checked Typed
condition_of p = do
  is_cast ← due kind.TypeMismatch (condition (kind_in p))
  Ok (cast_if is_cast k_boolean (typed_of p))

unfoldable pub minus_of : Typing → Checked Typing
minus_of p = do
  k ← due kind.TypeMismatch (minus_kind (kind_in p))
  Ok (typing (x_minus (typed_of p)) (unnamed k))

unfoldable pub choose_of : Typed → Typing → Typing → Checked Typing
choose_of t p q = do
  j ← due kind.TypeMismatch (alike (kind_in p) (kind_in q))
  Ok (choice t j p q)

-- what a type says, within the limits
unfoldable pub type_of_cast : TypeForm → Checked FieldTree
type_of_cast type = do
  d ← due kind.FloatType (written type)
  k ← limited (tree_kind d)
  Ok d

unfoldable pub typed_cast : FieldTree → Typing → Checked Typing
typed_cast d p = if may_cast (kind_in p) (tree_kind d) then Ok (typing (x_cast (tree_kind d) (typed_of p)) d) else Err kind.TypeMismatch

unfoldable pub typed_link : ChainSoFar → ChainOp → Typing → Checked ChainSoFar
typed_link so_far o p = do
  j ← due kind.TypeMismatch (chained o so_far.kind (kind_in p))
  Ok (after so_far o j (typed_of p))

-- the function of a name that takes so many arguments
unfoldable pub with_count : ℕ → Function → Checked Function
with_count n f = if allows f n then Ok f else Err kind.WrongArguments

unfoldable pub function_of : List ℕ → Checked Function
function_of name = due (if bytes_eq name average then kind.FloatType else kind.UnknownFunction) (function_named name)

-- the kind that a function gives, within the limits
unfoldable pub kind_due : Function → List Typing → Checked KindTree
kind_due f ps = do
  k ← due kind.TypeMismatch (call_kind f ps)
  l ← limited k
  Ok k

abbrev pub call_typing : Function → List Typing → KindTree → Typing
call_typing f ps k = typing (x_call (called f ps) (args_of (cast_args f ps))) (given f k (map typed_column ps))

unfoldable pub call_of : Function → List Typing → Checked Typing
call_of f ps = do
  k ← kind_due f ps
  Ok (call_typing f ps k)

-- ---- expressions

unfoldable mutual
  pub type_of : Place → ExprForm → Checked Typing
  type_of s (e_int z) = Ok (typing (x_int z) (unnamed k_int))
  type_of s (e_long z) = Ok (typing (x_long z) (unnamed k_long))
  type_of s e_float = Err kind.FloatType
  type_of s (e_text text) = Ok (typing (x_chars text) (unnamed k_chars))
  type_of s (e_bool b) = Ok (typing (x_bool b) (unnamed k_boolean))
  type_of s e_null = Ok (typing x_null (unnamed k_bytes))
  type_of s (e_field r) = reference_of s r
  type_of s (e_chain a ls) = do
    p ← type_of s a
    whole ← links_on s (begun p) ls
    Ok (chain_typing whole)
  type_of s (e_compare r a b) = do
    p ← type_of s a
    q ← type_of s b
    compare_of r p q
  type_of s (e_is_null a negated) = do
    p ← type_of s a
    Ok (typing (x_is_null (typed_of p) negated) (unnamed k_boolean))
  type_of s (e_not a) = do
    p ← type_of s a
    t ← condition_of p
    Ok (typing (x_not t) (unnamed k_boolean))
  type_of s (e_minus a) = do
    p ← type_of s a
    minus_of p
  type_of s (e_cast to a) = do
    d ← type_of_cast (type_form to)
    p ← type_of s a
    typed_cast d p
  type_of s (e_post a steps) = do
    p ← type_of s a
    steps_of p steps
  type_of s (e_call name args) = do
    f ← function_of name
    g ← with_count (count args) f
    ps ← args_on s args
    call_of g ps
  type_of s (e_choose a b c) = do
    p ← type_of s a
    t ← condition_of p
    q ← type_of s b
    r ← type_of s c
    choose_of t q r

  pub links_on : Place → ChainSoFar → LinkForms → Checked ChainSoFar
  links_on s so_far no_links = Ok so_far
  links_on s so_far (more_links o a ls) = do
    p ← type_of s a
    next ← typed_link so_far o p
    links_on s next ls

  pub args_on : Place → ExprForms → Checked (List Typing)
  args_on s no_exprs = Ok []
  args_on s (more_exprs a others) = do
    p ← type_of s a
    ps ← args_on s others
    Ok (p ∷ ps)
