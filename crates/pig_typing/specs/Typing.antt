-- The typing of expressions: over the columns of a row and the nested aliases so far, an expression has a typed expression, with
-- its fields by position and every cast written out, and the column that it gives. One case for each form, in the order of the forms.
-- (Pig Latin Basics: "Arithmetic Operators", "Comparison Operators", "Boolean Operators", "Cast Operators", "Dereference Operators".)
use Rattle.std.specs.Prelude.{◌≡◌, ◌++◌, ℕ, ℤ, Bool, true, List, [], ◌∷◌, map, suc, Option, Some, None}
use Rattle.std.specs.declared.result.Result.TheVariants.{Ok}
use Rattle.pig_value.specs.Casts.{may_cast}
use Rattle.pig_value.specs.FunctionKinds.{function_kind}
use Rattle.pig_value.specs.Functions.{function_named}
use Rattle.pig_value.specs.Trees.{KindTree, k_boolean, k_int, k_long, k_chars, k_bytes}
use Rattle.pig_value.specs.declared.functions.Function.{Function}
use Rattle.pig_value.specs.declared.operators.ChainOp.{ChainOp}
use Rattle.pig_value.specs.declared.operators.Rel.{Rel}
use Rattle.pig_schema.specs.FieldTrees.{FieldTree, tree_kind}
use Rattle.pig_syntax.specs.ExprTrees.{ExprForm, LinkForms, ExprForms, e_int, e_long, e_text, e_bool, e_null, e_field, e_chain, e_compare, e_is_null, e_not, e_minus, e_cast, e_post, e_call, e_choose, no_links, more_links, no_exprs, more_exprs, type_form}
use Rattle.pig_syntax.specs.declared.trees.FieldRef.TheVariants as ref
use Rattle.pig_syntax.specs.declared.trees.PostStep.{PostStep}
use Rattle.pig_syntax.specs.declared.trees.TypeTree.{TypeTree}
use Rattle.pig_typed.specs.ExprKinds.{minus_kind}
use Rattle.pig_typed.specs.Typed.{Typed, x_null, x_bool, x_int, x_long, x_chars, x_field, x_local, x_chain, x_compare, x_is_null, x_not, x_minus, x_choose, x_cast, x_call, links_of, args_of}
use Rattle.pig_typing.specs.Calls.{allows, casting, cast_by, cast_maybe, kind_after, sized, given}
use Rattle.pig_typing.specs.Columns.{RefersTo, Place, latest, nameless, unnamed}
use Rattle.pig_typing.specs.Joins.{Join, alike, cast_if, chained, chosen, compared, condition}
use Rattle.pig_typing.specs.Limits.{limited}
use Rattle.pig_typing.specs.Parts.{Typing, typing, typed_of, typed_column, kind_in, Walks}
use Rattle.pig_typing.specs.Written.{written}

-- ---- chains

-- the part of a chain so far, and its kind
pub record ChainSoFar : Type 0 where
  pub first : Typed
  pub links : List (ChainOp × Typed)
  pub kind : KindTree

abbrev pub begun : Typing → ChainSoFar
begun p = record { first = typed_of p; links = []; kind = kind_in p }

-- One link more. What stands before a later link is no bytearray, so the first operand alone is ever cast on the left.
abbrev pub after : ChainSoFar → ChainOp → Join → Typed → ChainSoFar
after c o j u = record { first = cast_if j.left j.kind c.first; links = c.links ++ (o, cast_if j.right j.kind u) ∷ []; kind = j.kind }

abbrev pub chain_typing : ChainSoFar → Typing
chain_typing c = typing (x_chain c.first (links_of c.links)) (unnamed c.kind)

-- ---- choices

-- one of two results, each cast where it is to be
abbrev pub choice : Typed → Join → Typing → Typing → Typing
choice t j p q = typing (x_choose t (cast_if j.left j.kind (typed_of p)) (cast_if j.right j.kind (typed_of q))) (chosen j (typed_column p) (typed_column q))

-- ---- calls

-- the kinds of arguments as they stand, and as the function takes them, and the arguments themselves
abbrev pub kinds_as_given : List Typing → List KindTree
kinds_as_given = map kind_in

abbrev pub cast_kinds : Function → List Typing → List KindTree
cast_kinds f ps = map (λ p. kind_after (cast_by (casting f (kinds_as_given ps)) (kind_in p)) (kind_in p)) ps

abbrev pub cast_args : Function → List Typing → List Typed
cast_args f ps = map (λ p. cast_maybe (cast_by (casting f (kinds_as_given ps)) (kind_in p)) (typed_of p)) ps

abbrev pub called : Function → List Typing → Function
called f ps = sized f (kinds_as_given ps)

-- the kind that the function gives of them, where it takes them
abbrev pub call_kind : Function → List Typing → Option KindTree
call_kind f ps = function_kind (called f ps) (cast_kinds f ps)

abbrev pub count : ExprForms → ℕ
count no_exprs = 0
count (more_exprs a others) = suc (count others)

-- ---- expressions

mutual
  pub data Types (s : Place) : ExprForm → Typing → Type 0 where
    type_int : {z : ℤ} → Types s (e_int z) (typing (x_int z) (unnamed k_int))
    type_long : {z : ℤ} → Types s (e_long z) (typing (x_long z) (unnamed k_long))
    type_text : {text : List ℕ} → Types s (e_text text) (typing (x_chars text) (unnamed k_chars))
    type_bool : {b : Bool} → Types s (e_bool b) (typing (x_bool b) (unnamed k_boolean))
    type_null : Types s e_null (typing x_null (unnamed k_bytes))
    -- a nested alias hides a field of the same name, and has no name as an item
    type_local : {name : List ℕ} {found : ℕ × FieldTree} → latest name s.locals ≡ Some found → Types s (e_field (ref.Name name)) (typing (x_local found.0) (nameless found.1))
    type_named : {name : List ℕ} {n : ℕ} {c : FieldTree} → latest name s.locals ≡ None → RefersTo s.columns (ref.Name name) n c → Types s (e_field (ref.Name name)) (typing (x_field n) c)
    type_numbered : {at n : ℕ} {c : FieldTree} → RefersTo s.columns (ref.Position at) n c → Types s (e_field (ref.Position at)) (typing (x_field n) c)
    type_chain : {a : ExprForm} {ls : LinkForms} {p : Typing} {whole : ChainSoFar} → Types s a p → Links s (begun p) ls whole → Types s (e_chain a ls) (chain_typing whole)
    type_compare : {r : Rel} {a b : ExprForm} {p q : Typing} {j : Join}
        → Types s a p → Types s b q → compared r (kind_in p) (kind_in q) ≡ Some j
        → Types s (e_compare r a b) (typing (x_compare r (cast_if j.left j.kind (typed_of p)) (cast_if j.right j.kind (typed_of q))) (unnamed k_boolean))
    type_is_null : {a : ExprForm} {negated : Bool} {p : Typing} → Types s a p → Types s (e_is_null a negated) (typing (x_is_null (typed_of p) negated) (unnamed k_boolean))
    type_not : {a : ExprForm} {p : Typing} {is_cast : Bool}
        → Types s a p → condition (kind_in p) ≡ Some is_cast → Types s (e_not a) (typing (x_not (cast_if is_cast k_boolean (typed_of p))) (unnamed k_boolean))
    type_minus : {a : ExprForm} {p : Typing} {k : KindTree} → Types s a p → minus_kind (kind_in p) ≡ Some k → Types s (e_minus a) (typing (x_minus (typed_of p)) (unnamed k))
    type_cast : {to : TypeTree} {a : ExprForm} {p : Typing} {d : FieldTree} {k : KindTree}
        → written (type_form to) ≡ Some d → limited (tree_kind d) ≡ Ok k → Types s a p → may_cast (kind_in p) (tree_kind d) ≡ true
        → Types s (e_cast to a) (typing (x_cast (tree_kind d) (typed_of p)) d)
    type_post : {a : ExprForm} {steps : List PostStep} {p q : Typing} → Types s a p → Walks p steps q → Types s (e_post a steps) q
    type_call : {name : List ℕ} {args : ExprForms} {f : Function} {ps : List Typing} {k l : KindTree}
        → function_named name ≡ Some f → allows f (count args) ≡ true → Args s args ps → call_kind f ps ≡ Some k → limited k ≡ Ok l
        → Types s (e_call name args) (typing (x_call (called f ps) (args_of (cast_args f ps))) (given f k (map typed_column ps)))
    type_choose : {a b c : ExprForm} {p q r : Typing} {is_cast : Bool} {j : Join}
        → Types s a p → condition (kind_in p) ≡ Some is_cast → Types s b q → Types s c r → alike (kind_in q) (kind_in r) ≡ Some j
        → Types s (e_choose a b c) (choice (cast_if is_cast k_boolean (typed_of p)) j q r)

  -- the links of a chain, from left to right
  pub data Links (s : Place) : ChainSoFar → LinkForms → ChainSoFar → Type 0 where
    links_end : {so_far : ChainSoFar} → Links s so_far no_links so_far
    links_go : {so_far whole : ChainSoFar} {o : ChainOp} {a : ExprForm} {ls : LinkForms} {p : Typing} {j : Join}
        → Types s a p → chained o so_far.kind (kind_in p) ≡ Some j → Links s (after so_far o j (typed_of p)) ls whole → Links s so_far (more_links o a ls) whole

  pub data Args (s : Place) : ExprForms → List Typing → Type 0 where
    args_end : Args s no_exprs []
    args_go : {a : ExprForm} {others : ExprForms} {p : Typing} {ps : List Typing} → Types s a p → Args s others ps → Args s (more_exprs a others) (p ∷ ps)
