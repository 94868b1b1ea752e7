-- What is typed writes no line end, where none stands in the texts of its form.
use Rattle.std.specs.Prelude.{◌+◌, ◌++◌, Bool, true, false, List, [], ◌∷◌, map, Option, Some, None, refl}
use Rattle.std.specs.List.{All, AllByRecursion}
use Rattle.std.proofs.lemmas.List.Elements.{All-head, All-tail}
use Rattle.pig_value.specs.Texts.{IsLineFree}
use Rattle.pig_value.specs.Trees.{KindTree}
use Rattle.pig_value.specs.declared.operators.ChainOp.{ChainOp}
use Rattle.pig_syntax.specs.ExprTrees.{ExprForm, LinkForms, ExprForms, no_links, more_links, expr_form, expr_forms}
use Rattle.pig_syntax.specs.Formed.{ChainRule, rule_of, ExprFormed, ExprsFormed, IsExprFormed, LinksFormed}
use Rattle.pig_syntax.specs.declared.trees.Expr.{Expr}
use Rattle.pig_syntax.specs.declared.trees.PostStep.{PostStep}
use Rattle.pig_typed.specs.Literals.{ArgLiteralsAre, LinkLiteralsAre, LiteralsAre}
use Rattle.pig_typed.specs.Typed.{Typed, args_of, links_of}
use Rattle.pig_typing.specs.declared.calls.Casting.{Casting}
use Rattle.pig_typing.specs.Calls.{casting, cast_by, cast_maybe}
use Rattle.pig_typing.specs.Columns.{Place}
use Rattle.pig_typing.specs.Conditions.{Conditions, a_condition, Keys, no_keys, more_keys}
use Rattle.pig_typing.specs.Joins.{Join, cast_if}
use Rattle.pig_typing.specs.Parts.{Typing, typed_of, kind_in, Steps, projects, looks, Walks, ends, goes}
use Rattle.pig_typing.specs.Typing.{Types, Links, Args, ChainSoFar, begun, after, kinds_as_given, type_int, type_long, type_text, type_bool, type_null, type_local, type_named, type_numbered, type_chain, type_compare, type_is_null, type_not, type_minus, type_cast, type_post, type_call, type_choose, links_end, links_go, args_end, args_go}

-- no literal of it holds a line end
abbrev pub IsFree : Typed → Type 0
IsFree t = LiteralsAre IsLineFree t

-- ---- casts that are inserted

cast_free : (is_cast : Bool) (k : KindTree) (t : Typed) → IsFree t → IsFree (cast_if is_cast k t)
cast_free true k t h = h
cast_free false k t h = h

maybe_free : (to : Option KindTree) (t : Typed) → IsFree t → IsFree (cast_maybe to t)
maybe_free (Some to) t h = h
maybe_free None t h = h

abbrev AreFree : List Typing → Type 0
AreFree ps = AllByRecursion (λ p. IsFree (typed_of p)) ps

args_free : (how : Casting) (ps : List Typing) → AreFree ps → ArgLiteralsAre IsLineFree (args_of (map (λ p. cast_maybe (cast_by how (kind_in p)) (typed_of p)) ps))
args_free how [] h = tt
args_free how (p ∷ ps) h = (maybe_free (cast_by how (kind_in p)) (typed_of p) h.0, args_free how ps h.1)

-- ---- steps and links

step_free : (p q : Typing) (step : PostStep) → IsFree (typed_of p) → Steps p step q → IsFree (typed_of q)
step_free p q step h (projects e g made within) = h
step_free p q step h (looks e) = h

walk_free : (p q : Typing) (steps : List PostStep) → IsFree (typed_of p) → Walks p steps q → IsFree (typed_of q)
walk_free p q steps h ends = h
walk_free p q steps h (goes {q = m} {s = step} {ss = more} g w) = walk_free m q more (step_free p m step h g) w

abbrev SoFarIsFree : ChainSoFar → Type 0
SoFarIsFree c = IsFree c.first × LinkLiteralsAre IsLineFree (links_of c.links)

links_append : (ls : List (ChainOp × Typed)) (o : ChainOp) (u : Typed) → LinkLiteralsAre IsLineFree (links_of ls) → IsFree u → LinkLiteralsAre IsLineFree (links_of (ls ++ (o, u) ∷ []))
links_append [] o u h g = (g, tt)
links_append (l ∷ ls) o u h g = (h.0, links_append ls o u h.1 g)

after_free : (c : ChainSoFar) (o : ChainOp) (j : Join) (u : Typed) → SoFarIsFree c → IsFree u → SoFarIsFree (after c o j u)
after_free c o j u h g = (cast_free j.left j.kind c.first h.0, links_append c.links o (cast_if j.right j.kind u) h.1 (cast_free j.right j.kind u g))

-- ---- expressions

mutual
  pub typing_free : (s : Place) (a : ExprForm) (p : Typing) → ExprFormed a → Types s a p → IsFree (typed_of p)
  typing_free s a p w type_int = tt
  typing_free s a p w type_long = tt
  typing_free s a p w type_text = w
  typing_free s a p w type_bool = tt
  typing_free s a p w type_null = tt
  typing_free s a p w (type_local e) = tt
  typing_free s a p w (type_named e means) = tt
  typing_free s a p w (type_numbered means) = tt
  typing_free s a p w (type_chain {a = b} {ls = no_links} h g) = absurd w
  typing_free s a p w (type_chain {a = b} {ls = more_links o c ls} {p = q} {whole = whole} h g) =
      links_free s (begun q) whole (rule_of o) (more_links o c ls) (refl, w.1, w.2) (typing_free s b q w.0 h, tt) g
  typing_free s a p w (type_compare {a = b} {b = c} {p = x} {q = y} {j = j} h g e) =
      (cast_free j.left j.kind (typed_of x) (typing_free s b x w.0 h), cast_free j.right j.kind (typed_of y) (typing_free s c y w.1 g))
  typing_free s a p w (type_is_null {a = b} {p = x} h) = typing_free s b x w h
  typing_free s a p w (type_not {a = b} {p = x} {is_cast = cast_so} h e) = cast_free cast_so _ (typed_of x) (typing_free s b x w h)
  typing_free s a p w (type_minus {a = b} {p = x} h e) = typing_free s b x w h
  typing_free s a p w (type_cast {a = b} {p = x} is within h may) = typing_free s b x w.1 h
  typing_free s a p w (type_post {a = b} {steps = steps} {p = x} h g) = walk_free x p steps (typing_free s b x w.0 h) g
  typing_free s a p w (type_call {args = args} {f = f} {ps = ps} e t h made within) = args_free (casting f (kinds_as_given ps)) ps (all_free s args ps w.1 h)
  typing_free s a p w (type_choose {a = b} {b = c} {c = d} {p = x} {q = y} {r = z} {is_cast = cast_so} {j = j} h e g k e') = (
    cast_free cast_so _ (typed_of x) (typing_free s b x w.0 h),
    cast_free j.left j.kind (typed_of y) (typing_free s c y w.1 g),
    cast_free j.right j.kind (typed_of z) (typing_free s d z w.2 k),
  )

  links_free : (s : Place) (c whole : ChainSoFar) (rule : ChainRule) (ls : LinkForms) → LinksFormed rule ls → SoFarIsFree c → Links s c ls whole → SoFarIsFree whole
  links_free s c whole rule ls w h links_end = h
  links_free s c whole rule ls w h (links_go {o = o} {a = a} {ls = more} {p = p} {j = j} t e g) =
      links_free s (after c o j (typed_of p)) whole rule more w.2 (after_free c o j (typed_of p) h (typing_free s a p w.1 t)) g

  all_free : (s : Place) (args : ExprForms) (ps : List Typing) → ExprsFormed args → Args s args ps → AreFree ps
  all_free s args ps w args_end = tt
  all_free s args ps w (args_go {a = a} {others = others} {p = p} {ps = more} h g) = (typing_free s a p w.0 h, all_free s others more w.1 g)

-- ---- conditions and keys

pub condition_free : (s : Place) (a : ExprForm) (t : Typed) → ExprFormed a → Conditions s a t → IsFree t
condition_free s a t w (a_condition {p = p} {is_cast = cast_so} h e) = cast_free cast_so _ (typed_of p) (typing_free s a p w h)

pub keys_free : (s : Place) (es : ExprForms) (ps : List Typing) → ExprsFormed es → Keys s es ps → AllByRecursion (λ p. IsFree (typed_of p)) ps
keys_free s es ps w no_keys = tt
keys_free s es ps w (more_keys {a = a} {others = others} {p = p} {ps = more} h e g) = (typing_free s a p w.0 h, keys_free s others more w.1 g)

-- the keys of an input, each formed
pub formed_keys : (keys : List Expr) → All IsExprFormed keys → ExprsFormed (expr_forms (map expr_form keys))
formed_keys [] h = tt
formed_keys (key ∷ keys) h = (All-head IsExprFormed key keys h, formed_keys keys (All-tail IsExprFormed key keys h))
