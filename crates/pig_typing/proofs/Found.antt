-- What holds is found: an expression that has a typing is told it, and one of which a condition of refusal holds is refused.
use Rattle.std.proofs.Common.{◌≡◌, ◌∙◌, List, refl, sym, Bool, true, false}
use Rattle.std.specs.Prelude.{None, if◌then◌else◌}
use Rattle.std.specs.declared.result.Result.TheVariants.{Ok, Err}
use Rattle.pig_value.specs.Functions.{function_named}
use Rattle.pig_schema.specs.FieldTrees.{tree_kind}
use Rattle.pig_syntax.specs.ExprTrees.{ExprForm, LinkForms, ExprForms, type_form}
use Rattle.pig_typing.specs.declared.faults.CheckKind.{CheckKind}
use Rattle.pig_typing.specs.Calls.{average, allows}
use Rattle.pig_typing.specs.Columns.{Place}
use Rattle.pig_typing.specs.Faults.{LinksWrong, Wrong, InLinks, InArgs, Operand, Faults, here, later, own, inside, wrong_float, wrong_type, wrong_average, wrong_name, wrong_position, wrong_chain, wrong_compare, wrong_not, wrong_minus, wrong_condition, wrong_choice, wrong_cast, wrong_size, wrong_step, wrong_function, wrong_count, wrong_args, wrong_given, in_link, in_later, in_arg, in_others, of_first, of_link, of_left, of_right, of_is_null, of_not, of_minus, of_cast, of_post, of_arg, of_condition, of_yes, of_no}
use Rattle.pig_typing.specs.Limits.{limited}
use Rattle.pig_typing.specs.Parts.{Typing}
use Rattle.pig_typing.specs.Reader.{field_of, reference_of, compare_of, condition_of, minus_of, choose_of, type_of_cast, typed_cast, typed_link, with_count, function_of, call_of, kind_due, type_of, links_on, args_on}
use Rattle.pig_typing.specs.Results.{Checked, ◌>>=◌}
use Rattle.pig_typing.specs.Typing.{Types, Links, Args, ChainSoFar, begun, count, type_int, type_long, type_text, type_bool, type_null, type_local, type_named, type_numbered, type_chain, type_compare, type_is_null, type_not, type_minus, type_cast, type_post, type_call, type_choose, links_end, links_go, args_end, args_go}
use Rattle.pig_typing.proofs.References.{Fails, failed, fails_first, fails_next, not_both, refer_is, refer_fails, walk_is, walk_fails}

-- ---- a typing is told

mutual
  unfolding type_of links_on args_on typed_link reference_of field_of compare_of condition_of minus_of choose_of type_of_cast typed_cast with_count function_of call_of kind_due

  pub found : {s : Place} {a : ExprForm} {p : Typing} → Types s a p → type_of s a ≡ Ok p
  found type_int = refl
  found type_long = refl
  found type_text = refl
  found type_bool = refl
  found type_null = refl
  found (type_local e) = rw (e) refl
  found (type_named e means) = rw (e, refer_is means) refl
  found (type_numbered means) = rw (refer_is means) refl
  found (type_chain h g) = rw (found h, links_found g) refl
  found (type_compare h g e) = rw (found h, found g, e) refl
  found (type_is_null h) = rw (found h) refl
  found (type_not h e) = rw (found h, e) refl
  found (type_minus h e) = rw (found h, e) refl
  found (type_cast w within h t) = rw (w, within, found h, t) refl
  found (type_post h g) = rw (found h) (walk_is g)
  found (type_call e t h made within) = rw (e, t, args_found h, made, within) refl
  found (type_choose h e g k e') = rw (found h, e, found g, found k, e') refl

  pub links_found : {s : Place} {c whole : ChainSoFar} {ls : LinkForms} → Links s c ls whole → links_on s c ls ≡ Ok whole
  links_found links_end = refl
  links_found (links_go h e g) = rw (found h, e) (links_found g)

  pub args_found : {s : Place} {args : ExprForms} {ps : List Typing} → Args s args ps → args_on s args ≡ Ok ps
  args_found args_end = refl
  args_found (args_go h g) = rw (found h, args_found g) refl

-- ---- a refusal is told

links_fail : {s : Place} {c : ChainSoFar} {ls : LinkForms} → LinksWrong s c ls → Fails (links_on s c ls)
unfolding links_on typed_link
links_fail (here h e) = rw (found h, e) failed
links_fail (later h e g) = rw (found h, e) (links_fail g)

average_is_none : function_named average ≡ None
unfolding function_named
average_is_none = refl

-- what follows a result that is handed on, and one that is handed on by a test
pub kept_fails : {A B C : Type 0} (d : A) (next : A → Checked B) (r : Checked C) → Fails (next d) → Fails ((r >>= λ k. Ok d) >>= next)
kept_fails d next (Ok k) h = h
kept_fails d next (Err f) h = failed

tested_fails : {A B : Type 0} (f : CheckKind) (b : Bool) (g : A) (next : A → Checked B) → Fails (next g) → Fails ((if b then Ok g else Err f) >>= next)
tested_fails f true g next h = h
tested_fails f false g next h = failed

wrong_fails : {s : Place} {a : ExprForm} {f : CheckKind} → Wrong s a f → Fails (type_of s a)
unfolding type_of reference_of field_of compare_of condition_of minus_of choose_of type_of_cast typed_cast with_count function_of call_of kind_due
wrong_fails wrong_float = failed
wrong_fails (wrong_type e) = rw (e) failed
wrong_fails (wrong_average e) = rw (e, average_is_none) failed
wrong_fails (wrong_name e means) = rw (e, refer_fails means) failed
wrong_fails (wrong_position means) = rw (refer_fails means) failed
wrong_fails (wrong_chain h g) = rw (found h) (fails_first _ (links_fail g))
wrong_fails (wrong_compare h g e) = rw (found h, found g, e) failed
wrong_fails (wrong_not h e) = rw (found h, e) failed
wrong_fails (wrong_minus h e) = rw (found h, e) failed
wrong_fails (wrong_condition h e) = rw (found h, e) failed
wrong_fails {s = s} (wrong_choice {a = a} h g e) = fails_next _ (type_of s a) (λ p. fails_next _ (condition_of p) (λ t. rw (found h, found g, e) failed))
wrong_fails (wrong_cast {d = d} w h t) = rw (w) (kept_fails d _ (limited (tree_kind d)) (rw (found h, t) failed))
wrong_fails (wrong_size w past) = rw (w, past) failed
wrong_fails (wrong_step h g) = rw (found h) (walk_fails g)
wrong_fails (wrong_function e other) = rw (e) failed
wrong_fails (wrong_count e t) = rw (e, t) failed
wrong_fails (wrong_args e t h made) = rw (e, t, args_found h, made) failed
wrong_fails (wrong_given {args = args} {g = g} e h made past) = rw (e) (tested_fails _ (allows g (count args)) g _ (rw (args_found h, made, past) failed))

-- ---- an operand's refusal is the whole's

links_operand : (s : Place) (c : ChainSoFar) {b : ExprForm} {ls : LinkForms} → InLinks b ls → Fails (type_of s b) → Fails (links_on s c ls)
unfolding links_on typed_link
links_operand s c in_link h = fails_first _ h
links_operand s c (in_later {b = b} i) h = fails_next _ (type_of s b) (λ p. fails_next _ _ (λ next. links_operand s next i h))

args_operand : (s : Place) {b : ExprForm} {args : ExprForms} → InArgs b args → Fails (type_of s b) → Fails (args_on s args)
unfolding args_on
args_operand s in_arg h = fails_first _ h
args_operand s (in_others {b = b} i) h = fails_next _ (type_of s b) (λ p. fails_first _ (args_operand s i h))

operand_fails : (s : Place) {a b : ExprForm} → Operand b a → Fails (type_of s b) → Fails (type_of s a)
unfolding type_of
operand_fails s of_first h = fails_first _ h
operand_fails s (of_link {a = a} i) h = fails_next _ (type_of s a) (λ p. fails_first _ (links_operand s (begun p) i h))
operand_fails s of_left h = fails_first _ h
operand_fails s (of_right {a = a}) h = fails_next _ (type_of s a) (λ p. fails_first _ h)
operand_fails s of_is_null h = fails_first _ h
operand_fails s of_not h = fails_first _ h
operand_fails s of_minus h = fails_first _ h
operand_fails s (of_cast {to = to}) h = fails_next _ (type_of_cast (type_form to)) (λ d. fails_first _ h)
operand_fails s of_post h = fails_first _ h
operand_fails s (of_arg {name = name} {args = args} i) h = fails_next _ (function_of name) (λ f. fails_next _ (with_count (count args) f) (λ g. fails_first _ (args_operand s i h)))
operand_fails s of_condition h = fails_first _ h
operand_fails s (of_yes {a = a}) h = fails_next _ (type_of s a) (λ p. fails_next _ (condition_of p) (λ t. fails_first _ h))
operand_fails s (of_no {a = a} {b = b}) h = fails_next _ (type_of s a) (λ p. fails_next _ (condition_of p) (λ t. fails_next _ (type_of s b) (λ q. fails_first _ h)))

pub fails : {s : Place} {a : ExprForm} {f : CheckKind} → Faults s a f → Fails (type_of s a)
fails (own w) = wrong_fails w
fails {s = s} (inside i h) = operand_fails s i (fails h)

-- ---- so there is one typing, or a refusal, and never both

pub one_typing : {s : Place} {a : ExprForm} {p q : Typing} → Types s a p → Types s a q → p ≡ q
one_typing h g = let e : Ok _ ≡ Ok _ = sym (found h) ∙ found g in cc

pub never_both : {s : Place} {a : ExprForm} {p : Typing} {f : CheckKind} → Types s a p → Faults s a f → ⊥
never_both h g = not_both (found h) (fails g)
