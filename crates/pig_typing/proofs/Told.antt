-- What the reader of expressions tells holds: a typing is one, and of what is refused a condition holds.
use Rattle.std.proofs.Common.{◌≡◌, ℕ, List, refl, subst, Bool, true, false}
use Rattle.std.specs.Prelude.{Option, Some, None, if◌then◌else◌}
use Rattle.std.specs.Bool.{Decides}
use Rattle.std.specs.Str.{bytes_eq}
use Rattle.std.specs.declared.result.Result.TheVariants.{Ok, Err}
use Rattle.std.proofs.lemmas.Bool.{false≢true}
use Rattle.std.proofs.lemmas.Slice.Eq.{bytes_eq-Decides}
use Rattle.pig_value.specs.Casts.{may_cast}
use Rattle.pig_value.specs.Functions.{function_named}
use Rattle.pig_value.specs.Trees.{KindTree}
use Rattle.pig_value.specs.declared.functions.Function.{Function}
use Rattle.pig_value.specs.declared.operators.ChainOp.{ChainOp}
use Rattle.pig_schema.specs.FieldTrees.{FieldTree, tree_kind}
use Rattle.pig_syntax.specs.ExprTrees.{ExprForm, LinkForms, ExprForms, e_int, e_long, e_float, e_text, e_bool, e_null, e_field, e_chain, e_compare, e_is_null, e_not, e_minus, e_cast, e_post, e_call, e_choose, no_links, more_links, no_exprs, more_exprs, type_form}
use Rattle.pig_syntax.specs.declared.trees.FieldRef.{FieldRef}
use Rattle.pig_syntax.specs.declared.trees.FieldRef.TheVariants as ref
use Rattle.pig_syntax.specs.declared.trees.TypeTree.{TypeTree}
use Rattle.pig_typed.specs.ExprKinds.{minus_kind}
use Rattle.pig_typed.specs.Typed.{x_cast}
use Rattle.pig_typing.specs.declared.faults.CheckKind.{CheckKind}
use Rattle.pig_typing.specs.declared.faults.CheckKind.TheVariants as kind
use Rattle.pig_typing.specs.Calls.{average, allows}
use Rattle.pig_typing.specs.Columns.{Place, latest, refer}
use Rattle.pig_typing.specs.Faults.{LinksWrong, Wrong, InLinks, InArgs, Faults, here, later, own, inside, wrong_float, wrong_type, wrong_average, wrong_name, wrong_position, wrong_chain, wrong_compare, wrong_not, wrong_minus, wrong_condition, wrong_choice, wrong_cast, wrong_size, wrong_step, wrong_function, wrong_count, wrong_args, wrong_given, in_link, in_later, in_arg, in_others, of_first, of_link, of_left, of_right, of_is_null, of_not, of_minus, of_cast, of_post, of_arg, of_condition, of_yes, of_no}
use Rattle.pig_typing.specs.Joins.{Join, alike, chained, compared, condition}
use Rattle.pig_typing.specs.Limits.{limited}
use Rattle.pig_typing.specs.Parts.{Typing, typing, typed_of, kind_in, steps_of}
use Rattle.pig_typing.specs.Reader.{field_of, local_or, reference_of, compare_of, condition_of, minus_of, choose_of, type_of_cast, typed_cast, typed_link, with_count, function_of, call_of, kind_due, type_of, links_on, args_on}
use Rattle.pig_typing.specs.Results.{Checked, due}
use Rattle.pig_typing.specs.Typing.{Types, Links, Args, ChainSoFar, begun, after, call_kind, count, type_int, type_long, type_text, type_bool, type_null, type_local, type_named, type_numbered, type_chain, type_compare, type_is_null, type_not, type_minus, type_cast, type_post, type_call, type_choose, links_end, links_go, args_end, args_go}
use Rattle.pig_typing.specs.Written.{written}
use Rattle.pig_typing.proofs.Chains.{then_told, passes, then_is, due_is, due_made}
use Rattle.pig_typing.proofs.References.{IsReferred, referred, IsWalk, walked}

abbrev pub IsTold : Place → ExprForm → Checked Typing → Type 0
IsTold s a (Ok p) = Types s a p
IsTold s a (Err f) = Faults s a f

-- a refusal of links: of their operators, or of an operand
data LinksFault (s : Place) : ChainSoFar → LinkForms → CheckKind → Type 0 where
  of_links : {c : ChainSoFar} {ls : LinkForms} → LinksWrong s c ls → LinksFault s c ls kind.TypeMismatch
  in_links : {c : ChainSoFar} {ls : LinkForms} {b : ExprForm} {f : CheckKind} → InLinks b ls → Faults s b f → LinksFault s c ls f

abbrev AreTold : Place → ChainSoFar → LinkForms → Checked ChainSoFar → Type 0
AreTold s c ls (Ok whole) = Links s c ls whole
AreTold s c ls (Err f) = LinksFault s c ls f

abbrev ArgsTold : Place → ExprForms → Checked (List Typing) → Type 0
ArgsTold s args (Ok ps) = Args s args ps
ArgsTold s args (Err f) = (b : ExprForm) × InArgs b args × Faults s b f

later_links : (s : Place) (c : ChainSoFar) (o : ChainOp) (a : ExprForm) (ls : LinkForms) (p : Typing) (j : Join) (f : CheckKind)
    → Types s a p → chained o c.kind (kind_in p) ≡ Some j → LinksFault s (after c o j (typed_of p)) ls f → LinksFault s c (more_links o a ls) f
later_links s c o a ls p j f h e (of_links g) = of_links (later h e g)
later_links s c o a ls p j f h e (in_links b g) = in_links (in_later b) g

chain_fault : (s : Place) (a : ExprForm) (ls : LinkForms) (p : Typing) (f : CheckKind) → Types s a p → LinksFault s (begun p) ls f → Faults s (e_chain a ls) f
chain_fault s a ls p f h (of_links g) = own (wrong_chain h g)
chain_fault s a ls p f h (in_links b g) = inside (of_link b) g

-- ---- names

name_told : (s : Place) (r : FieldRef) → IsTold s (e_field r) (reference_of s r)
unfolding reference_of field_of
name_told s (ref.Name name) = by (latest name s.locals) refl
  where
    by : (o : Option (ℕ × FieldTree)) → latest name s.locals ≡ o → IsTold s (e_field (ref.Name name)) (local_or o (field_of s.columns (ref.Name name)))
    by (Some found) e = type_local e
    by None e = then_told (IsReferred s.columns (ref.Name name)) (IsTold s (e_field (ref.Name name))) _ (refer s.columns (ref.Name name)) (referred s.columns (ref.Name name)) (λ p h. type_named e h) (λ f h. own (wrong_name e h))
name_told s (ref.Position n) =
    then_told (IsReferred s.columns (ref.Position n)) (IsTold s (e_field (ref.Position n))) _ (refer s.columns (ref.Position n)) (referred s.columns (ref.Position n)) (λ p h. type_numbered h) (λ f h. own (wrong_position h))

-- ---- types and functions

abbrev CastTold : Place → TypeTree → ExprForm → Checked FieldTree → Type 0
CastTold s to a (Ok d) = (written (type_form to) ≡ Some d) × ((k : KindTree) × (limited (tree_kind d) ≡ Ok k))
CastTold s to a (Err f) = Wrong s (e_cast to a) f

cast_told : (s : Place) (to : TypeTree) (a : ExprForm) → CastTold s to a (type_of_cast (type_form to))
unfolding type_of_cast
cast_told s to a =
    due_is (CastTold s to a) _ kind.FloatType (written (type_form to))
    (λ d e. then_is (CastTold s to a) _ (limited (tree_kind d)) (λ k within. (e, (k, within))) (λ f past. wrong_size e past))
    (λ e. wrong_type e)

abbrev FunctionTold : Place → List ℕ → ExprForms → Checked Function → Type 0
FunctionTold s name args (Ok g) = function_named name ≡ Some g
FunctionTold s name args (Err f) = Wrong s (e_call name args) f

function_told : (s : Place) (name : List ℕ) (args : ExprForms) → FunctionTold s name args (function_of name)
unfolding function_of
function_told s name args = by (function_named name) refl (bytes_eq name average) (bytes_eq-Decides name average)
  where
    by : (o : Option Function) → function_named name ≡ o → (same : Bool) → Decides same (name ≡ average)
        → FunctionTold s name args (due (if same then kind.FloatType else kind.UnknownFunction) o)
    by (Some g) e same d = e
    by None e true d = wrong_average (d.0 refl)
    by None e false d = wrong_function e (λ k. false≢true (d.1 k))

abbrev CountTold : Place → List ℕ → ExprForms → Function → Checked Function → Type 0
CountTold s name args g (Ok h) = (g ≡ h) × (allows g (count args) ≡ true)
CountTold s name args g (Err f) = Wrong s (e_call name args) f

count_told : (s : Place) (name : List ℕ) (args : ExprForms) (g : Function) → function_named name ≡ Some g → CountTold s name args g (with_count (count args) g)
unfolding with_count
count_told s name args g e = by (allows g (count args)) refl
  where
    by : (b : Bool) → allows g (count args) ≡ b → CountTold s name args g (if b then Ok g else Err kind.WrongArguments)
    by true t = (refl, t)
    by false t = wrong_count e t

-- the kind that is due, within the limits
abbrev IsDue : Place → List ℕ → ExprForms → Function → List Typing → Checked KindTree → Type 0
IsDue s name args g ps (Ok k) = (call_kind g ps ≡ Some k) × ((l : KindTree) × (limited k ≡ Ok l))
IsDue s name args g ps (Err f) = Faults s (e_call name args) f

due_told : (s : Place) (name : List ℕ) (args : ExprForms) (g : Function) (ps : List Typing)
    → function_named name ≡ Some g → allows g (count args) ≡ true → Args s args ps → IsDue s name args g ps (kind_due g ps)
unfolding kind_due
due_told s name args g ps e t h =
    due_is (IsDue s name args g ps) _ kind.TypeMismatch (call_kind g ps)
    (λ k made. then_is (IsDue s name args g ps) _ (limited k) (λ l within. (made, (l, within))) (λ f past. own (wrong_given e h made past)))
    (λ made. own (wrong_args e t h made))

call_told : (s : Place) (name : List ℕ) (args : ExprForms) (g : Function) (ps : List Typing)
    → function_named name ≡ Some g → allows g (count args) ≡ true → Args s args ps → IsTold s (e_call name args) (call_of g ps)
unfolding call_of
call_told s name args g ps e t h =
    then_told (IsDue s name args g ps) (IsTold s (e_call name args)) _ (kind_due g ps) (due_told s name args g ps e t h)
    (λ k w. type_call e t h w.0 w.1.1)
    (λ f w. w)

converted_told : (s : Place) (to : TypeTree) (a : ExprForm) (d : FieldTree) (p : Typing) → CastTold s to a (Ok d) → Types s a p → IsTold s (e_cast to a) (typed_cast d p)
unfolding typed_cast
converted_told s to a d p w h = by (may_cast (kind_in p) (tree_kind d)) refl
  where
    by : (b : Bool) → may_cast (kind_in p) (tree_kind d) ≡ b → IsTold s (e_cast to a) (if b then Ok (typing (x_cast (tree_kind d) (typed_of p)) d) else Err kind.TypeMismatch)
    by true t = type_cast w.0 w.1.1 h t
    by false t = own (wrong_cast w.0 h t)

-- ---- expressions

mutual
  unfolding type_of links_on args_on typed_link compare_of condition_of minus_of choose_of

  pub told : (s : Place) (a : ExprForm) → IsTold s a (type_of s a)
  told s (e_int z) = type_int
  told s (e_long z) = type_long
  told s e_float = own wrong_float
  told s (e_text text) = type_text
  told s (e_bool b) = type_bool
  told s e_null = type_null
  told s (e_field r) = name_told s r
  told s (e_chain a ls) =
      then_told (IsTold s a) (IsTold s (e_chain a ls)) _ (type_of s a) (told s a)
      (λ p h. then_told (AreTold s (begun p) ls) (IsTold s (e_chain a ls)) _ (links_on s (begun p) ls) (links_told s (begun p) ls) (λ whole g. type_chain h g) (λ f g. chain_fault s a ls p f h g))
      (λ f h. inside of_first h)
  told s (e_compare r a b) =
      then_told (IsTold s a) (IsTold s (e_compare r a b)) _ (type_of s a) (told s a)
      (λ p h. then_told (IsTold s b) (IsTold s (e_compare r a b)) _ (type_of s b) (told s b)
      (λ q g. due_is (IsTold s (e_compare r a b)) _ kind.TypeMismatch (compared r (kind_in p) (kind_in q)) (λ j e. type_compare h g e) (λ e. own (wrong_compare h g e)))
      (λ f g. inside of_right g))
      (λ f h. inside of_left h)
  told s (e_is_null a negated) =
      then_told (IsTold s a) (IsTold s (e_is_null a negated)) _ (type_of s a) (told s a) (λ p h. type_is_null h) (λ f h. inside of_is_null h)
  told s (e_not a) =
      then_told (IsTold s a) (IsTold s (e_not a)) _ (type_of s a) (told s a)
      (λ p h. due_made (IsTold s (e_not a)) _ _ kind.TypeMismatch (condition (kind_in p)) (λ is_cast e. type_not h e) (λ e. own (wrong_not h e)))
      (λ f h. inside of_not h)
  told s (e_minus a) =
      then_told (IsTold s a) (IsTold s (e_minus a)) _ (type_of s a) (told s a)
      (λ p h. due_is (IsTold s (e_minus a)) _ kind.TypeMismatch (minus_kind (kind_in p)) (λ k e. type_minus h e) (λ e. own (wrong_minus h e)))
      (λ f h. inside of_minus h)
  told s (e_cast to a) =
      then_told (CastTold s to a) (IsTold s (e_cast to a)) _ (type_of_cast (type_form to)) (cast_told s to a)
      (λ d w. then_told (IsTold s a) (IsTold s (e_cast to a)) _ (type_of s a) (told s a) (λ p h. converted_told s to a d p w h) (λ f h. inside of_cast h))
      (λ f h. own h)
  told s (e_post a steps) =
      then_told (IsTold s a) (IsTold s (e_post a steps)) _ (type_of s a) (told s a)
      (λ p h. passes (IsWalk p steps) (IsTold s (e_post a steps)) (steps_of p steps) (walked p steps) (λ q g. type_post h g) (λ f g. own (wrong_step h g)))
      (λ f h. inside of_post h)
  told s (e_call name args) =
      then_told (FunctionTold s name args) (IsTold s (e_call name args)) _ (function_of name) (function_told s name args)
      (λ g e. then_told (CountTold s name args g) (IsTold s (e_call name args)) _ (with_count (count args) g) (count_told s name args g e)
      (λ g' t. then_told (ArgsTold s args) (IsTold s (e_call name args)) _ (args_on s args) (args_told s args)
      (λ ps h. subst (λ x. IsTold s (e_call name args) (call_of x ps)) t.0 (call_told s name args g ps e t.1 h))
      (λ f h. inside (of_arg h.1) h.2))
      (λ f w. own w))
      (λ f w. own w)
  told s (e_choose a b c) =
      then_told (IsTold s a) (IsTold s (e_choose a b c)) _ (type_of s a) (told s a)
      (λ p h. due_made (IsTold s (e_choose a b c)) _ _ kind.TypeMismatch (condition (kind_in p))
      (λ is_cast e. then_told (IsTold s b) (IsTold s (e_choose a b c)) _ (type_of s b) (told s b)
      (λ q g. then_told (IsTold s c) (IsTold s (e_choose a b c)) _ (type_of s c) (told s c)
      (λ r k. due_is (IsTold s (e_choose a b c)) _ kind.TypeMismatch (alike (kind_in q) (kind_in r)) (λ j e'. type_choose h e g k e') (λ e'. own (wrong_choice g k e')))
      (λ f k. inside of_no k))
      (λ f g. inside of_yes g))
      (λ e. own (wrong_condition h e)))
      (λ f h. inside of_condition h)

  links_told : (s : Place) (c : ChainSoFar) (ls : LinkForms) → AreTold s c ls (links_on s c ls)
  links_told s c no_links = links_end
  links_told s c (more_links o a ls) =
      then_told (IsTold s a) (AreTold s c (more_links o a ls)) _ (type_of s a) (told s a)
      (λ p h. due_made (AreTold s c (more_links o a ls)) _ _ kind.TypeMismatch (chained o c.kind (kind_in p))
      (λ j e. passes (AreTold s (after c o j (typed_of p)) ls) (AreTold s c (more_links o a ls)) (links_on s (after c o j (typed_of p)) ls) (links_told s (after c o j (typed_of p)) ls)
      (λ whole g. links_go h e g) (λ f g. later_links s c o a ls p j f h e g))
      (λ e. of_links (here h e)))
      (λ f h. in_links in_link h)

  args_told : (s : Place) (args : ExprForms) → ArgsTold s args (args_on s args)
  args_told s no_exprs = args_end
  args_told s (more_exprs a others) =
      then_told (IsTold s a) (ArgsTold s (more_exprs a others)) _ (type_of s a) (told s a)
      (λ p h. then_told (ArgsTold s others) (ArgsTold s (more_exprs a others)) _ (args_on s others) (args_told s others)
      (λ ps g. args_go h g) (λ f g. (g.0, in_others g.1, g.2)))
      (λ f h. (a, in_arg, h))
