-- Names, types and expressions that are read from tokens without an LF have trees as the grammar gives them.
use Rattle.std.specs.Prelude.{◌≡◌, ◌≢◌, ℕ, true, false, List, [], ◌∷◌, ◌++◌, map, Option, Some, None, All, IfSome, codes}
use Rattle.std.proofs.Common.{refl, sym, subst, arith}
use Rattle.std.proofs.lemmas.List.Elements.{All-append, All-cons, All-nil}
use Rattle.pig_value.specs.declared.operators.ChainOp.{ChainOp}
use Rattle.pig_value.specs.declared.operators.ChainOp.TheVariants as op
use Rattle.pig_value.specs.declared.operators.Rel.TheVariants as rel
use Rattle.pig_value.specs.Texts.{HasNoLf}
use Rattle.pig_syntax.specs.declared.tokens.Keyword.{Keyword}
use Rattle.pig_syntax.specs.declared.tokens.Keyword.TheVariants as k
use Rattle.pig_syntax.specs.declared.tokens.Symbol.TheVariants as s
use Rattle.pig_syntax.specs.declared.tokens.TokenForm.{TokenForm}
use Rattle.pig_syntax.specs.declared.tokens.TokenForm.TheVariants as f
use Rattle.pig_syntax.specs.declared.trees.Expr.{Expr}
use Rattle.pig_syntax.specs.declared.trees.Expr.TheVariants as e
use Rattle.pig_syntax.specs.declared.trees.FieldRef.{FieldRef}
use Rattle.pig_syntax.specs.declared.trees.FieldTree.{FieldTree}
use Rattle.pig_syntax.specs.declared.trees.Link.{Link}
use Rattle.pig_syntax.specs.declared.trees.PostStep.{PostStep}
use Rattle.pig_syntax.specs.declared.trees.PostStep.TheVariants as step
use Rattle.pig_syntax.specs.declared.trees.TypeTree.{TypeTree}
use Rattle.pig_syntax.specs.declared.trees.TypeTree.TheVariants as type
use Rattle.pig_syntax.specs.ExprTrees.{TypeForm, FieldForms, no_fields, typed_field, bare_field, type_form, field_form, field_forms, more_links, link_forms, link_form, expr_forms, expr_form}
use Rattle.pig_syntax.specs.Formed.{AtLeast, FieldRefFormed, PostStepFormed, SelectionFormed, TypeFormed, FieldsFormed, MoreFieldsFormed, SchemaFormed, ChainRule, disjunction, conjunction, sum as sums, product, rule_of, ExprFormed, LinksFormed, ExprsFormed, IsExprFormed}
use Rattle.pig_syntax.specs.Tokens.{HoldsNoLf, is_in_line}
use Rattle.pig_syntax.proofs.LineFree.{no_lf}
use Rattle.pig_syntax.proofs.ExprTreeLaws.{form-Int, form-Long, form-Float, form-Text, form-Bool, form-Null, form-Field, form-Chain, form-Compare, form-IsNull, form-Not, form-Minus, form-Cast, form-Post, form-Call, form-Choose, link_is, form-TypeInt, form-TypeLong, form-Chararray, form-Bytearray, form-Boolean, form-TypeFloat, form-Tuple, form-Bag, form-Map, form-MapBare, field_typed as typed_is, field_bare as bare_is}
use Rattle.pig_exprs.specs.Grammar.{Forms, Listed, part_of, IsName, IsFieldRef, IsSelection, scalar_of, IsType, IsTuple, IsBag, IsMap, IsSchema, AreSchemaFields, IsSchemaField, IsCastType, Level, expr, and_chain, sum, term, chain_op, token_literal, chain_of, equals, is_among, choice_of, compared, ArePostSteps, ReadsExpr, AreWhens, IsLast, Links, AreExprs}

-- no token holds an LF
abbrev pub Free : Forms → Type 0
Free [] = Unit {0}
Free (t ∷ ts) = HoldsNoLf t × Free ts

-- the tree is such, and the tokens behind it hold no LF
pub record Formed (tree_is : Type 0) (rest : Forms) : Type 0 where
  pub tree : tree_is
  pub free : Free rest

pub listed_formed : {X : Type 0} {rule : Forms → X → Forms → Type 0} (P : X → Type 0) → ((ts : Forms) (x : X) (rest : Forms) → rule ts x rest → Free ts → Formed (P x) rest)
    → {ts rest : Forms} {xs : List X} → Listed rule ts xs rest → Free ts → Formed (AtLeast 1 P xs) rest
listed_formed P each (Listed.last {ts} {rest} {x} h) free =
    let one = each ts x rest h free in
    record { tree = record { many = omega arith; each = All-cons P x [] one.tree (All-nil P) }; free = one.free }
listed_formed P each (Listed.more {ts} {mid} {rest} {x} {xs} h later) free =
    let one = each ts x (f.Symbol s.Comma ∷ mid) h free in
    let others = listed_formed P each later one.free.1 in
    record { tree = record { many = omega arith; each = All-cons P x xs one.tree others.tree.each }; free = others.free }

-- ---- names

group_free : (text : List ℕ) → text ≡ codes "group" → HasNoLf text
group_free text e = subst HasNoLf (sym e) (no_lf is_in_line refl (codes "group") refl)

cube_free : (text : List ℕ) → text ≡ codes "cube" → HasNoLf text
cube_free text e = subst HasNoLf (sym e) (no_lf is_in_line refl (codes "cube") refl)

part_free : (t : TokenForm) (text : List ℕ) → part_of t ≡ Some text → HoldsNoLf t → HasNoLf text
part_free (f.Ident name) text e h = let same : name ≡ text = cc in subst HasNoLf same h
part_free (f.Keyword k.Group) text e h = group_free text (cc)
part_free (f.Keyword k.Cube) text e h = cube_free text (cc)
part_free t text e h = absurd (cc)

pub name_formed : {ts rest : Forms} {text : List ℕ} → IsName ts text rest → Free ts → Formed (HasNoLf text) rest
name_formed (IsName.part {t = t} {text = text} is) free = record { tree = part_free t text is free.0; free = free.1 }
name_formed (IsName.parts {t = t} {text = text} {name = name} is more) free =
    let later = name_formed more free.1.1 in
    record {
      tree = All-append (λ b. b ≢ 10) (text ++ codes "::") name (All-append (λ b. b ≢ 10) text (codes "::") (part_free t text is free.0) (no_lf is_in_line refl (codes "::") refl)) later.tree;
      free = later.free;
    }

pub field_ref_formed : {ts rest : Forms} {r : FieldRef} → IsFieldRef ts r rest → Free ts → Formed (FieldRefFormed r) rest
field_ref_formed (IsFieldRef.name h) free = let name = name_formed h free in record { tree = name.tree; free = name.free }
field_ref_formed IsFieldRef.position free = record { tree = tt; free = free.1 }

pub selection_formed : {ts rest : Forms} {p : PostStep} → IsSelection ts p rest → Free ts → Formed (SelectionFormed p) rest
selection_formed (IsSelection.one {r = r} h) free =
    let field = field_ref_formed h free in
    record { tree = record { some = record { many = omega arith; each = All-cons FieldRefFormed r [] field.tree (All-nil FieldRefFormed) }; alone = λ single. refl }; free = field.free }
selection_formed (IsSelection.several h) free =
    let fields = listed_formed FieldRefFormed (λ ts r rest is from. field_ref_formed is from) h free.1 in
    record { tree = record { some = fields.tree; alone = λ single. absurd (cc) }; free = fields.free.1 }

-- ---- types

float_formed : (t : TypeTree) → type.Float ≡ t → TypeFormed (type_form t)
float_formed t same = subst (λ u. TypeFormed (type_form u)) same (subst TypeFormed (sym form-TypeFloat) tt)

scalar_formed : (word : Keyword) (t : TypeTree) → scalar_of word ≡ Some t → TypeFormed (type_form t)
scalar_formed k.Int t e = let same : type.Int ≡ t = cc in subst (λ u. TypeFormed (type_form u)) same (subst TypeFormed (sym form-TypeInt) tt)
scalar_formed k.Long t e = let same : type.Long ≡ t = cc in subst (λ u. TypeFormed (type_form u)) same (subst TypeFormed (sym form-TypeLong) tt)
scalar_formed k.Chararray t e = let same : type.Chararray ≡ t = cc in subst (λ u. TypeFormed (type_form u)) same (subst TypeFormed (sym form-Chararray) tt)
scalar_formed k.Bytearray t e = let same : type.Bytearray ≡ t = cc in subst (λ u. TypeFormed (type_form u)) same (subst TypeFormed (sym form-Bytearray) tt)
scalar_formed k.Boolean t e = let same : type.Boolean ≡ t = cc in subst (λ u. TypeFormed (type_form u)) same (subst TypeFormed (sym form-Boolean) tt)
scalar_formed k.Float t e = float_formed t (cc)
scalar_formed k.Double t e = float_formed t (cc)
scalar_formed k.BigInteger t e = float_formed t (cc)
scalar_formed k.BigDecimal t e = float_formed t (cc)
scalar_formed k.DateTime t e = float_formed t (cc)
scalar_formed word t e = absurd (cc)

map_formed : (values : Option TypeTree) → IfSome values (λ t. TypeFormed (type_form t)) → TypeFormed (type_form (type.Map values))
map_formed None h = subst TypeFormed (sym form-MapBare) tt
map_formed (Some t) h = subst TypeFormed (sym (form-Map t)) h

more_of : (fields : FieldForms) → FieldsFormed fields → MoreFieldsFormed fields
more_of no_fields h = absurd h
more_of (typed_field name t others) h = h
more_of (bare_field name others) h = h

-- one more field in front
cons_formed : (p : List ℕ × Option TypeForm) (fields : FieldForms) → FieldsFormed (field_forms (p ∷ [])) → FieldsFormed fields → (ps : List (List ℕ × Option TypeForm)) → field_forms ps ≡ fields
    → FieldsFormed (field_forms (p ∷ ps))
cons_formed (name, Some t) fields h g ps e = (h.0, h.1, subst MoreFieldsFormed (sym e) (more_of fields g))
cons_formed (name, None) fields h g ps e = (h.0, subst MoreFieldsFormed (sym e) (more_of fields g))

mutual
  pub type_formed : {ts rest : Forms} {t : TypeTree} → IsType ts t rest → Free ts → Formed (TypeFormed (type_form t)) rest
  type_formed (IsType.type_scalar {word = word} {type = t} is) free = record { tree = scalar_formed word t is; free = free.1 }
  type_formed (IsType.type_tuple {fields = fields} h) free = let inner = tuple_formed h free in record { tree = subst TypeFormed (sym (form-Tuple fields)) inner.tree; free = inner.free }
  type_formed (IsType.type_bag {fields = fields} h) free = let inner = bag_formed h free in record { tree = subst TypeFormed (sym (form-Bag fields)) inner.tree; free = inner.free }
  type_formed (IsType.type_bag_word {fields = fields} h) free = let inner = bag_formed h free.1 in record { tree = subst TypeFormed (sym (form-Bag fields)) inner.tree; free = inner.free }
  type_formed (IsType.type_map {values = values} h) free = let inner = values_formed h free in record { tree = map_formed values inner.tree; free = inner.free }
  type_formed (IsType.type_map_word {values = values} h) free = let inner = values_formed h free.1 in record { tree = map_formed values inner.tree; free = inner.free }

  tuple_formed : {ts rest : Forms} {fields : List FieldTree} → IsTuple ts fields rest → Free ts → Formed (SchemaFormed fields) rest
  tuple_formed (IsTuple.tuple_bare h) free = schema_formed h free
  tuple_formed (IsTuple.tuple_word h) free = schema_formed h free.1

  bag_formed : {ts rest : Forms} {fields : List FieldTree} → IsBag ts fields rest → Free ts → Formed (SchemaFormed fields) rest
  bag_formed (IsBag.bag_bare h) free = let inner = tuple_formed h free.1 in record { tree = inner.tree; free = inner.free.1 }
  bag_formed (IsBag.bag_named h) free = let inner = tuple_formed h free.1.1.1 in record { tree = inner.tree; free = inner.free.1 }

  values_formed : {ts rest : Forms} {values : Option TypeTree} → IsMap ts values rest → Free ts → Formed (IfSome values (λ t. TypeFormed (type_form t))) rest
  values_formed IsMap.map_bare free = record { tree = tt; free = free.1.1 }
  values_formed (IsMap.map_typed h) free = let inner = type_formed h free.1 in record { tree = inner.tree; free = inner.free.1 }

  pub schema_formed : {ts rest : Forms} {fields : List FieldTree} → IsSchema ts fields rest → Free ts → Formed (SchemaFormed fields) rest
  schema_formed (IsSchema.schema h) free = let inner = fields_formed h free.1 in record { tree = inner.tree; free = inner.free.1 }

  fields_formed : {ts rest : Forms} {fields : List FieldTree} → AreSchemaFields ts fields rest → Free ts → Formed (SchemaFormed fields) rest
  fields_formed (AreSchemaFields.fields_last h) free = field_formed h free
  fields_formed (AreSchemaFields.fields_more {field = field} {fields = fields} h later) free =
      let first = field_formed h free in
      let others = fields_formed later first.free.1 in
      record { tree = cons_formed (field_form field) _ first.tree others.tree (map field_form fields) refl; free = others.free }

  pub field_formed : {ts rest : Forms} {field : FieldTree} → IsSchemaField ts field rest → Free ts → Formed (SchemaFormed (field ∷ [])) rest
  field_formed (IsSchemaField.field_bare {text = text}) free = record { tree = subst (λ p. FieldsFormed (field_forms (p ∷ []))) (sym (bare_is text)) (free.0, tt); free = free.1 }
  field_formed (IsSchemaField.field_typed {text = text} {type = t} h) free =
      let inner = type_formed h free.1.1 in
      record { tree = subst (λ p. FieldsFormed (field_forms (p ∷ []))) (sym (typed_is text t)) (free.0, inner.tree, tt); free = inner.free }

cast_type_formed : {ts rest : Forms} {t : TypeTree} → IsCastType ts t rest → Free ts → Formed (TypeFormed (type_form t)) rest
cast_type_formed (IsCastType.cast_scalar {word = word} {type = t} is) free = record { tree = scalar_formed word t is; free = free.1 }
cast_type_formed (IsCastType.cast_tuple {fields = fields} h) free = let inner = schema_formed h free.1 in record { tree = subst TypeFormed (sym (form-Tuple fields)) inner.tree; free = inner.free }
cast_type_formed (IsCastType.cast_bag {fields = fields} h) free = let inner = bag_formed h free.1 in record { tree = subst TypeFormed (sym (form-Bag fields)) inner.tree; free = inner.free }
cast_type_formed (IsCastType.cast_map {values = values} h) free = let inner = values_formed h free.1 in record { tree = map_formed values inner.tree; free = inner.free }

-- ---- expressions

literal_formed : (t : TokenForm) (a : Expr) → token_literal t ≡ Some a → HoldsNoLf t → IsExprFormed a
literal_formed (f.Int n) a is h = let same : e.Int n ≡ a = cc in subst IsExprFormed same (subst ExprFormed (sym (form-Int n)) tt)
literal_formed (f.Long n) a is h = let same : e.Long n ≡ a = cc in subst IsExprFormed same (subst ExprFormed (sym (form-Long n)) tt)
literal_formed f.Float a is h = let same : e.Float ≡ a = cc in subst IsExprFormed same (subst ExprFormed (sym form-Float) tt)
literal_formed (f.Text text) a is h = let same : e.Text text ≡ a = cc in subst IsExprFormed same (subst ExprFormed (sym (form-Text text)) h)
literal_formed (f.Keyword k.True) a is h = let same : e.Bool true ≡ a = cc in subst IsExprFormed same (subst ExprFormed (sym (form-Bool true)) tt)
literal_formed (f.Keyword k.False) a is h = let same : e.Bool false ≡ a = cc in subst IsExprFormed same (subst ExprFormed (sym (form-Bool false)) tt)
literal_formed (f.Keyword k.Null) a is h = let same : e.Null ≡ a = cc in subst IsExprFormed same (subst ExprFormed (sym form-Null) tt)
literal_formed t a is h = absurd (cc)

step_of_selection : (p : PostStep) → SelectionFormed p → PostStepFormed p
step_of_selection (step.Project fields single) h = h
step_of_selection (step.Look key) h = absurd h

steps_formed : {ts rest : Forms} {ps : List PostStep} → ArePostSteps ts ps rest → Free ts → Formed (All PostStepFormed ps) rest
steps_formed ArePostSteps.none free = record { tree = All-nil PostStepFormed; free = free }
steps_formed (ArePostSteps.project {p = p} {ps = ps} h later) free =
    let first = selection_formed h free.1 in
    let others = steps_formed later first.free in
    record { tree = All-cons PostStepFormed p ps (step_of_selection p first.tree) others.tree; free = others.free }
steps_formed (ArePostSteps.look {key = key} {ps = ps} later) free =
    let others = steps_formed later free.1.1 in
    record { tree = All-cons PostStepFormed (step.Look key) ps free.1.0 others.tree; free = others.free }

-- the operators of a level come from this rule
abbrev OfRule : Level → ChainRule → Type 0
OfRule level rule = (o : ChainOp) (t : TokenForm) → chain_op level t ≡ Some o → rule_of o ≡ rule

of_or : OfRule expr disjunction
of_or o (f.Keyword k.Or) h = let same : op.Or ≡ o = cc in subst (λ x. rule_of x ≡ disjunction) same refl
of_or o t h = absurd (cc)

of_and : OfRule and_chain conjunction
of_and o (f.Keyword k.And) h = let same : op.And ≡ o = cc in subst (λ x. rule_of x ≡ conjunction) same refl
of_and o t h = absurd (cc)

of_sum : OfRule sum sums
of_sum o (f.Symbol s.Plus) h = let same : op.Add ≡ o = cc in subst (λ x. rule_of x ≡ sums) same refl
of_sum o (f.Symbol s.Minus) h = let same : op.Sub ≡ o = cc in subst (λ x. rule_of x ≡ sums) same refl
of_sum o t h = absurd (cc)

of_term : OfRule term product
of_term o (f.Symbol s.Star) h = let same : op.Mul ≡ o = cc in subst (λ x. rule_of x ≡ product) same refl
of_term o (f.Symbol s.Slash) h = let same : op.Div ≡ o = cc in subst (λ x. rule_of x ≡ product) same refl
of_term o (f.Symbol s.Percent) h = let same : op.Rem ≡ o = cc in subst (λ x. rule_of x ≡ product) same refl
of_term o t h = absurd (cc)

-- a chain of links that come from one rule
chain_formed : (a : Expr) (l : Link) (ls : List Link) (rule : ChainRule) → IsExprFormed a → LinksFormed rule (link_forms (map link_form (l ∷ ls))) → IsExprFormed (e.Chain a (l ∷ ls))
chain_formed a l ls rule h g = subst ExprFormed (sym (form-Chain a (l ∷ ls))) (h, g.1, subst (λ r. LinksFormed r (link_forms (map link_form ls))) (sym g.0) g.2)

-- ---- the trees that IN and CASE stand for

equals_formed : (x v : Expr) → IsExprFormed x → IsExprFormed v → IsExprFormed (equals x v)
equals_formed x v h g = subst ExprFormed (sym (form-Compare rel.Eq x v)) (h, g)

or_formed : (x : Expr) (vs : List Expr) → IsExprFormed x → ExprsFormed (expr_forms (map expr_form vs))
    → LinksFormed disjunction (link_forms (map link_form (map (λ w. record { op = op.Or; a = equals x w }) vs)))
or_formed x [] h g = tt
or_formed x (v ∷ vs) h g =
    subst (λ p. LinksFormed disjunction (more_links p.0 p.1 (link_forms (map link_form (map (λ w. record { op = op.Or; a = equals x w }) vs)))))
    (sym (link_is (record { op = op.Or; a = equals x v }))) (refl, equals_formed x v h g.0, or_formed x vs h g.1)

among_formed : (x v : Expr) (others : List Expr) → IsExprFormed x → ExprsFormed (expr_forms (map expr_form (v ∷ others))) → IsExprFormed (is_among x v others)
unfolding chain_of
among_formed x v [] h g = equals_formed x v h g.0
among_formed x v (w ∷ ws) h g =
    chain_formed (equals x v) (record { op = op.Or; a = equals x w }) (map (λ u. record { op = op.Or; a = equals x u }) ws) disjunction (equals_formed x v h g.0) (or_formed x (w ∷ ws) h g.1)

abbrev WhensFormed : List (Expr × Expr) → Type 0
WhensFormed [] = Unit {0}
WhensFormed (w ∷ ws) = IsExprFormed w.0 × IsExprFormed w.1 × WhensFormed ws

choice_formed : (ws : List (Expr × Expr)) (default : Expr) → WhensFormed ws → IsExprFormed default → IsExprFormed (choice_of ws default)
unfolding choice_of
choice_formed [] default h g = g
choice_formed (w ∷ ws) default h g = subst ExprFormed (sym (form-Choose w.0 w.1 (choice_of ws default))) (h.0, h.1, choice_formed ws default h.2 g)

compared_formed : (x : Expr) (ws : List (Expr × Expr)) → IsExprFormed x → WhensFormed ws → WhensFormed (compared x ws)
compared_formed x [] h g = tt
compared_formed x (w ∷ ws) h g = (equals_formed x w.0 h g.0, g.1, compared_formed x ws h g.2)

mutual
  pub expr_formed : {level : Level} {ts rest : Forms} {a : Expr} → ReadsExpr level ts a rest → Free ts → Formed (IsExprFormed a) rest
  expr_formed (ReadsExpr.expr_one h) free = expr_formed h free
  expr_formed (ReadsExpr.expr_more {a = a} {l = l} {ls = ls} h links) free =
      let first = expr_formed h free in
      let others = links_formed links disjunction of_or first.free in
      record { tree = chain_formed a l ls disjunction first.tree others.tree; free = others.free }
  expr_formed (ReadsExpr.and_chain_one h) free = expr_formed h free
  expr_formed (ReadsExpr.and_chain_more {a = a} {l = l} {ls = ls} h links) free =
      let first = expr_formed h free in
      let others = links_formed links conjunction of_and first.free in
      record { tree = chain_formed a l ls conjunction first.tree others.tree; free = others.free }
  expr_formed (ReadsExpr.neg_none h) free = expr_formed h free
  expr_formed (ReadsExpr.neg_not {a = a} h) free = let inner = expr_formed h free.1 in record { tree = subst ExprFormed (sym (form-Not a)) inner.tree; free = inner.free }
  expr_formed (ReadsExpr.comparison_one h) free = expr_formed h free
  expr_formed (ReadsExpr.comparison_rel {r = r} {a = a} {b = b} h is g) free =
      let first = expr_formed h free in
      let second = expr_formed g first.free.1 in
      record { tree = subst ExprFormed (sym (form-Compare r a b)) (first.tree, second.tree); free = second.free }
  expr_formed (ReadsExpr.comparison_null {a = a} h) free = let inner = expr_formed h free in record { tree = subst ExprFormed (sym (form-IsNull a false)) inner.tree; free = inner.free.1.1 }
  expr_formed (ReadsExpr.comparison_not_null {a = a} h) free = let inner = expr_formed h free in record { tree = subst ExprFormed (sym (form-IsNull a true)) inner.tree; free = inner.free.1.1.1 }
  expr_formed (ReadsExpr.comparison_in {a = x} {v = v} {others = others} h values) free =
      let operand = expr_formed h free in
      let inner = exprs_formed values operand.free.1.1 in
      record { tree = among_formed x v others operand.tree inner.tree; free = inner.free.1 }
  expr_formed (ReadsExpr.sum_one h) free = expr_formed h free
  expr_formed (ReadsExpr.sum_more {a = a} {l = l} {ls = ls} h links) free =
      let first = expr_formed h free in
      let others = links_formed links sums of_sum first.free in
      record { tree = chain_formed a l ls sums first.tree others.tree; free = others.free }
  expr_formed (ReadsExpr.term_one h) free = expr_formed h free
  expr_formed (ReadsExpr.term_more {a = a} {l = l} {ls = ls} h links) free =
      let first = expr_formed h free in
      let others = links_formed links product of_term first.free in
      record { tree = chain_formed a l ls product first.tree others.tree; free = others.free }
  expr_formed (ReadsExpr.unary_none h) free = expr_formed h free
  expr_formed (ReadsExpr.unary_minus {a = a} h) free = let inner = expr_formed h free.1 in record { tree = subst ExprFormed (sym (form-Minus a)) inner.tree; free = inner.free }
  expr_formed (ReadsExpr.casted_none h) free = expr_formed h free
  expr_formed (ReadsExpr.casted_cast {type = t} {a = a} is h) free =
      let to = cast_type_formed is free.1 in
      let inner = expr_formed h to.free.1 in
      record { tree = subst ExprFormed (sym (form-Cast t a)) (to.tree, inner.tree); free = inner.free }
  expr_formed (ReadsExpr.post_one h) free = expr_formed h free
  expr_formed (ReadsExpr.post_more {a = a} {p = p} {ps = ps} h steps) free =
      let first = expr_formed h free in
      let others = steps_formed steps first.free in
      record { tree = subst ExprFormed (sym (form-Post a (p ∷ ps))) (first.tree, record { many = omega arith; each = others.tree }); free = others.free }
  expr_formed (ReadsExpr.primary_literal {t = t} {a = a} is) free = record { tree = literal_formed t a is free.0; free = free.1 }
  expr_formed (ReadsExpr.primary_field {r = r} h) free = let field = field_ref_formed h free in record { tree = subst ExprFormed (sym (form-Field r)) field.tree; free = field.free }
  expr_formed (ReadsExpr.primary_call_none {name = name}) free = record { tree = subst ExprFormed (sym (form-Call name [])) (free.0, tt); free = free.1.1.1 }
  expr_formed (ReadsExpr.primary_call {name = name} {args = args} h) free =
      let inner = exprs_formed h free.1.1 in
      record { tree = subst ExprFormed (sym (form-Call name args)) (free.0, inner.tree); free = inner.free.1 }
  expr_formed (ReadsExpr.primary_paren h) free = let inner = expr_formed h free.1 in record { tree = inner.tree; free = inner.free.1 }
  expr_formed (ReadsExpr.primary_choose {a = a} {b = b} {c = c} h g i) free =
      let first = expr_formed h free.1 in
      let second = expr_formed g first.free.1 in
      let third = expr_formed i second.free.1 in
      record { tree = subst ExprFormed (sym (form-Choose a b c)) (first.tree, second.tree, third.tree); free = third.free.1 }
  expr_formed (ReadsExpr.primary_case {w = w} {others = others} {default = default} whens h) free =
      let tests = whens_formed whens free.1 in
      let inner = last_formed h tests.free in
      record { tree = choice_formed (w ∷ others) default tests.tree inner.tree; free = inner.free }
  expr_formed (ReadsExpr.primary_case_of {x = x} {w = w} {others = others} {default = default} g whens h) free =
      let operand = expr_formed g free.1 in
      let tests = whens_formed whens operand.free in
      let inner = last_formed h tests.free in
      record { tree = choice_formed (compared x (w ∷ others)) default (compared_formed x (w ∷ others) operand.tree tests.tree) inner.tree; free = inner.free }

  whens_formed : {ts rest : Forms} {ws : List (Expr × Expr)} → AreWhens ts ws rest → Free ts → Formed (WhensFormed ws) rest
  whens_formed AreWhens.whens_none free = record { tree = tt; free = free }
  whens_formed (AreWhens.whens_more c a later) free =
      let test = expr_formed c free.1 in
      let value = expr_formed a test.free.1 in
      let others = whens_formed later value.free in
      record { tree = (test.tree, value.tree, others.tree); free = others.free }

  last_formed : {ts rest : Forms} {a : Expr} → IsLast ts a rest → Free ts → Formed (IsExprFormed a) rest
  last_formed IsLast.last_none free = record { tree = subst ExprFormed (sym form-Null) tt; free = free.1 }
  last_formed (IsLast.last_else h) free = let inner = expr_formed h free.1 in record { tree = inner.tree; free = inner.free.1 }

  links_formed : {chain member : Level} {ts rest : Forms} {ls : List Link} → Links chain member ts ls rest → (rule : ChainRule) → OfRule chain rule → Free ts → Formed (LinksFormed rule (link_forms (map link_form ls))) rest
  links_formed Links.links_none rule same free = record { tree = tt; free = free }
  links_formed (Links.links_link {t = t} {o = o} {a = a} {ls = ls} is h later) rule same free =
      let first = expr_formed h free.1 in
      let others = links_formed later rule same first.free in
      record {
        tree = subst (λ p. LinksFormed rule (more_links p.0 p.1 (link_forms (map link_form ls)))) (sym (link_is (record { op = o; a = a }))) (same o t is, first.tree, others.tree);
        free = others.free;
      }

  exprs_formed : {ts rest : Forms} {args : List Expr} → AreExprs ts args rest → Free ts → Formed (ExprsFormed (expr_forms (map expr_form args))) rest
  exprs_formed (AreExprs.exprs_last h) free = let inner = expr_formed h free in record { tree = (inner.tree, tt); free = inner.free }
  exprs_formed (AreExprs.exprs_more h later) free =
      let first = expr_formed h free in
      let others = exprs_formed later first.free.1 in
      record { tree = (first.tree, others.tree); free = others.free }
