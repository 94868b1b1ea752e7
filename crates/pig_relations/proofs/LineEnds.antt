-- What an operator writes out holds no line end, where none stands in the texts of its keys.
use Rattle.std.proofs.Common.{◌≡◌, ◌≢◌, ℕ, ◌+◌, ◌==◌, ne_eqb, List, [], ◌∷◌, map, refl, Bool, true, false}
use Rattle.std.specs.Prelude.{Option, Some, None, All, IfSome, ◌||◌, if◌then◌else◌}
use Rattle.std.specs.List.{AllByRecursion, list_any}
use Rattle.std.proofs.lemmas.List.Elements.{All-head, All-tail}
use Rattle.pig_value.specs.Texts.{HasNoLf, IsLineFree}
use Rattle.pig_value.specs.Trees.{KindTree}
use Rattle.pig_value.specs.declared.operators.Side.{Side}
use Rattle.pig_syntax.specs.Formed.{ExprsFormed, GroupInputFormed, JoinInputFormed}
use Rattle.pig_syntax.specs.declared.trees.GroupInput.{GroupInput}
use Rattle.pig_syntax.specs.declared.trees.JoinInput.{JoinInput}
use Rattle.pig_typed.specs.Literals.{LiteralsAre, LinkLiteralsAre, ArgLiteralsAre, StepLiteralsAre, BlockLiteralsAre}
use Rattle.pig_typed.specs.Typed.{Typed, TypedLinks, TypedArgs, TypedStep, TypedItem, TypedBlock, x_null, x_bool, x_int, x_long, x_chars, x_field, x_local, x_chain, x_compare, x_is_null, x_not, x_minus, x_choose, x_cast, x_project, x_look, x_call, no_links, more_links, no_args, more_args, s_filter, s_order, s_limit, s_distinct, s_take}
use Rattle.pig_plan.specs.Valid.{keys_write_lf, op_writes_lf}
use Rattle.pig_plan.specs.Written.{has_lf, writes_lf, links_write_lf, args_write_lf, step_writes_lf, block_writes_lf}
use Rattle.pig_typing.specs.Joins.{cast_if}
use Rattle.pig_typing.specs.Parts.{Typing, kind_in, typed_of}
use Rattle.pig_typing.proofs.NoLineEnds.{formed_keys, keys_free}
use Rattle.pig_relations.specs.Aliases.{Aliases, RelationTree}
use Rattle.pig_relations.specs.Keyed.{KeyedForm, TypedInput, group_form, join_form, rows_of, cast_first, cast_keys, rest_of, keyed, types_input, TypesInputs, no_inputs, more_inputs, types_keyed}
use Rattle.pig_relations.specs.Operators.{TypedOp, Groups, groups, GroupsAll, groups_all, Joins, joins}
use Rattle.pig_relations.specs.Together.{widens, widened}
use Rattle.pig_relations.specs.Unions.{TypedUnion, UnionInput, Unions, unions, any_widens, column_kinds, union_input, widened_fields}

-- ---- what is free of line ends writes none

neither : (a b : Bool) → a ≡ false → b ≡ false → (a || b) ≡ false
neither true b h g = absurd (cc)
neither false b h g = g

text_free : (text : List ℕ) → HasNoLf text → has_lf text ≡ false
text_free [] h = refl
text_free (b ∷ text) h =
    neither (b == 10) (has_lf text) (ne_eqb b 10 (All-head (λ b. b ≢ 10) b text h)) (text_free text (All-tail (λ b. b ≢ 10) b text h))

mutual
  pub writes_none : (t : Typed) → LiteralsAre IsLineFree t → writes_lf t ≡ false
  writes_none x_null h = refl
  writes_none (x_bool b) h = refl
  writes_none (x_int z) h = refl
  writes_none (x_long z) h = refl
  writes_none (x_chars text) h = text_free text h
  writes_none (x_field n) h = refl
  writes_none (x_local n) h = refl
  writes_none (x_chain first links) h = neither (writes_lf first) (links_write_lf links) (writes_none first h.0) (links_write_none links h.1)
  writes_none (x_compare r a b) h = neither (writes_lf a) (writes_lf b) (writes_none a h.0) (writes_none b h.1)
  writes_none (x_is_null a negated) h = writes_none a h
  writes_none (x_not a) h = writes_none a h
  writes_none (x_minus a) h = writes_none a h
  writes_none (x_choose c a b) h =
      neither (writes_lf c || writes_lf a) (writes_lf b) (neither (writes_lf c) (writes_lf a) (writes_none c h.0) (writes_none a h.1)) (writes_none b h.2)
  writes_none (x_cast to a) h = writes_none a h
  writes_none (x_project a ns single) h = writes_none a h
  writes_none (x_look a key) h = writes_none a h
  writes_none (x_call f args) h = args_write_none args h

  pub links_write_none : (links : TypedLinks) → LinkLiteralsAre IsLineFree links → links_write_lf links ≡ false
  links_write_none no_links h = refl
  links_write_none (more_links o a links) h = neither (writes_lf a) (links_write_lf links) (writes_none a h.0) (links_write_none links h.1)

  pub args_write_none : (args : TypedArgs) → ArgLiteralsAre IsLineFree args → args_write_lf args ≡ false
  args_write_none no_args h = refl
  args_write_none (more_args e args) h = neither (writes_lf e) (args_write_lf args) (writes_none e h.0) (args_write_none args h.1)

step_writes_none : (s : TypedStep) → StepLiteralsAre IsLineFree s → step_writes_lf s ≡ false
step_writes_none (s_filter from cond) h = neither (writes_lf from) (writes_lf cond) (writes_none from h.0) (writes_none cond h.1)
step_writes_none (s_order from keys) h = writes_none from h
step_writes_none (s_limit from count) h = writes_none from h
step_writes_none (s_distinct from) h = writes_none from h
step_writes_none (s_take from) h = writes_none from h

steps_write_none : (steps : List TypedStep) → AllByRecursion (StepLiteralsAre IsLineFree) steps → list_any step_writes_lf steps ≡ false
steps_write_none [] h = refl
steps_write_none (s ∷ steps) h = neither (step_writes_lf s) (list_any step_writes_lf steps) (step_writes_none s h.0) (steps_write_none steps h.1)

items_write_none : (items : List TypedItem) → AllByRecursion (λ item. LiteralsAre IsLineFree item.value) items → list_any (λ item. writes_lf item.value) items ≡ false
items_write_none [] h = refl
items_write_none (item ∷ items) h = neither (writes_lf item.value) (list_any (λ i. writes_lf i.value) items) (writes_none item.value h.0) (items_write_none items h.1)

pub block_writes_none : (block : TypedBlock) → BlockLiteralsAre IsLineFree block → block_writes_lf block ≡ false
block_writes_none block h =
    neither (list_any step_writes_lf block.steps) (list_any (λ item. writes_lf item.value) block.items) (steps_write_none block.steps h.0) (items_write_none block.items h.1)

-- ---- keys

widened_writes : (b : Bool) (k : KindTree) (t : Typed) → writes_lf t ≡ false → writes_lf (cast_if b k t) ≡ false
widened_writes true k t h = h
widened_writes false k t h = h

first_writes_none : (p : Typing) (ks : List KindTree) → LiteralsAre IsLineFree (typed_of p) → writes_lf (cast_first p ks) ≡ false
first_writes_none p [] h = writes_none (typed_of p) h
first_writes_none p (k ∷ ks) h = widened_writes (widens (kind_in p) k) k (typed_of p) (writes_none (typed_of p) h)

keys_write_none : (ps : List Typing) (ks : List KindTree) → AllByRecursion (λ p. LiteralsAre IsLineFree (typed_of p)) ps → list_any writes_lf (cast_keys ps ks) ≡ false
keys_write_none [] ks h = refl
keys_write_none (p ∷ ps) ks h =
    neither (writes_lf (cast_first p ks)) (list_any writes_lf (cast_keys ps (rest_of ks))) (first_writes_none p ks h.0) (keys_write_none ps (rest_of ks) h.1)

abbrev FormsFormed : List KeyedForm → Type 0
FormsFormed = AllByRecursion (λ i. ExprsFormed i.keys)

inputs_write_none : (aliases : Aliases) (is : List KeyedForm) (ts : List TypedInput) (ks : List KindTree) → FormsFormed is → TypesInputs aliases is ts → keys_write_lf (map (keyed ks) ts) ≡ false
inputs_write_none aliases is ts ks formed no_inputs = refl
inputs_write_none aliases is ts ks formed (more_inputs {i = i} {is = others} {ts = more} (types_input {r = r} {ps = ps} e h) g) =
    neither (list_any writes_lf (cast_keys ps ks)) (keys_write_lf (map (keyed ks) more))
    (keys_write_none ps ks (keys_free (rows_of r) i.keys ps formed.0 h)) (inputs_write_none aliases others more ks formed.1 g)

groups_formed : (inputs : List GroupInput) → All GroupInputFormed inputs → FormsFormed (map group_form inputs)
groups_formed [] h = tt
groups_formed (i ∷ inputs) h = (formed_keys i.keys (All-head GroupInputFormed i inputs h).keys.each, groups_formed inputs (All-tail GroupInputFormed i inputs h))

joins_formed : (inputs : List JoinInput) → All JoinInputFormed inputs → FormsFormed (map join_form inputs)
joins_formed [] h = tt
joins_formed (i ∷ inputs) h = (formed_keys i.keys (All-head JoinInputFormed i inputs h).keys.each, joins_formed inputs (All-tail JoinInputFormed i inputs h))

-- ---- operators

pub group_free : (aliases : Aliases) (inputs : List GroupInput) (hint : Option (List ℕ)) (t : TypedOp) → All GroupInputFormed inputs
    → Groups aliases (map group_form inputs) hint t → op_writes_lf t.op ≡ false
group_free aliases inputs hint t formed (groups (types_keyed {ts = ts} {ks = ks} h e) w) = inputs_write_none aliases (map group_form inputs) ts ks (groups_formed inputs formed) h

pub group_all_free : (aliases : Aliases) (alias : List ℕ) (hint : Option (List ℕ)) (t : TypedOp) → GroupsAll aliases alias hint t → op_writes_lf t.op ≡ false
group_all_free aliases alias hint t (groups_all h e) = refl

pub join_free : (aliases : Aliases) (inputs : List JoinInput) (side : Side) (hint : Option (List ℕ)) (t : TypedOp) → All JoinInputFormed inputs
    → Joins aliases (map join_form inputs) side hint t → op_writes_lf t.op ≡ false
join_free aliases inputs side hint t formed (joins j two (types_keyed {ts = ts} {ks = ks} h e) w) = inputs_write_none aliases (map join_form inputs) ts ks (joins_formed inputs formed) h

-- ---- the FOREACH before a UNION

abbrev pub WritesNone : UnionInput → Type 0
WritesNone i = IfSome i.widening (λ block. block_writes_lf block ≡ false)

fields_write_none : (n : ℕ) (ks js : List KindTree) → list_any (λ item. writes_lf item.value) (widened_fields n ks js) ≡ false
fields_write_none n [] js = refl
fields_write_none n (k ∷ ks) [] = refl
fields_write_none n (k ∷ ks) (j ∷ js) =
    neither (writes_lf (widened k j (x_field n))) (list_any (λ item. writes_lf item.value) (widened_fields (n + 1) ks js))
    (widened_writes (widens k j) j (x_field n) refl) (fields_write_none (n + 1) ks js)

input_writes_none : (js : List KindTree) (r : RelationTree) → WritesNone (union_input js r)
input_writes_none js r = by (any_widens (column_kinds r) js)
  where
    by : (b : Bool) → IfSome (if b then Some (record { steps = []; items = widened_fields 0 (column_kinds r) js }) else None) (λ block. block_writes_lf block ≡ false)
    by true = fields_write_none 0 (column_kinds r) js
    by false = tt

all_write_none : (js : List KindTree) (rs : List RelationTree) → AllByRecursion WritesNone (map (union_input js) rs)
all_write_none js [] = tt
all_write_none js (r ∷ rs) = (input_writes_none js r, all_write_none js rs)

pub union_free : (aliases : Aliases) (onschema : Bool) (names : List (List ℕ)) (u : TypedUnion) → Unions aliases onschema names u → AllByRecursion WritesNone u.inputs
union_free aliases onschema names u (unions {rs = rs} {ks = ks} two h e) = all_write_none ks rs
