-- Typed items have their kinds, and inside the columns that they give is what is of these.
use Rattle.std.proofs.Common.{◌≡◌, ◌∙◌, ◌+◌, ◌++◌, ℕ, List, [], ◌∷◌, map, length, refl, sym, ap, subst, eq-eqb}
use Rattle.std.specs.Prelude.{Option, Some, None, slice_get}
use Rattle.std.proofs.lemmas.List.{append-nil, append_assoc, length-append, length-map, map-append}
use Rattle.pig_value.specs.Trees.{KindTree, k_boolean, k_int, k_long, k_chars, k_bytes, k_tuple, k_bag, k_map}
use Rattle.pig_value.proofs.KindLaws.{kind_same}
use Rattle.pig_schema.specs.FieldTrees.{FieldTree, a_field, inner_list, tree_kind, IsColumn}
use Rattle.pig_syntax.specs.ExprTrees.{expr_form}
use Rattle.pig_syntax.specs.declared.trees.AsNames.{AsNames}
use Rattle.pig_syntax.specs.declared.trees.Item.{Item}
use Rattle.pig_typed.specs.BlockKinds.{flattened_kinds, item_kinds, items_kinds, of_width}
use Rattle.pig_typed.specs.ExprKinds.{expr_kind}
use Rattle.pig_typed.specs.Typed.{Typed, TypedItem, x_cast}
use Rattle.pig_typing.specs.Calls.{fields_from}
use Rattle.pig_typing.specs.Columns.{AreColumns, IsPlace, Place, locals_of, place_row}
use Rattle.pig_items.specs.Items.{Generated, NameForm, one_column, flat_columns, flattened_columns, Named, named_bare, named_cast, renamed_bare, renamed_typed, AllRenamed, none_renamed, one_renamed, Plain, plain_bare, plain_named, Flat, flat_bare, flat_named, Generates, generates_all, generates_value, generates_flat, AllGenerate, none_generate, more_generate}
use Rattle.pig_typing.specs.Parts.{Typing, typed_of, typed_column, kind_in, plain_item, under_name}
use Rattle.pig_typing.specs.Written.{with_name}
use Rattle.pig_typing.proofs.Inside.{inner_all, inner_kinds, written_field_is}
use Rattle.pig_typing.proofs.KindsHold.{Holds, holds}
use Rattle.pig_value.specs.Results.{◌>>=◌}

-- items have the kinds of the columns that they give, and inside these is what is of them
pub record ItemsHold (s : Place) (g : Generated) : Type 0 where
  pub kinds : items_kinds g.items (place_row s) (locals_of s) ≡ Some (map tree_kind g.columns)
  pub columns : AreColumns g.columns

-- ---- items in turn

more_kinds : (i : TypedItem) (is js : List TypedItem) (row locals ks ls : List KindTree)
    → ((ms : List KindTree) → items_kinds is row locals ≡ Some ms → items_kinds (is ++ js) row locals ≡ Some (ms ++ ls))
    → items_kinds (i ∷ is) row locals ≡ Some ks → items_kinds (i ∷ is ++ js) row locals ≡ Some (ks ++ ls)
more_kinds i is js row locals ks ls more = by (item_kinds i row locals)
  where
    on : (here : List KindTree) (r : Option (List KindTree)) → items_kinds is row locals ≡ r → (r >>= λ m. Some (here ++ m)) ≡ Some ks
        → (items_kinds (is ++ js) row locals >>= λ m. Some (here ++ m)) ≡ Some (ks ++ ls)
    on here None k e = absurd (cc)
    on here (Some m) k e = let same : here ++ m ≡ ks = cc in rw (more m k) (ap Some (sym (append_assoc here m ls) ∙ ap (λ x. x ++ ls) same))

    by : (o : Option (List KindTree)) → (o >>= λ here. items_kinds is row locals >>= λ m. Some (here ++ m)) ≡ Some ks
        → (o >>= λ here. items_kinds (is ++ js) row locals >>= λ m. Some (here ++ m)) ≡ Some (ks ++ ls)
    by None e = absurd (cc)
    by (Some here) e = on here (items_kinds is row locals) refl e

kinds_append : (is js : List TypedItem) (row locals ks ls : List KindTree) → items_kinds is row locals ≡ Some ks → items_kinds js row locals ≡ Some ls
    → items_kinds (is ++ js) row locals ≡ Some (ks ++ ls)
kinds_append [] js row locals ks ls e h = let none : [] ≡ ks = cc in subst (λ x. items_kinds js row locals ≡ Some (x ++ ls)) none h
kinds_append (i ∷ is) js row locals ks ls e h = more_kinds i is js row locals ks ls (λ ms k. kinds_append is js row locals ms ls k h) e

columns_append : (cs ds : List FieldTree) → AreColumns cs → AreColumns ds → AreColumns (cs ++ ds)
columns_append [] ds h g = g
columns_append (c ∷ cs) ds h g = (h.0, columns_append cs ds h.1 g)

-- ---- `*`

row_kinds_from : (before kinds locals : List KindTree) → items_kinds (map plain_item (fields_from (length before) (length kinds))) (before ++ kinds) locals ≡ Some kinds
row_kinds_from before [] locals = refl
row_kinds_from before (k ∷ kinds) locals =
    let here : slice_get (before ++ k ∷ kinds) (length before) ≡ Some k = at_end before k kinds in
    let longer = row_kinds_from (before ++ k ∷ []) kinds locals in
    let rest : items_kinds (map plain_item (fields_from (length before + 1) (length kinds))) (before ++ k ∷ kinds) locals ≡ Some kinds =
    subst (λ n. items_kinds (map plain_item (fields_from n (length kinds))) (before ++ k ∷ kinds) locals ≡ Some kinds) (length-append before (k ∷ []))
    (subst (λ row. items_kinds (map plain_item (fields_from (length (before ++ k ∷ [])) (length kinds))) row locals ≡ Some kinds) (append_assoc before (k ∷ []) kinds) longer) in
    rw (here, rest) refl
  where
    at_end : (before : List KindTree) (k : KindTree) (kinds : List KindTree) → slice_get (before ++ k ∷ kinds) (length before) ≡ Some k
    at_end [] k kinds = refl
    at_end (b ∷ before) k kinds = at_end before k kinds

row_holds : (columns : List FieldTree) (locals : List KindTree) → items_kinds (map plain_item (fields_from 0 (length columns))) (map tree_kind columns) locals ≡ Some (map tree_kind columns)
row_holds columns locals =
    subst (λ n. items_kinds (map plain_item (fields_from 0 n)) (map tree_kind columns) locals ≡ Some (map tree_kind columns)) (length-map columns tree_kind)
    (row_kinds_from [] (map tree_kind columns) locals)

-- ---- one field

one_holds : (s : Place) (t : Typed) (c : FieldTree) → expr_kind t (place_row s) (locals_of s) ≡ Some (tree_kind c) → IsColumn c → ItemsHold s (one_column t c)
one_holds s t c e h = record { kinds = rw (e) refl; columns = (h, tt) }

named_holds : (s : Place) (p : Typing) (f : NameForm) (g : Generated) → Holds s p → Named p f g → ItemsHold s g
named_holds s p f g h (named_bare {name = name}) = one_holds s (typed_of p) (with_name name (typed_column p)) h.kind h.field
named_holds s p f g h (named_cast {name = name} {type = type} {d = d} e within may) =
    one_holds s (x_cast (tree_kind d) (typed_of p)) (with_name name d) (rw (h.kind, may) refl) (written_field_is type d e)

plain_holds : (s : Place) (p : Typing) (names : Option AsNames) (g : Generated) → Holds s p → Plain p names g → ItemsHold s g
plain_holds s p names g h plain_bare = one_holds s (typed_of p) (typed_column p) h.kind h.field
plain_holds s p names g h (plain_named {f = f} e k) = named_holds s p f g h k

-- ---- FLATTEN

under_kinds : (name : Option (List ℕ)) (cs : List FieldTree) → map tree_kind (map (under_name name) cs) ≡ map tree_kind cs
under_kinds name [] = refl
under_kinds name (c ∷ cs) = ap (λ ks. tree_kind c ∷ ks) (under_kinds name cs)

under_columns : (name : Option (List ℕ)) (cs : List FieldTree) → AreColumns cs → AreColumns (map (under_name name) cs)
under_columns name [] h = tt
under_columns name (c ∷ cs) h = (h.0, under_columns name cs h.1)

abbrev AreFlattened : FieldTree → List FieldTree → Type 0
AreFlattened c columns = (flattened_kinds (tree_kind c) ≡ Some (map tree_kind columns)) × AreColumns columns

flattened_hold : (c : FieldTree) (columns : List FieldTree) → IsColumn c → flattened_columns c ≡ Some columns → AreFlattened c columns
flattened_hold (a_field name (k_tuple ks) inner) columns h e =
    let same : map (under_name name) (inner_list inner) ≡ columns = cc in
    subst (AreFlattened (a_field name (k_tuple ks) inner)) same
    (ap Some (sym (under_kinds name (inner_list inner) ∙ inner_kinds ks inner h)), under_columns name (inner_list inner) (inner_all ks inner h))
flattened_hold (a_field name (k_bag ks) inner) columns h e =
    let same : map (under_name name) (inner_list inner) ≡ columns = cc in
    subst (AreFlattened (a_field name (k_bag ks) inner)) same
    (ap Some (sym (under_kinds name (inner_list inner) ∙ inner_kinds ks inner h)), under_columns name (inner_list inner) (inner_all ks inner h))
flattened_hold (a_field name (k_map k) inner) columns h e = absurd (cc)
flattened_hold (a_field name k_boolean inner) columns h e = let same : a_field name k_boolean inner ∷ [] ≡ columns = cc in subst (AreFlattened (a_field name k_boolean inner)) same (refl, (h, tt))
flattened_hold (a_field name k_int inner) columns h e = let same : a_field name k_int inner ∷ [] ≡ columns = cc in subst (AreFlattened (a_field name k_int inner)) same (refl, (h, tt))
flattened_hold (a_field name k_long inner) columns h e = let same : a_field name k_long inner ∷ [] ≡ columns = cc in subst (AreFlattened (a_field name k_long inner)) same (refl, (h, tt))
flattened_hold (a_field name k_chars inner) columns h e = let same : a_field name k_chars inner ∷ [] ≡ columns = cc in subst (AreFlattened (a_field name k_chars inner)) same (refl, (h, tt))
flattened_hold (a_field name k_bytes inner) columns h e = let same : a_field name k_bytes inner ∷ [] ≡ columns = cc in subst (AreFlattened (a_field name k_bytes inner)) same (refl, (h, tt))

renamed_hold : {cs ds : List FieldTree} {fs : List NameForm} → AllRenamed cs fs ds → AreColumns cs → (map tree_kind ds ≡ map tree_kind cs) × AreColumns ds
renamed_hold none_renamed h = (refl, tt)
renamed_hold (one_renamed {c = c} {cs = cs} {ds = ds} renamed_bare g) h =
    let more = renamed_hold g h.1 in
    (ap (λ ks. tree_kind c ∷ ks) more.0, (h.0, more.1))
renamed_hold (one_renamed {c = c} {cs = cs} {ds = ds} (renamed_typed {d = d} {type = type} e within t) g) h =
    let more = renamed_hold g h.1 in
    let same : tree_kind d ≡ tree_kind c = kind_same (tree_kind d) (tree_kind c) t in
    let kinds = more.0 in
    (cc, (written_field_is type d e, more.1))

width_is : (columns : List FieldTree) → of_width (length columns) (map tree_kind columns) ≡ Some (map tree_kind columns)
width_is columns = subst (λ n. of_width n (map tree_kind columns) ≡ Some (map tree_kind columns)) (length-map columns tree_kind) (own_width (map tree_kind columns))
  where
    own_width : (ks : List KindTree) → of_width (length ks) ks ≡ Some ks
    own_width ks = rw (eq-eqb (length ks) (length ks) refl) refl

flat_kinds_hold : (s : Place) (p : Typing) (columns : List FieldTree) → Holds s p → flattened_kinds (kind_in p) ≡ Some (map tree_kind columns) → AreColumns columns
    → ItemsHold s (flat_columns (typed_of p) columns)
flat_kinds_hold s p columns h e g = record { kinds = rw (h.kind, e, width_is columns) (ap Some (append-nil (map tree_kind columns))); columns = g }

flat_holds : (s : Place) (p : Typing) (names : Option AsNames) (g : Generated) → Holds s p → Flat p names g → ItemsHold s g
flat_holds s p names g h (flat_bare {columns = columns} e) = let w = flattened_hold (typed_column p) columns h.field e in flat_kinds_hold s p columns h w.0 w.1
flat_holds s p names g h (flat_named {columns = columns} {renamed = renamed} e k) =
    let w = flattened_hold (typed_column p) columns h.field e in
    let v = renamed_hold k w.1 in
    flat_kinds_hold s p renamed h (w.0 ∙ ap Some (sym v.0)) v.1

-- ---- all items

item_holds : (s : Place) → IsPlace s → (i : Item) (g : Generated) → Generates s i g → ItemsHold s g
item_holds s w i g generates_all = record { kinds = row_holds s.columns (locals_of s); columns = w.0 }
item_holds s w i g (generates_value {value = value} {names = names} {p = p} h k) = plain_holds s p names g (holds s w (expr_form value) p h) k
item_holds s w i g (generates_flat {value = value} {names = names} {p = p} h k) = flat_holds s p names g (holds s w (expr_form value) p h) k

pub items_hold : (s : Place) → IsPlace s → (is : List Item) (g : Generated) → AllGenerate s is g → ItemsHold s g
items_hold s w is g none_generate = record { kinds = refl; columns = tt }
items_hold s w is g (more_generate {i = i} {is = more} {g = k} {h = l} h t) =
    let first = item_holds s w i k h in
    let others = items_hold s w more l t in
    record {
      kinds = kinds_append k.items l.items (place_row s) (locals_of s) (map tree_kind k.columns) (map tree_kind l.columns) first.kinds others.kinds ∙ ap Some (sym (map-append tree_kind k.columns l.columns));
      columns = columns_append k.columns l.columns first.columns others.columns;
    }
