-- The columns inside what is typed are those of its kind.
use Rattle.std.proofs.Common.{◌≡◌, ℕ, zero, suc, List, [], ◌∷◌, map, refl, sym, ap, subst}
use Rattle.std.specs.Prelude.{⊤, Option, Some, None, slice_get}
use Rattle.std.specs.Option.{option_and_then, option_map}
use Rattle.pig_value.specs.Trees.{KindTree, KindTrees, k_boolean, k_int, k_long, k_chars, k_bytes, k_tuple, k_bag, k_map, no_kinds, more_kinds, kinds_of, kinds_list}
use Rattle.pig_schema.specs.FieldTrees.{FieldTree, FieldTrees, no_inner, more_inner, inner_of, inner_list, tree_kind, tree_inner, HasInner, AreInner, IsColumn}
use Rattle.pig_syntax.specs.ExprTrees.{TypeForm, FieldForms, t_int, t_long, t_chars, t_bytes, t_boolean, t_float, t_tuple, t_bag, t_map, t_map_bare, no_fields, typed_field, bare_field}
use Rattle.pig_syntax.specs.declared.trees.FieldRef.{FieldRef}
use Rattle.pig_typed.specs.ExprKinds.{picked_kinds}
use Rattle.pig_typing.specs.Columns.{AreColumns, RefersTo, by_name, by_position, unnamed, inner_unnamed, each_unnamed}
use Rattle.pig_typing.specs.Parts.{Picks, Selects, none_selected, one_selected, pick_places, picked}
use Rattle.pig_typing.specs.Written.{of_fields, of_values, scalar_column, with_name, written, written_fields}

pub all_inner : (cs : List FieldTree) → AreColumns cs → AreInner (kinds_of (map tree_kind cs)) (inner_of cs)
all_inner [] h = refl
all_inner (c ∷ cs) h = (refl, h.0, all_inner cs h.1)

pub inner_all : (ks : KindTrees) (inner : FieldTrees) → AreInner ks inner → AreColumns (inner_list inner)
inner_all no_kinds no_inner h = tt
inner_all no_kinds (more_inner c cs) h = absurd (cc)
inner_all (more_kinds k ks) no_inner h = absurd h
inner_all (more_kinds k ks) (more_inner c cs) h = (subst (λ l. HasInner l (tree_inner c)) (sym h.0) h.1, inner_all ks cs h.2)

pub inner_kinds : (ks : KindTrees) (inner : FieldTrees) → AreInner ks inner → map tree_kind (inner_list inner) ≡ kinds_list ks
inner_kinds no_kinds no_inner h = refl
inner_kinds no_kinds (more_inner c cs) h = absurd (cc)
inner_kinds (more_kinds k ks) no_inner h = absurd h
inner_kinds (more_kinds k ks) (more_inner c cs) h = let e = h.0 in let es = inner_kinds ks cs h.2 in cc

-- ---- columns without names, and written types

mutual
  pub unnamed_inner : (k : KindTree) → HasInner k (inner_of (inner_unnamed k))
  unnamed_inner (k_tuple ks) = unnamed_each ks
  unnamed_inner (k_bag ks) = unnamed_each ks
  unnamed_inner (k_map k) = unnamed_inner k
  unnamed_inner k_boolean = refl
  unnamed_inner k_int = refl
  unnamed_inner k_long = refl
  unnamed_inner k_chars = refl
  unnamed_inner k_bytes = refl

  unnamed_each : (ks : KindTrees) → AreInner ks (inner_of (each_unnamed ks))
  unnamed_each no_kinds = refl
  unnamed_each (more_kinds k ks) = (refl, unnamed_inner k, unnamed_each ks)

pub unnamed_field : (k : KindTree) → IsColumn (unnamed k)
unnamed_field k = unnamed_inner k

-- what holds of what is found, if something is
abbrev Each : {A : Type 0} → (A → Type 0) → Option A → Type 0
Each P None = ⊤
Each P (Some a) = P a

each_map : {A B : Type 0} (P : A → Type 0) (Q : B → Type 0) (f : A → B) → ((a : A) → P a → Q (f a)) → (o : Option A) → Each P o → Each Q (option_map f o)
each_map P Q f keeps None h = tt
each_map P Q f keeps (Some a) h = keeps a h

mutual
  written_each : (type : TypeForm) → Each IsColumn (written type)
  written_each t_int = refl
  written_each t_long = refl
  written_each t_chars = refl
  written_each t_bytes = refl
  written_each t_boolean = refl
  written_each t_float = tt
  written_each (t_tuple fields) = each_map AreColumns IsColumn (of_fields k_tuple) (λ cs h. all_inner cs h) (written_fields fields) (fields_each fields)
  written_each (t_bag fields) = each_map AreColumns IsColumn (of_fields k_bag) (λ cs h. all_inner cs h) (written_fields fields) (fields_each fields)
  written_each (t_map values) = each_map IsColumn IsColumn of_values (λ c h. h) (written values) (written_each values)
  written_each t_map_bare = refl

  fields_each : (fields : FieldForms) → Each AreColumns (written_fields fields)
  fields_each no_fields = tt
  fields_each (typed_field name type fields) = both (written type) (written_each type) (written_fields fields) (fields_each fields)
    where
      both : (o : Option FieldTree) → Each IsColumn o → (p : Option (List FieldTree)) → Each AreColumns p
          → Each AreColumns (option_and_then (λ c. option_map (λ inner. with_name name c ∷ inner) p) o)
      both None h p g = tt
      both (Some c) h None g = tt
      both (Some c) h (Some inner) g = (h, g)
  fields_each (bare_field name fields) = each_map AreColumns AreColumns (λ inner. with_name name (scalar_column k_bytes) ∷ inner) (λ inner h. (refl, h)) (written_fields fields) (fields_each fields)

pub written_field_is : (type : TypeForm) (c : FieldTree) → written type ≡ Some c → IsColumn c
written_field_is type c e = subst (Each IsColumn) e (written_each type)

-- ---- selections

field_at : (columns : List FieldTree) (n : ℕ) (c : FieldTree) → slice_get columns n ≡ Some c → AreColumns columns → IsColumn c
field_at [] n c e h = absurd (cc)
field_at (d ∷ columns) zero c e h = let same : d ≡ c = cc in subst IsColumn same h.0
field_at (d ∷ columns) (suc n) c e h = field_at columns n c e h.1

kind_at : (columns : List FieldTree) (n : ℕ) (c : FieldTree) → slice_get columns n ≡ Some c → slice_get (map tree_kind columns) n ≡ Some (tree_kind c)
kind_at [] n c e = absurd (cc)
kind_at (d ∷ columns) zero c e = let same : d ≡ c = cc in ap (λ x. Some (tree_kind x)) same
kind_at (d ∷ columns) (suc n) c e = kind_at columns n c e

stands : {columns : List FieldTree} {r : FieldRef} {n : ℕ} {c : FieldTree} → RefersTo columns r n c → slice_get columns n ≡ Some c
stands (by_name meant e) = e
stands (by_position e) = e

pub meant_field : {columns : List FieldTree} {r : FieldRef} {n : ℕ} {c : FieldTree} → AreColumns columns → RefersTo columns r n c → IsColumn c
meant_field {columns = columns} {n = n} {c = c} h m = field_at columns n c (stands m) h

pub meant_kind : {columns : List FieldTree} {r : FieldRef} {n : ℕ} {c : FieldTree} → RefersTo columns r n c → slice_get (map tree_kind columns) n ≡ Some (tree_kind c)
meant_kind {columns = columns} {n = n} {c = c} m = kind_at columns n c (stands m)

pub picked_fields : {columns : List FieldTree} {rs : List FieldRef} {ps : Picks} → AreColumns columns → Selects columns rs ps → AreColumns (picked ps)
picked_fields h none_selected = tt
picked_fields h (one_selected m g) = (meant_field h m, picked_fields h g)

pub picked_kind : {columns : List FieldTree} {rs : List FieldRef} {ps : Picks} → Selects columns rs ps → picked_kinds (pick_places ps) (map tree_kind columns) ≡ Some (map tree_kind (picked ps))
picked_kind none_selected = refl
picked_kind (one_selected m g) = rw (meant_kind m, picked_kind g) refl
