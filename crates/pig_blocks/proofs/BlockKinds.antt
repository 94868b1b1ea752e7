-- Typed blocks have their kinds, and inside the columns that they give is what is of these.
use Rattle.std.proofs.Common.{◌≡◌, ◌∙◌, ◌≤◌, ◌++◌, ℕ, true, List, [], ◌∷◌, map, length, refl, sym, ap, subst, arith}
use Rattle.std.specs.Prelude.{Some}
use Rattle.std.proofs.lemmas.List.{map-append}
use Rattle.pig_value.specs.Trees.{KindTrees, k_bag, no_kinds, more_kinds, kinds_list, kinds_of}
use Rattle.pig_value.proofs.TreeLaws.{kinds_back}
use Rattle.pig_schema.specs.FieldTrees.{FieldTree, a_field, tree_kind, IsColumn}
use Rattle.pig_syntax.specs.ExprTrees.{expr_form}
use Rattle.pig_syntax.specs.declared.trees.BagRef.{BagRef}
use Rattle.pig_syntax.specs.declared.trees.Item.{Item}
use Rattle.pig_syntax.specs.declared.trees.Nested.{Nested}
use Rattle.pig_syntax.specs.declared.trees.OrderField.{OrderField}
use Rattle.pig_syntax.specs.declared.trees.OrderKeys.{OrderKeys}
use Rattle.pig_syntax.specs.declared.trees.Step.{Step}
use Rattle.pig_typed.specs.BlockKinds.{are_keys, bag_rows, items_kinds, row_kinds, step_kind, steps_kinds}
use Rattle.pig_typed.specs.declared.blocks.SortKey.{SortKey}
use Rattle.pig_typing.specs.Columns.{AreColumns, IsPlace, Place, locals_of, place_row}
use Rattle.pig_typing.specs.Parts.{Typing, typing, typed_of, typed_column, kind_in}
use Rattle.pig_typing.proofs.Inside.{inner_all, inner_kinds, meant_kind}
use Rattle.pig_typing.proofs.ConditionsHold.{condition_kind}
use Rattle.pig_items.proofs.ItemsHold.{items_hold}
use Rattle.pig_typing.proofs.KindsHold.{holds}
use Rattle.pig_blocks.specs.Bags.{Bags, a_bag, bag_form, columns_in, is_bag}
use Rattle.pig_blocks.specs.Foreach.{Foreach, TypesForeach, types_foreach, block_in, columns_of}
use Rattle.pig_blocks.specs.SortKeys.{KeysAre, no_keys, more_keys, SortsBy, sorts_by, fields_meant}
use Rattle.pig_blocks.specs.Steps.{Made, made, step_made, column_made, within, row_place, Makes, makes_filter, makes_distinct, makes_order, makes_limit, makes_take, behind, Stepped, steps_made, place_behind, AllMake, none_make, more_make}

-- ---- keys

keys_are : (columns : List FieldTree) (fields : List OrderField) (ks : List SortKey) → KeysAre columns fields ks → are_keys (map tree_kind columns) ks ≡ true
keys_are columns fields ks no_keys = refl
keys_are columns fields ks (more_keys {others = others} {ks = more} m e g) = rw (meant_kind m, e) (keys_are columns others more g)

pub order_keys : (columns : List FieldTree) (order : OrderKeys) (ks : List SortKey) → SortsBy columns order ks → are_keys (map tree_kind columns) ks ≡ true
order_keys columns order ks (sorts_by h) = keys_are columns (fields_meant columns order) _ h

pub order_some : (columns : List FieldTree) (order : OrderKeys) (ks : List SortKey) → SortsBy columns order ks → 1 ≤ length ks
order_some columns order ks (sorts_by h) = omega arith

-- ---- bags

kinds_there : (ks : KindTrees) → kinds_of (kinds_list ks) ≡ ks
kinds_there no_kinds = refl
kinds_there (more_kinds k ks) = ap (more_kinds k) (kinds_there ks)

-- the kind of a bag is that of its columns, and these have inside what is of their kinds
record IsBag (p : Typing) : Type 0 where
  pub kind : kind_in p ≡ k_bag (kinds_of (map tree_kind (columns_in p)))
  pub columns : AreColumns (columns_in p)

bag_is : (p : Typing) → IsColumn (typed_column p) → is_bag (kind_in p) ≡ true → IsBag p
bag_is (typing t (a_field name (k_bag ks) inner)) h e =
    record { kind = ap k_bag (sym (ap kinds_of (inner_kinds ks inner h) ∙ kinds_there ks)); columns = inner_all ks inner h }
bag_is (typing t (a_field name k inner)) h e = absurd (cc)

record BagHolds (s : Place) (p : Typing) : Type 0 where
  pub rows : bag_rows (typed_of p) (place_row s) (locals_of s) ≡ Some (map tree_kind (columns_in p))
  pub is : IsBag p
  pub field : IsColumn (typed_column p)

bag_holds : (s : Place) → IsPlace s → (b : BagRef) (p : Typing) → Bags s b p → BagHolds s p
bag_holds s w b p (a_bag h e) =
    let hp = holds s w (bag_form b) p h in
    let of_bag = bag_is p hp.field e in
    record { rows = rw (hp.kind, of_bag.kind) (ap Some (kinds_back (map tree_kind (columns_in p)))); is = of_bag; field = hp.field }

-- ---- steps

record MadeHolds (s : Place) (m : Made) : Type 0 where
  pub kind : step_kind (step_made m) (place_row s) (locals_of s) ≡ Some (tree_kind (column_made m))
  pub field : IsColumn (column_made m)

made_holds : (s : Place) → IsPlace s → (n : Nested) (m : Made) → Makes s n m → MadeHolds s m
made_holds s w n m (makes_filter {b = b} {cond = cond} {p = p} {t = t} h g) =
    let bag = bag_holds s w b p h in
    let test = condition_kind (within p) (bag.is.columns, tt) (expr_form cond) t g in
    record { kind = rw (bag.rows, test) (ap Some (sym bag.is.kind)); field = bag.field }
made_holds s w n m (makes_distinct {b = b} {p = p} h) = let bag = bag_holds s w b p h in record { kind = rw (bag.rows) (ap Some (sym bag.is.kind)); field = bag.field }
made_holds s w n m (makes_order {b = b} {keys = keys} {p = p} {ks = ks} h g) =
    let bag = bag_holds s w b p h in
    record { kind = rw (bag.rows, order_keys (columns_in p) keys ks g) (ap Some (sym bag.is.kind)); field = bag.field }
made_holds s w n m (makes_limit {b = b} {p = p} h) = let bag = bag_holds s w b p h in record { kind = rw (bag.rows) (ap Some (sym bag.is.kind)); field = bag.field }
made_holds s w n m (makes_take {b = b} {p = p} h) = let bag = bag_holds s w b p h in record { kind = rw (bag.rows) (ap Some (sym bag.is.kind)); field = bag.field }

-- ---- steps in turn

more_local : (ls : List (List ℕ × FieldTree)) (alias : List ℕ) (c : FieldTree) → AreColumns (map (λ l. l.1) ls) → IsColumn c → AreColumns (map (λ l. l.1) (ls ++ (alias, c) ∷ []))
more_local [] alias c h g = (g, tt)
more_local (l ∷ ls) alias c h g = (h.0, more_local ls alias c h.1 g)

place_more : (s : Place) (alias : List ℕ) (c : FieldTree) → IsPlace s → IsColumn c → IsPlace (behind s alias c)
place_more s alias c w h = (w.0, more_local s.locals alias c w.1 h)

locals_more : (s : Place) (alias : List ℕ) (c : FieldTree) → locals_of (behind s alias c) ≡ locals_of s ++ tree_kind c ∷ []
locals_more s alias c = map-append (λ l. tree_kind l.1) s.locals ((alias, c) ∷ [])

record StepsHold (s : Place) (ss : Stepped) : Type 0 where
  pub kinds : steps_kinds (steps_made ss) (place_row s) (locals_of s) ≡ Some (locals_of (place_behind ss))
  pub row : place_row (place_behind ss) ≡ place_row s
  pub place : IsPlace (place_behind ss)

steps_hold : (s : Place) → IsPlace s → (steps : List Step) (ss : Stepped) → AllMake s steps ss → StepsHold s ss
steps_hold s w steps ss none_make = record { kinds = refl; row = refl; place = w }
steps_hold s w steps ss (more_make {step = step} {steps = rest} {t = t} {c = c} {more = more} h g) =
    let first = made_holds s w step.nested (made t c) h in
    let others = steps_hold (behind s step.alias c) (place_more s step.alias c w first.field) rest more g in
    record {
      kinds = rw (first.kind) (subst (λ ls. steps_kinds (steps_made more) (place_row s) ls ≡ Some (locals_of (place_behind more))) (locals_more s step.alias c) others.kinds);
      row = others.row;
      place = others.place;
    }

-- ---- the whole

pub record ForeachHolds (columns : List FieldTree) (f : Foreach) : Type 0 where
  pub kinds : row_kinds (block_in f) (map tree_kind columns) ≡ Some (map tree_kind (columns_of f))
  pub inside : AreColumns (columns_of f)

pub foreach_holds : (columns : List FieldTree) (steps : List Step) (items : List Item) (f : Foreach) → AreColumns columns → TypesForeach columns steps items f → ForeachHolds columns f
foreach_holds columns steps items f w (types_foreach {ss = ss} {g = g} h k e) =
    let hs = steps_hold (row_place columns) (w, tt) steps ss h in
    let hi = items_hold (place_behind ss) hs.place items g k in
    record {
      kinds = rw (hs.kinds) (subst (λ row. items_kinds g.items row (locals_of (place_behind ss)) ≡ Some (map tree_kind g.columns)) hs.row hi.kinds);
      inside = hi.columns;
    }
