-- Codes compare as values do, whatever follows them. All the laws of the code come from this.
use Rattle.std.proofs.Common.{◌≡◌, ℕ, Bool, true, false, List, ◌∷◌, ◌++◌, refl, sym, ◌∙◌, ap}
use Rattle.std.specs.Ordering.{nat_cmp, bool_cmp, ordering_then}
use Rattle.std.specs.Cmp.Lexicographic.{slice_cmp}
use Rattle.std.specs.declared.cmp.Ordering.{Ordering}
use Rattle.std.proofs.lemmas.List.{append_assoc}
use Rattle.pig_value.specs.Trees.{Tree, Fields, Tuples, Entries, v_null, v_bool, v_int, v_long, v_chars, v_bytes, v_tuple, v_bag, v_listed, v_map, no_fields, more_fields, no_tuples, more_tuples, no_entries, more_entries}
use Rattle.pig_value.specs.Orders.{text_cmp, tree_cmp, fields_cmp, tuples_cmp, entries_cmp}
use Rattle.pig_value.specs.Valid.{IsValue, AreFields, AreTuples, AreEntries}
use Rattle.pig_keycode.specs.Codes.{bool_code, text_code, code, fields_code, tuples_code, entries_code}
use Rattle.pig_keycode.proofs.TextOrder.{then_assoc, text_order}
use Rattle.pig_keycode.proofs.NumberOrder.{int_order, long_order}

bool_order : (a b : Bool) (s t : List ℕ) → slice_cmp nat_cmp (bool_code a ∷ s) (bool_code b ∷ t) ≡ ordering_then (bool_cmp a b) (slice_cmp nat_cmp s t)
bool_order false false s t = refl
bool_order false true s t = refl
bool_order true false s t = refl
bool_order true true s t = refl

-- a part and what follows it, before what follows both
pub chained : (x y u w s t : List ℕ) (r q : Ordering)
    → ((s t : List ℕ) → slice_cmp nat_cmp (x ++ s) (y ++ t) ≡ ordering_then r (slice_cmp nat_cmp s t))
    → slice_cmp nat_cmp (u ++ s) (w ++ t) ≡ ordering_then q (slice_cmp nat_cmp s t)
    → slice_cmp nat_cmp ((x ++ u) ++ s) ((y ++ w) ++ t) ≡ ordering_then (ordering_then r q) (slice_cmp nat_cmp s t)
chained x y u w s t r q first next =
    ap (λ l. slice_cmp nat_cmp l ((y ++ w) ++ t)) (append_assoc x u s)
    ∙ (ap (λ l. slice_cmp nat_cmp (x ++ (u ++ s)) l) (append_assoc y w t)
    ∙ (first (u ++ s) (w ++ t) ∙ (ap (ordering_then r) next ∙ sym (then_assoc r q (slice_cmp nat_cmp s t)))))

mutual
  pub code_order : (a b : Tree) → IsValue a → IsValue b → (s t : List ℕ) → slice_cmp nat_cmp (code a ++ s) (code b ++ t) ≡ ordering_then (tree_cmp a b) (slice_cmp nat_cmp s t)
  code_order v_null v_null h k s t = refl
  code_order (v_bool a) (v_bool b) h k s t = bool_order a b s t
  code_order (v_int a) (v_int b) h k s t = int_order a b s t h k
  code_order (v_long a) (v_long b) h k s t = long_order a b s t h k
  code_order (v_chars a) (v_chars b) h k s t = text_order a b s t
  code_order (v_bytes a) (v_bytes b) h k s t = text_order a b s t
  code_order (v_tuple a) (v_tuple b) h k s t = fields_order a b h k s t
  code_order (v_bag a) (v_bag b) h k s t = tuples_order a b h.1 k.1 s t
  code_order (v_listed a) (v_listed b) h k s t = tuples_order a b h k s t
  code_order (v_map a) (v_map b) h k s t = entries_order a b h.1 k.1 s t
  code_order a b h k s t = refl

  pub fields_order : (a b : Fields) → AreFields a → AreFields b → (s t : List ℕ) → slice_cmp nat_cmp (fields_code a ++ s) (fields_code b ++ t) ≡ ordering_then (fields_cmp a b) (slice_cmp nat_cmp s t)
  fields_order no_fields no_fields h k s t = refl
  fields_order no_fields (more_fields w ws) h k s t = refl
  fields_order (more_fields v vs) no_fields h k s t = refl
  fields_order (more_fields v vs) (more_fields w ws) h k s t =
      chained (code v) (code w) (fields_code vs) (fields_code ws) s t (tree_cmp v w) (fields_cmp vs ws) (code_order v w h.0 k.0) (fields_order vs ws h.1 k.1 s t)

  pub tuples_order : (a b : Tuples) → AreTuples a → AreTuples b → (s t : List ℕ) → slice_cmp nat_cmp (tuples_code a ++ s) (tuples_code b ++ t) ≡ ordering_then (tuples_cmp a b) (slice_cmp nat_cmp s t)
  tuples_order no_tuples no_tuples h k s t = refl
  tuples_order no_tuples (more_tuples w ws) h k s t = refl
  tuples_order (more_tuples v vs) no_tuples h k s t = refl
  tuples_order (more_tuples v vs) (more_tuples w ws) h k s t =
      chained (fields_code v) (fields_code w) (tuples_code vs) (tuples_code ws) s t (fields_cmp v w) (tuples_cmp vs ws) (fields_order v w h.0 k.0) (tuples_order vs ws h.1 k.1 s t)

  pub entries_order : (a b : Entries) → AreEntries a → AreEntries b → (s t : List ℕ) → slice_cmp nat_cmp (entries_code a ++ s) (entries_code b ++ t) ≡ ordering_then (entries_cmp a b) (slice_cmp nat_cmp s t)
  entries_order no_entries no_entries h k s t = refl
  entries_order no_entries (more_entries l w qs) h k s t = refl
  entries_order (more_entries key v ps) no_entries h k s t = refl
  entries_order (more_entries key v ps) (more_entries l w qs) h k s t =
      chained (text_code key) (text_code l) (code v ++ entries_code ps) (code w ++ entries_code qs) s t (text_cmp key l) (ordering_then (tree_cmp v w) (entries_cmp ps qs)) (text_order key l)
      (chained (code v) (code w) (entries_code ps) (entries_code qs) s t (tree_cmp v w) (entries_cmp ps qs) (code_order v w h.1 k.1) (entries_order ps qs h.2 k.2 s t))
      ∙ ap (λ r. ordering_then r (slice_cmp nat_cmp s t)) (sym (then_assoc (text_cmp key l) (tree_cmp v w) (entries_cmp ps qs)))
