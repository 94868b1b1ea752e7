-- A key and its name: where the name stands, the group of the key stands, and where it stands nowhere, no group has the key.
use Rattle.std.proofs.Common.{◌≡◌, ◌⊎◌, inl, inr, refl, sym, ap, ◌∙◌, append-nil, arith, true≢false}
use Rattle.std.specs.Prelude.{◌≤◌, ◌<◌, ℕ, Bool, true, false, ◌||◌, List, [], ◌∷◌, get_or, map, position, Option, Some, None, slice_get, IfSome, if◌then◌else◌}
use Rattle.std.specs.List.{AllByRecursion, list_any}
use Rattle.std.specs.Option.{option_map}
use Rattle.std.specs.Ordering.{is_eq}
use Rattle.std.specs.Str.{bytes_eq}
use Rattle.std.proofs.lemmas.Bool.{ltb-true}
use Rattle.std.proofs.lemmas.List.Quantifiers.{position-Some}
use Rattle.std.proofs.lemmas.Option.{slice_get-get_or}
use Rattle.std.proofs.lemmas.Slice.Eq.{bytes_eq-Decides}
use Rattle.pig_value.specs.Orders.{tree_cmp}
use Rattle.pig_value.specs.Trees.{Tree, tree, v_null, v_bool, v_int, v_long, v_chars, v_bytes, v_tuple, v_bag, v_listed, v_map}
use Rattle.pig_value.specs.Valid.{IsValue}
use Rattle.pig_value.proofs.OrderLaws.{tree_same}
use Rattle.pig_value.proofs.list_laws.Bags.{either_way, eq_is}
use Rattle.pig_value.proofs.list_laws.Indexing.{get_map}
use Rattle.pig_value.proofs.list_laws.Listing.{each_at, some_same}
use Rattle.pig_keycode.specs.Codes.{code}
use Rattle.pig_keycode.proofs.Unique.{code_told}
use Rattle.pig_combine.specs.Holdings.{AreHeld, IsHeldGroup, IsNew, group_told}
use Rattle.pig_combine.specs.Names.{is_plain, name}
use Rattle.pig_combine.specs.declared.tally.Group as declared

same_key : (a b : Tree) → IsValue a → IsValue b → code a ≡ code b → a ≡ b
same_key a b p q e = (code_told a b [] [] p q (append-nil (code a) ∙ e ∙ sym (append-nil (code b)))).0

-- ---- a name tells its key

abbrev first_byte : List ℕ → ℕ
first_byte [] = 0
first_byte (b ∷ bs) = b

first_of_code : (v : Tree) → first_byte (code v) ≤ 9
first_of_code v_null = let small : 0 ≤ 9 = omega arith in small
first_of_code (v_bool b) = let small : 1 ≤ 9 = omega arith in small
first_of_code (v_int z) = let small : 2 ≤ 9 = omega arith in small
first_of_code (v_long z) = let small : 3 ≤ 9 = omega arith in small
first_of_code (v_chars text) = let small : 4 ≤ 9 = omega arith in small
first_of_code (v_bytes bytes) = let small : 5 ≤ 9 = omega arith in small
first_of_code (v_tuple vs) = let small : 6 ≤ 9 = omega arith in small
first_of_code (v_bag rs) = let small : 7 ≤ 9 = omega arith in small
first_of_code (v_listed rs) = let small : 8 ≤ 9 = omega arith in small
first_of_code (v_map ps) = let small : 9 ≤ 9 = omega arith in small

first_of_plain : (text : List ℕ) → is_plain text ≡ true → 9 < first_byte text
first_of_plain [] e = absurd (true≢false (sym e))
first_of_plain (b ∷ bs) e = ltb-true 9 b e

no_code : (text : List ℕ) (v : Tree) → is_plain text ≡ true → text ≡ code v → ⊥
no_code text v plain e =
    let large = first_of_plain text plain in
    let small = first_of_code v in
    let same : first_byte text ≡ first_byte (code v) = ap first_byte e in
    omega (arith, large, small, same)

-- a name is the code, or the bytes of a plain text
abbrev IsText : Tree → Type 0
IsText v = (text : List ℕ) × (v ≡ v_chars text) × (name v ≡ text) × (is_plain text ≡ true)

how_named : (v : Tree) → (name v ≡ code v) ⊎ IsText v
how_named (v_chars text) =
    either_way (is_plain text)
    (λ e. inr (text, refl, ap (λ b. if b then text else code (v_chars text)) e, e))
    (λ e. inl (ap (λ b. if b then text else code (v_chars text)) e))
how_named v_null = inl refl
how_named (v_bool b) = inl refl
how_named (v_int z) = inl refl
how_named (v_long z) = inl refl
how_named (v_bytes bytes) = inl refl
how_named (v_tuple vs) = inl refl
how_named (v_bag rs) = inl refl
how_named (v_listed rs) = inl refl
how_named (v_map ps) = inl refl

by_names : (a b : Tree) → IsValue a → IsValue b → name a ≡ name b → (name a ≡ code a) ⊎ IsText a → (name b ≡ code b) ⊎ IsText b → a ≡ b
by_names a b p q e (inl x) (inl y) = same_key a b p q (sym x ∙ e ∙ y)
by_names a b p q e (inl x) (inr y) = absurd (no_code y.0 a y.3 (sym y.2 ∙ sym e ∙ x))
by_names a b p q e (inr x) (inl y) = absurd (no_code x.0 b x.3 (sym x.2 ∙ e ∙ y))
by_names a b p q e (inr x) (inr y) = x.1 ∙ ap v_chars (sym x.2 ∙ e ∙ y.2) ∙ sym y.1

same_named : (a b : Tree) → IsValue a → IsValue b → name a ≡ name b → a ≡ b
same_named a b p q e = by_names a b p q e (how_named a) (how_named b)

-- ---- the groups of names

abbrev name_in : declared.Group → List ℕ
name_in g = name (tree g.key)

-- the group at the place of a key's name is the key's
pub at_name : (names : List (List ℕ)) (groups : List declared.Group) → AreHeld names groups → (key : Tree) → IsValue key → (at : ℕ) → slice_get names at ≡ Some (name key)
    → (g : declared.Group) × (slice_get groups at ≡ Some g) × (tree g.key ≡ key)
at_name names groups held key valid at h = found (slice_get groups at) refl
  where
    there : option_map name_in (slice_get groups at) ≡ Some (name key)
    there = sym (get_map name_in groups at) ∙ ap (λ ns. slice_get ns at) (sym held.0) ∙ h

    found : (o : Option declared.Group) → slice_get groups at ≡ o → (g : declared.Group) × (slice_get groups at ≡ Some g) × (tree g.key ≡ key)
    found None e = absurd (missing (sym (ap (option_map name_in) e) ∙ there))
      where
        missing : None ≡ Some (name key) → ⊥
        missing m = absurd (cc)
    found (Some g) e = (g, e, same_named (tree g.key) key (each_at IsHeldGroup groups at g e held.1).0 valid (some_same (name_in g) (name key) (sym (ap (option_map name_in) e) ∙ there)))

-- where a key's name is new, each group has another key
pub others : (groups : List declared.Group) (key : Tree) → IsNew (name key) (map name_in groups) → AllByRecursion (λ g. is_eq (tree_cmp key g.key) ≡ false) (map group_told groups)
others [] key h = tt
others (g ∷ groups) key h = (
  either_way (is_eq (tree_cmp key (tree g.key)))
      (λ e. absurd (h.0 (ap name (sym (tree_same key (tree g.key) (eq_is (tree_cmp key (tree g.key)) e))))))
      (λ e. e),
  others groups key h.1,
)

-- ---- the place of a name

not_true : (b : Bool) → (b ≡ true → ⊥) → b ≡ false
not_true true h = absurd (h refl)
not_true false h = refl

module _ {K : Type 0} (items : K → List ℕ) (bytes : List ℕ) where
  abbrev same_as : K → Bool
  same_as k = bytes_eq bytes (items k)

  pub place_found : (keys : List K) (r : Option ℕ) → r ≡ position same_as keys → IfSome r (λ at. slice_get (map items keys) at ≡ Some bytes)
  place_found keys None h = tt
  place_found [] (Some at) h = absurd (cc)
  place_found (k ∷ keys) (Some at) h =
      let found = position-Some same_as (k ∷ keys) at k (sym h) in
      get_map items (k ∷ keys) at
      ∙ ap (option_map items) (slice_get-get_or (k ∷ keys) at k found.0)
      ∙ ap Some (sym ((bytes_eq-Decides bytes (items (get_or (k ∷ keys) at k))).0 found.1))

  pub place_new : (keys : List K) → list_any same_as keys ≡ false → IsNew bytes (map items keys)
  place_new [] h = tt
  place_new (k ∷ keys) h =
      either_way (same_as k)
      (λ e. absurd (true≢false (sym (ap (λ b. b || list_any same_as keys) e) ∙ h)))
      (λ e. (
        (λ same. absurd (true≢false (sym ((bytes_eq-Decides bytes (items k)).1 (sym same)) ∙ e))),
        place_new keys (sym (ap (λ b. b || list_any same_as keys) e) ∙ h),
      ))

  pub new_place : (keys : List K) → IsNew bytes (map items keys) → list_any same_as keys ≡ false
  new_place [] h = refl
  new_place (k ∷ keys) h =
      ap (λ b. b || list_any same_as keys) (not_true (same_as k) (λ e. h.0 (sym ((bytes_eq-Decides bytes (items k)).0 e)))) ∙ new_place keys h.1
