-- Loops that look for the first place.
use Rattle.std.proofs.Common.{◌≡◌, ◌∙◌, ◌<◌, ◌≤◌, ◌+◌, ℕ, List, [], ◌∷◌, Bool, true, false, length, map, drop, get_or, sym, ap}
use Rattle.std.specs.Prelude.{Option, if◌then◌else◌}
use Rattle.std.proofs.lemmas.List.{drop-map, drop_all, drop_more}
use Rattle.pig_schema.specs.declared.schema.Field.{Field}
use Rattle.pig_schema.specs.FieldTrees.{name_of, names_of}
use Rattle.pig_schema.specs.Names.{places, places_from}

module _ (test : Option (List ℕ) → Bool) (fields : List Field) where
  next_name : (place : ℕ) (x : Field) → place < length fields → x ≡ get_or fields place x → drop place (names_of fields) ≡ name_of x ∷ drop (place + 1) (names_of fields)
  next_name place x within is =
      drop-map name_of place fields
      ∙ (ap (map name_of) (drop_more fields place x within)
      ∙ (ap (λ y. name_of y ∷ map name_of (drop (place + 1) fields)) (sym is)
      ∙ ap (λ l. name_of x ∷ l) (sym (drop-map name_of (place + 1) fields))))

  at_place : (place : ℕ) (x : Field) (b : Bool) → place < length fields → x ≡ get_or fields place x → test (name_of x) ≡ b
      → places_from test (names_of fields) place ≡ (if b then place ∷ places_from test (names_of fields) (place + 1) else places_from test (names_of fields) (place + 1))
  at_place place x b within is tested =
      ap (places test place) (next_name place x within is)
      ∙ ap (λ c. if c then place ∷ places_from test (names_of fields) (place + 1) else places_from test (names_of fields) (place + 1)) tested

  pub found_at : (start place : ℕ) (x : Field) → places_from test (names_of fields) start ≡ places_from test (names_of fields) place → place < length fields → x ≡ get_or fields place x → true ≡ test (name_of x)
      → places_from test (names_of fields) start ≡ place ∷ places_from test (names_of fields) (place + 1)
  found_at start place x before within is tested = before ∙ at_place place x true within is (sym tested)

  pub not_at : (start place : ℕ) (x : Field) → places_from test (names_of fields) start ≡ places_from test (names_of fields) place → place < length fields → x ≡ get_or fields place x → false ≡ test (name_of x)
      → places_from test (names_of fields) start ≡ places_from test (names_of fields) (place + 1)
  not_at start place x before within is tested = before ∙ at_place place x false within is (sym tested)

  pub none_left : (start place : ℕ) → places_from test (names_of fields) start ≡ places_from test (names_of fields) place → length fields ≤ place → places_from test (names_of fields) start ≡ []
  none_left start place before past = before ∙ ap (places test place) (drop-map name_of place fields ∙ ap (map name_of) (drop_all place fields past))
