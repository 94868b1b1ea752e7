-- The fields of a row's code, one after the other.
use Rattle.std.proofs.Common.{◌≡◌, ℕ, List, [], ◌∷◌, ◌++◌, drop, map, refl, sym, ◌∙◌, ap, subst, append-nil}
use Rattle.std.proofs.lemmas.List.{append_assoc}
use Rattle.pig_value.specs.Texts.{text_of}
use Rattle.pig_value.specs.Trees.{Fields, Tree, fields_list, fields_of, more_fields, no_fields}
use Rattle.pig_value.specs.Valid.{AreFields, IsValue}
use Rattle.pig_value.proofs.TreeLaws.{fields_back}
use Rattle.pig_keycode.specs.Codable.{IsCodeOfRow}
use Rattle.pig_keycode.specs.Codes.{code, fields_code}
use Rattle.pig_packed_text.specs.SeenTexts.{BeginsNone}

-- so many texts are read, and these fields are left
pub record IsLeft (row : List Tree) (texts : List (List ℕ)) (rest : List ℕ) : Type 0 where
  pub fields : Fields
  pub is : rest ≡ fields_code fields
  pub values : AreFields fields
  pub whole : texts ++ map text_of (fields_list fields) ≡ map text_of row

none_read : (bytes : List ℕ) (row : List Tree) → IsCodeOfRow bytes row → IsLeft row [] (drop 1 bytes)
none_read bytes row h = record {
  fields = fields_of row;
  is = ap (λ l. drop 1 l) h.is;
  values = h.value;
  whole = ap (map text_of) (fields_back row);
}

-- what a field is read as
abbrev pub ReadsAs : List ℕ → List ℕ → List ℕ → Type 0
ReadsAs item text left = (v : Tree) (rest : List ℕ) → IsValue v → item ≡ code v ++ rest → (text ≡ text_of v) × (left ≡ rest)

one_more : (row : List Tree) (texts : List (List ℕ)) (fields : Fields) (item text left : List ℕ) → 1 ∷ item ≡ fields_code fields → AreFields fields
    → texts ++ map text_of (fields_list fields) ≡ map text_of row → ReadsAs item text left → IsLeft row (texts ++ text ∷ []) left
one_more row texts no_fields item text left is values whole reads = absurd (cc)
one_more row texts (more_fields v vs) item text left is values whole reads =
    let told = reads v (fields_code vs) values.0 (cc) in
    record {
      fields = vs;
      is = told.1;
      values = values.1;
      whole = append_assoc texts (text ∷ []) (map text_of (fields_list vs)) ∙ (ap (λ t. texts ++ t ∷ map text_of (fields_list vs)) told.0 ∙ whole);
    }

-- a loop that reads one more
pub one_read : (row : List Tree) (texts news : List (List ℕ)) (rest item text left : List ℕ) → rest ≡ 1 ∷ item → news ≡ texts ++ text ∷ [] → IsLeft row texts rest
    → ReadsAs item text left → IsLeft row news left
one_read row texts news rest item text left at is h reads =
    subst (λ ts. IsLeft row ts left) (sym is) (one_more row texts h.fields item text left (sym at ∙ h.is) h.values h.whole reads)

pub begun : (bytes rest : List ℕ) (texts : List (List ℕ)) → rest ≡ drop 1 bytes → texts ≡ [] → (row : List Tree) → IsCodeOfRow bytes row → IsLeft row texts rest
begun bytes rest texts behind none row h =
    subst (λ r. IsLeft row texts r) (sym behind) (subst (λ ts. IsLeft row ts (drop 1 bytes)) (sym none) (none_read bytes row h))

-- no field is left where no mark of one stands
none_left : (row : List Tree) (texts : List (List ℕ)) (fields : Fields) → BeginsNone (fields_code fields) → texts ++ map text_of (fields_list fields) ≡ map text_of row → texts ≡ map text_of row
none_left row texts no_fields none whole = sym (append-nil texts) ∙ whole
none_left row texts (more_fields v vs) none whole = absurd (none (code v ++ fields_code vs) refl)

pub all_read : (row : List Tree) (texts : List (List ℕ)) (rest : List ℕ) → IsLeft row texts rest → BeginsNone rest → texts ≡ map text_of row
all_read row texts rest h none = none_left row texts h.fields (λ item e. none item (h.is ∙ e)) h.whole
