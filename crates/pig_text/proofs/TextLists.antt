-- The texts of a tree's lists, as lists.
use Rattle.std.proofs.Common.{◌≡◌, ℕ, List, [], ◌∷◌, map, refl, ◌∙◌, ap}
use Rattle.pig_value.specs.Texts.{text_of, field_texts, tuple_texts, entry_texts, tuple_text}
use Rattle.pig_value.specs.Trees.{Tree, fields_of, tuples_of, entries_of}
use Rattle.pig_text.specs.Texts.{row_as_tuple, pair_text}

pub texts_of_fields : (vs : List Tree) → field_texts (fields_of vs) ≡ map text_of vs
texts_of_fields [] = refl
texts_of_fields (v ∷ vs) = ap (λ l. text_of v ∷ l) (texts_of_fields vs)

pub texts_of_tuples : (rs : List (List Tree)) → tuple_texts (tuples_of rs) ≡ map row_as_tuple rs
texts_of_tuples [] = refl
texts_of_tuples (r ∷ rs) = ap (λ l. tuple_text l ∷ tuple_texts (tuples_of rs)) (texts_of_fields r) ∙ ap (λ l. row_as_tuple r ∷ l) (texts_of_tuples rs)

pub texts_of_entries : (ps : List (List ℕ × Tree)) → entry_texts (entries_of ps) ≡ map pair_text ps
texts_of_entries [] = refl
texts_of_entries (p ∷ ps) = ap (λ l. pair_text p ∷ l) (texts_of_entries ps)
