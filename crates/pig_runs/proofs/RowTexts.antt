-- The text of a row as a tuple, field by field, and its hash.
use Rattle.std.proofs.Common.{◌≡◌, ◌≤◌, ◌-◌, ℕ, suc, List, [], ◌∷◌, ◌++◌, map, length, take, drop, get_or, refl, sym, ◌∙◌, ap, arith, append-nil}
use Rattle.std.specs.List.{fold, join_with_byte}
use Rattle.std.proofs.lemmas.List.{take_all}
use Rattle.std.proofs.lemmas.List.Sums.{fold-append}
use Rattle.pig_text.specs.Hash.{hash_of, hash_step}
use Rattle.pig_value.specs.Texts.{field_texts, text_of, tuple_text}
use Rattle.pig_value.specs.Trees.{Tree, fields_of, row_tree, tree, v_tuple}
use Rattle.pig_value.specs.declared.values.Value.{Value}

-- texts with a comma before each
abbrev pub with_commas : List (List ℕ) → List ℕ
with_commas [] = []
with_commas (t ∷ ts) = (44 ∷ t) ++ with_commas ts

pub joined_first : (t : List ℕ) (ts : List (List ℕ)) → join_with_byte 44 (t ∷ ts) ≡ t ++ with_commas ts
joined_first t [] = sym (append-nil t)
joined_first t (u ∷ us) = ap (λ l. t ++ 44 ∷ l) (joined_first u us)

-- what is told of the first text and of those behind it
pub told_first : (h told : ℕ) (t : List ℕ) (ts : List (List ℕ)) → told ≡ fold hash_step h t → fold hash_step told (with_commas ts) ≡ fold hash_step h (join_with_byte 44 (t ∷ ts))
told_first h told t ts is =
    ap (λ n. fold hash_step n (with_commas ts)) is ∙ (sym (fold-append hash_step h t (with_commas ts)) ∙ ap (fold hash_step h) (sym (joined_first t ts)))

-- what is told of a comma and of one text more
pub told_next : (h comma told : ℕ) (t : List ℕ) (ts : List (List ℕ)) → comma ≡ fold hash_step h (44 ∷ []) → told ≡ fold hash_step comma t
    → fold hash_step told (with_commas ts) ≡ fold hash_step h (with_commas (t ∷ ts))
told_next h comma told t ts first then =
    ap (λ n. fold hash_step n (with_commas ts)) (then ∙ ap (λ n. fold hash_step n t) first) ∙ sym (fold-append hash_step h (44 ∷ t) (with_commas ts))

texts_of_fields : (vs : List Tree) → field_texts (fields_of vs) ≡ map text_of vs
texts_of_fields [] = refl
texts_of_fields (v ∷ vs) = ap (λ ts. text_of v ∷ ts) (texts_of_fields vs)

-- the hash of a row as a tuple is that of its text
pub tuple_hash : (row : List Tree) → hash_of (tuple_text (map text_of row)) ≡ hash_of (text_of (v_tuple (fields_of row)))
tuple_hash row = ap (λ ts. hash_of (tuple_text ts)) (sym (texts_of_fields row))

-- once the first of some fields is told
pub begins : (fields : List Value) (first : Value) (h told : ℕ) → 1 ≤ length fields → first ≡ get_or fields 0 first → told ≡ fold hash_step h (text_of (tree first))
    → fold hash_step told (with_commas (map text_of (row_tree (take (length fields - 1) (drop 1 fields))))) ≡ fold hash_step h (join_with_byte 44 (map text_of (row_tree fields)))
begins [] first h told some is then = absurd (omega (arith, some))
begins (v ∷ vs) first h told some is then =
    let count : suc (length vs) - 1 ≡ length vs = omega arith in
    let rest : take (suc (length vs) - 1) vs ≡ vs = ap (λ n. take n vs) count ∙ take_all (length vs) vs (omega arith) in
    ap (λ rs. fold hash_step told (with_commas (map text_of (row_tree rs)))) rest
    ∙ told_first h told (text_of (tree v)) (map text_of (row_tree vs)) (then ∙ ap (λ w. fold hash_step h (text_of (tree w))) is)
