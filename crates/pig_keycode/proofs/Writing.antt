-- Steps of the loops that write codes.
use Rattle.std.proofs.Common.{◌≡◌, ℕ, zero, suc, ◌+◌, ◌<◌, List, [], ◌∷◌, ◌++◌, length, map, drop, get_or, refl, sym, ◌∙◌, ap, arith}
use Rattle.std.proofs.lemmas.List.{append_assoc, drop_more}
use Rattle.pig_value.specs.Trees.{Tree, row_tree, entries_of}
use Rattle.pig_value.specs.declared.values.Value.{Value}
use Rattle.pig_value.specs.declared.operators.Dir.{Dir}
use Rattle.pig_keycode.specs.Keys.{codes_in, fields_at}
use Rattle.pig_keycode.specs.Codes.{escaped, escaped_byte, text_code, code, entries_code}
use Rattle.pig_keycode.specs.Reading.{HasNoZero}
use Rattle.pig_value.specs.Extended.{IsExtended}

-- a pair is written: the mark, the key as a chararray and the value
pub pair_written : {V : Type 0} (entry : V → List ℕ × Tree) (xs : List V) (i : ℕ) (x : V) (key : List ℕ) (v : Tree) (old marked with_key new whole : List ℕ)
    → i < length xs → x ≡ get_or xs i x → entry x ≡ (key, v)
    → marked ≡ old ++ 1 ∷ [] → with_key ≡ marked ++ 4 ∷ text_code key → new ≡ with_key ++ code v
    → old ++ entries_code (entries_of (map entry (drop i xs))) ≡ whole → new ++ entries_code (entries_of (map entry (drop (i + 1) xs))) ≡ whole
pair_written entry xs i x key v old marked with_key new whole within at is mark head tail so_far =
    let more = entries_code (entries_of (map entry (drop (i + 1) xs))) in
    let here : drop i xs ≡ x ∷ drop (i + 1) xs = drop_more xs i x within ∙ ap (λ y. y ∷ drop (i + 1) xs) (sym at) in
    let pair : List ℕ × Tree = (key, v) in
    ap (λ l. l ++ more) tail
    ∙ (append_assoc with_key (code v) more
    ∙ (ap (λ l. l ++ (code v ++ more)) head
    ∙ (append_assoc marked (4 ∷ text_code key) (code v ++ more)
    ∙ (ap (λ l. l ++ 4 ∷ (text_code key ++ (code v ++ more))) mark
    ∙ (append_assoc old (1 ∷ []) (4 ∷ (text_code key ++ (code v ++ more)))
    ∙ (ap (λ p. old ++ entries_code (entries_of (p ∷ map entry (drop (i + 1) xs)))) (sym is)
    ∙ (ap (λ l. old ++ entries_code (entries_of (map entry l))) (sym here) ∙ so_far)))))))

-- what has grown three times has grown
pub grown_thrice : (start old marked with_key new : List ℕ) → IsExtended start old → marked ≡ old ++ 1 ∷ [] → IsExtended marked with_key → IsExtended with_key new → IsExtended start new
grown_thrice start old marked with_key new a mark b c = record {
  more = a.more ++ 1 ∷ (b.more ++ c.more);
  is =
      c.is
      ∙ (ap (λ l. l ++ c.more) b.is
      ∙ (append_assoc marked b.more c.more
      ∙ (ap (λ l. l ++ (b.more ++ c.more)) mark
      ∙ (append_assoc old (1 ∷ []) (b.more ++ c.more)
      ∙ (ap (λ l. l ++ 1 ∷ (b.more ++ c.more)) a.is
      ∙ append_assoc start a.more (1 ∷ (b.more ++ c.more)))))));
}

-- what has grown by parts has grown
pub grown_twice : (start old mid new first second : List ℕ) → IsExtended start old → mid ≡ old ++ first → new ≡ mid ++ second → IsExtended start new
grown_twice start old mid new first second a b c = record {
  more = a.more ++ (first ++ second);
  is =
      c
      ∙ (ap (λ l. l ++ second) b
      ∙ (append_assoc old first second
      ∙ (ap (λ l. l ++ (first ++ second)) a.is
      ∙ append_assoc start a.more (first ++ second))));
}

-- a zero byte and what is before it are written, and what is behind it is left; or nothing is left but the end
pub escaped_plain : (xs : List ℕ) → HasNoZero xs → escaped xs ≡ xs
escaped_plain [] h = refl
escaped_plain (zero ∷ xs) h = absurd (h.0 refl)
escaped_plain (suc x ∷ xs) h = ap (λ l. suc x ∷ l) (escaped_plain xs h.1)

escaped-append : (xs ys : List ℕ) → escaped (xs ++ ys) ≡ escaped xs ++ escaped ys
escaped-append [] ys = refl
escaped-append (x ∷ xs) ys = ap (λ l. escaped_byte x ++ l) (escaped-append xs ys) ∙ sym (append_assoc (escaped_byte x) (escaped xs) (escaped ys))

pub zero_written : (old out new whole rest plain more : List ℕ) → out ≡ old ++ plain → new ≡ out ++ 0 ∷ 255 ∷ []
    → HasNoZero plain → rest ≡ plain ++ 0 ∷ more → old ++ text_code rest ≡ whole → new ++ text_code more ≡ whole
zero_written old out new whole rest plain more first second none is so_far =
    let split : escaped rest ≡ plain ++ 0 ∷ 255 ∷ escaped more =
    ap escaped is ∙ (escaped-append plain (0 ∷ more) ∙ ap (λ l. l ++ 0 ∷ 255 ∷ escaped more) (escaped_plain plain none))
    in
    ap (λ l. l ++ text_code more) second
    ∙ (append_assoc out (0 ∷ 255 ∷ []) (text_code more)
    ∙ (ap (λ l. l ++ 0 ∷ 255 ∷ text_code more) first
    ∙ (append_assoc old plain (0 ∷ 255 ∷ text_code more)
    ∙ (ap (λ l. old ++ l) (sym (ap (λ l. l ++ 0 ∷ 0 ∷ []) split ∙ append_assoc plain (0 ∷ 255 ∷ escaped more) (0 ∷ 0 ∷ [])))
    ∙ so_far))))

pub end_written : (old out new whole rest : List ℕ) → out ≡ old ++ rest → new ≡ out ++ 0 ∷ 0 ∷ [] → HasNoZero rest → old ++ text_code rest ≡ whole → new ≡ whole
end_written old out new whole rest first second none so_far =
    second
    ∙ (ap (λ l. l ++ 0 ∷ 0 ∷ []) first
    ∙ (append_assoc old rest (0 ∷ 0 ∷ [])
    ∙ (ap (λ l. old ++ (l ++ 0 ∷ 0 ∷ [])) (sym (escaped_plain rest none))
    ∙ so_far)))

-- no fields have no codes, in any directions
pub none_directed : (ds : List Dir) (vs : List Value) → length vs < 1 → codes_in ds (row_tree vs) ≡ []
none_directed [] vs h = refl
none_directed (d ∷ ds) [] h = refl
none_directed (d ∷ ds) (v ∷ vs) h = absurd (omega (arith, h))

pub none_placed : (ds : List Dir) (places : List ℕ) (row : List Tree) → length places < 1 → codes_in ds (fields_at places row) ≡ []
none_placed [] places row h = refl
none_placed (d ∷ ds) [] row h = refl
none_placed (d ∷ ds) (place ∷ places) row h = absurd (omega (arith, h))
