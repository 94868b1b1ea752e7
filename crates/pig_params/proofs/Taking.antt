-- Words parted one after the other: what is taken, and what is left.
use Rattle.std.proofs.Common.{inl, inr, ◌≡◌, ◌∙◌, ◌≤◌, ℕ, ◌+◌, Bool, true, false, List, [], ◌∷◌, ◌++◌, length, map, nat_le, Option, Some, None, if◌then◌else◌, refl, sym, ap, ap₂, subst, arith, take, drop, get_or, ◌-◌, leb-true}
use Rattle.std.specs.Option.{option_map}
use Rattle.std.proofs.lemmas.List.{append_assoc, length-append, length-map}
use Rattle.std.proofs.lemmas.Slice.{first_rest}
use Rattle.pig_value.specs.Results.{◌>>=◌}
use Rattle.pig_params.specs.Given.{named_of}
use Rattle.pig_params.specs.ParamWords.{Parted, and_param, and_word, apart, few, first_word, last_word, mark_of, other, param_of, parted, with_param, with_text}
use Rattle.pig_params.specs.Substitution.{Named}
use Rattle.pig_params.specs.TakenViews.{IsUseless, NoParam, NoText, Takes, and_then, parted_of, taken_and}
use Rattle.pig_params.specs.declared.words.Taken.{Taken}

-- ---- the first of words

parted_other : (word : List ℕ) (words : List (List ℕ)) → mark_of word ≡ other → parted (word ∷ words) ≡ option_map (and_word word) (parted words)
parted_other word [] e = ap (last_word word) e
parted_other word (next ∷ more) e = ap (λ m. first_word word next more m (parted (next ∷ more)) (parted more)) e

parted_joined : (word text : List ℕ) (words : List (List ℕ)) → mark_of word ≡ with_param text → parted (word ∷ words) ≡ with_text text (parted words)
parted_joined word text [] e = ap (last_word word) e
parted_joined word text (next ∷ more) e = ap (λ m. first_word word next more m (parted (next ∷ more)) (parted more)) e

parted_apart : (word text : List ℕ) (words : List (List ℕ)) → mark_of word ≡ apart → parted (word ∷ text ∷ words) ≡ with_text text (parted words)
parted_apart word text words e = ap (λ m. first_word word text words m (parted (text ∷ words)) (parted words)) e

parted_alone : (word : List ℕ) → mark_of word ≡ apart → parted (word ∷ []) ≡ None
parted_alone word e = ap (last_word word) e

-- ---- behind what is taken

and_one_word : (word : List ℕ) (old new : Taken) (o : Option Parted) → new.rest ≡ old.rest ++ word ∷ [] → new.params ≡ old.params
    → option_map (and_then (parted_of old)) (option_map (and_word word) o) ≡ option_map (and_then (parted_of new)) o
and_one_word word old new None rest params = refl
and_one_word word old new (Some q) rest params =
    ap₂ (λ rest params. Some (rest, map named_of params ++ q.1)) (sym (append_assoc old.rest (word ∷ []) q.0) ∙ ap (λ ws. ws ++ q.0) (sym rest)) (sym params)

pub takes_other : (words left : List (List ℕ)) (word : List ℕ) (old new : Taken) → words ≡ word ∷ left → other ≡ mark_of word → new.rest ≡ old.rest ++ word ∷ [] → new.params ≡ old.params → Takes words left old new
takes_other words left word old new first is rest params =
    ap (taken_and old) first ∙ ap (option_map (and_then (parted_of old))) (parted_other word left (sym is)) ∙ and_one_word word old new (parted left) rest params

-- ---- what is refused

-- whatever comes behind, there are too many
too_many : (old : Taken) (p : Named) (o : Option Parted) → 64 ≤ length old.params → IsUseless (option_map (and_then (parted_of old)) (option_map (and_param p) o))
too_many old p None full = refl
too_many old p (Some q) full = by (nat_le (length (map named_of old.params ++ (p ∷ q.1))) 64) refl
  where
    by : (t : Bool) → nat_le (length (map named_of old.params ++ (p ∷ q.1))) 64 ≡ t
        → if◌then◌else◌ {A = Option Parted} t (Some (old.rest ++ q.0, map named_of old.params ++ (p ∷ q.1))) None ≡ None
    by true e =
        let bound : length (map named_of old.params ++ (p ∷ q.1)) ≤ 64 = leb-true _ _ e in
        let sum : length (map named_of old.params ++ (p ∷ q.1)) ≡ length old.params + length {A = Named} (p ∷ q.1) =
        length-append (map named_of old.params) (p ∷ q.1) ∙ ap (λ n. n + length {A = Named} (p ∷ q.1)) (length-map old.params named_of) in
        let some : 1 ≤ length {A = Named} (p ∷ q.1) = omega arith in
        absurd (omega (arith, bound, sum, full, some))
    by false e = refl

pub no_param : (text : List ℕ) (old : Taken) (o : Option Parted) → NoParam text old → IsUseless (option_map (and_then (parted_of old)) (with_text text o))
no_param text old o (inl none) = ap (λ found. option_map (and_then (parted_of old)) (found >>= (λ param. option_map (and_param param) o)) >>= few) none
no_param text old o (inr full) = by (param_of text)
  where
    by : (found : Option Named) → IsUseless (option_map (and_then (parted_of old)) (found >>= (λ param. option_map (and_param param) o)))
    by None = refl
    by (Some p) = too_many old p o full

pub refused_joined : (word text : List ℕ) (words : List (List ℕ)) (old : Taken) → with_param text ≡ mark_of word → NoParam text old → IsUseless (taken_and old (word ∷ words))
refused_joined word text words old is none = subst (λ o. IsUseless (option_map (and_then (parted_of old)) o)) (sym (parted_joined word text words (sym is))) (no_param text old (parted words) none)

pub refused_apart : (word : List ℕ) (words : List (List ℕ)) (old : Taken) → apart ≡ mark_of word → NoText words old → IsUseless (taken_and old (word ∷ words))
refused_apart word [] old is none = ap (λ o. option_map (and_then (parted_of old)) o >>= few) (parted_alone word (sym is))
refused_apart word (text ∷ words) old is none = subst (λ o. IsUseless (option_map (and_then (parted_of old)) o)) (sym (parted_apart word text words (sym is))) (no_param text old (parted words) none)

-- words as the first and those behind it, as a slice pattern has them
pub first_and_behind : (words : List (List ℕ)) (word : List ℕ) → 1 ≤ length words → word ≡ get_or words 0 word → words ≡ word ∷ take (length words - 1) (drop 1 words)
first_and_behind words word some is = first_rest words word (omega (arith, some)) ∙ ap (λ w. w ∷ take (length words - 1) (drop 1 words)) (sym is)
