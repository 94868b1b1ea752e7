-- What a text names as a delimiter is one: no LF and no CR.
use Rattle.std.proofs.Common.{◌≡◌, ℕ, ◌==◌, ◌&&◌, Bool, true, false, not, ltb, List, [], ◌∷◌, None, Some, if◌then◌else◌, refl, subst, arith}
use Rattle.std.specs.Bool.{Decides}
use Rattle.std.proofs.lemmas.Bool.Decides.{Decides-and, Decides-eqb, Decides-like, Decides-ltb, Decides-not}
use Rattle.pig_value.specs.Delimiters.{IsDelimiter, delimiter_of, is_delimiter}

delimiter_Decides : (b : ℕ) → Decides (is_delimiter b) (IsDelimiter b)
delimiter_Decides b = Decides-like (is_delimiter b) (λ p. (p.0.0, p.0.1, p.1)) (λ p. ((p.0, p.1), p.2)) (Decides-and (ltb b 128 && not (b == 10)) (not (b == 13)) (Decides-and (ltb b 128) (not (b == 10)) (Decides-ltb b 128) (Decides-not (b == 10) (Decides-eqb b 10))) (Decides-not (b == 13) (Decides-eqb b 13)))

one_letter : (b d : ℕ) (t : Bool) → is_delimiter b ≡ t → (if t then Some b else None) ≡ Some d → IsDelimiter d
one_letter b d true e named = let same : b ≡ d = cc in subst IsDelimiter same ((delimiter_Decides b).0 e)
one_letter b d false e named = cc

two_letters : (d : ℕ) (t : Bool) → (if t then Some 9 else None) ≡ Some d → IsDelimiter d
two_letters d true named = let same : 9 ≡ d = cc in (omega arith, λ e. omega arith, λ e. omega arith)
two_letters d false named = cc

pub named_delimiter : (text : List ℕ) (d : ℕ) → delimiter_of text ≡ Some d → IsDelimiter d
named_delimiter [] d named = cc
named_delimiter (b ∷ []) d named = one_letter b d (is_delimiter b) refl named
named_delimiter (b ∷ next ∷ []) d named = two_letters d (b == 92 && next == 116) named
named_delimiter (b ∷ next ∷ third ∷ more) d named = cc
