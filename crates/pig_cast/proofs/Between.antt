-- Two brackets and what stands between them.
use Rattle.std.proofs.Common.{◌≡◌, ◌==◌, ◌&&◌, ◌+◌, ◌-◌, ◌<◌, ◌≤◌, ℕ, suc, Bool, true, false, inl, inr, leb, List, [], ◌∷◌, ◌++◌, length, take, get_or, refl, sym, ◌∙◌, ap, arith}
use Rattle.std.specs.Bool.{Decides}
use Rattle.std.proofs.lemmas.Bool.Decides.{Decides-eqb, leb_tells}
use Rattle.std.proofs.lemmas.List.{length-append, take_all, take_more}
use Rattle.std.proofs.Math.Seq.{get_or-append_seam, take-append_seam}
use Rattle.pig_value.specs.Brackets.{IsBalanced, inside, is_balanced, is_bracketed}
use Rattle.pig_value.specs.Fields.{IsBracketed}
use Rattle.pig_cast.proofs.Balance.{balanced_Decides, both_true}

leb_Decides : (a b : ℕ) → Decides (leb a b) (a ≤ b)
leb_Decides a b = elim (leb_tells a b) [
  | inl low ↦ (λ h. low.1, λ h. low.0)
  | inr high ↦ (λ h. let wrong : true ≡ false = sym h ∙ high.0 in absurd (cc), λ h. let below : b < a = high.1 in absurd (omega arith))
]

pub inside_is : (opening closing : ℕ) (body : List ℕ) → inside (opening ∷ (body ++ closing ∷ [])) ≡ body
inside_is opening closing body =
    let e : length (opening ∷ (body ++ closing ∷ [])) - 1 - 1 ≡ length body = omega (arith, length-append body (closing ∷ [])) in
    ap (λ n. take n (body ++ closing ∷ [])) e ∙ take-append_seam body (closing ∷ [])

all_true : (a b c d : Bool) → a ≡ true → b ≡ true → c ≡ true → d ≡ true → (a && b && c && d) ≡ true
all_true a b c d e f g h = λ i. e i && f i && g i && h i

pub bracketed_is : (opening closing : ℕ) (body : List ℕ) → IsBalanced body → is_bracketed opening closing (opening ∷ (body ++ closing ∷ [])) ≡ true
bracketed_is opening closing body is =
    let bytes : List ℕ = opening ∷ (body ++ closing ∷ []) in
    let long : 2 ≤ length bytes = omega (arith, length-append body (closing ∷ [])) in
    let at : length bytes - 1 ≡ suc (length body) = omega (arith, length-append body (closing ∷ [])) in
    let last : get_or bytes (length bytes - 1) 0 ≡ closing = ap (λ n. get_or bytes n 0) at ∙ get_or-append_seam body closing [] 0 in
    all_true (leb 2 (length bytes)) (opening == opening) (get_or bytes (length bytes - 1) 0 == closing) (is_balanced (inside bytes)) ((leb_Decides 2 (length bytes)).1 long) ((Decides-eqb opening opening).1 refl) ((Decides-eqb (get_or bytes (length bytes - 1) 0) closing).1 last) (ap is_balanced (inside_is opening closing body) ∙ (balanced_Decides body).1 is)

whole_rest : (rest : List ℕ) → 1 ≤ length rest → rest ≡ take (length rest - 1) rest ++ get_or rest (length rest - 1) 0 ∷ []
whole_rest rest long =
    let e : (length rest - 1) + 1 ≡ length rest = omega arith in
    sym (take_all (length rest) rest (omega arith)) ∙ (ap (λ n. take n rest) (sym e) ∙ take_more rest (length rest - 1) 0 (omega arith))

pub bracketed_gives : (opening closing : ℕ) (bytes : List ℕ) → is_bracketed opening closing bytes ≡ true → IsBracketed opening closing bytes (inside bytes)
bracketed_gives opening closing [] h = absurd (cc)
bracketed_gives opening closing (b ∷ rest) h =
    let bytes : List ℕ = b ∷ rest in
    let three = both_true (leb 2 (length bytes) && b == opening && get_or bytes (length bytes - 1) 0 == closing) (is_balanced (inside bytes)) h in
    let two = both_true (leb 2 (length bytes) && b == opening) (get_or bytes (length bytes - 1) 0 == closing) three.0 in
    let one = both_true (leb 2 (length bytes)) (b == opening) two.0 in
    let long : 2 ≤ length bytes = (leb_Decides 2 (length bytes)).0 one.0 in
    let some : 1 ≤ length rest = omega arith in
    let first : b ≡ opening = (Decides-eqb b opening).0 one.1 in
    let last : get_or bytes (length bytes - 1) 0 ≡ closing = (Decides-eqb (get_or bytes (length bytes - 1) 0) closing).0 two.1 in
    let at : length bytes - 1 ≡ suc (length rest - 1) = omega arith in
    let end : get_or rest (length rest - 1) 0 ≡ closing = ap (λ n. get_or bytes n 0) (sym at) ∙ last in
    let between : take (length rest - 1) rest ≡ inside bytes = let n : length rest - 1 ≡ length bytes - 1 - 1 = omega arith in ap (λ m. take m rest) n in
    let split : rest ≡ inside bytes ++ closing ∷ [] = whole_rest rest some ∙ (λ i. between i ++ end i ∷ []) in
    ((λ i. first i ∷ split i), (balanced_Decides (inside bytes)).0 three.1)
