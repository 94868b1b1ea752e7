-- What a reader of a token's form owes the definition: that the form stands there, and that no token's text is passed over.
use Rattle.std.proofs.Common.{◌≡◌, ◌∙◌, ℕ, ◌<◌, ◌≤◌, List, ◌++◌, false, length, refl, sym, ap, arith, ◌⊎◌, inl, inr}
use Rattle.std.specs.Prelude.{Option, Some, None, option_map, option_and_then, ◌&&◌}
use Rattle.pig_syntax.specs.declared.tokens.TokenForm.{TokenForm}
use Rattle.pig_syntax.specs.Tokens.{IsToken, begins_as_word, is_number}
use Rattle.pig_syntax.specs.Scanner.{Found}

-- a token of this form stands at the front, with these bytes behind it
pub record Stands (bs : List ℕ) (form : TokenForm) (rest : List ℕ) : Type 0 where
  pub text : List ℕ
  pub whole : bs ≡ text ++ rest
  pub spelled : IsToken form text

-- what is found where a token of this form stands with these bytes behind it: nothing that ends before the token, and the token or a longer
-- one where it may stand there
pub record Covers (found : Found TokenForm) (form : TokenForm) (rest : List ℕ) : Type 0 where
  pub bound : (other : TokenForm) (left : List ℕ) → found ≡ Some (other, left) → length left ≤ length rest
  pub hit : (is_number form && begins_as_word rest) ≡ false → (found ≡ Some (form, rest)) ⊎ ((other : TokenForm) × (left : List ℕ) × (found ≡ Some (other, left)) × (length left < length rest))

pub some_same : {A : Type 0} {x y : A} → Some x ≡ Some y → x ≡ y
some_same e = cc

pub same_form : {form other : TokenForm} {rest left : List ℕ} → ◌≡◌ {A = Found TokenForm} (Some (form, rest)) (Some (other, left)) → form ≡ other
same_form e = ap (λ p. p.0) (some_same e)

pub same_rest : {form other : TokenForm} {rest left : List ℕ} → ◌≡◌ {A = Found TokenForm} (Some (form, rest)) (Some (other, left)) → rest ≡ left
same_rest e = ap (λ p. p.1) (some_same e)

-- what a chain has found, and where a test let it through
pub bind_some : {A B : Type 0} (o : Option A) (f : A → Option B) (y : B) → option_and_then f o ≡ Some y → (x : A) × (o ≡ Some x) × (f x ≡ Some y)
bind_some None f y h = absurd (cc)
bind_some (Some x) f y h = (x, refl, h)

pub map_some : {A B : Type 0} (o : Option A) (f : A → B) (y : B) → option_map f o ≡ Some y → (x : A) × (o ≡ Some x) × (f x ≡ y)
map_some None f y h = absurd (cc)
map_some (Some x) f y h = (x, refl, some_same h)

-- the token itself is found
pub exactly : (found : Found TokenForm) (form : TokenForm) (rest : List ℕ) → found ≡ Some (form, rest) → Covers found form rest
exactly found form rest e = record {
  bound = λ other left h. bounded other left (same_rest (sym e ∙ h));
  hit = λ apart. inl e;
}
  where
    bounded : (other : TokenForm) (left : List ℕ) → rest ≡ left → length left ≤ length rest
    bounded other left h = let eq : length rest ≡ length left = ap length h in omega arith

-- a token that ends no earlier is found, and it is the token itself or a longer one
pub at_least : (found : Found TokenForm) (form : TokenForm) (rest : List ℕ) (other : TokenForm) (left : List ℕ) → found ≡ Some (other, left) → length left ≤ length rest
    → ((is_number form && begins_as_word rest) ≡ false → (found ≡ Some (form, rest)) ⊎ (length left < length rest)) → Covers found form rest
at_least found form rest other left e short settled = record {
  bound = λ g r h. bounded g r (same_rest (sym e ∙ h));
  hit = λ apart. elim (settled apart) [ inl same ↦ inl same | inr less ↦ inr (other, left, e, less) ];
}
  where
    bounded : (g : TokenForm) (r : List ℕ) → left ≡ r → length r ≤ length rest
    bounded g r h = let eq : length left ≡ length r = ap length h in omega arith
