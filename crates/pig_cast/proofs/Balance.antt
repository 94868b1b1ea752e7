-- The test of balanced text decides it.
use Rattle.std.proofs.Common.{◌≡◌, ◌==◌, ◌&&◌, ℕ, Bool, true, false, cond, List, [], ◌∷◌, ◌++◌, refl, sym, ◌∙◌, ap, subst}
use Rattle.std.specs.Bool.{Decides}
use Rattle.std.proofs.lemmas.Bool.Decides.{Decides-eqb}
use Rattle.std.proofs.lemmas.List.{append_assoc, append-nil}
use Rattle.pig_value.specs.Brackets.{IsBalanced, nothing, plain, nested, closes, closing_of, is_balanced, is_closing, is_opening, takes}

-- a closing bracket of an opening one closes, and opens nothing
pub closing_closes : (b : ℕ) → (is_opening (closing_of b) ≡ false) × (is_closing (closing_of b) ≡ true)
closing_closes b = by_tests (b == 40) (b == 91)
  where
    by_tests : (round square : Bool) → (is_opening (cond round 41 (cond square 93 125)) ≡ false) × (is_closing (cond round 41 (cond square 93 125)) ≡ true)
    by_tests true square = (refl, refl)
    by_tests false true = (refl, refl)
    by_tests false false = (refl, refl)

same_byte : (b : ℕ) → (b == b) ≡ true
same_byte b = (Decides-eqb b b).1 refl

-- what one byte leaves wanted
pub plain_byte : (b : ℕ) (bs wanted : List ℕ) → is_opening b ≡ false → is_closing b ≡ false → closes (b ∷ bs) wanted ≡ closes bs wanted
plain_byte b bs wanted o c = ap (λ t. cond t (closes bs (closing_of b ∷ wanted)) (cond (is_closing b) (takes b (closes bs) wanted) (closes bs wanted))) o ∙ ap (λ t. cond t (takes b (closes bs) wanted) (closes bs wanted)) c

pub opening_byte : (b : ℕ) (bs wanted : List ℕ) → is_opening b ≡ true → closes (b ∷ bs) wanted ≡ closes bs (closing_of b ∷ wanted)
opening_byte b bs wanted o = ap (λ t. cond t (closes bs (closing_of b ∷ wanted)) (cond (is_closing b) (takes b (closes bs) wanted) (closes bs wanted))) o

pub closing_byte : (b : ℕ) (bs wanted : List ℕ) → is_opening b ≡ false → is_closing b ≡ true → closes (b ∷ bs) wanted ≡ takes b (closes bs) wanted
closing_byte b bs wanted o c = ap (λ t. cond t (closes bs (closing_of b ∷ wanted)) (cond (is_closing b) (takes b (closes bs) wanted) (closes bs wanted))) o ∙ ap (λ t. cond t (takes b (closes bs) wanted) (closes bs wanted)) c

wanted_byte : (b : ℕ) (bs wanted : List ℕ) → closes (closing_of b ∷ bs) (closing_of b ∷ wanted) ≡ closes bs wanted
wanted_byte b bs wanted =
    let both = closing_closes b in
    closing_byte (closing_of b) bs (closing_of b ∷ wanted) both.0 both.1 ∙ ap (λ t. t && closes bs wanted) (same_byte (closing_of b))

-- balanced text leaves what is wanted as it is
passes_over : (inner rest wanted : List ℕ) → IsBalanced inner → closes (inner ++ rest) wanted ≡ closes rest wanted
passes_over _ rest wanted nothing = refl
passes_over _ rest wanted (plain b bs o c more) = plain_byte b (bs ++ rest) wanted o c ∙ passes_over bs rest wanted more
passes_over _ rest wanted (nested b inner more o is others) =
    let behind : List ℕ = closing_of b ∷ (more ++ rest) in
    ap (λ l. closes (b ∷ l) wanted) (append_assoc inner (closing_of b ∷ more) rest)
    ∙ (opening_byte b (inner ++ behind) wanted o ∙ (passes_over inner behind (closing_of b ∷ wanted) is ∙ (wanted_byte b (more ++ rest) wanted ∙ passes_over more rest wanted others)))

-- balanced text before each bracket that is wanted, and behind the last
abbrev Closes : List ℕ → List ℕ → Type 0
Closes [] bs = IsBalanced bs
Closes (next ∷ wanted) bs = (inner : List ℕ) × (rest : List ℕ) × (bs ≡ inner ++ next ∷ rest) × IsBalanced inner × Closes wanted rest

pub both_true : (a b : Bool) → (a && b) ≡ true → (a ≡ true) × (b ≡ true)
both_true true b h = (refl, h)
both_true false b h = absurd (cc)

-- a bracketed part or another byte before the first of them
nest : (b : ℕ) (inner rest wanted : List ℕ) → is_opening b ≡ true → IsBalanced inner → Closes wanted rest → Closes wanted (b ∷ (inner ++ closing_of b ∷ rest))
nest b inner rest [] o is more = nested b inner rest o is more
nest b inner rest (next ∷ wanted) o is more =
    let before : List ℕ = closing_of b ∷ more.0 in
    (b ∷ (inner ++ before), more.1, ap (λ l. b ∷ (inner ++ closing_of b ∷ l)) more.2 ∙ ap (λ l. b ∷ l) (sym (append_assoc inner before (next ∷ more.1))), nested b inner more.0 o is more.3, more.4)

behind_plain : (b : ℕ) (bs wanted : List ℕ) → is_opening b ≡ false → is_closing b ≡ false → Closes wanted bs → Closes wanted (b ∷ bs)
behind_plain b bs [] o c more = plain b bs o c more
behind_plain b bs (next ∷ wanted) o c more = (b ∷ more.0, more.1, ap (λ l. b ∷ l) more.2, plain b more.0 o c more.3, more.4)

gives_by : (b : ℕ) (bs wanted : List ℕ) → ((w : List ℕ) → closes bs w ≡ true → Closes w bs) → (o c : Bool) → is_opening b ≡ o → is_closing b ≡ c → closes (b ∷ bs) wanted ≡ true → Closes wanted (b ∷ bs)
gives_by b bs wanted rest true c e f h =
    let found = rest (closing_of b ∷ wanted) (sym (opening_byte b bs wanted e) ∙ h) in
    subst (λ l. Closes wanted (b ∷ l)) (sym found.2) (nest b found.0 found.1 wanted e found.3 found.4)
gives_by b bs [] rest false true e f h = let wrong : false ≡ true = sym (closing_byte b bs [] e f) ∙ h in absurd (cc)
gives_by b bs (next ∷ wanted) rest false true e f h =
    let both = both_true (next == b) (closes bs wanted) (sym (closing_byte b bs (next ∷ wanted) e f) ∙ h) in
    let same : next ≡ b = (Decides-eqb next b).0 both.0 in
    ([], bs, ap (λ x. x ∷ bs) (sym same), nothing, rest wanted both.1)
gives_by b bs wanted rest false false e f h = behind_plain b bs wanted e f (rest wanted (sym (plain_byte b bs wanted e f) ∙ h))

gives : (bs wanted : List ℕ) → closes bs wanted ≡ true → Closes wanted bs
gives [] [] h = nothing
gives [] (next ∷ wanted) h = absurd (cc)
gives (b ∷ bs) wanted h = gives_by b bs wanted (gives bs) (is_opening b) (is_closing b) refl refl h

pub balanced_Decides : (bs : List ℕ) → Decides (is_balanced bs) (IsBalanced bs)
balanced_Decides bs = (gives bs [], λ is. ap (λ l. closes l []) (sym (append-nil bs)) ∙ passes_over bs [] [] is)
