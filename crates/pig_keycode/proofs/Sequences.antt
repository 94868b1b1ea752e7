-- Steps one after another up to an end, as they are read from the front.
use Rattle.std.proofs.Common.{◌≡◌, ◌<◌, ℕ, zero, suc, true, false, List, [], ◌∷◌, ◌++◌, length, take, drop, refl, sym, ◌∙◌, ap, subst, arith}
use Rattle.std.specs.List.{AllByRecursion}
use Rattle.std.proofs.lemmas.List.{append_assoc, append-nil, take-append-drop}
use Rattle.std.specs.declared.option.Option.TheVariants.{Some, None}
use Rattle.pig_keycode.specs.Codes.{escaped, escaped_byte, text_code}
use Rattle.pig_value.specs.Leaves.{AreBytes}
use Rattle.pig_keycode.specs.Reading.{StandsFirst, NoneFirst, mark_code, AnyMark, byte_code, IsByteOrEnd, HasNoZero}

-- steps one after another, and an end
abbrev pub sequence_code : {X : Type 0} → (X → List ℕ) → List ℕ → List X → List ℕ
sequence_code step end [] = end
sequence_code step end (x ∷ xs) = step x ++ sequence_code step end xs

-- a mark before each item, and one behind the last
abbrev pub marked : {X : Type 0} → (X → List ℕ) → X → List ℕ
marked item x = 1 ∷ item x

abbrev pub list_code : {X : Type 0} → (X → List ℕ) → List X → List ℕ
list_code item = sequence_code (marked item) (0 ∷ [])

-- what was read of a sequence, and that what is left tells the rest of it
pub record Goes {X : Type 0} (step : X → List ℕ) (end : List ℕ) (Good : X → Type 0) (bytes rest : List ℕ) (done : List X) : Type 0 where
  pub on : (xs : List X) (left : List ℕ) → StandsFirst (sequence_code step end) (AllByRecursion Good) rest xs left → StandsFirst (sequence_code step end) (AllByRecursion Good) bytes (done ++ xs) left
  pub off : NoneFirst (sequence_code step end) (AllByRecursion Good) rest → NoneFirst (sequence_code step end) (AllByRecursion Good) bytes

module _ {X : Type 0} (step : X → List ℕ) (end : List ℕ) (Good : X → Type 0) where
  pub goes_end : (bytes rest : List ℕ) (done : List X) (left : List ℕ) → Goes step end Good bytes rest done → rest ≡ end ++ left → StandsFirst (sequence_code step end) (AllByRecursion Good) bytes done left
  goes_end bytes rest done left g e =
      subst (λ l. StandsFirst (sequence_code step end) (AllByRecursion Good) bytes l left) (append-nil done) (g.on [] left (record { is = e; good = tt }))

  -- neither a step nor the end
  pub none_here : (bytes : List ℕ) → ((left : List ℕ) → bytes ≡ end ++ left → ⊥) → NoneFirst step Good bytes → NoneFirst (sequence_code step end) (AllByRecursion Good) bytes
  none_here bytes no_end no_step [] rest h = no_end rest h.is
  none_here bytes no_end no_step (x ∷ xs) rest h = no_step x (sequence_code step end xs ++ rest) (record { is = h.is ∙ append_assoc (step x) (sequence_code step end xs) rest; good = h.good.0 })

  module _ (told : (x y : X) (s t : List ℕ) → Good x → Good y → step x ++ s ≡ step y ++ t → (x ≡ y) × (s ≡ t))
      (apart : (x : X) (s t : List ℕ) → step x ++ s ≡ end ++ t → ⊥) where
    none_on : (bytes after : List ℕ) (x : X) → StandsFirst step Good bytes x after → NoneFirst (sequence_code step end) (AllByRecursion Good) after → NoneFirst (sequence_code step end) (AllByRecursion Good) bytes
    none_on bytes after x a none [] rest h = apart x after rest (sym a.is ∙ h.is)
    none_on bytes after x a none (y ∷ ys) rest h =
        let both = told x y after (sequence_code step end ys ++ rest) a.good h.good.0 (sym a.is ∙ (h.is ∙ append_assoc (step y) (sequence_code step end ys) rest)) in
        none ys rest (record { is = both.1; good = h.good.1 })

    step_on : (bytes after : List ℕ) (x : X) (xs : List X) (left : List ℕ) → StandsFirst step Good bytes x after → StandsFirst (sequence_code step end) (AllByRecursion Good) after xs left → StandsFirst (sequence_code step end) (AllByRecursion Good) bytes (x ∷ xs) left
    step_on bytes after x xs left a h = record {
      is = a.is ∙ (ap (λ l. step x ++ l) h.is ∙ sym (append_assoc (step x) (sequence_code step end xs) left));
      good = (a.good, h.good);
    }

    pub goes_on : (bytes rest after : List ℕ) (done : List X) (x : X) → Goes step end Good bytes rest done → StandsFirst step Good rest x after → Goes step end Good bytes after (done ++ x ∷ [])
    goes_on bytes rest after done x g a = record {
      on = λ xs left h. subst (λ l. StandsFirst (sequence_code step end) (AllByRecursion Good) bytes l left) (sym (append_assoc done (x ∷ []) xs)) (g.on (x ∷ xs) left (step_on rest after x xs left a h));
      off = λ none. g.off (none_on rest after x a none);
    }

-- ---- texts

pub text_is : (bs : List ℕ) → sequence_code escaped_byte (0 ∷ 0 ∷ []) bs ≡ text_code bs
text_is [] = refl
text_is (b ∷ bs) = ap (λ l. escaped_byte b ++ l) (text_is bs) ∙ sym (append_assoc (escaped_byte b) (escaped bs) (0 ∷ 0 ∷ []))

abbrev first_of : List ℕ → ℕ
first_of [] = 0
first_of (x ∷ xs) = x

abbrev behind : List ℕ → List ℕ
behind [] = []
behind (x ∷ xs) = xs

pub heads : (x y : ℕ) (xs ys : List ℕ) → x ∷ xs ≡ y ∷ ys → x ≡ y
heads x y xs ys e = ap first_of e

pub tails : (x y : ℕ) (xs ys : List ℕ) → x ∷ xs ≡ y ∷ ys → xs ≡ ys
tails x y xs ys e = ap behind e

pub byte_told : (x y : ℕ) (s t : List ℕ) → escaped_byte x ++ s ≡ escaped_byte y ++ t → (x ≡ y) × (s ≡ t)
byte_told zero zero s t e = (refl, tails 255 255 s t (tails 0 0 (255 ∷ s) (255 ∷ t) e))
byte_told zero (suc y) s t e = absurd (let wrong = heads 0 (suc y) (255 ∷ s) t e in omega (arith, wrong))
byte_told (suc x) zero s t e = absurd (let wrong = heads (suc x) 0 s (255 ∷ t) e in omega (arith, wrong))
byte_told (suc x) (suc y) s t e = (heads (suc x) (suc y) s t e, tails (suc x) (suc y) s t e)

pub byte_apart : (x : ℕ) (s t : List ℕ) → escaped_byte x ++ s ≡ (0 ∷ 0 ∷ []) ++ t → ⊥
byte_apart zero s t e = let wrong = heads 255 0 s t (tails 0 0 (255 ∷ s) (0 ∷ t) e) in omega (arith, wrong)
byte_apart (suc x) s t e = let wrong = heads (suc x) 0 s (0 ∷ t) e in omega (arith, wrong)

-- what the loop keeps
abbrev pub TextGoes : List ℕ → List ℕ → List ℕ → Type 0
TextGoes = Goes escaped_byte (0 ∷ 0 ∷ []) (λ b. b < 256)

pub text_goes_on : (bytes rest left text : List ℕ) (b : ℕ) → TextGoes bytes rest text → StandsFirst byte_code IsByteOrEnd rest (Some b) left → TextGoes bytes left (text ++ b ∷ [])
text_goes_on bytes rest left text b g h =
    goes_on escaped_byte (0 ∷ 0 ∷ []) (λ b. b < 256) (λ x y s t p q e. byte_told x y s t e) byte_apart bytes rest left text b g (record { is = h.is; good = h.good })

-- several bytes at once, none of them zero
pub text_goes_along : (chunk bytes left text : List ℕ) → HasNoZero chunk → AreBytes (chunk ++ left) → TextGoes bytes (chunk ++ left) text → TextGoes bytes left (text ++ chunk)
text_goes_along [] bytes left text h small g = subst (TextGoes bytes left) (sym (append-nil text)) g
text_goes_along (zero ∷ chunk) bytes left text h small g = absurd (h.0 refl)
text_goes_along (suc b ∷ chunk) bytes left text h small g =
    subst (TextGoes bytes left) (append_assoc text (suc b ∷ []) chunk)
    (text_goes_along chunk bytes left (text ++ suc b ∷ []) h.1 small.1 (text_goes_on bytes (suc b ∷ (chunk ++ left)) (chunk ++ left) text (suc b) g (record { is = refl; good = small.0 })))

pub text_chunk : (bytes rest plain more text new : List ℕ) (n : ℕ) → plain ≡ take n rest → more ≡ drop n rest → HasNoZero (take n rest) → AreBytes rest → new ≡ text ++ plain → TextGoes bytes rest text → TextGoes bytes more new
text_chunk bytes rest plain more text new n front back none small grown g =
    let whole : rest ≡ plain ++ more = sym (take-append-drop n rest) ∙ (ap (λ l. l ++ drop n rest) (sym front) ∙ ap (λ l. plain ++ l) (sym back)) in
    subst (TextGoes bytes more) (sym grown) (text_goes_along plain bytes more text (subst HasNoZero (sym front) none) (subst AreBytes whole small) (subst (λ l. TextGoes bytes l text) whole g))

pub text_ends : (bytes rest left text : List ℕ) → TextGoes bytes rest text → StandsFirst byte_code IsByteOrEnd rest None left → StandsFirst text_code AreBytes bytes text left
text_ends bytes rest left text g h =
    let whole = goes_end escaped_byte (0 ∷ 0 ∷ []) (λ b. b < 256) bytes rest text left g h.is in
    record { is = whole.is ∙ ap (λ l. l ++ left) (text_is text); good = whole.good }

pub text_off : (bytes rest text : List ℕ) → TextGoes bytes rest text → NoneFirst byte_code IsByteOrEnd rest → NoneFirst text_code AreBytes bytes
text_off bytes rest text g none x left h =
    g.off
    (none_here escaped_byte (0 ∷ 0 ∷ []) (λ b. b < 256) rest
    (λ l e. none None l (record { is = e; good = tt }))
    (λ b l e. none (Some b) l (record { is = e.is; good = e.good })))
    x
    left
    (record { is = h.is ∙ ap (λ l. l ++ left) (sym (text_is x)); good = h.good })

-- ---- lists

module _ {X : Type 0} (item : X → List ℕ) (Good : X → Type 0) where
  abbrev pub ListGoes : List ℕ → List ℕ → List X → Type 0
  ListGoes = Goes (marked item) (0 ∷ []) Good

  pub list_ends : (bytes rest left : List ℕ) (done : List X) → ListGoes bytes rest done → StandsFirst mark_code AnyMark rest false left → StandsFirst (list_code item) (AllByRecursion Good) bytes done left
  list_ends bytes rest left done g h = goes_end (marked item) (0 ∷ []) Good bytes rest done left g h.is

  pub list_off : (bytes rest : List ℕ) (done : List X) → ListGoes bytes rest done → NoneFirst mark_code AnyMark rest → NoneFirst (list_code item) (AllByRecursion Good) bytes
  list_off bytes rest done g none =
      g.off
      (none_here (marked item) (0 ∷ []) Good rest
      (λ l e. none false l (record { is = e; good = tt }))
      (λ x l e. none true (item x ++ l) (record { is = e.is; good = tt })))

  pub item_off : (bytes rest left : List ℕ) (done : List X) → ListGoes bytes rest done → StandsFirst mark_code AnyMark rest true left → NoneFirst item Good left → NoneFirst (list_code item) (AllByRecursion Good) bytes
  item_off bytes rest left done g h none =
      g.off
      (none_here (marked item) (0 ∷ []) Good rest
      (λ l e. let wrong = heads 1 0 left l (sym h.is ∙ e) in omega (arith, wrong))
      (λ x l e. none x l (record { is = tails 1 1 left (item x ++ l) (sym h.is ∙ e.is); good = e.good })))

  module _ (told : (x y : X) (s t : List ℕ) → Good x → Good y → item x ++ s ≡ item y ++ t → (x ≡ y) × (s ≡ t)) where
    pub list_goes_on : (bytes rest left after : List ℕ) (done : List X) (x : X) → ListGoes bytes rest done → StandsFirst mark_code AnyMark rest true left → StandsFirst item Good left x after → ListGoes bytes after (done ++ x ∷ [])
    list_goes_on bytes rest left after done x g h a =
        goes_on (marked item) (0 ∷ []) Good
        (λ x y s t p q e. told x y s t p q (tails 1 1 (item x ++ s) (item y ++ t) e))
        (λ x s t e. let wrong = heads 1 0 (item x ++ s) t e in omega (arith, wrong))
        bytes rest after done x g
        (record { is = h.is ∙ ap (λ l. 1 ∷ l) a.is; good = a.good })
