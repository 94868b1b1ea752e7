-- Begins that are told after one another.
use Rattle.std.proofs.Common.{◌≡◌, ℕ, ◌+◌, ◌<◌, ◌≤◌, Bool, true, false, ◌&&◌, Option, Some, None, List, [], ◌∷◌, ◌++◌, cond, refl, sym, ◌∙◌, ap, arith, inl, inr}
use Rattle.std.specs.Prelude.{◌==◌, nat_lt}
use Rattle.std.specs.Option.{option_map, ForSome}
use Rattle.std.proofs.lemmas.Bool.{cases_lt, lt-ltb, le-ltb}
use Rattle.std.proofs.lemmas.List.{append-nil, append_assoc}
use Rattle.std.proofs.lemmas.Option.{same_Some, none-some}
use Rattle.pig_outside.specs.Calls.{Attempt, and_attempt}
use Rattle.pig_pool.specs.Begins.{TellsLast, next_count, lost_of}

pub nothing_told : (b : Option (List Attempt)) → b ≡ option_map (λ x. x ++ []) b
nothing_told None = refl
nothing_told (Some x) = ap {A = List Attempt} {B = Option (List Attempt)} (λ z. Some z) (sym (append-nil x))

pub told_twice : (a b c : Option (List Attempt)) (xs ys : List Attempt) → b ≡ option_map (λ z. z ++ xs) a → c ≡ option_map (λ z. z ++ ys) b → c ≡ option_map (λ z. z ++ (xs ++ ys)) a
told_twice None b c xs ys e f = f ∙ ap (option_map (λ z. z ++ ys)) e
told_twice (Some a) b c xs ys e f = f ∙ ap (option_map (λ z. z ++ ys)) e ∙ ap {A = List Attempt} {B = Option (List Attempt)} (λ z. Some z) (append_assoc a xs ys)

-- a begin that is told is the last one
pub just_told : (u wave t a f : ℕ) (b c : Option (List Attempt)) → u ≡ wave → c ≡ option_map (and_attempt wave t a f) b → ForSome c (TellsLast u t)
just_told u wave t a f None c same e xs is = absurd (none-some xs (sym e ∙ is))
just_told u wave t a f (Some b) c same e xs is = record {
  before = b;
  last = record { wave = wave; task = t; attempt = a; faults = f };
  is = sym (same_Some (and_attempt wave t a f b) xs (sym e ∙ is));
  of_wave = sym same;
  of_task = refl;
}

pub next-append : (xs ys : List Attempt) (end : ℕ) → next_count (xs ++ ys) end ≡ next_count xs (next_count ys end)
next-append [] ys end = refl
next-append (x ∷ xs) ys end = refl

pub next-rises : (xs : List Attempt) (f g : ℕ) → f ≤ g → next_count xs f ≤ next_count xs g
next-rises [] f g l = l
next-rises (x ∷ xs) f g l = omega arith

pub lost-append : (t : ℕ) (xs ys : List Attempt) (end : ℕ) → lost_of t (xs ++ ys) end ≡ lost_of t xs (next_count ys end) + lost_of t ys end
lost-append t [] ys end = omega arith
lost-append t (x ∷ xs) ys end =
    let p = lost-append t xs ys end in
    let q = ap (λ n. cond {A = ℕ} ((x.task == t) && nat_lt x.faults n) 1 0) (next-append xs ys end) in
    omega arith

one_rises : (b : Bool) (x f g : ℕ) → f ≤ g → cond {A = ℕ} (b && nat_lt x f) 1 0 ≤ cond {A = ℕ} (b && nat_lt x g) 1 0
one_rises false x f g l = omega arith
one_rises true x f g l = elim (cases_lt x f) as (λ _. cond {A = ℕ} (nat_lt x f) 1 0 ≤ cond {A = ℕ} (nat_lt x g) 1 0) [
  | inl a ↦
      let p : cond {A = ℕ} (nat_lt x f) 1 0 ≡ 1 = ap (λ c. cond {A = ℕ} c 1 0) (lt-ltb x f a) in
      let below : x < g = omega arith in
      let q : cond {A = ℕ} (nat_lt x g) 1 0 ≡ 1 = ap (λ c. cond {A = ℕ} c 1 0) (lt-ltb x g below) in
      omega arith
  | inr a ↦
      let p : cond {A = ℕ} (nat_lt x f) 1 0 ≡ 0 = ap (λ c. cond {A = ℕ} c 1 0) (le-ltb x f a) in
      omega arith
]

pub lost-rises : (t : ℕ) (xs : List Attempt) (f g : ℕ) → f ≤ g → lost_of t xs f ≤ lost_of t xs g
lost-rises t [] f g l = omega arith
lost-rises t (x ∷ xs) f g l =
    let p = lost-rises t xs f g l in
    let q = one_rises (x.task == t) x.faults (next_count xs f) (next_count xs g) (next-rises xs f g l) in
    omega arith

-- one begin, behind which the count has risen by n
pub lost_one : (b : Bool) (n x e : ℕ) → n ≤ 1 → x + n ≤ e → cond {A = ℕ} b n 0 ≤ cond {A = ℕ} (b && nat_lt x e) 1 0
lost_one false n x e few l = omega arith
lost_one true n x e few l = elim (cases_lt x e) as (λ _. n ≤ cond {A = ℕ} (nat_lt x e) 1 0) [
  | inl a ↦ let p : cond {A = ℕ} (nat_lt x e) 1 0 ≡ 1 = ap (λ c. cond {A = ℕ} c 1 0) (lt-ltb x e a) in omega arith
  | inr a ↦ omega arith
]
