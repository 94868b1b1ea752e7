-- Outputs at the places of their tasks.
use Rattle.std.proofs.Common.{◌≡◌, ◌≢◌, ℕ, ◌+◌, ◌<◌, ◌≤◌, Option, Some, None, List, [], ◌∷◌, ◌++◌, cond, length, length-append, get_or, set, refl, sym, ◌∙◌, ap, subst, arith, inl, inr, zero, suc}
use Rattle.std.specs.Prelude.{◌==◌, slice_get, All}
use Rattle.std.proofs.lemmas.Bool.{cases_eq, eq-eqb, ne_eqb}
use Rattle.std.proofs.lemmas.Bool.Decides.{nat_tests}
use Rattle.std.proofs.lemmas.List.{length-set}
use Rattle.std.proofs.lemmas.List.Elements.{All-head, All-tail}
use Rattle.std.proofs.lemmas.List.Sums.{sum_by-cons}
use Rattle.pig_job.specs.Rule.{once_below}
use Rattle.pig_pool.specs.Workers.{outputs_of}

-- each of n tasks has a right output at its place, or one ahead; those ahead are right, and of these tasks, each once at most
pub record ArePlacing {O : Type 0} (is_right : ℕ → O → Type 0) (n : ℕ) (places : List (Option O)) (ahead : List (ℕ × O)) : Type 0 where
  pub long : length places ≡ n
  pub there : (t : ℕ) → t < n → outputs_of t ahead ≡ 0 → (o : O) × (slice_get places t ≡ Some (Some o)) × is_right t o
  pub below : (t : ℕ) → outputs_of t ahead ≤ once_below n t
  pub right : All (λ o. is_right o.0 o.1) ahead

once_in : (n t : ℕ) → 0 < once_below n t → t < n
once_in n t h = grind (arith, nat_tests)

pub once_at_most : (n t : ℕ) → t < n → once_below n t ≡ 1
once_at_most n t h = grind (arith, nat_tests)

pub placing-starts : {O : Type 0} (is_right : ℕ → O → Type 0) (n : ℕ) (places : List (Option O)) (outputs : List (ℕ × O)) → length places ≡ n
    → ((t : ℕ) → outputs_of t outputs ≡ once_below n t) → All (λ o. is_right o.0 o.1) outputs → ArePlacing is_right n places outputs
placing-starts is_right n places outputs long each right = record {
  long = long;
  there = λ t l none. absurd (let p = each t in let q = once_at_most n t l in omega arith);
  below = λ t. let p = each t in omega arith;
  right = right;
}

-- the first output ahead is of one of the tasks
pub placing-below : {O : Type 0} (is_right : ℕ → O → Type 0) (n : ℕ) (places : List (Option O)) (ahead rest : List (ℕ × O)) (o : ℕ × O) → ahead ≡ o ∷ rest → ArePlacing is_right n places ahead → o.0 < n
placing-below {O} is_right n places ahead rest o e p =
    let q = p.below o.0 in
    let r : outputs_of o.0 ahead ≡ cond {A = ℕ} (o.0 == o.0) 1 0 + outputs_of o.0 rest = ap (outputs_of o.0) e ∙ sum_by-cons (λ (z : ℕ × O). cond {A = ℕ} (z.0 == o.0) 1 0) o rest in
    let one : cond {A = ℕ} (o.0 == o.0) 1 0 ≡ 1 = ap (λ c. cond {A = ℕ} c 1 0) (eq-eqb o.0 o.0 refl) in
    once_in n o.0 (omega arith)

-- it goes to its place
set_here : {X : Type 0} (xs : List X) (i : ℕ) (x : X) → i < length xs → slice_get (set xs i x) i ≡ Some x
set_here [] i x l = absurd (omega arith)
set_here (y ∷ ys) zero x l = refl
set_here (y ∷ ys) (suc i) x l = set_here ys i x (omega arith)

set_other : {X : Type 0} (xs : List X) (i j : ℕ) (x : X) → i ≢ j → slice_get (set xs i x) j ≡ slice_get xs j
set_other [] i j x n = refl
set_other (y ∷ ys) zero zero x n = absurd (n refl)
set_other (y ∷ ys) zero (suc j) x n = refl
set_other (y ∷ ys) (suc i) zero x n = refl
set_other (y ∷ ys) (suc i) (suc j) x n = set_other ys i j x (λ e. n (ap suc e))

pub placing-goes : {O : Type 0} (is_right : ℕ → O → Type 0) (n : ℕ) (places next : List (Option O)) (ahead rest : List (ℕ × O)) (o : ℕ × O) → ahead ≡ o ∷ rest → next ≡ set places o.0 (Some o.1) → ArePlacing is_right n places ahead → ArePlacing is_right n next rest
placing-goes {O} is_right n places next ahead rest o e f p = subst (λ z. ArePlacing is_right n z rest) (sym f) (record {
  long = length-set places o.0 (Some o.1) ∙ p.long;
  there = λ t l none. elim (cases_eq o.0 t) as (λ _. (x : O) × (slice_get (set places o.0 (Some o.1)) t ≡ Some (Some x)) × is_right t x) [
    | inl same ↦
        let here = placing-below is_right n places ahead rest o e p in
        let long = p.long in
        let first : is_right o.0 o.1 = All-head (λ (z : ℕ × O). is_right z.0 z.1) o rest right' in
        (o.1, ap (slice_get (set places o.0 (Some o.1))) (sym same) ∙ set_here places o.0 (Some o.1) (omega arith), subst (λ k. is_right k o.1) same first)
    | inr other ↦
        let q : outputs_of t ahead ≡ cond {A = ℕ} (o.0 == t) 1 0 + outputs_of t rest = ap (outputs_of t) e ∙ sum_by-cons (λ (z : ℕ × O). cond {A = ℕ} (z.0 == t) 1 0) o rest in
        let no : cond {A = ℕ} (o.0 == t) 1 0 ≡ 0 = ap (λ c. cond {A = ℕ} c 1 0) (ne_eqb o.0 t other) in
        let was = p.there t l (omega arith) in
        (was.0, set_other places o.0 t (Some o.1) other ∙ was.1, was.2)
  ];
  below = λ t.
      let q : outputs_of t ahead ≡ cond {A = ℕ} (o.0 == t) 1 0 + outputs_of t rest = ap (outputs_of t) e ∙ sum_by-cons (λ (z : ℕ × O). cond {A = ℕ} (z.0 == t) 1 0) o rest in
      let r = p.below t in
      omega arith;
  right = All-tail (λ (z : ℕ × O). is_right z.0 z.1) o rest right';
})
  where
    right' : All (λ (z : ℕ × O). is_right z.0 z.1) (o ∷ rest)
    right' = subst (All (λ (z : ℕ × O). is_right z.0 z.1)) e p.right

-- the outputs of the tasks below t are taken in order, and those of the others stand at their places
pub record AreTaken {O : Type 0} (is_right : ℕ → O → Type 0) (n t : ℕ) (places : List (Option O)) (list : List O) : Type 0 where
  pub long : length places ≡ n
  pub there : (k : ℕ) → t ≤ k → k < n → (o : O) × (slice_get places k ≡ Some (Some o)) × is_right k o
  pub count : length list ≡ t
  pub right : (k : ℕ) (o : O) → slice_get list k ≡ Some o → is_right k o

push_get : {O : Type 0} (is_right : ℕ → O → Type 0) (at : ℕ) (list : List O) (x : O) → ((k : ℕ) (o : O) → slice_get list k ≡ Some o → is_right (at + k) o) → is_right (at + length list) x → (k : ℕ) (o : O) → slice_get (list ++ x ∷ []) k ≡ Some o → is_right (at + k) o
push_get {O} is_right at [] x each here zero o is = subst (λ (z : O). is_right (at + 0) z) (same x o is) here
  where
    same : (a b : O) → ◌≡◌ {A = Option O} (Some a) (Some b) → a ≡ b
    same a b e = cc
push_get {O} is_right at [] x each here (suc k) o is = absurd (none_there k o is)
  where
    none_there : (j : ℕ) (y : O) → slice_get {X = O} [] j ≡ Some y → ⊥
    none_there j y e = cc
push_get is_right at (y ∷ ys) x each here zero o is = each 0 o is
push_get {O} is_right at (y ∷ ys) x each here (suc k) o is =
    let shift : at + suc k ≡ suc at + k = omega arith in
    let shift-here : at + length (y ∷ ys) ≡ suc at + length ys = omega arith in
    subst (λ (z : ℕ). is_right z o) (sym shift) (push_get is_right (suc at) ys x
    (λ j z e. subst (λ (i : ℕ). is_right i z) (let s : at + suc j ≡ suc at + j = omega arith in s) (each (suc j) z e))
    (subst (λ (i : ℕ). is_right i x) shift-here here) k o is)

pub taken-goes : {O : Type 0} (is_right : ℕ → O → Type 0) (n t : ℕ) (places next : List (Option O)) (list more : List O) (o : O) → t < n → slice_get places t ≡ Some (Some o) → next ≡ set places t None → more ≡ list ++ o ∷ [] → AreTaken is_right n t places list → AreTaken is_right n (t + 1) next more
taken-goes {O} is_right n t places next list more o below at e f p = subst (λ z. AreTaken is_right n (t + 1) z more) (sym e) (subst (AreTaken is_right n (t + 1) (set places t None)) (sym f) (record {
  long = length-set places t None ∙ p.long;
  there = λ k l m.
      let was = p.there k (omega arith) m in
      (was.0, set_other places t k None (λ same. omega arith) ∙ was.1, was.2);
  count = let c = p.count in let q = length-append list (o ∷ []) in omega arith;
  right =
      let there = p.there t (omega arith) below in
      let same : there.0 ≡ o = some_some there.0 o (sym there.1 ∙ at) in
      let here : is_right t o = subst (λ (z : O). is_right t z) same there.2 in
      let given : (k : ℕ) (x : O) → slice_get list k ≡ Some x → is_right (0 + k) x = λ k x is. subst (λ (i : ℕ). is_right i x) (from_zero k) (p.right k x is) in
      let first : is_right (0 + length list) o = subst (λ (i : ℕ). is_right i o) (sym p.count ∙ from_zero (length list)) here in
      λ k x is. subst (λ (i : ℕ). is_right i x) (sym (from_zero k)) (push_get is_right 0 list o given first k x is);
}))
  where
    from_zero : (k : ℕ) → k ≡ 0 + k
    from_zero k = omega arith

    some_some : (a b : O) → ◌≡◌ {A = Option (Option O)} (Some (Some a)) (Some (Some b)) → a ≡ b
    some_some a b e = cc

pub taken-there : {O : Type 0} (is_right : ℕ → O → Type 0) (n t : ℕ) (places : List (Option O)) (list : List O) (d : Option O) → t < n → AreTaken is_right n t places list → (o : O) × (get_or places t d ≡ Some o) × (slice_get places t ≡ Some (Some o))
taken-there {O} is_right n t places list d below p =
    let there = p.there t (omega arith) below in
    (there.0, at_get places t d (Some there.0) there.1, there.1)
  where
    at_get : (xs : List (Option O)) (i : ℕ) (e x : Option O) → slice_get xs i ≡ Some x → get_or xs i e ≡ x
    at_get [] i e x is = absurd (none_there i x is)
      where
        none_there : (j : ℕ) (y : Option O) → slice_get {X = Option O} [] j ≡ Some y → ⊥
        none_there j y q = cc
    at_get (y ∷ ys) zero e x is = some_of y x is
      where
        some_of : (a b : Option O) → ◌≡◌ {A = Option (Option O)} (Some a) (Some b) → a ≡ b
        some_of a b q = cc
    at_get (y ∷ ys) (suc i) e x is = at_get ys i e x is

pub taken-at : {O : Type 0} (is_right : ℕ → O → Type 0) (n t : ℕ) (places : List (Option O)) (list : List O) (x : Option O) → t < n → x ≡ get_or places t x → AreTaken is_right n t places list → slice_get places t ≡ Some x
taken-at is_right n t places list x below is p =
    let there = taken-there is_right n t places list x below p in
    there.2 ∙ ap Some (sym (is ∙ there.1))
