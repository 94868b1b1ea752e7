-- A pass cut in two, what two workers have, joined, and two rounds.
use Rattle.std.proofs.Common.{◌≡◌, ℕ, ◌+◌, ◌-◌, ◌*◌, ◌/◌, ◌^◌, ◌<◌, ◌≤◌, Bool, true, false, ◌&&◌, Option, None, List, [], ◌∷◌, ◌++◌, cond, map, length, get_or, set, refl, sym, ◌∙◌, ap, subst, arith, zero, suc}
use Rattle.std.specs.Prelude.{◌==◌, nat_le, count_by, Result, Ok, Err, IfOk}
use Rattle.std.specs.List.{sum_by}
use Rattle.std.specs.Option.{option_map}
use Rattle.std.proofs.lemmas.Bool.{or_left, or_right, false_from_ne_true, false≢true}
use Rattle.std.proofs.lemmas.List.{map-append}
use Rattle.std.proofs.lemmas.List.Folds.{list_any-append}
use Rattle.std.proofs.lemmas.List.Elements.{All-append}
use Rattle.std.proofs.lemmas.List.Sums.{sum_by-append, sum_by-cons}
use Rattle.std.proofs.Math.Nat.{pow-suc}
use Rattle.pig_job.specs.declared.Attempt.{Attempt}
use Rattle.pig_job.specs.Rule.{has_failed, is_attempt, is_failure_of}
use Rattle.pig_job.specs.Job.{aside_limit}
use Rattle.pig_outside.specs.Calls as outside
use Rattle.pig_board.specs.declared.board.Board.{Board}
use Rattle.pig_board.specs.declared.board.Pass.{Pass}
use Rattle.pig_board.specs.declared.view.View.{View}
use Rattle.pig_board.specs.Pass.{view_of, is_firm, OnBoard}
use Rattle.pig_board.specs.View.{steps_of, fails_of, all_fails, kept_half, other_half, both}
use Rattle.pig_board.proofs.Notes.{steps_keep}
use Rattle.pig_board.proofs.CountLaws.{steps_cut, steps_both, wins_both}
use Rattle.pig_pool.specs.Begins.{Tells, tells, Turn, turn_begins, turn_lost, is_begin, next_count, CrewTells, crew_tells, Rise}
use Rattle.pig_pool.specs.Workers.{HasWon, Works, IsDone, Rested, Spends, saw_limit, worker_room, worker_cost}
use Rattle.pig_pool.specs.Crew.{IsReady, CrewWorks, IsEnded, Rose, total}
use Rattle.pig_pool.proofs.Begins.{told_twice, next-append, next-rises, lost-append, lost-rises}
use Rattle.pig_pool.proofs.Steps.{IsCalm, notes-trans, calm-all, calm-own}

-- hosts in two halves
pub record IsHalved (depth front back : ℕ) : Type 0 where
  pub left : 0 < depth
  pub front_some : 0 < front
  pub front_fit : front ≤ 2 ^ (depth - 1)
  pub back_some : 0 < back
  pub back_fit : back ≤ 2 ^ (depth - 1)

pub halves_fit : (n depth front back : ℕ) → n ≤ 2 ^ depth → 1 < n → front ≡ n / 2 → back + front ≡ n → IsHalved depth front back
halves_fit n zero front back fit more e f = absurd (omega arith)
halves_fit n (suc d) front back fit more e f =
    let p = pow-suc 2 d in
    let q : 2 ^ (suc d - 1) ≡ 2 ^ d = ap (λ (k : ℕ). 2 ^ k) (let s : suc d - 1 ≡ d = omega arith in s) in
    record { left = omega arith; front_some = omega arith; front_fit = omega arith; back_some = omega arith; back_fit = omega arith }

-- and the room in two halves
room_halves : (depth room : ℕ) → 0 < depth → worker_room * 2 ^ depth ≤ room → (worker_room * 2 ^ (depth - 1) ≤ room - room / 2) × (worker_room * 2 ^ (depth - 1) ≤ room / 2)
room_halves zero room left l = absurd (omega arith)
room_halves (suc d) room left l =
    let p = pow-suc 2 d in
    let q : 2 ^ (suc d - 1) ≡ 2 ^ d = ap (λ (k : ℕ). 2 ^ k) (let s : suc d - 1 ≡ d = omega arith in s) in
    (omega arith, omega arith)

two_halves : (depth : ℕ) → 0 < depth → 2 ^ depth ≡ 2 ^ (depth - 1) + 2 ^ (depth - 1)
two_halves zero left = absurd (omega arith)
two_halves (suc d) left =
    let p = pow-suc 2 d in
    let q : 2 ^ (suc d - 1) ≡ 2 ^ d = ap (λ (k : ℕ). 2 ^ k) (let s : suc d - 1 ≡ d = omega arith in s) in
    omega arith

some_power : (depth : ℕ) → 1 ≤ 2 ^ depth
some_power zero = omega arith
some_power (suc d) = let p = pow-suc 2 d in let q = some_power d in omega arith

pub ready-kept : (b : Board) (depth : ℕ) (p k : Pass) → 0 < depth → IsReady b depth p → OnBoard b k → view_of k ≡ kept_half (view_of p) → is_firm k ≡ is_firm p → IsReady b (depth - 1) k
ready-kept b depth p k left ready on is firm = record {
  board = on;
  idle = ap (λ (v : View). v.tried) is ∙ ready.idle;
  room = let h = room_halves depth (view_of p).room left ready.room in let e = ap (λ (v : View). v.room) is in let l = h.0 in omega arith;
  start = λ no. ap (λ (v : View). v.streak) is ∙ ready.start (sym firm ∙ no);
}

pub ready-given : (b : Board) (depth : ℕ) (p k : Pass) → 0 < depth → IsReady b depth p → OnBoard b k → view_of k ≡ other_half (view_of p) → is_firm k ≡ is_firm p → IsReady b (depth - 1) k
ready-given b depth p k left ready on is firm = record {
  board = on;
  idle = ap (λ (v : View). v.tried) is;
  room = let h = room_halves depth (view_of p).room left ready.room in let e = ap (λ (v : View). v.room) is in let l = h.1 in omega arith;
  start = λ no. ap (λ (v : View). v.streak) is ∙ ready.start (sym firm ∙ no);
}

-- a worker as a crew
crew_one : (wave : ℕ) (v w : View) (x y : Tells) → x.faults ≤ y.faults → Works wave v w x y → CrewWorks wave v w (crew_tells (x.faults ∷ []) (x.begun ∷ [])) (crew_tells (y.faults ∷ []) (y.begun ∷ []))
crew_one wave v w x y l a =
    let turn : Turn wave = record {
      start = x.faults;
      faults = y.faults;
      before = x.begun;
      after = y.begun;
      begins = a.begins;
      rise = l;
      later = a.later;
      told = a.told;
      of_wave = a.of_wave;
    } in
    record {
      notes = a.notes;
      steps = a.steps;
      faults =
          let p = sum_by-cons (λ (n : ℕ). n) x.faults [] in
          let q = sum_by-cons (λ (n : ℕ). n) y.faults [] in
          let r = a.faults in
          omega arith;
      turns = turn ∷ [];
      start = refl;
      behind = refl;
      before = refl;
      after = refl;
      attempts = λ t n. let p = a.attempts t n in let q = sum_by-cons (λ (z : Turn wave). turn_begins t n z) turn [] in omega arith;
      failed = λ t. let p = a.failed t in let q = sum_by-cons (λ (z : Turn wave). turn_lost t z) turn [] in omega arith;
    }

-- a worker that was put aside has seen its host fail as often
rose_one : (wave : ℕ) (v w : View) (x y : Tells) (limit n : ℕ) (firm aside : Bool) → (firm ≡ false → v.streak ≡ 0) → Works wave v w x y → Rested limit n firm w aside → Rose aside (x.faults ∷ []) (y.faults ∷ [])
rose_one wave v w x y limit n firm true start a rested =
    let p = a.streak in
    let q = a.faults in
    let r = start rested.1 in
    let s = rested.0 in
    (omega arith, tt)
rose_one wave v w x y limit n firm false start a rested = tt

-- a worker's round on the one host of a list
pub ended-one : {X O : Type 0} (f : X → ℕ) (g : X → Option (List outside.Attempt)) (xs : List X) (d y : X) (r : ℕ → O → Type 0) (limit n wave : ℕ) (b : Board) (depth : ℕ) (p q : Pass) (ps : List (ℕ × O)) (aside : Bool)
    → length xs ≡ 1 → IsReady b depth p → f (get_or xs 0 d) ≤ f y → OnBoard b q → is_firm q ≡ is_firm p
    → Works wave (view_of p) (view_of q) (tells (f (get_or xs 0 d)) (g (get_or xs 0 d))) (tells (f y) (g y)) → HasWon r (view_of q) ps → Rested limit n (is_firm p) (view_of q) aside → Spends worker_cost (view_of p) (view_of q)
    → IsEnded r limit n wave b depth p (crew_tells (map f xs) (map g xs)) (crew_tells (map f (set xs 0 y)) (map g (set xs 0 y))) q ps aside
ended-one f g [] d y r limit n wave b depth p q ps aside one ready later on firm works won rested room = absurd (omega arith)
ended-one f g (x ∷ []) d y r limit n wave b depth p q ps aside one ready later on firm works won rested room = record {
  board = on;
  firm = firm;
  works = crew_one wave (view_of p) (view_of q) (tells (f x) (g x)) (tells (f y) (g y)) later works;
  won = won;
  rested = rested;
  rose = rose_one wave (view_of p) (view_of q) (tells (f x) (g x)) (tells (f y) (g y)) limit n (is_firm p) aside ready.start works rested;
  room = let l = some_power depth in omega arith;
}
ended-one f g (x ∷ z ∷ zs) d y r limit n wave b depth p q ps aside one ready later on firm works won rested room = absurd (omega arith)

won_both : {O : Type 0} (is_right : ℕ → O → Type 0) (l r w : View) (os ps qs : List (ℕ × O)) → w ≡ both l r → qs ≡ os ++ ps → HasWon is_right l os → HasWon is_right r ps → HasWon is_right w qs
won_both {O} is_right l r w os ps qs ew eq a b = subst (λ z. HasWon is_right z qs) (sym ew) (subst (HasWon is_right (both l r)) (sym eq) (record {
  each = λ t.
      let p = sum_by-append (λ (z : ℕ × O). cond {A = ℕ} (z.0 == t) 1 0) os ps in
      let q = wins_both t l r in
      let x = a.each t in
      let y = b.each t in
      omega arith;
  right = All-append (λ (z : ℕ × O). is_right z.0 z.1) os ps a.right b.right;
}))

-- what one of two workers has done is done
done_left : (limit n : ℕ) (l r : View) → IsDone limit n l → IsDone limit n (both l r)
done_left limit n l r a = record {
  all = λ no t below.
      let seen = λ (z : ℕ × ℕ). nat_le limit z.1 in
      let whole = list_any-append seen l.counts r.counts in
      let none : saw_limit limit l ≡ false = false_from_ne_true (saw_limit limit l) (λ yes. false≢true (sym no ∙ whole ∙ or_left (saw_limit limit l) (saw_limit limit r) yes)) in
      (steps_keep.join_left l r).winner t (a.all none t below);
}

done_right : (limit n : ℕ) (l r : View) → IsDone limit n r → IsDone limit n (both l r)
done_right limit n l r a = record {
  all = λ no t below.
      let seen = λ (z : ℕ × ℕ). nat_le limit z.1 in
      let whole = list_any-append seen l.counts r.counts in
      let none : saw_limit limit r ≡ false = false_from_ne_true (saw_limit limit r) (λ yes. false≢true (sym no ∙ whole ∙ or_right (saw_limit limit l) (saw_limit limit r) yes)) in
      (steps_keep.join_right l r).winner t (a.all none t below);
}

rested_both : (limit n : ℕ) (firm : Bool) (l r : View) (a b : Bool) → Rested limit n firm l a → Rested limit n firm r b → Rested limit n firm (both l r) (a && b)
rested_both limit n firm l r true true x y = (let p = x.0 in omega arith, x.1)
rested_both limit n firm l r true false x y = done_right limit n l r y
rested_both limit n firm l r false b x y = done_left limit n l r x

rise_append : (k : ℕ) (xs xs' ys ys' : List ℕ) → Rise k xs xs' → Rise k ys ys' → Rise k (xs ++ ys) (xs' ++ ys')
rise_append k [] [] ys ys' a b = b
rise_append k [] (x' ∷ xs') ys ys' a b = absurd a
rise_append k (x ∷ xs) [] ys ys' a b = absurd a
rise_append k (x ∷ xs) (x' ∷ xs') ys ys' a b = (a.0, rise_append k xs xs' ys ys' a.1 b)

rose_both : (a b : Bool) (xs xs' ys ys' : List ℕ) → Rose a xs xs' → Rose b ys ys' → Rose (a && b) (xs ++ ys) (xs' ++ ys')
rose_both true true xs xs' ys ys' x y = rise_append aside_limit xs xs' ys ys' x y
rose_both true false xs xs' ys ys' x y = tt
rose_both false b xs xs' ys ys' x y = tt

-- lists that are mapped alike, joined
map_both : {A B : Type 0} (f : A → B) (xs ys : List A) (us vs : List B) → map f xs ≡ us → map f ys ≡ vs → map f (xs ++ ys) ≡ us ++ vs
map_both f xs ys us vs a b = map-append f xs ys ∙ ap (λ l. l ++ map f ys) a ∙ ap (λ l. us ++ l) b

crew_both : (wave : ℕ) (v l r : View) (x y x' y' : CrewTells) → CrewWorks wave (kept_half v) l x y → CrewWorks wave (other_half v) r x' y'
    → CrewWorks wave v (both l r) (crew_tells (x.faults ++ x'.faults) (x.begun ++ x'.begun)) (crew_tells (y.faults ++ y'.faults) (y.begun ++ y'.begun))
crew_both wave v l r x y x' y' a b = record {
  notes = notes-trans v l (both l r) (notes-trans v (kept_half v) l (steps_keep.cut v) a.notes) (steps_keep.join_left l r);
  steps =
      let p = steps_both l r in
      let q = steps_cut v in
      let s = a.steps in
      let t = b.steps in
      omega arith;
  faults =
      let p = sum_by-append (λ (z : Attempt). cond {A = ℕ} (has_failed z.fate) 1 0) l.tried r.tried in
      let q = sum_by-append (λ (n : ℕ). n) x.faults x'.faults in
      let s = sum_by-append (λ (n : ℕ). n) y.faults y'.faults in
      let t = a.faults in
      let u = b.faults in
      omega arith;
  turns = a.turns ++ b.turns;
  start = map_both (λ (z : Turn wave). z.start) a.turns b.turns x.faults x'.faults a.start b.start;
  behind = map_both (λ (z : Turn wave). z.faults) a.turns b.turns y.faults y'.faults a.behind b.behind;
  before = map_both (λ (z : Turn wave). z.before) a.turns b.turns x.begun x'.begun a.before b.before;
  after = map_both (λ (z : Turn wave). z.after) a.turns b.turns y.begun y'.begun a.after b.after;
  attempts = λ t n.
      let p = sum_by-append (λ (z : Attempt). cond {A = ℕ} (is_attempt t n z) 1 0) l.tried r.tried in
      let q = sum_by-append (λ (z : Turn wave). turn_begins t n z) a.turns b.turns in
      let s = a.attempts t n in
      let u = b.attempts t n in
      omega arith;
  failed = λ t.
      let p = sum_by-append (λ (z : Attempt). cond {A = ℕ} (is_failure_of t z) 1 0) l.tried r.tried in
      let q = sum_by-append (λ (z : Turn wave). turn_lost t z) a.turns b.turns in
      let s = a.failed t in
      let u = b.failed t in
      omega arith;
}

spends_both : (depth : ℕ) (v l r : View) → 0 < depth → Spends (worker_cost * 2 ^ (depth - 1)) (kept_half v) l → Spends (worker_cost * 2 ^ (depth - 1)) (other_half v) r → Spends (worker_cost * 2 ^ depth) v (both l r)
spends_both depth v l r left a b =
    let p = sum_by-append (λ (z : Attempt). cond {A = ℕ} (has_failed z.fate) 1 0) l.tried r.tried in
    let q = two_halves depth left in
    omega arith

-- what two halves of a crew have, joined
ended_both : {O : Type 0} (right : ℕ → O → Type 0) (limit n wave : ℕ) (b : Board) (depth : ℕ) (p k o q l r : Pass) (os ps qs : List (ℕ × O)) (a1 a2 a : Bool) (x y x' y' : CrewTells)
    → 0 < depth → view_of k ≡ kept_half (view_of p) → view_of o ≡ other_half (view_of p) → is_firm k ≡ is_firm p → is_firm o ≡ is_firm p
    → IsEnded right limit n wave b (depth - 1) k x y l os a1 → IsEnded right limit n wave b (depth - 1) o x' y' r ps a2
    → OnBoard b q → is_firm q ≡ is_firm l → view_of q ≡ both (view_of l) (view_of r) → qs ≡ os ++ ps → a ≡ (a1 && a2)
    → IsEnded right limit n wave b depth p (crew_tells (x.faults ++ x'.faults) (x.begun ++ x'.begun)) (crew_tells (y.faults ++ y'.faults) (y.begun ++ y'.begun)) q qs a
ended_both right limit n wave b depth p k o q l r os ps qs a1 a2 a x y x' y' left vk vo fk fo one two on firm view outputs aside = record {
  board = on;
  firm = firm ∙ one.firm ∙ fk;
  works = subst (λ z. CrewWorks wave (view_of p) z (crew_tells (x.faults ++ x'.faults) (x.begun ++ x'.begun)) (crew_tells (y.faults ++ y'.faults) (y.begun ++ y'.begun))) (sym view)
      (crew_both wave (view_of p) (view_of l) (view_of r) x y x' y' (subst (λ z. CrewWorks wave z (view_of l) x y) vk one.works) (subst (λ z. CrewWorks wave z (view_of r) x' y') vo two.works));
  won = won_both right (view_of l) (view_of r) (view_of q) os ps qs view outputs one.won two.won;
  rested = subst (λ z. Rested limit n (is_firm p) z a) (sym view) (subst (Rested limit n (is_firm p) (both (view_of l) (view_of r))) (sym aside)
      (rested_both limit n (is_firm p) (view_of l) (view_of r) a1 a2 (subst (λ z. Rested limit n z (view_of l) a1) fk one.rested) (subst (λ z. Rested limit n z (view_of r) a2) fo two.rested)));
  rose = subst (λ z. Rose z (x.faults ++ x'.faults) (y.faults ++ y'.faults)) (sym aside) (rose_both a1 a2 x.faults y.faults x'.faults y'.faults one.rose two.rose);
  room = subst (Spends (worker_cost * 2 ^ depth) (view_of p)) (sym view) (spends_both depth (view_of p) (view_of l) (view_of r) left (subst (λ z. Spends (worker_cost * 2 ^ (depth - 1)) z (view_of l)) vk one.room) (subst (λ z. Spends (worker_cost * 2 ^ (depth - 1)) z (view_of r)) vo two.room));
}

-- the same over the hosts of both halves
pub ended-halves : {X O : Type 0} (f : X → ℕ) (g : X → Option (List outside.Attempt)) (xs front back : List X) (right : ℕ → O → Type 0) (limit n wave : ℕ) (b : Board) (depth : ℕ) (p k o q l r : Pass) (os ps qs : List (ℕ × O)) (a1 a2 a : Bool) (front' back' : List X)
    → xs ≡ front ++ back → 0 < depth → view_of k ≡ kept_half (view_of p) → view_of o ≡ other_half (view_of p) → is_firm k ≡ is_firm p → is_firm o ≡ is_firm p
    → IsEnded right limit n wave b (depth - 1) k (crew_tells (map f front) (map g front)) (crew_tells (map f front') (map g front')) l os a1
    → IsEnded right limit n wave b (depth - 1) o (crew_tells (map f back) (map g back)) (crew_tells (map f back') (map g back')) r ps a2
    → OnBoard b q → is_firm q ≡ is_firm l → view_of q ≡ both (view_of l) (view_of r) → qs ≡ os ++ ps → a ≡ (a1 && a2)
    → IsEnded right limit n wave b depth p (crew_tells (map f xs) (map g xs)) (crew_tells (map f (front' ++ back')) (map g (front' ++ back'))) q qs a
ended-halves f g xs front back right limit n wave b depth p k o q l r os ps qs a1 a2 a front' back' e left vk vo fk fo one two on firm view outputs aside =
    let fx : map f front ++ map f back ≡ map f xs = sym (ap (map f) e ∙ map-append f front back) in
    let gx : map g front ++ map g back ≡ map g xs = sym (ap (map g) e ∙ map-append g front back) in
    let fy : map f front' ++ map f back' ≡ map f (front' ++ back') = sym (map-append f front' back') in
    let gy : map g front' ++ map g back' ≡ map g (front' ++ back') = sym (map-append g front' back') in
    let whole = ended_both right limit n wave b depth p k o q l r os ps qs a1 a2 a (crew_tells (map f front) (map g front)) (crew_tells (map f front') (map g front')) (crew_tells (map f back) (map g back)) (crew_tells (map f back') (map g back')) left vk vo fk fo one two on firm view outputs aside in
    subst (λ z. IsEnded right limit n wave b depth p z (crew_tells (map f (front' ++ back')) (map g (front' ++ back'))) q qs a) (ap (λ z. crew_tells z (map g front ++ map g back)) fx ∙ ap (crew_tells (map f xs)) gx)
    (subst (λ z. IsEnded right limit n wave b depth p (crew_tells (map f front ++ map f back) (map g front ++ map g back)) z q qs a) (ap (λ z. crew_tells z (map g front' ++ map g back')) fy ∙ ap (crew_tells (map f (front' ++ back'))) gy) whole)

-- what holds of a result, and what follows from it
pub ok_weaker : {A E : Type 0} (m : Result A E) (P S : A → Type 0) → IfOk m P → ((x : A) → P x → S x) → IfOk m S
ok_weaker (Ok x) P S p f = f x p
ok_weaker (Err e) P S p f = p

pub ok_both : {A E : Type 0} (m : Result A E) (P Q : A → Type 0) (S : A → Type 0) → IfOk m P → IfOk m Q → ((x : A) → P x → Q x → S x) → IfOk m S
ok_both (Ok x) P Q S p q f = f x p q
ok_both (Err e) P Q S p q f = p

-- what holds of a result by five facts
pub ok_five : {A E : Type 0} (m : Result A E) (P Q R S T U : A → Type 0) → IfOk m P → IfOk m Q → IfOk m R → IfOk m S → IfOk m T → ((x : A) → P x → Q x → R x → S x → T x → U x) → IfOk m U
ok_five (Ok x) P Q R S T U p q r s t f = f x p q r s t
ok_five (Err e) P Q R S T U p q r s t f = p

-- and by six
pub ok_six : {A E : Type 0} (m : Result A E) (P Q R S T V U : A → Type 0) → IfOk m P → IfOk m Q → IfOk m R → IfOk m S → IfOk m T → IfOk m V → ((x : A) → P x → Q x → R x → S x → T x → V x → U x) → IfOk m U
ok_six (Ok x) P Q R S T V U p q r s t v f = f x p q r s t v
ok_six (Err e) P Q R S T V U p q r s t v f = p

-- two turns of one host
abbrev turn_then : {wave : ℕ} (a b : Turn wave) → a.faults ≡ b.start → a.after ≡ b.before → Turn wave
turn_then {wave} a b e f = record {
  start = a.start;
  faults = b.faults;
  before = a.before;
  after = b.after;
  begins = a.begins ++ b.begins;
  rise = let p = a.rise in let q = b.rise in omega arith;
  later =
      let p = a.later in
      let l = b.later in
      let q = next-rises a.begins a.faults (next_count b.begins b.faults) (omega arith) in
      let r = next-append a.begins b.begins b.faults in
      omega arith;
  told = told_twice a.before a.after b.after a.begins b.begins a.told (b.told ∙ ap (option_map (λ z. z ++ b.begins)) (sym f));
  of_wave = All-append (λ (c : outside.Attempt). c.wave ≡ wave) a.begins b.begins a.of_wave b.of_wave;
}

-- the turns of all hosts in two rounds, as those of one
record Joined {wave : ℕ} (zs ws : List (Turn wave)) : Type 0 where
  turns : List (Turn wave)
  start : map (λ z. z.start) turns ≡ map (λ z. z.start) zs
  behind : map (λ z. z.faults) turns ≡ map (λ z. z.faults) ws
  before : map (λ z. z.before) turns ≡ map (λ z. z.before) zs
  after : map (λ z. z.after) turns ≡ map (λ z. z.after) ws
  attempts : (t a : ℕ) → sum_by (turn_begins t a) turns ≡ sum_by (turn_begins t a) zs + sum_by (turn_begins t a) ws
  failed : (t : ℕ) → sum_by (turn_lost t) zs + sum_by (turn_lost t) ws ≤ sum_by (turn_lost t) turns

abbrev pub tail_of : {A : Type 0} → List A → List A
tail_of [] = []
tail_of (x ∷ xs) = xs

abbrev pub head_of : {A : Type 0} → A → List A → A
head_of d [] = d
head_of d (x ∷ xs) = x

joined_more : {wave : ℕ} (a b : Turn wave) (zs ws : List (Turn wave)) (e : a.faults ≡ b.start) → (f : a.after ≡ b.before) → Joined zs ws → Joined (a ∷ zs) (b ∷ ws)
joined_more {wave} a b zs ws e f j =
    let c = turn_then a b e f in
    record {
      turns = c ∷ j.turns;
      start = ap (λ (l : List ℕ). a.start ∷ l) j.start;
      behind = ap (λ (l : List ℕ). b.faults ∷ l) j.behind;
      before = ap (λ (l : List (Option (List outside.Attempt))). a.before ∷ l) j.before;
      after = ap (λ (l : List (Option (List outside.Attempt))). b.after ∷ l) j.after;
      attempts = λ t n.
          let p = j.attempts t n in
          let q = sum_by-append (λ (z : outside.Attempt). cond {A = ℕ} (is_begin t n z) 1 0) a.begins b.begins in
          let r = sum_by-cons (λ (z : Turn wave). turn_begins t n z) c j.turns in
          let s = sum_by-cons (λ (z : Turn wave). turn_begins t n z) a zs in
          let u = sum_by-cons (λ (z : Turn wave). turn_begins t n z) b ws in
          omega arith;
      failed = λ t.
          let p = j.failed t in
          let l = b.later in
          let q = lost-append t a.begins b.begins b.faults in
          let m = lost-rises t a.begins a.faults (next_count b.begins b.faults) (omega arith) in
          let r = sum_by-cons (λ (z : Turn wave). turn_lost t z) c j.turns in
          let s = sum_by-cons (λ (z : Turn wave). turn_lost t z) a zs in
          let u = sum_by-cons (λ (z : Turn wave). turn_lost t z) b ws in
          omega arith;
    }

joined : {wave : ℕ} (zs ws : List (Turn wave)) → map (λ z. z.faults) zs ≡ map (λ z. z.start) ws → map (λ z. z.after) zs ≡ map (λ z. z.before) ws → Joined zs ws
joined [] [] e f = record { turns = []; start = refl; behind = refl; before = refl; after = refl; attempts = λ t a. omega arith; failed = λ t. omega arith }
joined [] (b ∷ ws) e f = absurd (cc)
joined (a ∷ zs) [] e f = absurd (cc)
joined (a ∷ zs) (b ∷ ws) e f = joined_more a b zs ws (ap (head_of 0) e) (ap (head_of None) f) (joined zs ws (ap tail_of e) (ap tail_of f))

-- a round after another, with looks between them
pub crew-then : (wave : ℕ) (u v v' w : View) (x y z : CrewTells) → CrewWorks wave u v x y → IsCalm v v' → CrewWorks wave v' w y z → CrewWorks wave u w x z
crew-then wave u v v' w x y z a c b =
    let j = joined a.turns b.turns (a.behind ∙ sym b.start) (a.after ∙ sym b.before) in
    record {
      notes = notes-trans u v w a.notes (notes-trans v v' w c.notes b.notes);
      steps = b.steps ∙ c.steps ∙ a.steps;
      faults = let p = a.faults in let q = b.faults in let r = calm-all v v' c in omega arith;
      turns = j.turns;
      start = j.start ∙ a.start;
      behind = j.behind ∙ b.behind;
      before = j.before ∙ a.before;
      after = j.after ∙ b.after;
      attempts = λ t n. let p = a.attempts t n in let q = b.attempts t n in let r = ap (count_by (is_attempt t n)) c.tried in let s = j.attempts t n in omega arith;
      failed = λ t. let p = a.failed t in let q = b.failed t in let r = calm-own v v' c t in let s = j.failed t in omega arith;
    }

-- a round that is begun on three quarters of the room, with the entries left aside
pub crew-again : (wave : ℕ) (v k o l w : View) (x y : CrewTells) → k ≡ kept_half (kept_half v) → o ≡ both (other_half v) (other_half (kept_half v)) → w ≡ both k l → CrewWorks wave o l x y → CrewWorks wave v w x y
crew-again wave v k o l w x y ek eo ew a = subst (λ z. CrewWorks wave v z x y) (sym (ew ∙ ap (λ z. both z l) ek)) (record {
  notes = notes-trans v (kept_half v) (both (kept_half (kept_half v)) l) (steps_keep.cut v) (notes-trans (kept_half v) (kept_half (kept_half v)) (both (kept_half (kept_half v)) l) (steps_keep.cut (kept_half v)) (steps_keep.join_left (kept_half (kept_half v)) l));
  steps =
      let p = steps_both (kept_half (kept_half v)) l in
      let q = steps_cut v in
      let r = steps_cut (kept_half v) in
      let s = a.steps in
      let t : steps_of o ≡ steps_of (other_half v) + steps_of (other_half (kept_half v)) = ap steps_of eo ∙ steps_both (other_half v) (other_half (kept_half v)) in
      omega arith;
  faults =
      let p = sum_by-append (λ (z : Attempt). cond {A = ℕ} (has_failed z.fate) 1 0) v.tried l.tried in
      let t : all_fails o ≡ 0 = ap all_fails eo in
      let u = a.faults in
      omega arith;
  turns = a.turns;
  start = a.start;
  behind = a.behind;
  before = a.before;
  after = a.after;
  attempts = λ t n.
      let p = sum_by-append (λ (z : Attempt). cond {A = ℕ} (is_attempt t n z) 1 0) v.tried l.tried in
      let q : count_by (is_attempt t n) o.tried ≡ 0 = ap (λ (z : View). count_by (is_attempt t n) z.tried) eo in
      let r = a.attempts t n in
      omega arith;
  failed = λ t.
      let p = sum_by-append (λ (z : Attempt). cond {A = ℕ} (is_failure_of t z) 1 0) v.tried l.tried in
      let q : fails_of t o ≡ 0 = ap (fails_of t) eo in
      let r = a.failed t in
      omega arith;
})

pub won-again : {O : Type 0} (r : ℕ → O → Type 0) (v k l w : View) (os ps qs : List (ℕ × O)) → k ≡ kept_half (kept_half v) → w ≡ both k l → qs ≡ os ++ ps → HasWon r v os → HasWon r l ps → HasWon r w qs
won-again r v k l w os ps qs ek ew eq a b = won_both r k l w os ps qs ew eq (subst (λ z. HasWon r z os) (sym ek) (record { each = a.each; right = a.right })) b

pub done-again : (limit n : ℕ) (firm aside : Bool) (k l w : View) → firm ≡ true → w ≡ both k l → Rested limit n firm l aside → IsDone limit n w
done-again limit n firm true k l w is e rested = absurd (false≢true (sym rested.1 ∙ is))
done-again limit n firm false k l w is e rested = subst (IsDone limit n) (sym e) (done_right limit n k l rested)

-- no count falls in a round
rise_turns : {wave : ℕ} (k : ℕ) (xs : List ℕ) (turns : List (Turn wave)) → Rise k xs (map (λ z. z.start) turns) → Rise k xs (map (λ z. z.faults) turns)
rise_turns k [] [] r = tt
rise_turns k [] (z ∷ zs) r = absurd r
rise_turns k (x ∷ xs) [] r = absurd r
rise_turns k (x ∷ xs) (z ∷ zs) r = (let p = r.0 in let q = z.rise in omega arith, rise_turns k xs zs r.1)

pub rise-then : (k wave : ℕ) (v w : View) (xs : List ℕ) (y z : CrewTells) → Rise k xs y.faults → CrewWorks wave v w y z → Rise k xs z.faults
rise-then k wave v w xs y z r b = subst (Rise k xs) b.behind (rise_turns k xs b.turns (subst (Rise k xs) (sym b.start) r))

-- the sum of what the hosts count
pub total-map : {X : Type 0} (f : X → ℕ) (xs : List X) → total (map f xs) ≡ sum_by f xs
total-map f [] = refl
total-map f (x ∷ xs) =
    let p = sum_by-cons (λ (n : ℕ). n) (f x) (map f xs) in
    let q = sum_by-cons f x xs in
    let r = total-map f xs in
    omega arith
