-- What a reader finds at the front of some tokens, and lists of it.
use Rattle.std.proofs.Common.{◌≡◌, ℕ, zero, suc, ◌<◌, ◌≤◌, refl, ◌∙◌, List, [], ◌∷◌, ◌++◌, length, append_assoc, append-nil, arith}
use Rattle.std.specs.Prelude.{Option, Some, None}
use Rattle.std.specs.Option.{option_map}
use Rattle.pig_syntax.specs.declared.tokens.Symbol.TheVariants as s
use Rattle.pig_syntax.specs.declared.tokens.TokenForm.TheVariants as f
use Rattle.pig_exprs.specs.Grammar.{Forms, Listed, last, more}
use Rattle.pig_exprs.specs.Reader.{FoundPart, Turn, repeat, comma_turn, listed}
use Rattle.pig_exprs.proofs.Fits.{Fits}

-- the reader finds this at the front of the tokens, and what it leaves is less and fits the same budget
pub record Finds {A : Type 0} (reader : Forms → FoundPart A) (ts : Forms) (found : A) (rest : Forms) (d : ℕ) : Type 0 where
  pub finds : reader ts ≡ Some (found, rest)
  pub fits : Fits rest d
  pub shorter : length rest < length ts

-- a reader that finds what another finds, as another tree
pub finds_map : {A B : Type 0} {reader : Forms → FoundPart A} {ts rest : Forms} {x : A} {d : ℕ} → Finds reader ts x rest d → (other : Forms → FoundPart B) (front : Forms) (tree : A → B)
    → other front ≡ option_map (λ p. (tree p.0, p.1)) (reader ts) → length ts ≤ length front → Finds other front (tree x) rest d
finds_map found other front tree same longer = record { finds = same ∙ rw found.finds refl; fits = found.fits; shorter = omega (arith, found.shorter, longer) }

-- turns that go on, one after the other, up to one that ends the list
pub data Run {A : Type 0} (turn : Forms → Turn A) : Forms → List A → Forms → Type 0 where
  stops : {ts : Forms} → turn ts ≡ Some None → Run turn ts [] ts
  goes : {ts mid rest : Forms} {x : A} {xs : List A} → turn ts ≡ Some (Some (x, mid)) → length mid < length ts → Run turn mid xs rest → Run turn ts (x ∷ xs) rest

-- with a turn for each token that is left, all are found
pub repeat_run : {A : Type 0} {turn : Forms → Turn A} {ts rest : Forms} {xs : List A} → Run turn ts xs rest → (most : ℕ) (done : List A) → length ts ≤ most
    → repeat turn most done ts ≡ Some (done ++ xs, rest)
unfolding repeat
repeat_run {ts = ts} (stops h) zero done few = rw append-nil refl
repeat_run {ts = ts} (stops h) (suc most) done few = rw (h, append-nil) refl
repeat_run (goes h less later) zero done few = absurd (omega (arith, less, few))
repeat_run (goes {x = x} {xs = xs} h less later) (suc most) done few =
    rw h (repeat_run later most (done ++ x ∷ []) (omega (arith, less, few)) ∙ rw append_assoc refl)

-- what turns find at the front of some tokens, which may be nothing
pub record FindsRun {A : Type 0} (turn : Forms → Turn A) (ts : Forms) (found : List A) (rest : Forms) (d : ℕ) : Type 0 where
  pub run : Run turn ts found rest
  pub fits : Fits rest d
  pub shorter : length rest ≤ length ts

-- the same where the reader may find that nothing stands there
pub record FindsMaybe {A : Type 0} (reader : Forms → FoundPart A) (ts : Forms) (found : A) (rest : Forms) (d : ℕ) : Type 0 where
  pub finds : reader ts ≡ Some (found, rest)
  pub fits : Fits rest d
  pub shorter : length rest ≤ length ts

-- ---- X { ',' X }

pub unmapped : {A : Type 0} (o : Option A) (x : A) → option_map Some o ≡ Some (Some x) → o ≡ Some x
unmapped None x h = absurd (cc)
unmapped (Some y) x h = cc

no_end : {A : Type 0} (o : Option A) → option_map Some o ≡ Some None → ⊥
no_end None h = cc
no_end (Some y) h = cc

-- the members of a list, each found by the reader
pub record FindsAll {A : Type 0} (member : Forms → FoundPart A) (ts : Forms) (found : List A) (rest : Forms) (d : ℕ) : Type 0 where
  pub run : Run (comma_turn member) (f.Symbol s.Comma ∷ ts) found rest
  pub fits : Fits rest d
  pub shorter : length rest < length ts

-- the last member, behind which no comma stands
pub finds_last : {A : Type 0} {member : Forms → FoundPart A} {ts rest : Forms} {x : A} {d : ℕ} → Finds member ts x rest d → comma_turn member rest ≡ Some None → FindsAll member ts (x ∷ []) rest d
unfolding comma_turn
finds_last x ends = record { run = goes (rw x.finds refl) (omega (arith, x.shorter)) (stops ends); fits = x.fits; shorter = x.shorter }

-- one more member in front
pub finds_more : {A : Type 0} {member : Forms → FoundPart A} {ts mid rest : Forms} {x : A} {xs : List A} {d : ℕ}
    → Finds member ts x (f.Symbol s.Comma ∷ mid) d → FindsAll member mid xs rest d → FindsAll member ts (x ∷ xs) rest d
unfolding comma_turn
finds_more {mid = mid} x xs = record {
  run = goes (rw x.finds refl) (omega (arith, x.shorter)) xs.run;
  fits = xs.fits;
  shorter = let less : suc (length mid) < _ = x.shorter in omega (arith, less, xs.shorter);
}

listed_run : {A : Type 0} (member : Forms → FoundPart A) (ts rest : Forms) (xs : List A) → Run (comma_turn member) (f.Symbol s.Comma ∷ ts) xs rest → listed member ts ≡ Some (xs, rest)
unfolding listed comma_turn
listed_run member ts rest [] (stops h) = absurd (no_end (member ts) h)
listed_run member ts rest (x ∷ xs) (goes {mid = mid} h less later) = rw (unmapped (member ts) (x, mid) h) (repeat_run later (length mid) (x ∷ []) (omega arith))

-- the list of the members
pub finds_listed : {A : Type 0} {member : Forms → FoundPart A} {ts rest : Forms} {xs : List A} {d : ℕ} → FindsAll member ts xs rest d → Finds (listed member) ts xs rest d
finds_listed {member = member} {ts = ts} {rest = rest} {xs = xs} all = record { finds = listed_run member ts rest xs all.run; fits = all.fits; shorter = all.shorter }

-- a list whose members are found wherever such may follow as may follow a member
pub listed_finds : {A : Type 0} {rule : Forms → A → Forms → Type 0} {ts rest : Forms} {xs : List A} → Listed rule ts xs rest → (member : Forms → FoundPart A) (d : ℕ) (May : Forms → Type 0)
    → ((ts rest : Forms) (x : A) → rule ts x rest → Fits ts d → May rest → Finds member ts x rest d) → ((mid : Forms) → May (f.Symbol s.Comma ∷ mid))
    → Fits ts d → May rest → comma_turn member rest ≡ Some None → FindsAll member ts xs rest d
listed_finds {ts = ts} {rest = rest} (last {x = x} r) member d May each comma fits may ends = finds_last (each ts rest x r fits may) ends
listed_finds {ts = ts} {rest = rest} (more {mid = mid} {x = x} r later) member d May each comma fits may ends =
    let first = each ts (f.Symbol s.Comma ∷ mid) x r fits (comma mid) in
    let behind : Fits mid d = unfold Fits in first.fits in
    finds_more first (listed_finds later member d May each comma behind may ends)
