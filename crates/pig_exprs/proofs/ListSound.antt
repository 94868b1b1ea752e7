-- What a list reads stands by the rule of its members, and what is read turn by turn by the rule of the turns.
use Rattle.std.proofs.Common.{◌≡◌, ℕ, zero, suc, refl, sym, Bool, true, false, if◌then◌else◌, ◌∙◌, subst, List, [], ◌∷◌, ◌++◌, length, append_assoc, append-nil}
use Rattle.std.specs.Prelude.{Some, None}
use Rattle.std.specs.Option.{option_and_then, option_map_or}
use denote.Enum.Bare.{sameb, same_true}
use Rattle.pig_syntax.specs.contracts.tokens.Keyword.{the_type as keywords}
use Rattle.pig_syntax.specs.contracts.tokens.Symbol.{the_type as symbols}
use Rattle.pig_syntax.specs.declared.tokens.Keyword.{Keyword}
use Rattle.pig_syntax.specs.declared.tokens.Symbol.{Symbol}
use Rattle.pig_syntax.specs.declared.tokens.Symbol.TheVariants as s
use Rattle.pig_syntax.specs.declared.tokens.TokenForm.TheVariants as f
use Rattle.pig_exprs.specs.Grammar.{Forms, Listed}
use Rattle.pig_exprs.specs.Reader.{FoundPart, Turn, repeat, comma_turn, listed, after_symbol, after_word}
use Rattle.pig_exprs.proofs.Options.{Holds, holds_then, holds_map, holds_weaken}

-- whatever the reader finds stands by the rule
abbrev pub Upholds : {A : Type 0} → (Forms → FoundPart A) → (Forms → A → Forms → Type 0) → Type 0
Upholds reader rule = (ts : Forms) → Holds (λ p. rule ts p.0 p.1) (reader ts)

-- ---- turn by turn

-- an element in front of others of a run
abbrev pub Leads : {A : Type 0} → (Forms → List A → Forms → Type 0) → Forms → A × Forms → Type 0
Leads {A = A} run ts p = (others : List A) (rest : Forms) → run p.1 others rest → run ts (p.0 ∷ others) rest

-- each turn finds an element that leads a run
abbrev pub TurnsLead : {A : Type 0} → (Forms → Turn A) → (Forms → List A → Forms → Type 0) → Type 0
TurnsLead turn run = (ts : Forms) → Holds (Holds (Leads run ts)) (turn ts)

-- a run behind the elements that are read
pub record Adds {A : Type 0} (run : Forms → List A → Forms → Type 0) (done : List A) (ts : Forms) (found : List A × Forms) : Type 0 where
  pub others : List A
  pub whole : found.0 ≡ done ++ others
  pub behind : run ts others found.1

by_turn : {A : Type 0} (run : Forms → List A → Forms → Type 0) (again : List A → Forms → FoundPart (List A)) → ((done : List A) (ts : Forms) → Holds (Adds run done ts) (again done ts))
    → (done : List A) (ts : Forms) → run ts [] ts → (turn : Turn A) → Holds (Holds (Leads run ts)) turn
    → Holds (Adds run done ts) (option_and_then (λ next. option_map_or (λ p. again (done ++ p.0 ∷ []) p.1) next (Some (done, ts))) turn)
by_turn run again later done ts none None h = Holds.nothing
by_turn run again later done ts none (Some None) h = Holds.just (record { others = []; whole = sym (append-nil done); behind = none })
by_turn run again later done ts none (Some (Some p)) (Holds.just (Holds.just leads)) =
    holds_weaken (later (done ++ p.0 ∷ []) p.1)
    (λ found adds. record { others = p.0 ∷ adds.others; whole = adds.whole ∙ append_assoc done (p.0 ∷ []) adds.others; behind = leads adds.others found.1 adds.behind })

pub repeat_adds : {A : Type 0} (turn : Forms → Turn A) (run : Forms → List A → Forms → Type 0) → ((ts : Forms) → run ts [] ts) → TurnsLead turn run → (most : ℕ) (done : List A) (ts : Forms)
    → Holds (Adds run done ts) (repeat turn most done ts)
unfolding repeat
repeat_adds turn run none leads zero done ts = Holds.just (record { others = []; whole = sym (append-nil done); behind = none ts })
repeat_adds turn run none leads (suc most) done ts =
    by_turn run (λ before rest. repeat turn most before rest) (λ before rest. repeat_adds turn run none leads most before rest) done ts (none ts) (turn ts) (leads ts)

-- what is found from the first turn on is a run
pub repeat_runs : {A : Type 0} (turn : Forms → Turn A) (run : Forms → List A → Forms → Type 0) → ((ts : Forms) → run ts [] ts) → TurnsLead turn run → (most : ℕ) (ts : Forms)
    → Holds (λ p. run ts p.0 p.1) (repeat turn most [] ts)
repeat_runs turn run none leads most ts =
    holds_weaken (repeat_adds turn run none leads most [] ts) (λ found adds. subst (λ xs. run ts xs found.1) (sym adds.whole) adds.behind)

-- ---- X { ',' X }

-- members that go on any member before them
abbrev pub GoesOn : {A : Type 0} → (Forms → A → Forms → Type 0) → Forms → List A → Forms → Type 0
GoesOn {A = A} rule ts others rest = (before : Forms) (a : A) → rule before a ts → Listed rule before (a ∷ others) rest

pub comma_leads : {A : Type 0} (member : Forms → FoundPart A) (rule : Forms → A → Forms → Type 0) → Upholds member rule → TurnsLead (comma_turn member) (GoesOn rule)
unfolding comma_turn
comma_leads member rule upholds (f.Symbol s.Comma ∷ ts) =
    holds_map Some (upholds ts) (λ p r. Holds.just (λ others rest after before a first. Listed.more first (after ts p.0 r)))
comma_leads member rule upholds ts = Holds.just Holds.nothing

-- a first member, and those that the turns find
pub members_listed : {A : Type 0} (turn : Forms → Turn A) (rule : Forms → A → Forms → Type 0) → TurnsLead turn (GoesOn rule) → (most : ℕ) (ts : Forms) (p : A × Forms) → rule ts p.0 p.1
    → Holds (λ found. Listed rule ts found.0 found.1) (repeat turn most (p.0 ∷ []) p.1)
members_listed turn rule leads most ts p first =
    holds_weaken (repeat_adds turn (GoesOn rule) (λ mid before a r. Listed.last r) leads most (p.0 ∷ []) p.1)
    (λ found adds. subst (λ xs. Listed rule ts xs found.1) (sym adds.whole) (adds.behind ts p.0 first))

pub listed_upholds : {A : Type 0} (member : Forms → FoundPart A) (rule : Forms → A → Forms → Type 0) → Upholds member rule → Upholds (listed member) (Listed rule)
unfolding listed
listed_upholds member rule upholds ts =
    holds_then _ (upholds ts) (λ p first. members_listed (comma_turn member) rule (comma_leads member rule upholds) (length p.1) ts p first)

-- ---- symbols and keywords

symbol_in_front : (P : Forms → Type 0) (symbol found : Symbol) (ts : Forms) (is : Bool) → sameb symbols symbol found ≡ is → P (f.Symbol found ∷ ts)
    → Holds (λ rest. P (f.Symbol symbol ∷ rest)) (if is then Some ts else None)
symbol_in_front P symbol found ts true same p = Holds.just (subst (λ x. P (f.Symbol x ∷ ts)) (sym (same_true symbols tt symbol found same)) p)
symbol_in_front P symbol found ts false same p = Holds.nothing

-- what stands in front of a symbol
pub symbol_stands : (symbol : Symbol) (P : Forms → Type 0) (ts : Forms) → P ts → Holds (λ rest. P (f.Symbol symbol ∷ rest)) (after_symbol symbol ts)
unfolding after_symbol
symbol_stands symbol P (f.Symbol found ∷ ts) p = symbol_in_front P symbol found ts (sameb symbols symbol found) refl p
symbol_stands symbol P _ p = Holds.nothing

word_in_front : (P : Forms → Type 0) (word found : Keyword) (ts : Forms) (is : Bool) → sameb keywords word found ≡ is → P (f.Keyword found ∷ ts)
    → Holds (λ rest. P (f.Keyword word ∷ rest)) (if is then Some ts else None)
word_in_front P word found ts true same p = Holds.just (subst (λ x. P (f.Keyword x ∷ ts)) (sym (same_true keywords tt word found same)) p)
word_in_front P word found ts false same p = Holds.nothing

-- what stands in front of a keyword
pub word_stands : (word : Keyword) (P : Forms → Type 0) (ts : Forms) → P ts → Holds (λ rest. P (f.Keyword word ∷ rest)) (after_word word ts)
unfolding after_word
word_stands word P (f.Keyword found ∷ ts) p = word_in_front P word found ts (sameb keywords word found) refl p
word_stands word P _ p = Holds.nothing
