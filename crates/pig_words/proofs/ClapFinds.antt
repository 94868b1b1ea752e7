-- What clap's answer on the words says of what they give.
use Rattle.std.proofs.Common.{◌≡◌, ◌∙◌, ◌||◌, Bool, cond, codes, true, false, refl, sym, ap, ap₂, subst, List, [], ◌∷◌, map, drop, Option, Some, None, is_some, IsUtf8, All}
use Rattle.std.specs.List.{AllByRecursion, fold}
use Rattle.std.proofs.lemmas.List.Elements.{All-drop, recursion_from_All}
use Rattle.clap.specs.Walk.{Row, Walk, first_of, has_row, idle, nothing_held, rows_after, rows_of, walked, with_default}
use Rattle.clap.specs.Simple.{App, entered, matches_of, names_of}
use Rattle.clap.specs.Takes.{is_given}
use Rattle.clap.specs.Kinds.{IsAmong, Kinds, or_else}
use Rattle.clap.specs.Matches.{first_value}
use Rattle.clap.specs.Faults.{built_fault, check_fault, default_fault, defaults_fault, entered_fault, fault_of, level_fault, settle_fault, walk_fault}
use Rattle.clap.specs.declared.error.kind.ErrorKind.{ErrorKind}
use Rattle.clap.specs.declared.parser.matches.Found.{Found}
use Rattle.clap.proofs.WalkLemmas.{first_value-rows}
use Rattle.pig_words.specs.CommandWords.{Given, Gives, Word, name_of, nothing_given, settings}
use Rattle.pig_words.specs.ClapWords.{AreRead, AreValues, LackOperand, pig}
use Rattle.pig_words.proofs.Options.{Slot, Operand, Value, arg_of, args, at, each, id_of, pig_is, slots, top}
use Rattle.pig_words.proofs.ClapRows.{Shows, first_is_given, given_by_places, given_is_given, same_given, shows_none}
use Rattle.pig_words.proofs.ClapTurns.{stand}
use Rattle.pig_words.proofs.ClapReads.{Passes, Reaches, Ready, complete, first_none, last_held, last_rows, some_kind, sound, then_none}

abbrev start : Walk
start = stand [] None idle 1 false

or_true : (b : Bool) → (b || true) ≡ true
or_true true = refl
or_true false = refl

-- no argument has a default
default_none : (x : Slot) (rows : List Row) → default_fault rows (arg_of x) ≡ []
default_none x rows = rw (or_true (has_row (id_of x) rows)) refl

default_same : (x : Slot) (rows : List Row) → with_default rows (arg_of x) ≡ rows
default_same x rows = go (has_row (id_of x) rows)
  where
    go : (b : Bool) → cond b rows rows ≡ rows
    go true = refl
    go false = refl

defaults_none : (xs : List Slot) (rows : List Row) → defaults_fault rows (map arg_of xs) ≡ []
unfolding defaults_fault
defaults_none [] rows = refl
defaults_none (x ∷ xs) rows = ap₂ (λ f r. or_else f (defaults_fault r (map arg_of xs))) (default_none x rows) (default_same x rows) ∙ defaults_none xs rows

defaults_same : (xs : List Slot) (rows : List Row) → fold with_default rows (map arg_of xs) ≡ rows
defaults_same [] rows = refl
defaults_same (x ∷ xs) rows = ap (λ r. fold with_default r (map arg_of xs)) (default_same x rows) ∙ defaults_same xs rows

entered_nothing : (stop : Option (Word × List Word)) → entered (record { top = top; subs = [] }) stop ≡ None
entered_nothing None = refl
entered_nothing (Some p) = refl

entered_passes : (stop : Option (Word × List Word)) → entered_fault (record { top = top; subs = [] }) stop ≡ []
entered_passes None = refl
entered_passes (Some p) = refl

-- the faults of the walk, of what is pending at its end, and of an operand that lacks
fault_is : (words : List Word) → fault_of pig words
    ≡ or_else (walk_fault top [] start (drop 1 words)) (or_else (settle_fault args false (last_held start (drop 1 words))) (check_fault top (last_rows start (drop 1 words)) false))
fault_is words =
    let rest = drop 1 words in
    let stop = (fold (walked args []) start rest).stopped in
    ap (λ a. built_fault a nothing_held rest) pig_is
    ∙ ap₂ (λ e k. level_fault top [] nothing_held rest (is_some e) k) (entered_nothing stop) (entered_passes stop)
    ∙ ap₂ (λ d r. or_else (walk_fault top [] start rest) (or_else (settle_fault args false (last_held start rest)) (or_else d (check_fault top r false))))
    (defaults_none slots (last_rows start rest)) (defaults_same slots (last_rows start rest))

rows_are : (words : List Word) → matches_of pig words ≡ last_rows start (drop 1 words)
rows_are words = ap (λ (a : App). rows_after a.top.rules (names_of a) (drop 1 words)) pig_is ∙ defaults_same slots (last_rows start (drop 1 words))

operand_there : (rows : List Row) → is_given (codes "operand") rows ≡ true → check_fault top rows false ≡ []
operand_there rows e = rw e refl

ready : Ready nothing_given [] None
ready = record { settles = refl; shows = shows_none }

-- what words give is what the rows at the end show
shown_end : (words : List Word) (end : Given) → Gives nothing_given (drop 1 words) end → Reaches start (drop 1 words) end
shown_end words end d = complete d [] None ready

value_found : (words : List Word) (f : Found) (end : Given) → rows_of f ≡ matches_of pig words → Shows end (last_rows start (drop 1 words)) → (x : Slot) → at x end ≡ first_value f (id_of x)
value_found words f end rows shows x =
    sym (first_is_given x end (last_rows start (drop 1 words)) shows) ∙ ap (first_of (id_of x)) (sym (rows ∙ rows_are words)) ∙ sym (first_value-rows f (id_of x))

passes : (words : List Word) → fault_of pig words ≡ [] → Passes start (drop 1 words)
passes words none =
    let e = sym (fault_is words) ∙ none in
    record { walks = first_none _ _ e; settles = first_none _ _ (then_none (walk_fault top [] start (drop 1 words)) _ e) }

pub value_places : (f : Found) (g : Given) → g.operand ≡ first_value f (codes "operand") → AllByRecursion (λ s. g.values s ≡ first_value f (name_of s)) settings
    → (x : Slot) → at x g ≡ first_value f (id_of x)
value_places f g o values Operand = o
value_places f g o values (Value s) = each (λ s. g.values s ≡ first_value f (name_of s)) values s

-- words that clap passes are read
pub are_read : (words : List Word) (f : Found) (g : Given) → All IsUtf8 words → fault_of pig words ≡ [] → rows_of f ≡ matches_of pig words
    → ((x : Slot) → at x g ≡ first_value f (id_of x)) → AreRead (drop 1 words) g
are_read words f g utf8 none rows values =
    let comes = sound (drop 1 words) (recursion_from_All IsUtf8 (drop 1 words) (All-drop IsUtf8 1 words utf8)) nothing_given [] None ready (passes words none) in
    let same : (end : Given) → Shows end (last_rows start (drop 1 words)) → end ≡ g = λ end shows. given_by_places end g (λ x. value_found words f end rows shows x ∙ sym (values x)) in
    record {
      gives = subst (λ e. AreValues e → Gives nothing_given (drop 1 words) e) (same comes.end comes.shows) comes.gives;
      only = λ end d. same end (shown_end words end d).shows;
    }

-- where clap finds no operand, none is given
pub none_found : (words : List Word) (f : Found) → rows_of f ≡ matches_of pig words → first_value f (codes "operand") ≡ None → LackOperand (drop 1 words)
none_found words f rows none end d = value_found words f end rows (shown_end words end d).shows Operand ∙ none

-- words with an operand pass
given_passes : (words : List Word) (end : Given) → Gives nothing_given (drop 1 words) end → is_some end.operand ≡ true → fault_of pig words ≡ []
given_passes words end d some =
    let r = shown_end words end d in
    fault_is words ∙ ap₂ or_else r.passes.walks (ap₂ or_else r.passes.settles
    (operand_there (last_rows start (drop 1 words)) (given_is_given Operand end (last_rows start (drop 1 words)) r.shows ∙ some)))

no_kind : (k : ErrorKind) (ks : Kinds) → IsAmong k ks → ks ≡ [] → ⊥
no_kind k [] h e = h
no_kind k (x ∷ xs) h e = some_kind x xs (x ∷ xs) refl e

-- words that clap refuses give no operand
pub refused : (words : List Word) (k : ErrorKind) → IsAmong k (fault_of pig words) → LackOperand (drop 1 words)
refused words k h end d = go end.operand refl
  where
    go : (o : Option Word) → end.operand ≡ o → end.operand ≡ None
    go None e = e
    go (Some w) e = absurd (no_kind k (fault_of pig words) h (given_passes words end d (ap is_some e)))

-- words give one thing
pub one_given : (words : List Word) (a b : Given) → Gives nothing_given words a → Gives nothing_given words b → a ≡ b
one_given words a b d e = same_given a b (last_rows start words) (complete d [] None ready).shows (complete e [] None ready).shows
