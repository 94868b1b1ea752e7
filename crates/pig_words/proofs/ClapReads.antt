-- clap passes exactly the words that give something, and finds what they give.
use Rattle.std.proofs.Common.{◌≡◌, ◌≢◌, ◌∙◌, ◌&&◌, ◌==◌, ℕ, Bool, codes, true, false, suc, refl, sym, ap, ap₂, subst, List, [], ◌∷◌, ◌++◌, length, Option, Some, None, is_some, inl, inr, IsUtf8, true≢false, arith}
use Rattle.std.specs.Char.{is_ascii_digit}
use Rattle.std.specs.List.{AllByRecursion, fold}
use Rattle.std.specs.Option.{option_map_or}
use Rattle.std.specs.Str.{bytes_eq}
use Rattle.std.proofs.lemmas.Bool.Decides.{nat_tests}
use Rattle.clap.specs.Walk.{Held, Row, Waiting, Walk, arg_by_long, has_row, idle, option, settled_rows, used, used_by_id, walked}
use Rattle.clap.specs.Lexer.{long_of}
use Rattle.clap.specs.Kinds.{Kinds, or_else}
use Rattle.clap.specs.Faults.{settle_fault, turn_fault, use_fault, walk_fault}
use Rattle.clap.specs.declared.error.kind.ErrorKind.{ErrorKind}
use Rattle.clap.specs.declared.error.kind.ErrorKind.TheVariants as kind
use Rattle.pig_words.specs.CommandWords.{Given, Gives, finished, operand, joined, apart, dashes, operand_last, IsOptionWord, Setting, Word, is_dashed, name_of, with_operand, with_value}
use Rattle.pig_words.specs.ClapWords.{AreValues}
use Rattle.pig_words.proofs.Options.{Slot, Operand, Value, Pending, arg_of, args, at, at_put, by_id, held, id_of, put, same_or_other, top}
use Rattle.pig_words.proofs.ClapRows.{Shows, row_is_given, shows_put, use_fails, use_passes, used_new}
use Rattle.pig_words.proofs.ClapTurns.{IsPlain, Look, two_dashes, with_equals, name_alone, one_dash, undashed, alone_long, alone_plain, alone_turn, alone_walked, dashes_turn, dashes_walked, joined_long, joined_plain, joined_turn, joined_walked, known, look, lookup, operand_turn, operand_walked, plain_from, plain_met, plain_none, short_turn, stand, stray_turn, trailing_met, trailing_none, unknown_turn, value_turn, value_walked, word_alone, word_joined}

-- ---- where a walk ends

abbrev pub last_held : Walk → List Word → Held
last_held w words = (fold (walked args []) w words).held

abbrev pub last_rows : Walk → List Word → List Row
last_rows w words = settled_rows args (last_held w words).pending (last_held w words).rows

-- the walk has no fault, and what is pending at its end has none
pub record Passes (w : Walk) (words : List Word) : Type 0 where
  pub walks : walk_fault top [] w words ≡ []
  pub settles : settle_fault args false (last_held w words) ≡ []

-- and its rows show what was given
pub record Reaches (w : Walk) (words : List Word) (end : Given) : Type 0 where
  pub passes : Passes w words
  pub shows : Shows end (last_rows w words)

pub first_none : (a b : Kinds) → or_else a b ≡ [] → a ≡ []
first_none [] b e = refl
first_none (k ∷ ks) b e = e

pub then_none : (a b : Kinds) → or_else a b ≡ [] → b ≡ []
then_none [] b e = e
then_none (k ∷ ks) b e = let bad : suc (length ks) ≡ 0 = ap length e in absurd (omega arith)

pub some_kind : {A : Type 0} (k : ErrorKind) (ks a : Kinds) → a ≡ k ∷ ks → a ≡ [] → A
some_kind k ks a is none = let bad : suc (length ks) ≡ 0 = ap length (sym is ∙ none) in absurd (omega arith)

reach_more : (w v : Walk) (word : Word) (rest : List Word) (end : Given) → turn_fault top [] w word ≡ [] → walked args [] w word ≡ v → Reaches v rest end → Reaches w (word ∷ rest) end
unfolding walk_fault
reach_more w v word rest end turn step r = record {
  passes = record {
    walks = ap₂ (λ f u. or_else f (walk_fault top [] u rest)) turn step ∙ r.passes.walks;
    settles = subst (λ u. settle_fault args false (last_held u rest) ≡ []) (sym step) r.passes.settles;
  };
  shows = subst (λ u. Shows end (last_rows u rest)) (sym step) r.shows;
}

turn_of : (w : Walk) (word : Word) (rest : List Word) → Passes w (word ∷ rest) → turn_fault top [] w word ≡ []
unfolding walk_fault
turn_of w word rest p = first_none _ _ p.walks

rest_of : (w v : Walk) (word : Word) (rest : List Word) → walked args [] w word ≡ v → Passes w (word ∷ rest) → Passes v rest
unfolding walk_fault
rest_of w v word rest step p = record {
  walks = subst (λ u. walk_fault top [] u rest ≡ []) step (then_none (turn_fault top [] w word) _ p.walks);
  settles = subst (λ u. settle_fault args false (last_held u rest) ≡ []) step p.settles;
}

-- ---- what is pending

abbrev pub place : Option Word → ℕ
place None = 1
place (Some word) = 2

-- what is pending has no fault, and with it the rows show what was given
pub record Ready (g : Given) (rows : List Row) (pending : Pending) : Type 0 where
  pub settles : settle_fault args false (held rows pending) ≡ []
  pub shows : Shows g (settled_rows args pending rows)

no_row : (x : Slot) (g : Given) (rows : List Row) → Shows g rows → at x g ≡ None → has_row (id_of x) rows ≡ false
no_row x g rows h e = row_is_given x g rows h ∙ ap is_some e

ready_put : (x : Slot) (v : Word) (g : Given) (rows : List Row) → Shows g rows → at x g ≡ None → Ready (put x v g) rows (Some (id_of x, v ∷ []))
ready_put x v g rows h e = record {
  settles = ap (λ o. option_map_or (λ a. use_fault false a (v ∷ []) rows) o []) (by_id x) ∙ use_passes x v rows (no_row x g rows h e);
  shows = subst (Shows (put x v g)) (sym (ap (λ o. used_by_id o (v ∷ []) rows) (by_id x) ∙ used_new x v rows (no_row x g rows h e))) (shows_put x v g rows h (no_row x g rows h e));
}

ready_used : (x : Slot) (v : Word) (g : Given) (rows : List Row) → Shows g rows → at x g ≡ None → Ready (put x v g) (used (arg_of x) (v ∷ []) rows) None
ready_used x v g rows h e = record { settles = refl; shows = subst (Shows (put x v g)) (sym (used_new x v rows (no_row x g rows h e))) (shows_put x v g rows h (no_row x g rows h e)) }

unsettled : (s : Setting) (rows : List Row) → settle_fault args false (held rows (Some (name_of s, []))) ≡ kind.InvalidValue ∷ []
unsettled s rows = ap (λ o. option_map_or (λ a. use_fault false a [] rows) o []) (by_id (Value s))

abbrev waits : Setting → Pending
waits s = Some (name_of s, [])

-- a second use of an option
again : (s : Setting) (v : Word) (rows : List Row) → has_row (name_of s) rows ≡ true → settle_fault args false (held rows (Some (name_of s, v ∷ []))) ≡ kind.ArgumentConflict ∷ []
again s v rows e = ap (λ o. option_map_or (λ a. use_fault false a (v ∷ []) rows) o []) (by_id (Value s)) ∙ use_fails (Value s) v rows e

-- a value is no flag
digit_is_no_dash : (b : ℕ) → is_ascii_digit b ≡ true → (b == 45) ≡ false
digit_is_no_dash b e = grind (arith, nat_tests)

and_first : (a b : Bool) → (a && b) ≡ true → a ≡ true
and_first true b e = refl
and_first false b e = e

value_undashed : (value : Word) → IsOptionWord value → is_dashed value ≡ false
value_undashed [] v = refl
value_undashed (b ∷ []) v = refl
value_undashed (b ∷ c ∷ rest) v = digit_is_no_dash b (and_first _ _ v.digits)

-- ---- words that give something pass

pub complete : {g end : Given} {words : List Word} → Gives g words end → (rows : List Row) (pending : Pending) → Ready g rows pending
    → Reaches (stand rows pending idle (place g.operand) false) words end
unfolding walk_fault
complete (finished {g = g}) rows pending r = record { passes = record { walks = refl; settles = r.settles }; shows = r.shows }
complete (operand {g = g} {end = end} {word = word} {rest = rest} plain free more) rows pending r =
    let p = plain_from word plain in
    let met = plain_met rows pending idle 1 word p in
    let none = plain_none rows pending idle 1 word p in
    subst (λ o. Reaches (stand rows pending idle (place o) false) (word ∷ rest) end) (sym free)
    (reach_more _ _ word rest end (operand_turn rows pending idle false word met none ∙ r.settles) (operand_walked rows pending idle false word met none)
    (complete more (settled_rows args pending rows) (Some (codes "operand", word ∷ [])) (ready_put Operand word g (settled_rows args pending rows) r.shows free)))
complete (joined {g = g} {end = end} {word = word} {rest = rest} s value is v free more) rows pending r =
    let settled = settled_rows args pending rows in
    let plain = joined_plain s value word is in
    let long = joined_long s value word is in
    reach_more _ _ word rest end
    (joined_turn rows pending idle (place g.operand) word (name_of s) s plain (known s) value long
    ∙ ap₂ (λ a b. or_else (or_else a b) []) r.settles (use_passes (Value s) value settled (no_row (Value s) g settled r.shows free)))
    (joined_walked rows pending idle (place g.operand) word (name_of s) s plain (known s) value long)
    (complete more (used (arg_of (Value s)) (value ∷ []) settled) None (ready_used (Value s) value g settled r.shows free))
complete (apart {g = g} {end = end} {word = word} {value = value} {rest = rest} s is v free more) rows pending r =
    let settled = settled_rows args pending rows in
    let plain = alone_plain s word is in
    let long = alone_long s word is in
    let p = plain_from value (value_undashed value v) in
    reach_more _ _ word (value ∷ rest) end
    (alone_turn rows pending idle (place g.operand) word (name_of s) s plain (known s) long ∙ ap (λ a. or_else a []) r.settles)
    (alone_walked rows pending idle (place g.operand) word (name_of s) s plain (known s) long)
    (reach_more _ _ value rest end (value_turn settled s (place g.operand) value p) (value_walked settled s (place g.operand) value p)
    (complete more settled (Some (name_of s, value ∷ [])) (ready_put (Value s) value g settled r.shows free)))
complete (dashes {g = g} {word = word} is) rows pending r =
    reach_more _ _ word [] g (dashes_turn rows pending idle (place g.operand) word is) (dashes_walked rows pending idle (place g.operand) word is)
    (record { passes = record { walks = refl; settles = r.settles }; shows = r.shows })
complete (operand_last {g = g} {word = word} {last = last} is free) rows pending r =
    let settled = settled_rows args pending rows in
    let after = ready_put Operand last g settled r.shows free in
    reach_more _ _ word (last ∷ []) (with_operand last g) (dashes_turn rows pending idle (place g.operand) word is) (dashes_walked rows pending idle (place g.operand) word is)
    (subst (λ o. Reaches (stand rows pending idle (place o) true) (last ∷ []) (with_operand last g)) (sym free)
    (reach_more _ _ last [] (with_operand last g) (operand_turn rows pending idle true last (trailing_met rows pending idle 1 last) (trailing_none rows pending idle 1 last) ∙ r.settles)
    (operand_walked rows pending idle true last (trailing_met rows pending idle 1 last) (trailing_none rows pending idle 1 last))
    (record { passes = record { walks = refl; settles = after.settles }; shows = after.shows })))

-- ---- words that pass give something

-- what is pending has a fault, so no words behind it pass
stopped_behind : (words : List Word) (rows : List Row) (pending : Pending) (waiting : Waiting) (o : Option Word) → settle_fault args false (held rows pending) ≢ []
    → Passes (stand rows pending waiting (place o) true) words → ⊥
stopped_behind [] rows pending waiting o bad p = bad p.settles
stopped_behind (word ∷ rest) rows pending waiting None bad p =
    bad (sym (operand_turn rows pending waiting true word (trailing_met rows pending waiting 1 word) (trailing_none rows pending waiting 1 word)) ∙ turn_of _ word rest p)
stopped_behind (word ∷ rest) rows pending waiting (Some w) bad p =
    some_kind _ _ _ (stray_turn rows pending waiting true word (trailing_met rows pending waiting 2 word) (trailing_none rows pending waiting 2 word)) (turn_of _ word rest p)

stopped_by : (words : List Word) → AllByRecursion IsUtf8 words → (rows : List Row) (pending : Pending) (o : Option Word) → settle_fault args false (held rows pending) ≢ []
    → Passes (stand rows pending idle (place o) false) words → ⊥
stopped_by [] u rows pending o bad p = bad p.settles
stopped_by (word ∷ rest) u rows pending o bad p = at_word (look word u.0)
  where
    turn : turn_fault top [] (stand rows pending idle (place o) false) word ≡ []
    turn = turn_of _ word rest p

    plain : (o : Option Word) → IsPlain word → turn_fault top [] (stand rows pending idle (place o) false) word ≡ [] → ⊥
    plain None h e = bad (sym (operand_turn rows pending idle false word (plain_met rows pending idle 1 word h) (plain_none rows pending idle 1 word h)) ∙ e)
    plain (Some w) h e = some_kind _ _ _ (stray_turn rows pending idle false word (plain_met rows pending idle 2 word h) (plain_none rows pending idle 2 word h)) e

    at_word : Look word → ⊥
    at_word (two_dashes is) = stopped_behind rest rows pending idle o bad (rest_of _ _ word rest (dashes_walked rows pending idle (place o) word is) p)
    at_word (with_equals name v is other long) = elim (lookup name) [
      | inl s ↦ bad (first_none _ _ (first_none _ _ (sym (joined_turn rows pending idle (place o) word name s.0 other (ap (arg_by_long args) s.1 ∙ known s.0) v long) ∙ turn)))
      | inr unknown ↦ some_kind _ _ _ (unknown_turn rows pending idle (place o) word name (Some v) other long unknown) turn
    ]
    at_word (name_alone name is other long) = elim (lookup name) [
      | inl s ↦ bad (first_none _ _ (sym (alone_turn rows pending idle (place o) word name s.0 other (ap (arg_by_long args) s.1 ∙ known s.0) long) ∙ turn))
      | inr unknown ↦ some_kind _ _ _ (unknown_turn rows pending idle (place o) word name None other long unknown) turn
    ]
    at_word (one_dash x xs c other long short first) = some_kind _ _ _ (short_turn rows pending idle (place o) word x xs c other long short first) turn
    at_word (undashed e) = plain o (plain_from word e) turn

-- the rows at the end show what the words give, where the values are such
pub record Comes (g : Given) (w : Walk) (words : List Word) : Type 0 where
  pub end : Given
  pub shows : Shows end (last_rows w words)
  pub gives : AreValues end → Gives g words end

-- what was given stays
kept : (x y : Slot) (v w : Word) (g : Given) → at y g ≡ None → at x g ≡ Some v → at x (put y w g) ≡ Some v
kept x y v w g free h = elim (same_or_other y x) [
  | inl same ↦ let bad : None ≡ Some v = sym free ∙ ap (λ z. at z g) same ∙ h in absurd (true≢false (sym (ap is_some bad)))
  | inr other ↦ other.1 w g ∙ h
]

persists : {g end : Given} {words : List Word} (x : Slot) (v : Word) → Gives g words end → at x g ≡ Some v → at x end ≡ Some v
persists x v finished h = h
persists x v (operand {g = g} {word = word} plain free more) h = persists x v more (kept x Operand v word g free h)
persists x v (joined {g = g} s value is val free more) h = persists x v more (kept x (Value s) v value g free h)
persists x v (apart {g = g} {value = value} s is val free more) h = persists x v more (kept x (Value s) v value g free h)
persists x v (dashes is) h = h
persists x v (operand_last {g = g} {last = last} is free) h = kept x Operand v last g free h

comes_more : (g after : Given) (w v : Walk) (word : Word) (rest : List Word) → walked args [] w word ≡ v → Comes after v rest
    → ((end : Given) → AreValues end → Gives after rest end → Gives g (word ∷ rest) end) → Comes g w (word ∷ rest)
comes_more g after w v word rest step c more = record {
  end = c.end;
  shows = subst (λ u. Shows c.end (last_rows u rest)) (sym step) c.shows;
  gives = λ values. more c.end values (c.gives values);
}

abbrev Sound : List Word → Type 0
Sound words = (g : Given) (rows : List Row) (pending : Pending) (o : Option Word) → g.operand ≡ o → Ready g rows pending
    → Passes (stand rows pending idle (place o) false) words → Comes g (stand rows pending idle (place o) false) words

abbrev SoundBehind : List Word → Type 0
SoundBehind [] = Unit {0}
SoundBehind (word ∷ rest) = Sound rest

-- behind `--`
sound_behind : (words : List Word) (dash : Word) → dash ≡ codes "--" → (g : Given) (rows : List Row) (pending : Pending) (o : Option Word) → g.operand ≡ o → Ready g rows pending
    → Passes (stand rows pending idle (place o) true) words
    → (end : Given) × Shows end (last_rows (stand rows pending idle (place o) true) words) × Gives g (dash ∷ words) end
sound_behind [] dash is g rows pending o e r p = (g, r.shows, dashes is)
sound_behind (word ∷ rest) dash is g rows pending (Some w) e r p =
    some_kind _ _ _ (stray_turn rows pending idle true word (trailing_met rows pending idle 2 word) (trailing_none rows pending idle 2 word)) (turn_of _ word rest p)
sound_behind (word ∷ []) dash is g rows pending None e r p =
    let after = ready_put Operand word g (settled_rows args pending rows) r.shows e in
    let step = operand_walked rows pending idle true word (trailing_met rows pending idle 1 word) (trailing_none rows pending idle 1 word) in
    (with_operand word g, subst (λ u. Shows (with_operand word g) (last_rows u [])) (sym step) after.shows, operand_last is e)
sound_behind (word ∷ more ∷ rest) dash is g rows pending None e r p =
    let step = operand_walked rows pending idle true word (trailing_met rows pending idle 1 word) (trailing_none rows pending idle 1 word) in
    let settled = settled_rows args pending rows in
    let now = Some (codes "operand", word ∷ []) in
    some_kind _ _ _ (stray_turn settled now idle true more (trailing_met settled now idle 2 more) (trailing_none settled now idle 2 more))
    (turn_of _ more rest (rest_of _ _ word (more ∷ rest) step p))

module _ (word : Word) (rest : List Word) (next : Sound rest) (g : Given) (rows : List Row) (pending : Pending) (o : Option Word) (e : g.operand ≡ o) (r : Ready g rows pending)
    (p : Passes (stand rows pending idle (place o) false) (word ∷ rest)) where
  turn : turn_fault top [] (stand rows pending idle (place o) false) word ≡ []
  turn = turn_of _ word rest p

  sound_dashes : word ≡ codes "--" → Comes g (stand rows pending idle (place o) false) (word ∷ rest)
  sound_dashes is =
      let step = dashes_walked rows pending idle (place o) word is in
      let b = sound_behind rest word is g rows pending o e r (rest_of _ _ word rest step p) in
      record { end = b.0; shows = subst (λ u. Shows b.0 (last_rows u rest)) (sym step) b.1; gives = λ _. b.2 }

  sound_operand : is_dashed word ≡ false → Comes g (stand rows pending idle (place o) false) (word ∷ rest)
  sound_operand undash = go o e p
    where
      h : IsPlain word
      h = plain_from word undash

      go : (o : Option Word) → g.operand ≡ o → Passes (stand rows pending idle (place o) false) (word ∷ rest) → Comes g (stand rows pending idle (place o) false) (word ∷ rest)
      go (Some w) e p = some_kind _ _ _ (stray_turn rows pending idle false word (plain_met rows pending idle 2 word h) (plain_none rows pending idle 2 word h)) (turn_of _ word rest p)
      go None e p =
          let step = operand_walked rows pending idle false word (plain_met rows pending idle 1 word h) (plain_none rows pending idle 1 word h) in
          let settled = settled_rows args pending rows in
          comes_more g (with_operand word g) _ _ word rest step
          (next (with_operand word g) settled (Some (codes "operand", word ∷ [])) (Some word) refl (ready_put Operand word g settled r.shows e) (rest_of _ _ word rest step p))
          (λ end values d. operand undash e d)

  sound_joined : (name v : Word) (s : Setting) → word ≡ 45 ∷ 45 ∷ name ++ 61 ∷ v → name ≡ name_of s → bytes_eq word (45 ∷ 45 ∷ []) ≡ false → long_of word ≡ Some (name, Some v)
      → Comes g (stand rows pending idle (place o) false) (word ∷ rest)
  sound_joined name v s is named other long = go ((g.values s)) refl
    where
      found : arg_by_long args name ≡ Some (arg_of (Value s))
      found = ap (arg_by_long args) named ∙ known s

      passed : use_fault false (arg_of (Value s)) (v ∷ []) (settled_rows args pending rows) ≡ []
      passed = then_none (settle_fault args false (held rows pending)) (use_fault false (arg_of (Value s)) (v ∷ []) (settled_rows args pending rows))
          (first_none (or_else (settle_fault args false (held rows pending)) (use_fault false (arg_of (Value s)) (v ∷ []) (settled_rows args pending rows))) [] (sym (joined_turn rows pending idle (place o) word name s other found v long) ∙ turn))

      go : (w : Option Word) → (g.values s) ≡ w → Comes g (stand rows pending idle (place o) false) (word ∷ rest)
      go (Some w) f = some_kind _ _ _ (use_fails (Value s) v (settled_rows args pending rows) (row_is_given (Value s) g (settled_rows args pending rows) r.shows ∙ ap is_some f)) passed
      go None f =
          let step = joined_walked rows pending idle (place o) word name s other found v long in
          let rows_now = used (arg_of (Value s)) (v ∷ []) (settled_rows args pending rows) in
          comes_more g (with_value s v g) _ _ word rest step
          (next (with_value s v g) rows_now None o e (ready_used (Value s) v g (settled_rows args pending rows) r.shows f) (rest_of _ _ word rest step p))
          (λ end values d. joined s v (word_joined s name v word named is) (values s v (persists (Value s) v d (at_put (Value s) v g))) f d)

-- an option's word, and the value behind it
module _ (word value : Word) (rest : List Word) (sees : Look value) (u : AllByRecursion IsUtf8 rest) (next : Sound rest) (g : Given) (rows : List Row) (pending : Pending) (o : Option Word)
    (e : g.operand ≡ o) (r : Ready g rows pending) (p : Passes (stand rows pending idle (place o) false) (word ∷ value ∷ rest)) where
  sound_apart : (name : Word) (s : Setting) → word ≡ 45 ∷ 45 ∷ name → name ≡ name_of s → bytes_eq word (45 ∷ 45 ∷ []) ≡ false → long_of word ≡ Some (name, None)
      → Comes g (stand rows pending idle (place o) false) (word ∷ value ∷ rest)
  sound_apart name s is named other long = at_value sees
    where
      found : arg_by_long args name ≡ Some (arg_of (Value s))
      found = ap (arg_by_long args) named ∙ known s

      step : walked args [] (stand rows pending idle (place o) false) word ≡ stand (settled_rows args pending rows) (waits s) (option (name_of s)) (place o) false
      step = alone_walked rows pending idle (place o) word name s other found long

      then : Passes (stand (settled_rows args pending rows) (waits s) (option (name_of s)) (place o) false) (value ∷ rest)
      then = rest_of _ _ word (value ∷ rest) step p

      turns : turn_fault top [] (stand (settled_rows args pending rows) (waits s) (option (name_of s)) (place o) false) value ≡ []
      turns = turn_of _ value rest then

      -- an option that waits, and gets no value
      lacks : settle_fault args false (held (settled_rows args pending rows) (waits s)) ≢ []
      lacks none = some_kind _ _ _ (unsettled s (settled_rows args pending rows)) none

      comes_value : is_dashed value ≡ false → (g.values s) ≡ None → Comes (with_value s value g) (stand (settled_rows args pending rows) (Some (name_of s, value ∷ [])) idle (place o) false) rest
          → Comes g (stand rows pending idle (place o) false) (word ∷ value ∷ rest)
      comes_value undash f c =
          let stepped = value_walked (settled_rows args pending rows) s (place o) value (plain_from value undash) in
          record {
            end = c.end;
            shows = subst (λ w. Shows c.end (last_rows w (value ∷ rest))) (sym step) (subst (λ w. Shows c.end (last_rows w rest)) (sym stepped) c.shows);
            gives = λ values. let d = c.gives values in
                apart s (word_alone s name word named is) (values s value (persists (Value s) value d (at_put (Value s) value g))) f d;
          }

      go : is_dashed value ≡ false → (w : Option Word) → (g.values s) ≡ w → Comes g (stand rows pending idle (place o) false) (word ∷ value ∷ rest)
      go undash (Some w) f = absurd (stopped_by rest u (settled_rows args pending rows) (Some (name_of s, value ∷ [])) o
          (λ none. some_kind _ _ _ (again s value (settled_rows args pending rows) (row_is_given (Value s) g (settled_rows args pending rows) r.shows ∙ ap is_some f)) none)
          (rest_of _ _ value rest (value_walked (settled_rows args pending rows) s (place o) value (plain_from value undash)) then))
      go undash None f =
          let stepped = value_walked (settled_rows args pending rows) s (place o) value (plain_from value undash) in
          comes_value undash f (next (with_value s value g) (settled_rows args pending rows) (Some (name_of s, value ∷ [])) o e
          (ready_put (Value s) value g (settled_rows args pending rows) r.shows f) (rest_of _ _ value rest stepped then))

      at_value : Look value → Comes g (stand rows pending idle (place o) false) (word ∷ value ∷ rest)
      at_value (two_dashes same) = absurd (stopped_behind rest (settled_rows args pending rows) (waits s) (option (name_of s)) o lacks
          (rest_of _ _ value rest (dashes_walked (settled_rows args pending rows) (waits s) (option (name_of s)) (place o) value same) then))
      at_value (with_equals n v same plain l) = elim (lookup n) [
        | inl t ↦ absurd (lacks (first_none _ _ (first_none _ _ (sym (joined_turn (settled_rows args pending rows) (waits s) (option (name_of s)) (place o) value n t.0 plain (ap (arg_by_long args) t.1 ∙ known t.0) v l) ∙ turns))))
        | inr unknown ↦ some_kind _ _ _ (unknown_turn (settled_rows args pending rows) (waits s) (option (name_of s)) (place o) value n (Some v) plain l unknown) turns
      ]
      at_value (name_alone n same plain l) = elim (lookup n) [
        | inl t ↦ absurd (lacks (first_none _ _ (sym (alone_turn (settled_rows args pending rows) (waits s) (option (name_of s)) (place o) value n t.0 plain (ap (arg_by_long args) t.1 ∙ known t.0) l) ∙ turns)))
        | inr unknown ↦ some_kind _ _ _ (unknown_turn (settled_rows args pending rows) (waits s) (option (name_of s)) (place o) value n None plain l unknown) turns
      ]
      at_value (one_dash x xs c plain l short first) = some_kind _ _ _ (short_turn (settled_rows args pending rows) (waits s) (option (name_of s)) (place o) value x xs c plain l short first) turns
      at_value (undashed undash) = go undash ((g.values s)) refl

-- one word, and the words behind it
sound_word : (word : Word) (rest : List Word) → IsUtf8 word → AllByRecursion IsUtf8 rest → Sound rest → SoundBehind rest → Sound (word ∷ rest)
sound_word word rest u us next then g rows pending o e r p = at_word (look word u)
  where
    unknown_name : (name : Word) (v : Option Word) → bytes_eq word (45 ∷ 45 ∷ []) ≡ false → long_of word ≡ Some (name, v) → arg_by_long args name ≡ None
        → Comes g (stand rows pending idle (place o) false) (word ∷ rest)
    unknown_name name v other long unknown = some_kind _ _ _ (unknown_turn rows pending idle (place o) word name v other long unknown) (turn_of _ word rest p)

    alone : (rest : List Word) → AllByRecursion IsUtf8 rest → SoundBehind rest → Passes (stand rows pending idle (place o) false) (word ∷ rest)
        → (name : Word) (s : Setting) → word ≡ 45 ∷ 45 ∷ name → name ≡ name_of s → bytes_eq word (45 ∷ 45 ∷ []) ≡ false → long_of word ≡ Some (name, None)
        → Comes g (stand rows pending idle (place o) false) (word ∷ rest)
    alone [] us then p name s is named other long =
        some_kind _ _ _ (unsettled s (settled_rows args pending rows))
        (rest_of _ _ word [] (alone_walked rows pending idle (place o) word name s other (ap (arg_by_long args) named ∙ known s) long) p).settles
    alone (value ∷ more) us then p name s is named other long =
        sound_apart word value more (look value us.0) us.1 then g rows pending o e r p name s is named other long

    at_word : Look word → Comes g (stand rows pending idle (place o) false) (word ∷ rest)
    at_word (two_dashes is) = sound_dashes word rest next g rows pending o e r p is
    at_word (with_equals name v is other long) = elim (lookup name) [
      | inl s ↦ sound_joined word rest next g rows pending o e r p name v s.0 is s.1 other long
      | inr unknown ↦ unknown_name name (Some v) other long unknown
    ]
    at_word (name_alone name is other long) = elim (lookup name) [
      | inl s ↦ alone rest us then p name s.0 is s.1 other long
      | inr unknown ↦ unknown_name name None other long unknown
    ]
    at_word (one_dash x xs c other long short first) =
        some_kind _ _ _ (short_turn rows pending idle (place o) word x xs c other long short first) (turn_of _ word rest p)
    at_word (undashed undash) = sound_operand word rest next g rows pending o e r p undash

sound_both : (words : List Word) → AllByRecursion IsUtf8 words → Sound words × SoundBehind words
sound_both [] u = (λ g rows pending o e r p. record { end = g; shows = r.shows; gives = λ _. finished }, tt)
sound_both (word ∷ rest) u = let h = sound_both rest u.1 in (sound_word word rest u.0 u.1 h.0 h.1, h.0)

pub sound : (words : List Word) → AllByRecursion IsUtf8 words → (g : Given) (rows : List Row) (pending : Pending) → Ready g rows pending
    → Passes (stand rows pending idle (place g.operand) false) words → Comes g (stand rows pending idle (place g.operand) false) words
sound words u g rows pending r p = (sound_both words u).0 g rows pending g.operand refl r p
