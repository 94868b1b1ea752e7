-- What one word does to clap's walk over the words.
use Rattle.std.proofs.Common.{◌≡◌, ◌∙◌, ◌⊎◌, ◌&&◌, ◌||◌, ◌==◌, ℕ, Bool, cond, codes, not, true, false, zero, suc, refl, sym, ap, ap₂, subst, List, [], ◌∷◌, ◌++◌, length, map, Option, Some, None, is_some, option_map, inl, inr, IsUtf8, chars, encode_utf8_all, arith, eqb-true}
use Rattle.std.specs.List.{find}
use Rattle.std.specs.Str.{bytes_eq}
use Rattle.std.specs.Prelude.{slice_get}
use Rattle.std.proofs.lemmas.Str.{IsUtf8-past_char, encodes-chars, encode_ascii}
use Rattle.std.proofs.lemmas.Bool.{eqb-false}
use Rattle.std.proofs.lemmas.Slice.Eq.{bytes_eq-Decides}
use Rattle.clap.specs.Lexer.{long_of, name_and_value, short_of}
use Rattle.clap.specs.Walk.{Held, Row, Step, Text, Waiting, Walk, Rule, after_flag, after_step, arg_by_long, has_long, idle, long_met, long_or_other, option_met, is_pending, plain_word, pushed, settled, short_or_plain, option, option_word as filled_by, positional, settled_rows, subcommand_met, subcommand_or_other, used, walked, word_met}
use Rattle.clap.specs.Kinds.{Kinds, or_else}
use Rattle.std.specs.Option.{option_map_or}
use Rattle.clap.specs.Faults.{bundle_fault, bundle_step_fault, long_fault, flag_word_fault, flags_fault, other_fault, settle_fault, step_fault, turn_fault, use_fault, word_fault}
use Rattle.clap.specs.declared.error.kind.ErrorKind.TheVariants as kind
use Rattle.clap.proofs.CutLemmas.{Lacks}
use Rattle.clap.proofs.LexerLemmas.{name_and_value-at, name_and_value-without}
use Rattle.pig_words.specs.CommandWords.{Setting, Word, is_dashed, name_of, option_word, settings}
use Rattle.pig_words.proofs.Options.{Operand, Value, Pending, arg_of, args, held, listed, top}

-- ---- what a word looks like

-- a text with no `=`, or its parts before and after the first
data Cut (text : Text) : Type 0 where
  uncut : Lacks 61 text → Cut text
  cut_at : (name value : Text) → text ≡ name ++ 61 ∷ value → Lacks 61 name → Cut text

lacks_cons : (x : ℕ) (xs : Text) → (x ≡ 61 → ⊥) → Lacks 61 xs → Lacks 61 (x ∷ xs)
lacks_cons x xs ne h zero lt = ne
lacks_cons x xs ne h (suc i) lt = h i (omega arith)

cut : (text : Text) → Cut text
cut [] = uncut (λ i lt. absurd (omega arith))
cut (x ∷ xs) = go (x == 61) refl (cut xs)
  where
    go : (t : Bool) → (x == 61) ≡ t → Cut xs → Cut (x ∷ xs)
    go true e c = cut_at [] xs (ap (λ b. b ∷ xs) (eqb-true x 61 e)) (λ i lt. absurd (omega arith))
    go false e (uncut h) = uncut (lacks_cons x xs (eqb-false x 61 e) h)
    go false e (cut_at name value is h) = cut_at (x ∷ name) value (ap (λ bs. x ∷ bs) is) (lacks_cons x name (eqb-false x 61 e) h)

-- what clap sees in a word: `--`, `--name=value`, `--name`, `-x`, or none of these
pub data Look (word : Word) : Type 0 where
  two_dashes : word ≡ codes "--" → Look word
  with_equals : (name value : Text) → word ≡ 45 ∷ 45 ∷ name ++ 61 ∷ value → bytes_eq word (45 ∷ 45 ∷ []) ≡ false → long_of word ≡ Some (name, Some value) → Look word
  name_alone : (name : Text) → word ≡ 45 ∷ 45 ∷ name → bytes_eq word (45 ∷ 45 ∷ []) ≡ false → long_of word ≡ Some (name, None) → Look word
  one_dash : (x : ℕ) (xs : Text) (c : ℕ) → bytes_eq word (45 ∷ 45 ∷ []) ≡ false → long_of word ≡ None → short_of word ≡ Some (x ∷ xs)
      → slice_get (chars (x ∷ xs)) 0 ≡ Some c → Look word
  undashed : is_dashed word ≡ false → Look word

-- a text that is not empty has a first character
first_char : (x : ℕ) (xs : Text) → IsUtf8 (x ∷ xs) → (c : ℕ) × (slice_get (chars (x ∷ xs)) 0 ≡ Some c)
first_char x xs u = go (chars (x ∷ xs)) (encodes-chars (x ∷ xs) u)
  where
    go : (cs : List ℕ) → encode_utf8_all cs ≡ x ∷ xs → (c : ℕ) × (slice_get cs 0 ≡ Some c)
    go [] e = let bad : 0 ≡ suc (length xs) = ap length e in absurd (omega arith)
    go (c ∷ cs) e = (c, refl)

long_look : (x : ℕ) (xs : Text) → Look (45 ∷ 45 ∷ x ∷ xs)
long_look x xs = elim (cut (x ∷ xs)) [
  | uncut h ↦ name_alone (x ∷ xs) refl refl (ap Some (name_and_value-without (x ∷ xs) h))
  | cut_at name value is h ↦ with_equals name value (ap (λ bs. 45 ∷ 45 ∷ bs) is) refl (ap Some (ap name_and_value is ∙ name_and_value-at name value h))
]

short_look : (x : ℕ) (xs : Text) → IsUtf8 (45 ∷ x ∷ xs) → (x == 45) ≡ false → Look (45 ∷ x ∷ xs)
short_look x xs u other =
    let first = first_char x xs (IsUtf8-past_char (45 ∷ x ∷ xs) (x ∷ xs) 45 u (ap (λ bs. bs ++ x ∷ xs) (sym (encode_ascii 45 (omega arith))))) in
    one_dash x xs first.0 (rw other refl) (rw other refl) (rw other refl) first.1

dashes_look : (rest : Text) → Look (45 ∷ 45 ∷ rest)
dashes_look [] = two_dashes refl
dashes_look (x ∷ xs) = long_look x xs

pub look : (word : Word) → IsUtf8 word → Look word
look [] u = undashed refl
look (b ∷ []) u = undashed refl
look (b ∷ c ∷ rest) u = go (b == 45) refl (c == 45) refl
  where
    from : (n m : ℕ) → n ≡ 45 → (m == 45) ≡ true → Look (n ∷ m ∷ rest)
    from n m e f = subst (λ k. Look (k ∷ m ∷ rest)) (sym e) (subst (λ k. Look (45 ∷ k ∷ rest)) (sym (eqb-true m 45 f)) (dashes_look rest))

    go : (t : Bool) → (b == 45) ≡ t → (s : Bool) → (c == 45) ≡ s → Look (b ∷ c ∷ rest)
    go false e s f = undashed e
    go true e true f = from b c (eqb-true b 45 e) f
    go true e false f = subst (λ k. Look (k ∷ c ∷ rest)) (sym (eqb-true b 45 e)) (short_look c rest (subst (λ k. IsUtf8 (k ∷ c ∷ rest)) (eqb-true b 45 e) u) f)

and_nothing : (b : Bool) → (b && false) ≡ false
and_nothing true = refl
and_nothing false = refl

or_nothing : (b : Bool) → (b || false) ≡ b
or_nothing true = refl
or_nothing false = refl

-- a word that is not dashed is no flag
pub record IsPlain (word : Word) : Type 0 where
  pub no_dashes : bytes_eq word (45 ∷ 45 ∷ []) ≡ false
  pub no_long : long_of word ≡ None
  pub no_short : short_of word ≡ None

pub plain_from : (word : Word) → is_dashed word ≡ false → IsPlain word
plain_from [] e = record { no_dashes = refl; no_long = refl; no_short = refl }
plain_from (b ∷ []) e = go (b == 45) refl
  where
    go : (t : Bool) → (b == 45) ≡ t → IsPlain (b ∷ [])
    go true f = record { no_dashes = rw f refl; no_long = rw f refl; no_short = rw f refl }
    go false f = record { no_dashes = rw f refl; no_long = rw f refl; no_short = rw f refl }
plain_from (b ∷ c ∷ rest) e = record { no_dashes = rw e refl; no_long = rw e refl; no_short = rw e refl }

-- ---- where the walk stands

abbrev pub stand : List Row → Pending → Waiting → ℕ → Bool → Walk
stand rows pending waiting position trailing = record {
  held = held rows pending;
  waiting = waiting;
  position = position;
  is_trailing = trailing;
  stopped = None;
}

no_subcommand : (waiting : Waiting) (word : Text) → subcommand_met [] waiting word ≡ None
no_subcommand idle word = refl
no_subcommand (option id) word = refl
no_subcommand positional word = refl

module _ (rows : List Row) (pending : Pending) (waiting : Waiting) (position : ℕ) where
  -- the turn and the step of a word, by what it is met as
  turn_is : (t : Bool) (word : Text) (fault : Kinds) (h : Held) (step : Step) → word_fault top [] t waiting word (held rows pending) ≡ fault
      → word_met args [] t waiting position word (held rows pending) ≡ (h, step) → turn_fault top [] (stand rows pending waiting position t) word ≡ or_else fault (step_fault top position h step)
  turn_is t word fault h step none met = ap₂ (λ f (m : Held × Step). or_else f (step_fault top position m.0 m.1)) none met

  walked_is : (t : Bool) (word : Text) (h : Held) (step : Step) → word_met args [] t waiting position word (held rows pending) ≡ (h, step)
      → walked args [] (stand rows pending waiting position t) word ≡ after_step args word (stand rows pending waiting position t) h step
  unfolding walked
  walked_is t word h step met = ap (λ (m : Held × Step). after_step args word (stand rows pending waiting position t) m.0 m.1) met

  met_is : (word : Text) → word_met args [] false waiting position word (held rows pending)
      ≡ cond (bytes_eq word (45 ∷ 45 ∷ [])) (held rows pending, Step.trailing position) (long_or_other args waiting word (long_of word) (held rows pending))
  met_is word = ap (λ o. subcommand_or_other args o waiting position word (held rows pending)) (no_subcommand waiting word)

  fault_is : (word : Text) → word_fault top [] false waiting word (held rows pending)
      ≡ cond (bytes_eq word (45 ∷ 45 ∷ [])) [] (flag_word_fault args false (long_of word) word (held rows pending))
  fault_is word = ap (λ o. other_fault top o word (held rows pending)) (no_subcommand waiting word)

  -- behind `--` each word goes to the operand
  pub trailing_met : (word : Text) → word_met args [] true waiting position word (held rows pending) ≡ (held rows pending, Step.value)
  trailing_met word = refl

  pub trailing_none : (word : Text) → word_fault top [] true waiting word (held rows pending) ≡ []
  trailing_none word = refl

  -- `--`
  pub dashes_turn : (word : Text) → word ≡ codes "--" → turn_fault top [] (stand rows pending waiting position false) word ≡ []
  dashes_turn word e = turn_is false word [] _ _ (fault_is word ∙ ap (λ w. cond (bytes_eq w (45 ∷ 45 ∷ [])) [] (flag_word_fault args false (long_of w) w (held rows pending))) e)
      (met_is word ∙ ap (λ w. cond (bytes_eq w (45 ∷ 45 ∷ [])) (held rows pending, Step.trailing position) (long_or_other args waiting w (long_of w) (held rows pending))) e)

  pub dashes_walked : (word : Text) → word ≡ codes "--" → walked args [] (stand rows pending waiting position false) word ≡ stand rows pending waiting position true
  dashes_walked word e = walked_is false word _ _
      (met_is word ∙ ap (λ w. cond (bytes_eq w (45 ∷ 45 ∷ [])) (held rows pending, Step.trailing position) (long_or_other args waiting w (long_of w) (held rows pending))) e)

  -- `--name` and `--name=value`, where there is such an option
  long_met_is : (word name : Text) (v : Option Text) (s : Setting) → bytes_eq word (45 ∷ 45 ∷ []) ≡ false → long_of word ≡ Some (name, v) → arg_by_long args name ≡ Some (arg_of (Value s))
      → word_met args [] false waiting position word (held rows pending)
      ≡ after_flag args waiting word (option_met args (arg_of (Value s)) v (held rows pending)).0 (option_met args (arg_of (Value s)) v (held rows pending)).1
  long_met_is word name v s plain is known =
      met_is word ∙ ap₂ (λ b o. cond b (held rows pending, Step.trailing position) (long_or_other args waiting word o (held rows pending))) plain is
      ∙ ap (λ o. after_flag args waiting word (long_met args o v (held rows pending)).0 (long_met args o v (held rows pending)).1) known

  long_fault_is : (word name : Text) (v : Option Text) (found : Option Rule) → bytes_eq word (45 ∷ 45 ∷ []) ≡ false → long_of word ≡ Some (name, v) → arg_by_long args name ≡ found
      → word_fault top [] false waiting word (held rows pending) ≡ long_fault args false found v (held rows pending)
  long_fault_is word name v found plain is known =
      fault_is word ∙ ap₂ (λ b o. cond b [] (flag_word_fault args false o word (held rows pending))) plain is
      ∙ ap (λ o. long_fault args false o v (held rows pending)) known

  module _ (word name : Text) (s : Setting) (plain : bytes_eq word (45 ∷ 45 ∷ []) ≡ false) (known : arg_by_long args name ≡ Some (arg_of (Value s))) where
    pub joined_turn : (v : Text) → long_of word ≡ Some (name, Some v) → turn_fault top [] (stand rows pending waiting position false) word
        ≡ or_else (or_else (settle_fault args false (held rows pending)) (use_fault false (arg_of (Value s)) (v ∷ []) (settled_rows args pending rows))) []
    joined_turn v is = turn_is false word _ _ _ (long_fault_is word name (Some v) _ plain is known) (long_met_is word name (Some v) s plain is known)

    pub joined_walked : (v : Text) → long_of word ≡ Some (name, Some v) → walked args [] (stand rows pending waiting position false) word
        ≡ stand (used (arg_of (Value s)) (v ∷ []) (settled_rows args pending rows)) None idle position false
    joined_walked v is = walked_is false word _ _ (long_met_is word name (Some v) s plain is known)

    pub alone_turn : long_of word ≡ Some (name, None) → turn_fault top [] (stand rows pending waiting position false) word ≡ or_else (settle_fault args false (held rows pending)) []
    alone_turn is = turn_is false word _ _ _ (long_fault_is word name None _ plain is known) (long_met_is word name None s plain is known)

    pub alone_walked : long_of word ≡ Some (name, None) → walked args [] (stand rows pending waiting position false) word
        ≡ stand (settled_rows args pending rows) (Some (name_of s, [])) (option (name_of s)) position false
    alone_walked is = walked_is false word _ _ (long_met_is word name None s plain is known)

  -- an option that there is not, and `-x`
  pub unknown_turn : (word name : Text) (v : Option Text) → bytes_eq word (45 ∷ 45 ∷ []) ≡ false → long_of word ≡ Some (name, v) → arg_by_long args name ≡ None
      → turn_fault top [] (stand rows pending waiting position false) word ≡ kind.UnknownArgument ∷ []
  unknown_turn word name v plain is unknown = turn_is false word _ _ _ (long_fault_is word name v None plain is unknown) refl

  pub short_turn : (word : Text) (x : ℕ) (xs : Text) (c : ℕ) → bytes_eq word (45 ∷ 45 ∷ []) ≡ false → long_of word ≡ None → short_of word ≡ Some (x ∷ xs)
      → slice_get (chars (x ∷ xs)) 0 ≡ Some c → turn_fault top [] (stand rows pending waiting position false) word ≡ kind.UnknownArgument ∷ []
  unfolding flags_fault
  short_turn word x xs c plain long short first =
      turn_is false word _ _ _
      (fault_is word ∙ ap₂ (λ b o. cond b [] (flag_word_fault args false o word (held rows pending))) plain long
      ∙ ap (λ o. option_map_or (λ flags. bundle_fault args false flags (held rows pending)) o []) short
      ∙ ap (λ o. bundle_step_fault args false o (x ∷ xs) 0 (held rows pending) (flags_fault args false (length xs))) first) refl

  -- a word that is no flag
  pub plain_met : (word : Text) → IsPlain word → word_met args [] false waiting position word (held rows pending) ≡ plain_word args waiting word (held rows pending)
  plain_met word p =
      met_is word ∙ ap₂ (λ b o. cond b (held rows pending, Step.trailing position) (long_or_other args waiting word o (held rows pending))) p.no_dashes p.no_long
      ∙ ap (λ o. short_or_plain args waiting word o (held rows pending)) p.no_short

  pub plain_none : (word : Text) → IsPlain word → word_fault top [] false waiting word (held rows pending) ≡ []
  plain_none word p =
      fault_is word ∙ ap₂ (λ b o. cond b [] (flag_word_fault args false o word (held rows pending))) p.no_dashes p.no_long
      ∙ ap (λ o. option_map_or (λ flags. bundle_fault args false flags (held rows pending)) o []) p.no_short

-- ---- the operand, and the value of an option

-- what goes to the operand where none is met yet
module _ (rows : List Row) (pending : Pending) (waiting : Waiting) (t : Bool) (word : Text) (met : word_met args [] t waiting 1 word (held rows pending) ≡ (held rows pending, Step.value))
    (none : word_fault top [] t waiting word (held rows pending) ≡ []) where
  pub operand_turn : turn_fault top [] (stand rows pending waiting 1 t) word ≡ settle_fault args false (held rows pending)
  operand_turn = turn_is rows pending waiting 1 t word [] _ _ none met ∙ ap (λ b. cond b [] (settle_fault args false (held rows pending))) (and_nothing (is_pending (arg_of Operand) pending))

  pub operand_walked : walked args [] (stand rows pending waiting 1 t) word ≡ stand (settled_rows args pending rows) (Some (codes "operand", word ∷ [])) idle 2 t
  operand_walked = walked_is rows pending waiting 1 t word _ _ met
      ∙ ap₂ (λ b trails. record {
        held = pushed (codes "operand") word (cond b (held rows pending) (settled args (held rows pending)));
        waiting = idle;
        position = 2;
        is_trailing = trails;
        stopped = None;
      }) (and_nothing (is_pending (arg_of Operand) pending)) (or_nothing t)

-- and where one is
pub stray_turn : (rows : List Row) (pending : Pending) (waiting : Waiting) (t : Bool) (word : Text) → word_met args [] t waiting 2 word (held rows pending) ≡ (held rows pending, Step.value)
    → word_fault top [] t waiting word (held rows pending) ≡ [] → turn_fault top [] (stand rows pending waiting 2 t) word ≡ kind.UnknownArgument ∷ []
stray_turn rows pending waiting t word met none = turn_is rows pending waiting 2 t word [] _ _ none met

-- a word behind an option that waits is its value
pub value_turn : (rows : List Row) (s : Setting) (position : ℕ) (word : Text) → IsPlain word
    → turn_fault top [] (stand rows (Some (name_of s, [])) (option (name_of s)) position false) word ≡ []
value_turn rows s position word p =
    turn_is rows (Some (name_of s, [])) (option (name_of s)) position false word [] _ _ (plain_none rows (Some (name_of s, [])) (option (name_of s)) position word p)
    (plain_met rows (Some (name_of s, [])) (option (name_of s)) position word p)

pub value_walked : (rows : List Row) (s : Setting) (position : ℕ) (word : Text) → IsPlain word
    → walked args [] (stand rows (Some (name_of s, [])) (option (name_of s)) position false) word ≡ stand rows (Some (name_of s, word ∷ [])) idle position false
value_walked rows s position word p =
    let waits : Pending = Some (name_of s, []) in
    walked_is rows waits (option (name_of s)) position false word _ _ (plain_met rows waits (option (name_of s)) position word p)
    ∙ ap (λ (m : Held × Waiting). after_step args word (stand rows waits (option (name_of s)) position false) m.0 (Step.next m.1))
    (ap (λ o. filled_by o (name_of s) word (held rows waits)) (listed s).by_name ∙ (listed s).filled rows word)

-- ---- options by their names

-- the argument that a long name finds is that of the option of the name
looked : (ss : List Setting) (name : Text) → find (λ a. not (is_some a.index) && has_long a name) (map (λ s. arg_of (Value s)) ss)
    ≡ option_map (λ s. arg_of (Value s)) (find (λ s. bytes_eq (name_of s) name) ss)
looked [] name = refl
looked (s ∷ ss) name = go (bytes_eq (name_of s) name) (looked ss name)
  where
    go : (b : Bool) → find (λ a. not (is_some a.index) && has_long a name) (map (λ s. arg_of (Value s)) ss) ≡ option_map (λ s. arg_of (Value s)) (find (λ s. bytes_eq (name_of s) name) ss)
        → cond (b || false) (Some (arg_of (Value s))) (find (λ a. not (is_some a.index) && has_long a name) (map (λ s. arg_of (Value s)) ss))
        ≡ option_map (λ s. arg_of (Value s)) (cond b (Some s) (find (λ s. bytes_eq (name_of s) name) ss))
    go true e = refl
    go false e = e

found_name : (ss : List Setting) (name : Text) (s : Setting) → find (λ s. bytes_eq (name_of s) name) ss ≡ Some s → name ≡ name_of s
found_name [] name s e = cc
found_name (x ∷ ss) name s e = go (bytes_eq (name_of x) name) refl (found_name ss name s) e
  where
    go : (b : Bool) → bytes_eq (name_of x) name ≡ b → (find (λ s. bytes_eq (name_of s) name) ss ≡ Some s → name ≡ name_of s)
        → cond b (Some x) (find (λ s. bytes_eq (name_of s) name) ss) ≡ Some s → name ≡ name_of s
    go true same behind e = let is : x ≡ s = cc in sym ((bytes_eq-Decides (name_of x) name).0 same) ∙ ap name_of is
    go false other behind e = behind e

pub lookup : (name : Text) → ((s : Setting) × (name ≡ name_of s)) ⊎ (arg_by_long args name ≡ None)
lookup name = go (find (λ s. bytes_eq (name_of s) name) settings) refl
  where
    go : (o : Option Setting) → find (λ s. bytes_eq (name_of s) name) settings ≡ o → ((s : Setting) × (name ≡ name_of s)) ⊎ (arg_by_long args name ≡ None)
    go (Some s) e = inl (s, found_name settings name s e)
    go None e = inr (looked settings name ∙ ap (option_map (λ s. arg_of (Value s))) e)

pub known : (s : Setting) → arg_by_long args (name_of s) ≡ Some (arg_of (Value s))
known s = (listed s).by_long

pub joined_plain : (s : Setting) (v word : Text) → word ≡ option_word s ++ 61 ∷ v → bytes_eq word (45 ∷ 45 ∷ []) ≡ false
joined_plain s v word e = ap (λ w. bytes_eq w (45 ∷ 45 ∷ [])) e ∙ (listed s).joined_plain v

pub joined_long : (s : Setting) (v word : Text) → word ≡ option_word s ++ 61 ∷ v → long_of word ≡ Some (name_of s, Some v)
joined_long s v word e = ap long_of e ∙ (listed s).joined_long v

pub alone_plain : (s : Setting) (word : Text) → word ≡ option_word s → bytes_eq word (45 ∷ 45 ∷ []) ≡ false
alone_plain s word e = ap (λ w. bytes_eq w (45 ∷ 45 ∷ [])) e ∙ (listed s).alone_plain

pub alone_long : (s : Setting) (word : Text) → word ≡ option_word s → long_of word ≡ Some (name_of s, None)
alone_long s word e = ap long_of e ∙ (listed s).alone_long

-- a name behind `--` is the option's word
pub word_joined : (s : Setting) (name v word : Text) → name ≡ name_of s → word ≡ 45 ∷ 45 ∷ name ++ 61 ∷ v → word ≡ option_word s ++ 61 ∷ v
word_joined s name v word e is = is ∙ ap (λ n. 45 ∷ 45 ∷ n ++ 61 ∷ v) e

pub word_alone : (s : Setting) (name word : Text) → name ≡ name_of s → word ≡ 45 ∷ 45 ∷ name → word ≡ option_word s
word_alone s name word e is = is ∙ ap (λ n. 45 ∷ 45 ∷ n) e
