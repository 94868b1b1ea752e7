-- Words are a command or none.
use Rattle.std.proofs.Common.{◌≡◌, ◌≢◌, ◌≤◌, ℕ, zero, suc, ◌==◌, true, false, List, [], ◌∷◌, ◌++◌, length, map, Option, Some, None, is_some, unwrap_or, codes, refl, sym, ◌∙◌, ap, subst, arith, inl, inr, ◌⊎◌, true≢false}
use Rattle.std.specs.List.{AllByRecursion}
use Rattle.std.specs.Str.{bytes_eq}
use Rattle.std.proofs.lemmas.Bool.{cases_Bool}
use Rattle.std.proofs.lemmas.List.{append_assoc}
use Rattle.std.proofs.lemmas.Bool.Decides.{Decides-eqb}
use Rattle.std.proofs.lemmas.Slice.Eq.{bytes_eq-Decides}
use Rattle.clap.specs.Lexer.{long_of}
use Rattle.pig_params.specs.Given.{named_of}
use Rattle.pig_params.specs.ParamWords.{Parted, taken}
use Rattle.pig_params.specs.declared.values.Param.{Param}
use Rattle.pig_words.specs.declared.words.Command.{Command}
use Rattle.pig_words.specs.declared.words.Numbers.{Numbers}
use Rattle.pig_words.specs.declared.words.Verb.{Verb}
use Rattle.pig_words.specs.declared.words.Verb.TheVariants as verbs
use Rattle.pig_words.specs.CommandWords.{Given, Gives, finished, operand, joined, apart, dashes, operand_last, IsBare, IsCommand, IsOptionWord, Makes, Setting, Word, is_dashed, nothing_given, option_word, settings, verb_word, with_operand, with_value}
use Rattle.pig_words.specs.ClapWords.{is_value, numbers_at, takes}
use Rattle.pig_words.proofs.Options.{each, listed, same_setting}
use Rattle.pig_words.proofs.Commands.{left_bare, made, named_back, none_given, numbers_of_made, param_with, same_rest, same_verb, taken_of_made, values_given}
use Rattle.pig_words.proofs.WordNumbers.{value_from, value_test}
use Rattle.pig_words.proofs.ClapFinds.{one_given}

-- ---- what a word is

text_decided : (a b : Word) → (a ≡ b) ⊎ (a ≢ b)
text_decided a b = elim (cases_Bool (bytes_eq a b)) [
  | inl same ↦ inl ((bytes_eq-Decides a b).0 same)
  | inr other ↦ inr (λ e. let same = (bytes_eq-Decides a b).1 e in let wrong = sym other ∙ same in cc)
]

prefix_decided : (p w : Word) → ((v : Word) × (w ≡ p ++ v)) ⊎ ((v : Word) → w ≢ p ++ v)
prefix_decided [] w = inl (w, refl)
prefix_decided (x ∷ p) [] = inr (λ v e. cc)
prefix_decided (x ∷ p) (y ∷ w) = elim (cases_Bool (x == y)) [
  | inr other ↦ inr (λ v e. let same : x ≡ y = cc in let test = (Decides-eqb x y).1 same in let wrong = sym other ∙ test in cc)
  | inl same ↦ elim (prefix_decided p w) [
    | inl rest ↦ inl (rest.0, let is : x ≡ y = (Decides-eqb x y).0 same in λ i. sym is i ∷ rest.1 i)
    | inr none ↦ inr (λ v e. none v (let tail : w ≡ p ++ v = cc in tail))
  ]
]

-- a word by the rules that it may stand under
data Look (word : Word) : Type 0 where
  plain : is_dashed word ≡ false → Look word
  both_dashes : word ≡ codes "--" → Look word
  alone : (s : Setting) → word ≡ option_word s → Look word
  valued : (s : Setting) (v : Word) → word ≡ option_word s ++ 61 ∷ v → Look word
  strange : is_dashed word ≡ true → word ≢ codes "--" → ((s : Setting) → word ≢ option_word s) → ((s : Setting) (v : Word) → word ≢ option_word s ++ 61 ∷ v) → Look word

-- an option of which it holds, or none of the list
among_settings : (P : Setting → Type 0) → ((s : Setting) → P s ⊎ (P s → ⊥)) → (ss : List Setting) → ((s : Setting) × P s) ⊎ AllByRecursion (λ s. P s → ⊥) ss
among_settings P f [] = inr tt
among_settings P f (s ∷ ss) = elim (f s) [
  | inl h ↦ inl (s, h)
  | inr other ↦ elim (among_settings P f ss) [
    | inl h ↦ inl h
    | inr none ↦ inr (other, none)
  ]
]

each_setting : (P : Setting → Type 0) → ((s : Setting) → P s ⊎ (P s → ⊥)) → ((s : Setting) × P s) ⊎ ((s : Setting) → P s → ⊥)
each_setting P f = elim (among_settings P f settings) [
  | inl h ↦ inl h
  | inr none ↦ inr (each (λ s. P s → ⊥) none)
]

valued_decided : (word : Word) (s : Setting) → ((v : Word) × (word ≡ option_word s ++ 61 ∷ v)) ⊎ (((v : Word) × (word ≡ option_word s ++ 61 ∷ v)) → ⊥)
valued_decided word s = elim (prefix_decided (option_word s ++ 61 ∷ []) word) [
  | inl h ↦ inl (h.0, h.1 ∙ append_assoc (option_word s) (61 ∷ []) h.0)
  | inr n ↦ inr (λ h. n h.0 (h.1 ∙ sym (append_assoc (option_word s) (61 ∷ []) h.0)))
]

look : (word : Word) → Look word
look word = elim (cases_Bool (is_dashed word)) [
  | inr flat ↦ plain flat
  | inl dashed ↦ elim (text_decided word (codes "--")) [
    | inl is ↦ both_dashes is
    | inr other ↦ elim (each_setting (λ s. word ≡ option_word s) (λ s. text_decided word (option_word s))) [
      | inl is ↦ alone is.0 is.1
      | inr none ↦ elim (each_setting (λ s. (v : Word) × (word ≡ option_word s ++ 61 ∷ v)) (valued_decided word)) [
        | inl is ↦ valued is.0 is.1.0 is.1.1
        | inr nothing ↦ strange dashed other none (λ s v e. nothing s (v, e))
      ]
    ]
  ]
]

-- ---- what these words have in common, and what not

dashed_alone : (s : Setting) → is_dashed (option_word s) ≡ true
dashed_alone s = refl

dashed_valued : (s : Setting) (v : Word) → is_dashed (option_word s ++ 61 ∷ v) ≡ true
dashed_valued s v = refl

not_plain : {word other : Word} → is_dashed word ≡ false → word ≡ other → is_dashed other ≡ true → ⊥
not_plain h e k = let wrong = sym h ∙ ap is_dashed e ∙ k in cc

not_dashes_alone : (s : Setting) → codes "--" ≢ option_word s
not_dashes_alone s e = true≢false (ap (λ w. bytes_eq w (45 ∷ 45 ∷ [])) e ∙ (listed s).alone_plain)

not_dashes_valued : (s : Setting) (v : Word) → codes "--" ≢ option_word s ++ 61 ∷ v
not_dashes_valued s v e = true≢false (ap (λ w. bytes_eq w (45 ∷ 45 ∷ [])) e ∙ (listed s).joined_plain v)

-- the name and the value that an option's word has
abbrev Read : Type 0
Read = Option (Word × Option Word)

name_in : Read → Word
name_in None = []
name_in (Some p) = p.0

value_in : Read → Option Word
value_in None = None
value_in (Some p) = p.1

same_alone : (s t : Setting) → option_word s ≡ option_word t → s ≡ t
unfolding name_in
same_alone s t e = same_setting s t (ap name_in (sym (listed s).alone_long ∙ ap long_of e ∙ (listed t).alone_long))

alone_not_valued : (s t : Setting) (v : Word) → option_word s ≢ option_word t ++ 61 ∷ v
unfolding value_in
alone_not_valued s t v e = true≢false (sym (ap (λ r. is_some (value_in r)) (sym (listed s).alone_long ∙ ap long_of e ∙ (listed t).joined_long v)))

same_valued : (s t : Setting) (v w : Word) → option_word s ++ 61 ∷ v ≡ option_word t ++ 61 ∷ w → (s ≡ t) × (v ≡ w)
unfolding name_in value_in
same_valued s t v w e =
    let read = sym ((listed s).joined_long v) ∙ ap long_of e ∙ (listed t).joined_long w in
    (same_setting s t (ap name_in read), ap (λ r. unwrap_or (value_in r) []) read)

-- ---- what words give, or that they give nothing

abbrev Decided : Given → List Word → Type 0
Decided g words = ((end : Given) × Gives g words end) ⊎ ((end : Given) → Gives g words end → ⊥)

value_decided : (word : Word) → IsOptionWord word ⊎ (IsOptionWord word → ⊥)
value_decided word = elim (cases_Bool (is_value word)) [
  | inl h ↦ inl (value_from word h)
  | inr h ↦ inr (λ is. let wrong = sym h ∙ value_test word is in cc)
]

none_decided : {A : Type 0} → (o : Option A) → (o ≡ None) ⊎ (o ≢ None)
none_decided None = inl refl
none_decided (Some x) = inr (λ e. cc)

-- a word that is no option
module _ (g : Given) (word : Word) (h : is_dashed word ≡ false) where
  no_operand : g.operand ≢ None → (rest : List Word) (end : Given) → Gives g (word ∷ rest) end → ⊥
  no_operand given rest end (operand _ none _) = given none
  no_operand given rest end (joined s v is _ _ _) = not_plain h is (dashed_valued s v)
  no_operand given _ end (apart s is _ _ _) = not_plain h is (dashed_alone s)
  no_operand given _ end (dashes is) = not_plain h is refl
  no_operand given _ end (operand_last is _) = not_plain h is refl

  no_more : (rest : List Word) → ((end : Given) → Gives (with_operand word g) rest end → ⊥) → (end : Given) → Gives g (word ∷ rest) end → ⊥
  no_more rest later end (operand _ none more) = later end more
  no_more rest later end (joined s v is _ _ _) = not_plain h is (dashed_valued s v)
  no_more _ later end (apart s is _ _ _) = not_plain h is (dashed_alone s)
  no_more _ later end (dashes is) = not_plain h is refl
  no_more _ later end (operand_last is _) = not_plain h is refl

  by_plain : (rest : List Word) → Decided (with_operand word g) rest → Decided g (word ∷ rest)
  by_plain rest later = elim (none_decided g.operand) [
    | inr given ↦ inr (no_operand given rest)
    | inl none ↦ elim later [
      | inl gives ↦ inl (gives.0, operand h none gives.1)
      | inr nothing ↦ inr (no_more rest nothing)
    ]
  ]

-- `--`
module _ (g : Given) (word : Word) (h : word ≡ codes "--") where
  no_last : (x : Word) → g.operand ≢ None → (end : Given) → Gives g (word ∷ x ∷ []) end → ⊥
  no_last x given end (operand flat _ _) = not_plain flat h refl
  no_last x given end (joined s v is _ _ _) = not_dashes_valued s v (sym h ∙ is)
  no_last x given end (apart s is _ _ _) = not_dashes_alone s (sym h ∙ is)
  no_last x given end (operand_last _ none) = given none

  too_many_words : (x y : Word) (rest : List Word) (end : Given) → Gives g (word ∷ x ∷ y ∷ rest) end → ⊥
  too_many_words x y rest end (operand flat _ _) = not_plain flat h refl
  too_many_words x y rest end (joined s v is _ _ _) = not_dashes_valued s v (sym h ∙ is)
  too_many_words x y rest end (apart s is _ _ _) = not_dashes_alone s (sym h ∙ is)

  by_dashes : (rest : List Word) → Decided g (word ∷ rest)
  by_dashes [] = inl (g, dashes h)
  by_dashes (x ∷ []) = elim (none_decided g.operand) [
    | inl none ↦ inl (with_operand x g, operand_last h none)
    | inr given ↦ inr (no_last x given)
  ]
  by_dashes (x ∷ y ∷ rest) = inr (too_many_words x y rest)

-- `--name`
module _ (g : Given) (word : Word) (s : Setting) (h : word ≡ option_word s) where
  no_word_left : (end : Given) → Gives g (word ∷ []) end → ⊥
  no_word_left end (operand flat _ _) = not_plain flat h (dashed_alone s)
  no_word_left end (joined t v is _ _ _) = alone_not_valued s t v (sym h ∙ is)
  no_word_left end (dashes is) = not_dashes_alone s (sym is ∙ h)

  -- what its value has to be
  behind_name : (value : Word) (rest : List Word) (end : Given) → Gives g (word ∷ value ∷ rest) end → IsOptionWord value × (g.values s ≡ None) × Gives (with_value s value g) rest end
  behind_name value rest end (operand flat _ _) = absurd (not_plain flat h (dashed_alone s))
  behind_name value rest end (joined t v is _ _ _) = absurd (alone_not_valued s t v (sym h ∙ is))
  behind_name value rest end (apart t is isv none more) =
      let same : t ≡ s = same_alone t s (sym is ∙ h) in
      (isv, subst (λ u. g.values u ≡ None) same none, subst (λ u. Gives (with_value u value g) rest end) same more)
  behind_name value rest end (operand_last is _) = absurd (not_dashes_alone s (sym is ∙ h))

  by_alone : (value : Word) (rest : List Word) → Decided (with_value s value g) rest → Decided g (word ∷ value ∷ rest)
  by_alone value rest later = elim (value_decided value) [
    | inr other ↦ inr (λ end gives. other (behind_name value rest end gives).0)
    | inl isv ↦ elim (none_decided (g.values s)) [
      | inr given ↦ inr (λ end gives. given (behind_name value rest end gives).1)
      | inl none ↦ elim later [
        | inl gives ↦ inl (gives.0, apart s h isv none gives.1)
        | inr nothing ↦ inr (λ end gives. nothing end (behind_name value rest end gives).2)
      ]
    ]
  ]

-- `--name=value`
module _ (g : Given) (word : Word) (s : Setting) (value : Word) (h : word ≡ option_word s ++ 61 ∷ value) where
  in_word : (rest : List Word) (end : Given) → Gives g (word ∷ rest) end → IsOptionWord value × (g.values s ≡ None) × Gives (with_value s value g) rest end
  in_word rest end (operand flat _ _) = absurd (not_plain flat h (dashed_valued s value))
  in_word rest end (joined t v is isv none more) =
      let same = same_valued t s v value (sym is ∙ h) in
      (subst IsOptionWord same.1 isv, subst (λ u. g.values u ≡ None) same.0 none, subst (λ w. Gives (with_value s w g) rest end) same.1 (subst (λ u. Gives (with_value u v g) rest end) same.0 more))
  in_word _ end (apart t is _ _ _) = absurd (alone_not_valued t s value (sym is ∙ h))
  in_word _ end (dashes is) = absurd (not_dashes_valued s value (sym is ∙ h))
  in_word _ end (operand_last is _) = absurd (not_dashes_valued s value (sym is ∙ h))

  by_valued : (rest : List Word) → Decided (with_value s value g) rest → Decided g (word ∷ rest)
  by_valued rest later = elim (value_decided value) [
    | inr other ↦ inr (λ end gives. other (in_word rest end gives).0)
    | inl isv ↦ elim (none_decided (g.values s)) [
      | inr given ↦ inr (λ end gives. given (in_word rest end gives).1)
      | inl none ↦ elim later [
        | inl gives ↦ inl (gives.0, joined s value h isv none gives.1)
        | inr nothing ↦ inr (λ end gives. nothing end (in_word rest end gives).2)
      ]
    ]
  ]

-- another word
nothing_stands : (g : Given) (word : Word) → is_dashed word ≡ true → word ≢ codes "--" → ((s : Setting) → word ≢ option_word s) → ((s : Setting) (v : Word) → word ≢ option_word s ++ 61 ∷ v)
    → (rest : List Word) (end : Given) → Gives g (word ∷ rest) end → ⊥
nothing_stands g word dashed other name value rest end (operand flat _ _) = let wrong = sym flat ∙ dashed in cc
nothing_stands g word dashed other name value rest end (joined s v is _ _ _) = value s v is
nothing_stands g word dashed other name value _ end (apart s is _ _ _) = name s is
nothing_stands g word dashed other name value _ end (dashes is) = other is
nothing_stands g word dashed other name value _ end (operand_last is _) = other is

by_look : (g : Given) (word : Word) (rest : List Word) → Look word → ((h : Given) → Decided h rest) → ((value : Word) (more : List Word) → rest ≡ value ∷ more → (h : Given) → Decided h more) → Decided g (word ∷ rest)
by_look g word rest (plain h) one two = by_plain g word h rest (one (with_operand word g))
by_look g word rest (both_dashes h) one two = by_dashes g word h rest
by_look g word [] (alone s h) one two = inr (no_word_left g word s h)
by_look g word (value ∷ more) (alone s h) one two = by_alone g word s h value more (two value more refl (with_value s value g))
by_look g word rest (valued s v h) one two = by_valued g word s v h rest (one (with_value s v g))
by_look g word rest (strange dashed other name value) one two = inr (nothing_stands g word dashed other name value rest)

none_left : (g : Given) → Decided g []
none_left g = inl (g, finished)

gives_decided : (n : ℕ) (words : List Word) → length words ≤ n → (g : Given) → Decided g words
gives_decided n [] few g = none_left g
gives_decided zero (word ∷ rest) few g = absurd (omega (arith, few))
gives_decided (suc n) (word ∷ rest) few g =
    by_look g word rest (look word) (λ h. gives_decided n rest (omega (arith, few)) h)
    (λ value more is h. gives_decided n more (let shorter = ap length is in omega (arith, few, shorter)) h)

-- ---- commands

-- words without parameters are a command with these parameters, or none
abbrev BareDecided : ℕ → List Param → List Word → Type 0
BareDecided hosts params words = ((c : Command) × (c.params ≡ params) × IsBare hosts words c) ⊎ ((c : Command) → IsBare hosts words c → ⊥)

-- the words behind the verb give what makes a command, or not
module _ (hosts : ℕ) (params : List Param) (verb : Verb) (rest : List Word) where
  -- whatever command it is, the words give what makes it
  makes_it : (given : Given) → Gives nothing_given rest given → (c : Command) → IsBare hosts (verb_word verb ∷ rest) c → (c.verb ≡ verb) × Makes hosts given c
  makes_it given gives c is =
      let v : verb ≡ c.verb = same_verb verb c.verb rest is.rest is.begins in
      let r : rest ≡ is.rest = same_rest verb c.verb rest is.rest is.begins in
      (sym v, subst (λ g. Makes hosts g c) (one_given rest is.given given (subst (λ ws. Gives nothing_given ws is.given) (sym r) is.gives) gives) is.makes)

  by_numbers : (given : Given) → Gives nothing_given rest given → (word : Word) → given.operand ≡ Some word → takes verb word ≡ true → (numbers : Option Numbers) → numbers_at hosts given ≡ numbers
      → BareDecided hosts params (verb_word verb ∷ rest)
  by_numbers given gives word is taken None e =
      inr (λ c command. let wrong = sym e ∙ numbers_of_made hosts given c (values_given gives none_given) (makes_it given gives c command).1 in cc)
  by_numbers given gives word is taken (Some n) e =
      let c : Command = record { verb = verb; operand = word; workers = n.workers; reducers = n.reducers; split = n.split; attempts = n.attempts; params = params } in
      inl (c, refl, record { rest = rest; given = given; begins = refl; gives = gives; makes = (made hosts verb given word n params taken is e).1 })

  by_operand : (given : Given) → Gives nothing_given rest given → (o : Option Word) → given.operand ≡ o
      → BareDecided hosts params (verb_word verb ∷ rest)
  by_operand given gives None e = inr (λ c command. let wrong = sym e ∙ (makes_it given gives c command).1.operand in cc)
  by_operand given gives (Some word) e = elim (cases_Bool (takes verb word)) [
    | inl taken ↦ by_numbers given gives word e taken (numbers_at hosts given) refl
    | inr refused ↦ inr (λ c command.
        let makes = makes_it given gives c command in
        let taken : takes verb word ≡ true = subst (λ v. takes v word ≡ true) makes.0 (taken_of_made hosts given c word e makes.1) in
        let wrong = sym refused ∙ taken in cc)
  ]

  behind_verb : BareDecided hosts params (verb_word verb ∷ rest)
  behind_verb = elim (gives_decided (length rest) rest (omega arith) nothing_given) [
    | inl gives ↦ by_operand gives.0 gives.1 gives.0.operand refl
    | inr nothing ↦ inr (λ c is.
        let r : rest ≡ is.rest = same_rest verb c.verb rest is.rest is.begins in
        nothing is.given (subst (λ ws. Gives nothing_given ws is.given) (sym r) is.gives))
  ]

verb_decided : (word : Word) → ((v : Verb) × (word ≡ verb_word v)) ⊎ ((v : Verb) → word ≢ verb_word v)
verb_decided word = elim (text_decided word (codes "run")) [
  | inl h ↦ inl (verbs.Run, h)
  | inr a ↦ elim (text_decided word (codes "explain")) [
    | inl h ↦ inl (verbs.Explain, h)
    | inr b ↦ elim (text_decided word (codes "check")) [
      | inl h ↦ inl (verbs.Check, h)
      | inr c ↦ elim (text_decided word (codes "demo")) [
        | inl h ↦ inl (verbs.Demo, h)
        | inr d ↦ inr (λ v. no_verb a b c d v)
      ]
    ]
  ]
]
  where
    no_verb : word ≢ codes "run" → word ≢ codes "explain" → word ≢ codes "check" → word ≢ codes "demo" → (v : Verb) → word ≢ verb_word v
    no_verb a b c d verbs.Run = a
    no_verb a b c d verbs.Explain = b
    no_verb a b c d verbs.Check = c
    no_verb a b c d verbs.Demo = d

bare_decided : (hosts : ℕ) (params : List Param) (words : List Word) → BareDecided hosts params words
bare_decided hosts params [] = inr (λ c is. let wrong = is.begins in cc)
bare_decided hosts params (word ∷ rest) = elim (verb_decided word) [
  | inr none ↦ inr (λ c is. none c.verb (let e = is.begins in let first : word ≡ verb_word c.verb = cc in first))
  | inl verb ↦ subst (λ w. BareDecided hosts params (w ∷ rest)) (sym verb.1) (behind_verb hosts params verb.0 rest)
]

abbrev CommandDecided : ℕ → List Word → Type 0
CommandDecided hosts words = ((c : Command) × IsCommand hosts words c) ⊎ ((c : Command) → IsCommand hosts words c → ⊥)

pub command_decided : (hosts : ℕ) (words : List Word) → CommandDecided hosts words
command_decided hosts words = by_taken (taken words) refl
  where
    by_taken : (o : Option Parted) → taken words ≡ o → CommandDecided hosts words
    by_taken None e = inr (λ c is. let wrong = sym e ∙ is.takes in cc)
    by_taken (Some p) e = elim (bare_decided hosts (map param_with p.1) p.0) [
      | inr none ↦ inr (λ c is. none c (left_bare hosts words p c e is))
      | inl found ↦
          (let params : map named_of found.0.params ≡ p.1 = ap (map named_of) found.1 ∙ named_back p.1 in
          inl (found.0, record { left = p.0; takes = e ∙ ap (λ ns. Some (p.0, ns)) (sym params); bare = found.2 }))
    ]
