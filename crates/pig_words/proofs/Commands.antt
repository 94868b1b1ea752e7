-- How what was given makes a command, and that words are at most one.
use Rattle.std.proofs.Common.{◌≡◌, ◌∙◌, ◌==◌, ◌≤◌, ℕ, Bool, cond, true, false, refl, sym, ap, subst, List, [], ◌∷◌, length, drop, map, min, Option, Some, None, is_some, option_and_then, true≢false, unwrap_or, slice_index_or}
use Rattle.std.specs.Str.Parse.{digits_value}
use Rattle.pig_params.specs.Given.{named_of}
use Rattle.pig_params.specs.ParamWords.{Parted, taken}
use Rattle.pig_params.specs.Substitution.{Named}
use Rattle.pig_params.specs.declared.values.Param.{Param}
use Rattle.pig_words.specs.declared.words.Command.{Command}
use Rattle.pig_words.specs.declared.words.Verb.{Verb}
use Rattle.pig_words.specs.declared.words.Verb.TheVariants as verbs
use Rattle.pig_words.specs.CommandWords.{Given, Gives, finished, operand, joined, apart, dashes, operand_last, IsBare, IsCommand, IsCount, IsSet, IsOptionWord, Makes, Setting, Workers, Reducers, Split, Attempts, Word, is_same, nothing_given, verb_word, with_value}
use Rattle.pig_words.specs.Limits.{most_attempts, most_demo, most_reducers, most_split, usual_attempts, usual_reducers, usual_split, usual_workers}
use Rattle.pig_words.specs.declared.words.Numbers.{Numbers}
use Rattle.pig_words.specs.ClapWords.{AreRead, AreValues, number_at, numbers_at, setting_at, takes}
use Rattle.pig_words.proofs.Options.{each}
use Rattle.pig_words.proofs.ClapFinds.{one_given}
use Rattle.pig_words.proofs.WordNumbers.{number_set, set_number, set_setting, setting_set}

-- ---- what was given, and the numbers that it sets

abbrev numbers_of : ℕ → ℕ → ℕ → ℕ → Option Numbers
numbers_of w r s a = Some (record { workers = w; reducers = r; split = s; attempts = a })

each_some : (a b c d : Option ℕ) (n : Numbers) → option_and_then (λ w. option_and_then (λ r. option_and_then (λ s. option_and_then (λ t. numbers_of w r s t) d) c) b) a ≡ Some n
    → (a ≡ Some n.workers) × (b ≡ Some n.reducers) × (c ≡ Some n.split) × (d ≡ Some n.attempts)
each_some None b c d n e = cc
each_some (Some w) None c d n e = cc
each_some (Some w) (Some r) None d n e = cc
each_some (Some w) (Some r) (Some s) None n e = cc
each_some (Some w) (Some r) (Some s) (Some t) n e =
    let is : ◌≡◌ {A = Numbers} (record { workers = w; reducers = r; split = s; attempts = t }) n = ap (λ (o : Option Numbers). unwrap_or o n) e in
    (ap (λ m. Some m.workers) is, ap (λ m. Some m.reducers) is, ap (λ m. Some m.split) is, ap (λ m. Some m.attempts) is)

takes_count : (v : Verb) (word : Word) → takes v word ≡ true → v ≡ verbs.Demo → IsCount word
takes_count verbs.Run word t e = cc
takes_count verbs.Explain word t e = cc
takes_count verbs.Check word t e = cc
takes_count verbs.Demo word t e = go (number_at most_demo word) refl t
  where
    go : (o : Option ℕ) → number_at most_demo word ≡ o → is_some o ≡ true → IsCount word
    go None f t = absurd (true≢false (sym t))
    go (Some n) f t =
        let s = number_set word 0 most_demo n f in
        record { value = s.0; some = subst (λ k. 1 ≤ k) s.1.0 s.1.1; few = subst (λ k. k ≤ most_demo) s.1.0 s.1.2 }

count_taken : (v : Verb) (word : Word) → (v ≡ verbs.Demo → IsCount word) → takes v word ≡ true
count_taken verbs.Run word h = refl
count_taken verbs.Explain word h = refl
count_taken verbs.Check word h = refl
count_taken verbs.Demo word h =
    let count = h refl in
    ap is_some (set_number word 0 most_demo (digits_value 10 word) count.value (refl, count.some, count.few))

-- what the numbers are read from makes the command
pub made : (hosts : ℕ) (v : Verb) (g : Given) (word : Word) (n : Numbers) (params : List Param) → takes v word ≡ true → g.operand ≡ Some word → numbers_at hosts g ≡ Some n
    → AreValues g × Makes hosts g (record { verb = v; operand = word; workers = n.workers; reducers = n.reducers; split = n.split; attempts = n.attempts; params = params })
unfolding numbers_at
made hosts v g word n params t o e =
    let parts = each_some (setting_at (min usual_workers hosts) hosts (g.values Workers)) (setting_at usual_reducers most_reducers (g.values Reducers)) (setting_at usual_split most_split (g.values Split)) (setting_at usual_attempts most_attempts (g.values Attempts)) n e in
    let workers = setting_set (g.values Workers) (min usual_workers hosts) hosts n.workers parts.0 in
    let reducers = setting_set (g.values Reducers) usual_reducers most_reducers n.reducers parts.1 in
    let split = setting_set (g.values Split) usual_split most_split n.split parts.2 in
    let attempts = setting_set (g.values Attempts) usual_attempts most_attempts n.attempts parts.3 in (
      each (λ s. (v : Word) → g.values s ≡ Some v → IsOptionWord v) (workers.1, (reducers.1, (split.1, (attempts.1, tt)))),
      record { operand = o; workers = workers.0; reducers = reducers.0; split = split.0; attempts = attempts.0; count = takes_count v word t },
    )

-- and a command that is made has its numbers
pub numbers_of_made : (hosts : ℕ) (g : Given) (c : Command) → AreValues g → Makes hosts g c → numbers_at hosts g ≡ numbers_of c.workers c.reducers c.split c.attempts
unfolding numbers_at
numbers_of_made hosts g c values m =
    rw (
      set_setting (g.values Workers) (min usual_workers hosts) hosts c.workers (values Workers) m.workers,
      set_setting (g.values Reducers) usual_reducers most_reducers c.reducers (values Reducers) m.reducers,
      set_setting (g.values Split) usual_split most_split c.split (values Split) m.split,
      set_setting (g.values Attempts) usual_attempts most_attempts c.attempts (values Attempts) m.attempts,
    ) refl

pub taken_of_made : (hosts : ℕ) (g : Given) (c : Command) (word : Word) → g.operand ≡ Some word → Makes hosts g c → takes c.verb word ≡ true
taken_of_made hosts g c word o m =
    let same : c.operand ≡ word = ap (λ (x : Option Word). unwrap_or x word) (sym m.operand ∙ o) in
    count_taken c.verb word (λ e. subst IsCount same (m.count e))

-- ---- words are one command

-- no two verbs have words of the same length
verb_of_length : ℕ → Verb
verb_of_length n = cond (n == 3) verbs.Run (cond (n == 7) verbs.Explain (cond (n == 5) verbs.Check verbs.Demo))

verb_back : (v : Verb) → verb_of_length (length (verb_word v)) ≡ v
unfolding verb_of_length
verb_back verbs.Run = refl
verb_back verbs.Explain = refl
verb_back verbs.Check = refl
verb_back verbs.Demo = refl

pub same_verb : (v w : Verb) (xs ys : List Word) → verb_word v ∷ xs ≡ verb_word w ∷ ys → v ≡ w
same_verb v w xs ys e = sym (verb_back v) ∙ ap (λ zs. verb_of_length (length (slice_index_or zs 0 []))) e ∙ verb_back w

pub same_rest : (v w : Verb) (xs ys : List Word) → verb_word v ∷ xs ≡ verb_word w ∷ ys → xs ≡ ys
same_rest v w xs ys e = ap (drop 1) e

set_once : (value : Option Word) (default most n m : ℕ) → IsSet value default most n → IsSet value default most m → n ≡ m
set_once None default most n m h k = h ∙ sym k
set_once (Some word) default most n m h k = h.0 ∙ sym k.0

pub made_once : (hosts : ℕ) (g : Given) (c d : Command) → c.verb ≡ d.verb → c.params ≡ d.params → Makes hosts g c → Makes hosts g d → c ≡ d
made_once hosts g c d v p m n =
    let o : c.operand ≡ d.operand = ap (λ (x : Option Word). unwrap_or x c.operand) (sym m.operand ∙ n.operand) in
    let w = set_once (g.values Workers) (min usual_workers hosts) hosts c.workers d.workers m.workers n.workers in
    let r = set_once (g.values Reducers) usual_reducers most_reducers c.reducers d.reducers m.reducers n.reducers in
    let s = set_once (g.values Split) usual_split most_split c.split d.split m.split n.split in
    let t = set_once (g.values Attempts) usual_attempts most_attempts c.attempts d.attempts m.attempts n.attempts in
    λ i. record { verb = v i; operand = o i; workers = w i; reducers = r i; split = s i; attempts = t i; params = p i }

one_bare : (hosts : ℕ) (words : List Word) (c d : Command) → c.params ≡ d.params → IsBare hosts words c → IsBare hosts words d → c ≡ d
one_bare hosts words c d params h k =
    let same = sym h.begins ∙ k.begins in
    let rest = same_rest c.verb d.verb h.rest k.rest same in
    let given = one_given k.rest h.given k.given (subst (λ xs. Gives nothing_given xs h.given) rest h.gives) k.gives in
    made_once hosts k.given c d (same_verb c.verb d.verb h.rest k.rest same) params (subst (λ g. Makes hosts g c) given h.makes) k.makes

-- the parameter of a name and a value
abbrev pub param_with : Named → Param
param_with n = record { name = n.0; value = n.1 }

-- parameters are known by their names and values
params_back : (params : List Param) → map param_with (map named_of params) ≡ params
params_back [] = refl
params_back (p ∷ params) = ap (λ ps. p ∷ ps) (params_back params)

pub named_back : (named : List Named) → map named_of (map param_with named) ≡ named
named_back [] = refl
named_back (n ∷ named) = ap (λ ns. n ∷ ns) (named_back named)

-- what is taken of words is one thing
pub same_taken : (words : List Word) (p q : Parted) → taken words ≡ Some p → taken words ≡ Some q → p ≡ q
same_taken words p q e f = ap (λ (o : Option Parted). unwrap_or o p) (sym e ∙ f)

-- the words that are left are the command
pub left_bare : (hosts : ℕ) (words : List Word) (p : Parted) (c : Command) → taken words ≡ Some p → IsCommand hosts words c → IsBare hosts p.0 c
left_bare hosts words p c e is = subst (λ ws. IsBare hosts ws c) (ap (λ (q : Parted). q.0) (same_taken words (is.left, map named_of c.params) p is.takes e)) is.bare

pub one_command : (hosts : ℕ) (words : List Word) (c d : Command) → IsCommand hosts words c → IsCommand hosts words d → c ≡ d
one_command hosts words c d h k =
    let same = same_taken words (h.left, map named_of c.params) (k.left, map named_of d.params) h.takes k.takes in
    let params : c.params ≡ d.params = sym (params_back c.params) ∙ ap (λ (p : Parted). map param_with p.1) same ∙ params_back d.params in
    one_bare hosts k.left c d params (subst (λ ws. IsBare hosts ws c) (ap (λ (p : Parted). p.0) same) h.bare) k.bare

-- ---- what words give has values

this_one : (value w : Word) → IsOptionWord value → Some value ≡ Some w → IsOptionWord w
this_one value w v e = subst IsOptionWord (ap (λ (x : Option Word). unwrap_or x value) e) v

with_one : (g : Given) (s : Setting) (value : Word) → IsOptionWord value → AreValues g → AreValues (with_value s value g)
with_one g s value v h t w = go (is_same s t)
  where
    go : (b : Bool) → cond b (Some value) (g.values t) ≡ Some w → IsOptionWord w
    go true e = this_one value w v e
    go false e = h t w e

pub values_given : {g end : Given} {words : List Word} → Gives g words end → AreValues g → AreValues end
values_given finished h = h
values_given (operand plain free more) h = values_given more h
values_given (joined {g = g} s value is v free more) h = values_given more (with_one g s value v h)
values_given (apart {g = g} {value = value} s is v free more) h = values_given more (with_one g s value v h)
values_given (dashes is) h = h
values_given (operand_last is free) h = h

pub none_given : AreValues nothing_given
none_given s v e = cc

-- a command of words whose options were read is made of what was read
pub made_of_read : (hosts : ℕ) (words : List Word) (v : Verb) (g : Given) (c : Command) → words ≡ verb_word v ∷ drop 1 words → AreRead (drop 1 words) g → IsBare hosts words c
    → (c.verb ≡ v) × AreValues g × Makes hosts g c
made_of_read hosts words v g c begins read is =
    let same = sym is.begins ∙ begins in
    let gives = subst (λ xs. Gives nothing_given xs is.given) (same_rest c.verb v is.rest (drop 1 words) same) is.gives in
    let given = read.only is.given gives in
    (same_verb c.verb v is.rest (drop 1 words) same, subst AreValues given (values_given gives none_given), subst (λ x. Makes hosts x c) given is.makes)
