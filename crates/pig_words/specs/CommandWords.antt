-- The words of a command line, and the command that they are.
use Rattle.std.specs.Prelude.{◌≡◌, ◌==◌, ◌≤◌, ℕ, Bool, true, false, List, [], ◌∷◌, ◌++◌, length, map, min, Option, Some, None, codes, if◌then◌else◌}
use Rattle.std.specs.Char.{is_ascii_digit}
use Rattle.std.specs.List.{list_all}
use Rattle.std.specs.Str.{bytes_eq}
use Rattle.std.specs.Str.Parse.{digits_value}
use Rattle.pig_params.specs.Given.{named_of}
use Rattle.pig_params.specs.ParamWords.{taken}
use Rattle.pig_words.specs.Limits.{most_attempts, most_demo, most_reducers, most_split, usual_attempts, usual_reducers, usual_split, usual_workers}
use Rattle.pig_words.specs.declared.words.Command.{Command}
use Rattle.pig_words.specs.declared.words.Verb.{Verb}
use Rattle.pig_words.specs.declared.words.Verb.TheVariants as verbs

abbrev pub Word : Type 0
Word = List ℕ

abbrev pub verb_word : Verb → Word
verb_word verbs.Run = codes "run"
verb_word verbs.Explain = codes "explain"
verb_word verbs.Check = codes "check"
verb_word verbs.Demo = codes "demo"

-- what an option sets
pub data Setting : Type 0 where
  Workers Reducers Split Attempts : Setting

-- the options, by which all that holds of each of them is said
abbrev pub settings : List Setting
settings = Workers ∷ Reducers ∷ Split ∷ Attempts ∷ []

-- its name, by which it is told from others
abbrev pub name_of : Setting → Word
name_of Workers = codes "workers"
name_of Reducers = codes "reducers"
name_of Split = codes "split"
name_of Attempts = codes "attempts"

abbrev pub is_same : Setting → Setting → Bool
is_same s t = bytes_eq (name_of s) (name_of t)

abbrev pub option_word : Setting → Word
option_word s = codes "--" ++ name_of s

-- what the words have given: the operand, and the values of options
pub record Given : Type 0 where
  pub operand : Option Word
  pub values : Setting → Option Word

abbrev pub nothing_given : Given
nothing_given = record { operand = None; values = λ _. None }

abbrev pub with_operand : Word → Given → Given
with_operand word g = record g { operand = Some word }

abbrev pub with_value : Setting → Word → Given → Given
with_value s value g = record g { values = λ t. if is_same s t then Some value else g.values t }

-- a word that begins with `-`, the byte 45, and is longer than one byte
abbrev pub is_dashed : Word → Bool
is_dashed [] = false
is_dashed (b ∷ []) = false
is_dashed (b ∷ c ∷ rest) = b == 45

-- 1 to 9 ASCII digits
pub record IsOptionWord (word : Word) : Type 0 where
  pub some : 1 ≤ length word
  pub few : length word ≤ 9
  pub digits : list_all is_ascii_digit word ≡ true

-- What words give, one after the other, to what was given before them. The operand and each option come at most once.
pub data Gives : Given → List Word → Given → Type 0 where
  -- no word is left
  finished : {g : Given} → Gives g [] g
  -- the operand
  operand : {g end : Given} {word : Word} {rest : List Word} → is_dashed word ≡ false → g.operand ≡ None
      → Gives (with_operand word g) rest end → Gives g (word ∷ rest) end
  -- `--name=value`; the byte 61 is `=`
  joined : {g end : Given} {word : Word} {rest : List Word} (s : Setting) (value : Word) → word ≡ option_word s ++ 61 ∷ value → IsOptionWord value
      → g.values s ≡ None → Gives (with_value s value g) rest end → Gives g (word ∷ rest) end
  -- `--name value`
  apart : {g end : Given} {word value : Word} {rest : List Word} (s : Setting) → word ≡ option_word s → IsOptionWord value
      → g.values s ≡ None → Gives (with_value s value g) rest end → Gives g (word ∷ value ∷ rest) end
  -- `--`, and no word behind it
  dashes : {g : Given} {word : Word} → word ≡ codes "--" → Gives g (word ∷ []) g
  -- `--` and the operand, whatever it begins with
  operand_last : {g : Given} {word last : Word} → word ≡ codes "--" → g.operand ≡ None → Gives g (word ∷ last ∷ []) (with_operand last g)

-- the number that a value sets, from 1 to `most`; `default` where there is no value
abbrev pub IsSet : Option Word → ℕ → ℕ → ℕ → Type 0
IsSet None default most n = n ≡ default
IsSet (Some value) default most n = (n ≡ digits_value 10 value) × (1 ≤ n) × (n ≤ most)

-- the operand of `demo`: a value from 1 to 100,000
pub record IsCount (word : Word) : Type 0 where
  pub value : IsOptionWord word
  pub some : 1 ≤ digits_value 10 word
  pub few : digits_value 10 word ≤ most_demo

-- What was given makes the command, where there are so many hosts.
pub record Makes (hosts : ℕ) (given : Given) (c : Command) : Type 0 where
  pub operand : given.operand ≡ Some c.operand
  pub workers : IsSet (given.values Workers) (min usual_workers hosts) hosts c.workers
  pub reducers : IsSet (given.values Reducers) usual_reducers most_reducers c.reducers
  pub split : IsSet (given.values Split) usual_split most_split c.split
  pub attempts : IsSet (given.values Attempts) usual_attempts most_attempts c.attempts
  pub count : c.verb ≡ verbs.Demo → IsCount c.operand

-- The words without parameters are the command: its verb, and words that give what makes it.
pub record IsBare (hosts : ℕ) (words : List Word) (c : Command) : Type 0 where
  pub rest : List Word
  pub given : Given
  pub begins : words ≡ verb_word c.verb ∷ rest
  pub gives : Gives nothing_given rest given
  pub makes : Makes hosts given c

-- The words are the command: its parameters are taken from them, and it is what the words are that are left.
pub record IsCommand (hosts : ℕ) (words : List Word) (c : Command) : Type 0 where
  pub left : List Word
  pub takes : taken words ≡ Some (left, map named_of c.params)
  pub bare : IsBare hosts left c
