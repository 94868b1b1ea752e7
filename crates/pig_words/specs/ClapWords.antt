-- The command that clap reads the words by, and what it finds.
use Rattle.std.specs.Prelude.{◌≡◌, ◌&&◌, ℕ, Bool, true, List, length, nat_le, if◌then◌else◌, min, is_some, Option, Some, None, option_map, codes}
use Rattle.std.specs.Char.{is_ascii_digit}
use Rattle.std.specs.List.{list_all}
use Rattle.std.specs.Str.Parse.{digits_value}
use Rattle.clap.specs.Words.{App, Rule, new_app, new_rule, with_rule}
use Rattle.clap.specs.Simple.{on_top}
use Rattle.clap.specs.declared.builder.action.ArgAction.TheVariants.{Set}
use Rattle.pig_words.specs.CommandWords.{Given, Gives, IsOptionWord, Setting, Workers, Reducers, Split, Attempts, Word, name_of, nothing_given}
use Rattle.pig_words.specs.Limits.{most_attempts, most_demo, most_reducers, most_split, usual_attempts, usual_reducers, usual_split, usual_workers}
use Rattle.pig_words.specs.declared.words.Found.{Found}
use Rattle.pig_words.specs.declared.words.Numbers.{Numbers}
use Rattle.pig_words.specs.declared.words.Verb.{Verb}
use Rattle.pig_words.specs.declared.words.Verb.TheVariants as verbs
use Rattle.pig_value.specs.Results.{◌>>=◌}

abbrev pub operand_rule : Rule
operand_rule = record (new_rule (codes "operand")) { required = true; action = Some Set }

-- clap keeps the value of an option under its long name
abbrev pub option_rule : Word → Rule
option_rule name = record (new_rule name) { long = Some name; action = Some Set }

-- no flag for help or the version
abbrev pub bare_pig : App
bare_pig = on_top (λ s. record s { disable_help_flag = true; disable_version_flag = true }) (new_app (codes "pig"))

-- a command with one operand and the options
abbrev pub pig : App
pig = with_rule (with_rule (with_rule (with_rule (with_rule bare_pig operand_rule)
    (option_rule (name_of Workers))) (option_rule (name_of Reducers))) (option_rule (name_of Split))) (option_rule (name_of Attempts))

-- what clap found, as what was given
abbrev pub value_in : Found → Setting → Option Word
value_in f Workers = option_map (λ s. s.now) f.workers
value_in f Reducers = option_map (λ s. s.now) f.reducers
value_in f Split = option_map (λ s. s.now) f.split
value_in f Attempts = option_map (λ s. s.now) f.attempts

abbrev pub given_of : Found → Given
given_of f = record { operand = Some f.operand.now; values = value_in f }

-- each option that was given has a value
abbrev pub AreValues : Given → Type 0
AreValues g = (s : Setting) (v : Word) → g.values s ≡ Some v → IsOptionWord v

-- the words give just this, and do give it where the options have values
pub record AreRead (words : List Word) (g : Given) : Type 0 where
  pub gives : AreValues g → Gives nothing_given words g
  pub only : (end : Given) → Gives nothing_given words end → end ≡ g

-- what the words give, if anything, has no operand
abbrev pub LackOperand : List Word → Type 0
LackOperand words = (end : Given) → Gives nothing_given words end → end.operand ≡ None

abbrev pub is_value : Word → Bool
is_value word = nat_le 1 (length word) && nat_le (length word) 9 && list_all is_ascii_digit word

-- the number of a value from 1 to `most`
abbrev pub number_at : ℕ → Word → Option ℕ
number_at most word = if is_value word && nat_le 1 (digits_value 10 word) && nat_le (digits_value 10 word) most then Some (digits_value 10 word) else None

abbrev pub setting_at : ℕ → ℕ → Option Word → Option ℕ
setting_at default most None = Some default
setting_at default most (Some word) = number_at most word

-- the numbers that the options set
unfoldable pub numbers_at : ℕ → Given → Option Numbers
numbers_at hosts g = do
  workers ← setting_at (min usual_workers hosts) hosts (g.values Workers)
  reducers ← setting_at usual_reducers most_reducers (g.values Reducers)
  split ← setting_at usual_split most_split (g.values Split)
  attempts ← setting_at usual_attempts most_attempts (g.values Attempts)
  Some (record { workers = workers; reducers = reducers; split = split; attempts = attempts })

-- `demo` takes a count
abbrev pub takes : Verb → Word → Bool
takes verbs.Demo word = is_some (number_at most_demo word)
takes _ word = true
