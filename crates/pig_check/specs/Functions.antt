-- Storage functions of LOAD and STORE: the delimiter that each names.
-- (Built In Functions: "PigStorage". That there is no other storage function is a choice of this profile.)
use Rattle.std.specs.Prelude.{◌≡◌, ◌≢◌, ℕ, List, [], ◌∷◌, codes, Option, Some, None, if◌then◌else◌}
use Rattle.std.specs.Str.{bytes_eq}
use Rattle.std.specs.declared.result.Result.TheVariants.{Ok, Err}
use Rattle.pig_value.specs.Delimiters.{delimiter_of}
use Rattle.pig_syntax.specs.declared.trees.Func.{Func}
use Rattle.pig_typing.specs.declared.faults.CheckKind.{CheckKind}
use Rattle.pig_typing.specs.declared.faults.CheckKind.TheVariants as kind
use Rattle.pig_typing.specs.Results.{Checked, due}

abbrev pub pig_storage : List ℕ
pig_storage = codes "PigStorage"

-- a tab
abbrev pub tab : ℕ
tab = 9

-- the delimiter of its arguments: the tab where there is none, and one text at most
abbrev pub delimiter_in : List (List ℕ) → Option ℕ
delimiter_in [] = Some tab
delimiter_in (text ∷ []) = delimiter_of text
delimiter_in (text ∷ other ∷ more) = None

pub data HasDelimiter : Option Func → ℕ → Type 0 where
  none_written : HasDelimiter None tab
  of_pig_storage : {f : Func} {d : ℕ} → f.name ≡ pig_storage → delimiter_in f.args ≡ Some d → HasDelimiter (Some f) d

pub data HasNoDelimiter : Option Func → CheckKind → Type 0 where
  other_function : {f : Func} → f.name ≢ pig_storage → HasNoDelimiter (Some f) kind.UnknownFunction
  odd_arguments : {f : Func} → f.name ≡ pig_storage → delimiter_in f.args ≡ None → HasNoDelimiter (Some f) kind.WrongArguments

-- ---- the same as a function

unfoldable pub delimiter_by : Option Func → Checked ℕ
delimiter_by None = Ok tab
delimiter_by (Some f) = if bytes_eq f.name pig_storage then due kind.WrongArguments (delimiter_in f.args) else Err kind.UnknownFunction
