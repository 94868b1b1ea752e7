-- What loops over outputs and over parts have found so far.
use Rattle.std.specs.Prelude.{ℕ, Bool, not, List, [], ◌∷◌, min, Option, Some, None}
use Rattle.std.specs.List.{sum_by}
use Rattle.pig_value.specs.Lines.{is_lf}
use Rattle.pig_physical.specs.Outs.{TaskOut}

-- whether bytes stand behind the last LF; where there are no bytes, as before
abbrev pub open_after : Bool → List ℕ → Bool
open_after was [] = was
open_after was (b ∷ bytes) = open_after (not (is_lf b)) bytes

-- the lesser of two numbers, where there are such
abbrev pub lesser : Option ℕ → Option ℕ → Option ℕ
lesser None b = b
lesser (Some m) None = Some m
lesser (Some m) (Some n) = Some (min m n)

abbrev pub least_of : List ℕ → Option ℕ
least_of [] = None
least_of (n ∷ numbers) = lesser (Some n) (least_of numbers)

-- the lines that the tasks of a wave read
abbrev pub wave_lines : List TaskOut → ℕ
wave_lines = sum_by (λ out. out.lines)
