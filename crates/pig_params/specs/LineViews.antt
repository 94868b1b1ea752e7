-- The lines that the code reads, as plain data.
use Rattle.std.specs.Prelude.{ℕ, ◌≤◌, ⊤}
use Rattle.pig_params.specs.Directives as plain
use Rattle.pig_params.specs.declared.directives.Line.{Line}
use Rattle.pig_params.specs.declared.directives.Line.TheVariants as line

abbrev pub line_view : Line → plain.Line
line_view line.Text = plain.ordinary
line_view (line.Directive word name value) = plain.directive word name.now value.now
line_view (line.Off before) = plain.off before

-- the blanks before a candidate stand within so many bytes
abbrev pub IsWithin : Line → ℕ → Type 0
IsWithin (line.Off before) n = before ≤ n
IsWithin line.Text n = ⊤
IsWithin (line.Directive word name value) n = ⊤
