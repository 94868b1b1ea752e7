-- Outputs of one run each, and the same with slices in the place of the runs.
use Rattle.std.specs.Prelude.{◌≡◌, ⊤, ℕ, List, [], ◌∷◌, Option, Some, None}
use Rattle.std.specs.List.{AllByRecursion}
use Rattle.pig_value.specs.declared.operators.Dir.{Dir}
use Rattle.pig_value.specs.Sorts.{sort}
use Rattle.pig_runs.specs.Cutting.{Point, cut_points, dirs_of_all}
use Rattle.pig_runs.specs.Entries.{InDirections, entries_of_all, run_cmp}
use Rattle.pig_physical.specs.Handed.{form_of, out_of}
use Rattle.pig_physical.specs.Outs.{Form, TaskOut, o_runs, runs_in}
use Rattle.pig_physical.specs.Sliced.{slices_of}
use Rattle.pig_physical.specs.declared.outputs.Out as out
use Rattle.pig_driver.specs.declared.slicing.Note.{Note}

-- all runs of outputs have the same directions
pub record AreDirected (outs : List TaskOut) : Type 0 where
  pub dirs : List Dir
  pub all : AllByRecursion (λ out. AllByRecursion (λ run. run.dirs ≡ dirs) (runs_in out.form)) outs

-- what an output becomes: its run is cut at these points into so many slices
pub record IsSlicedAs (n : ℕ) (points : List Point) (run : InDirections) (new old : TaskOut) : Type 0 where
  pub was : old.form ≡ o_runs (run ∷ [])
  pub form : new.form ≡ o_runs (slices_of run points n)
  pub lines : new.lines ≡ old.lines
  pub unmet : new.unmet ≡ old.unmet

abbrev pub EachSliced : ℕ → List Point → List InDirections → List TaskOut → List TaskOut → Type 0
EachSliced n points [] [] [] = ⊤
EachSliced n points (run ∷ runs) (new ∷ news) (old ∷ olds) = IsSlicedAs n points run new old × EachSliced n points runs news olds
EachSliced n points runs news olds = ⊥

-- the runs of all outputs, and the same with their slices, at the points that cut the entries of all
pub record AreSliced (n : ℕ) (olds news : List TaskOut) : Type 0 where
  pub runs : List InDirections
  pub points : List Point
  pub are : points ≡ cut_points n (sort (run_cmp (dirs_of_all runs)) (entries_of_all runs))
  pub each : EachSliced n points runs news olds

-- ---- inside

-- one run
abbrev pub lone_form : InDirections → Form
lone_form run = o_runs (run ∷ [])

abbrev pub form_in : out.Out → Form
form_in o = form_of o.form

abbrev pub note_of : out.Out → Note
note_of o = record { lines = o.lines; unmet = o.unmet }

abbrev pub Noted : Type 0
Noted = ℕ × List ℕ

abbrev pub noted : Note → Noted
noted note = (note.lines, note.unmet)

abbrev pub sliced_out : ℕ → List Point → InDirections → Noted → TaskOut
sliced_out n points run note = record { form = o_runs (slices_of run points n); lines = note.0; unmet = note.1 }

abbrev pub sliced_outs : ℕ → List Point → List InDirections → List Noted → List TaskOut
sliced_outs n points [] notes = []
sliced_outs n points (run ∷ runs) [] = []
sliced_outs n points (run ∷ runs) (note ∷ notes) = sliced_out n points run note ∷ sliced_outs n points runs notes

-- an output with these slices and a note
abbrev pub IsNotedAs : Option Note → List InDirections → out.Out → Type 0
IsNotedAs None slices o = ⊥
IsNotedAs (Some note) slices o = out_of o ≡ record { form = o_runs slices; lines = note.lines; unmet = note.unmet }
