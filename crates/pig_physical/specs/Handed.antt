-- What tasks hand on, as the code holds it.
use Rattle.std.specs.Prelude.{List, Option, None, map}
use Rattle.pig_runs.specs.Entries.{InDirections}
use Rattle.pig_physical.specs.Combining.{only}
use Rattle.pig_physical.specs.Outs.{Form, Outs, TaskOut, o_bytes, o_rows, o_runs}
use Rattle.pig_physical.specs.declared.outputs.Out as out
use Rattle.pig_physical.specs.declared.outputs.OutForm as form
use Rattle.pig_physical.specs.declared.outputs.OutForm.TheVariants as forms
use Rattle.pig_physical.specs.declared.outputs.OutRuns as runs
use Rattle.pig_physical.specs.declared.outputs.OutRuns.TheVariants as several

abbrev pub runs_of_out : runs.OutRuns → List InDirections
runs_of_out (several.Several found) = found
runs_of_out (several.Slices found) = found

-- the only run, where it is not cut
abbrev pub lone_run : runs.OutRuns → Option InDirections
lone_run (several.Several found) = only found
lone_run (several.Slices found) = None

abbrev pub form_of : form.OutForm → Form
form_of (forms.Rows rows) = o_rows rows
form_of (forms.Runs found) = o_runs (runs_of_out found)
form_of (forms.Parts bytes) = o_bytes bytes

abbrev pub out_of : out.Out → TaskOut
out_of o = record { form = form_of o.form; lines = o.lines; unmet = o.unmet }

abbrev pub outs_of : List (List out.Out) → Outs
outs_of outs = map (map out_of) outs
