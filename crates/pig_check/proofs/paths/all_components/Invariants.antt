use Rattle.std.proofs.Common.{◌≡◌, length}
use denote.Shadow.{shadow}
use denote.Text.{Utf8}
use Rattle.std.specs.List.{list_all}
use Rattle.pig_value.specs.FieldRows.{pieces}
use Rattle.pig_check.specs.Paths.{is_component, slash}
use Rattle.pig_check.proofs.paths.all_components.Given as goal

abbrev pub invariant-loop-part : goal.invariant-loop-part
invariant-loop-part l = shadow (Utf8 l.left) × (list_all is_component (pieces slash l.left) ≡ list_all is_component (pieces slash l.path))

abbrev pub decreases-loop-part : goal.decreases-loop-part
decreases-loop-part l = length l.left
