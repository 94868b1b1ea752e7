-- The codes so far, and those that are to come.
use Rattle.std.proofs.Common.{◌≡◌, ◌++◌, drop, map}
use Rattle.pig_replicated.specs.Codes.{row_codes}
use Rattle.pig_replicated.proofs.coding.codes_of_groups.Given as goal

abbrev pub invariant-loop-group : goal.invariant-loop-group
invariant-loop-group l = map (λ rows. map (λ row. row.items) rows.items) l.codes.items ++ map row_codes (drop l.group-index l.groups) ≡ map row_codes l.groups
