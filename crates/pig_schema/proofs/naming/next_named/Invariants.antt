-- No place before this one is found.
use Rattle.std.proofs.Common.{◌≡◌}
use Rattle.pig_schema.specs.FieldTrees.{names_of}
use Rattle.pig_schema.specs.Names.{has_name, places_from}
use Rattle.pig_schema.proofs.naming.next_named.Given as goal

abbrev pub invariant-loop-place : goal.invariant-loop-place
invariant-loop-place l = places_from (has_name l.name) (names_of l.fields) l.start ≡ places_from (has_name l.name) (names_of l.fields) l.place
