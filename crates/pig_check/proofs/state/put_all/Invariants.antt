use Rattle.std.proofs.Common.{◌≡◌, ◌++◌}
use Rattle.pig_relations.specs.Aliases.{aliases_of}
use Rattle.pig_check.proofs.state.put_all.Given as goal

abbrev pub invariant-loop-named : goal.invariant-loop-named
invariant-loop-named l = aliases_of l.relations ≡ aliases_of l.fn.relations ++ aliases_of l.yielded
