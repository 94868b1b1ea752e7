use Rattle.std.proofs.Common.{◌≡◌, ◌++◌, drop}
use Rattle.pig_typing.specs.Results.{checked_map}
use Rattle.pig_relations.specs.Aliases.{aliases_of}
use Rattle.pig_relations.specs.Unions.{relations_of}
use Rattle.pig_relations.specs.Views.{relations_seen}
use Rattle.pig_relations.proofs.unions.all_relations.Given as goal

abbrev pub invariant-loop-alias : goal.invariant-loop-alias
invariant-loop-alias l =
    checked_map (λ more. relations_seen l.found.items ++ more) (relations_of (aliases_of l.relations) (drop l.alias-index l.from)) ≡ relations_of (aliases_of l.relations) l.from
