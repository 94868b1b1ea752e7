-- What nodes give, kept beside them, as the kinds that it is.
use Rattle.std.specs.Prelude.{List, map, Option, Some, None}
use Rattle.pig_value.specs.Trees.{kind_tree}
use Rattle.pig_plan.specs.NodeKinds.{Before, KeyedKinds, RowKinds}
use Rattle.pig_plan.specs.Results.{at_place}
use Rattle.pig_plan.specs.declared.given.Given.{Given}
use Rattle.pig_plan.specs.declared.given.Given.TheVariants as given
use Rattle.pig_plan.specs.declared.keyed.KeyedRows.{KeyedRows}

-- the kinds of a node's rows, where it is a relation
abbrev pub kinds_of_given : Given → Option RowKinds
kinds_of_given (given.Rows kinds) = Some (map kind_tree kinds)
kinds_of_given given.Nothing = None

abbrev pub before_of : List Given → Before
before_of found = at_place None (map kinds_of_given found)

-- the kinds of an input's rows and of its keys
abbrev pub keyed_row : KeyedRows → KeyedKinds
keyed_row found = record { row = map kind_tree found.row.now; keys = map kind_tree found.keys }
