use Rattle.pig_relations.specs.Aliases.{aliases_of}
use Rattle.pig_check.specs.Views.{cube_tree}
use Rattle.pig_check.proofs.CubeFits.{dimensions_told}
use Rattle.pig_check.proofs.cubes.cube.Goals as goal

pub cubed-requires : goal.cubed-requires
cubed-requires c =
    dimensions_told (aliases_of c.args.state.now.relations) c.args.from.now c.as_slice.result.now (cube_tree c.in_ok-typed.typed) c.in_ok-typed.ensures.told
