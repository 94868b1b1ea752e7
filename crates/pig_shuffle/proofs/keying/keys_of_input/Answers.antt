use Rattle.std.proofs.Common.{ap, sym, ◌∙◌}
use Rattle.std.specs.Option.{option_map, option_map_or}
use Rattle.std.proofs.lemmas.Option.{slice_get_past}
use Rattle.pig_value.specs.TreeViews.{tree-Null}
use Rattle.pig_value.specs.Trees.{v_null}
use Rattle.pig_value.proofs.list_laws.Indexing.{get_map}
use Rattle.pig_plan.specs.ByKey.{key_of}
use Rattle.pig_plan.specs.Operators.{keys_of}
use Rattle.pig_plan.specs.Plans.{keyed_of}
use Rattle.pig_shuffle.proofs.keying.keys_of_input.Goals as goal

pub returns-in-None : goal.returns-in-None
returns-in-None c row =
    tree-Null ∙ sym (ap (λ o. option_map_or (λ input. key_of (keys_of input.keys row)) o v_null)
    (get_map keyed_of c.args.inputs.now c.args.input
    ∙ ap (option_map keyed_of) (slice_get_past c.args.inputs.now c.args.input c.in-None.ensures.lookup.3)))
