use Rattle.std.proofs.Common.{sym}
use Rattle.std.proofs.lemmas.List.{length-map}
use Rattle.pig_relations.specs.Keyed.{join_form}
use Rattle.pig_relations.proofs.operators.count.Goals as goal

pub returns : goal.returns
returns c = sym (length-map c.args.inputs.now join_form)
