use Rattle.std.proofs.Common.{◌∙◌}
use Rattle.pig_physical.proofs.Slices.{last_alone}
use Rattle.pig_physical.proofs.outputs.only.Goals as goal

pub returns : goal.returns
returns c = c.where_alone.ensures ∙ last_alone c.pop-last.result c.args.runs c.pop-last.new.self c.is_empty.result c.pop-last.ensures c.is_empty.ensures
