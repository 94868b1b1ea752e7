use Rattle.std.proofs.Common.{◌∙◌, ap}
use Rattle.pig_physical.specs.Outs.{o_rows}
use Rattle.pig_map.proofs.forming.FirstPackedFormer.into_form.Goals as goal

pub returns : goal.returns
returns c begun rows h = ap o_rows (c.finish.ensures ∙ h.first)
