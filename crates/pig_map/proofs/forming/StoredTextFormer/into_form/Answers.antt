use Rattle.std.proofs.Common.{◌∙◌, ap}
use Rattle.pig_physical.specs.Outs.{o_bytes}
use Rattle.pig_map.proofs.forming.StoredTextFormer.into_form.Goals as goal

pub returns : goal.returns
returns c begun rows h = ap o_bytes (c.from_vec.ensures ∙ h.text)
