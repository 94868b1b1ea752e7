use Rattle.std.proofs.Common.{map}
use Rattle.pig_value.specs.Trees.{kind_tree}
use Rattle.pig_typed.proofs.SignatureLaws.{signature_is}
use Rattle.pig_typed.proofs.calls.called.Goals as goal

pub returns : goal.returns
returns c = rw (← signature_is c.args.function (map kind_tree c.args.kinds)) c.by_signature.ensures
