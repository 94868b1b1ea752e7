-- What a test of a prefix tells.
use Rattle.std.proofs.lemmas.Bool.Decides.{Decides-eqb}
use Rattle.std.proofs.lemmas.Slice.Eq.{strip_prefix_is}
use Rattle.pig_syntax.proofs.Prefixes.{strip_told}
use Rattle.pig_syntax.proofs.scanning.after.Goals as goal

pub returns-clause-value : goal.returns-clause-value
returns-clause-value c =
    let told = strip_prefix_is Decides-eqb c.args.bytes.now c.args.prefix.now c.strip_prefix.result c.strip_prefix.ensures.cases in
    strip_told c.args.prefix.now c.args.bytes.now c.strip_prefix.result told
