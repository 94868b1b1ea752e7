use Rattle.std.proofs.Common.{◌<◌, ℕ, get_or, arith}
use Rattle.pig_value.proofs.LeafLaws.{bytes_at}
use Rattle.pig_value.proofs.texts.known_bytes.Goals as goal

pub returns-clause-small : goal.returns-clause-small
returns-clause-small c =
    let small : (i : ℕ) → get_or c.args.bytes.now i 0 < 256 = λ i. let byte = c.type_inv.bytes i in omega (arith, byte) in
    bytes_at c.args.bytes.now small
