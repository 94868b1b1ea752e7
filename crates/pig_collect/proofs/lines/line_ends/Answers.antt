use Rattle.std.proofs.Common.{rules, ◌≡◌, ◌∙◌, length}
use Rattle.memchr.specs.Find.{is_byte, places}
use Rattle.pig_collect.proofs.Endings.{found_all}
use Rattle.pig_collect.proofs.lines.line_ends.Goals as goal

pub returns : goal.returns
returns c =
    let is : c.count.result ≡ length (places (is_byte 10) c.args.bytes.now) = search rules in
    is ∙ found_all c.args.bytes.now
