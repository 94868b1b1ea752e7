use Rattle.std.proofs.Common.{◌∙◌, ap}
use Rattle.pig_typed.specs.Blocks.{foreach_all}
use Rattle.pig_typed.specs.Typed.{block_typed}
use Rattle.pig_plain.proofs.Tables.{if_ok}
use Rattle.pig_plain.proofs.rowwise.foreached.Goals as goal

pub returns : goal.returns
returns c =
    let seen_is = c.seen_at-seen.ensures ∙ c.in_ok-taken.ensures.rows in
    if_ok c.generated_seen.result c.generated_seen.ensures (λ made is. record {
      rows = is ∙ ap (foreach_all (block_typed c.args.block.now)) seen_is;
      left = c.in_ok-taken.ensures.left;
    })
