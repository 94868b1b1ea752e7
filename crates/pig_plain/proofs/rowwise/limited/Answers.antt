use Rattle.std.proofs.Common.{◌∙◌, ap, take}
use Rattle.pig_plain.proofs.rowwise.limited.Goals as goal

pub returns : goal.returns
returns c =
    let seen_is = c.seen_at-seen.ensures ∙ c.in_ok-taken.ensures.rows in
    record {
      rows = c.in_ok-rows.ensures ∙ ap (take c.args.count) seen_is;
      left = c.in_ok-taken.ensures.left;
    }
