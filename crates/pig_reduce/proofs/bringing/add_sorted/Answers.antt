use Rattle.std.proofs.Common.{◌≡◌, subst}
use Rattle.std.specs.Prelude.{OnOk}
use Rattle.pig_packed.specs.Growth.{and_rows}
use Rattle.pig_reduce.proofs.ByOperator.{sorted_rows}
use Rattle.pig_reduce.proofs.bringing.add_sorted.Goals as goal

pub returns : goal.returns
returns c =
    subst (λ rows. OnOk c.add_ordered.result (c.add_ordered.new.built ≡ and_rows rows c.args.built.now))
    (sorted_rows c.args.entries.now c.len.ensures.sorted) c.add_ordered.ensures.rows
