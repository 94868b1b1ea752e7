use Rattle.std.proofs.Common.{◌≡◌, ◌∙◌, ap, map, subst}
use Rattle.std.specs.Prelude.{OnOk}
use Rattle.pig_typed.specs.Typed.{block_typed}
use Rattle.pig_algebra.specs.Cuts.{cut_typed}
use Rattle.pig_packed.specs.Growth.{and_rows}
use Rattle.pig_reduce.proofs.Finishing.{cuts_keyed, folds_are}
use Rattle.pig_reduce.proofs.folds.add_folded.Goals as goal

pub add_groups-requires-clause-cuts : goal.add_groups-requires-clause-cuts
add_groups-requires-clause-cuts c = cuts_keyed (block_typed c.args.block.now) (map cut_typed c.as_slice.result.now)
    (ap (map cut_typed) c.as_slice.ensures ∙ c.in_ok-cuts.ensures.is)

pub returns : goal.returns
returns c =
    subst (λ rows. OnOk c.add_groups.result (c.add_groups.new.built ≡ and_rows rows c.args.built.now))
    (folds_are (block_typed c.args.block.now) (map cut_typed c.as_slice.result.now) c.args.entries.now
    (ap (map cut_typed) c.as_slice.ensures ∙ c.in_ok-cuts.ensures.is) c.requires.first)
    c.add_groups.ensures
