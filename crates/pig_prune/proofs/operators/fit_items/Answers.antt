use Rattle.std.proofs.Common.{◌∙◌, ◌++◌, ap, map, sym}
use Rattle.std.proofs.lemmas.List.{append-nil}
use Rattle.pig_typed.specs.Typed.{item_typed}
use Rattle.pig_cuts.specs.Cuts.{cut_at}
use Rattle.pig_cuts.specs.Fits.{fit_item}
use Rattle.pig_prune.proofs.Ends.{none_stays}
use Rattle.pig_prune.proofs.operators.fit_items.Goals as goal

pub returns : goal.returns
returns c =
    sym (append-nil (map item_typed c.loop-left.made))
    ∙ ap (λ xs. map item_typed c.loop-left.made ++ map (fit_item (cut_at c.args.cuts.now) (cut_at c.args.cuts.now c.args.node)) xs) (sym (none_stays item_typed c.loop-left.marked.now c.loop-left.left.now c.in_default.len_below))
    ∙ c.loop-left.invariant
