use Rattle.std.proofs.Common.{◌∙◌, ◌++◌, [], ◌∷◌, ap, sym, arith}
use Rattle.std.specs.Prelude.{slice_get}
use Rattle.std.proofs.lemmas.List.FromFn.{map-range_with_len_more}
use Rattle.pig_runs.specs.Places.{heads_from, slots_in}
use Rattle.pig_runs.proofs.stretches.lists_of_heads.Goals as goal

pub loop-stretch-preserved : goal.loop-stretch-preserved
loop-stretch-preserved c =
    let made = c.in_ok-new.ensures ∙ ap (heads_from c.loop-stretch.stretch 0) c.slots_in.ensures in
    c.in_ok-push.ensures.items
    ∙ ((λ i. c.loop-stretch.invariant i ++ made i ∷ [])
    ∙ sym (map-range_with_len_more (λ i. heads_from i 0 (slots_in (slice_get c.args.stretches.now i))) 0 c.loop-stretch.stretch c.loop-stretch.stretch (omega arith)))
