use Rattle.std.proofs.Common.{◌<◌, ◌^◌, ◌+◌, length, arith, rules, sym, subst}
use Rattle.std.specs.Prelude.{slice_index_or, slice_set}
use Rattle.std.proofs.lemmas.Option.{slice_get-get_or}
use Rattle.pig_runs.specs.declared.slots.Slot.{Slot}
use Rattle.pig_runs.specs.InTurn.{put_within}
use Rattle.pig_runs.proofs.InTurn.{IsUpTo, put_one, put_fits}
use Rattle.pig_runs.proofs.laying.put_in_turn.Goals as goal

abbrev nowhere : Slot
nowhere = record { key_front = record { high = 0; low = 0 }; row_front = record { high = 0; low = 0 }; side = 0; at = 0; key_len = 0; row_len = 0; input = 0 }

pub put_within-at-requires : goal.put_within-at-requires
put_within-at-requires c =
    let low : c.loop-slot.slot-index < length c.loop-slot.slot-items = (let below = c.loop-slot-test.true in let size = c.loop-slot.auto.slot-items in search rules) in
    let fits = put_fits c.args.block c.args.slots.now.items c.loop-slot.slot-items c.loop-slot.slot-index c.loop-slot.at (slice_index_or c.loop-slot.slot-items c.loop-slot.slot-index nowhere)
    (slice_get-get_or c.loop-slot.slot-items c.loop-slot.slot-index nowhere low) c.loop-slot.invariant in
    let size : c.args.block.end < 2 ^ 64 = search rules in
    let whole = c.requires in
    omega (arith, fits, size, whole)

pub loop-slot-preserved : goal.loop-slot-preserved
loop-slot-preserved c =
    let low : c.loop-slot.slot-index < length c.loop-slot.slot-items = (let below = c.loop-slot-test.true in let size = c.loop-slot.auto.slot-items in search rules) in
    let found : Slot = slice_index_or c.loop-slot.slot-items c.loop-slot.slot-index nowhere in
    let next = put_one c.args.block c.args.slots.now.items c.loop-slot.slot-items c.loop-slot.slot-index c.loop-slot.at found
    low (slice_get-get_or c.loop-slot.slot-items c.loop-slot.slot-index nowhere low) c.loop-slot.invariant in
    subst (λ s. IsUpTo c.args.block c.args.slots.now.items (slice_set c.loop-slot.slot-items c.loop-slot.slot-index s) (c.loop-slot.slot-index + 1) c.put_within-at.result) (sym c.put_within-at.ensures.slot)
    (subst (λ n. IsUpTo c.args.block c.args.slots.now.items (slice_set c.loop-slot.slot-items c.loop-slot.slot-index (put_within c.args.block c.loop-slot.at found)) (c.loop-slot.slot-index + 1) n) (sym c.put_within-at.ensures.behind) next)
