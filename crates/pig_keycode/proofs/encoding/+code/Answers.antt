use Rattle.std.proofs.Common.{◌≡◌, [], ◌∷◌, ◌++◌}
use Rattle.pig_value.proofs.TreeLaws.{entry_is}
use Rattle.pig_value.specs.Trees.{tree, entry_of}
use Rattle.pig_keycode.specs.Codes.{text_code}
use Rattle.pig_keycode.proofs.Writing.{pair_written, grown_thrice}
use Rattle.pig_keycode.proofs.encoding.+code.Goals as goal

pub write_pairs-loop-pair-preserved : goal.write_pairs-loop-pair-preserved
write_pairs-loop-pair-preserved t c =
    let pair = c.pair-item.result in
    let old = c.loop-pair.out.items in
    let marked = c.push-in-loop-pair.new.self.items in
    let with_key = c.write_chars.new.out.items in
    let new = c.write_value.new.out.items in
    let mark : marked ≡ old ++ 1 ∷ [] = c.in_ok-push-2.ensures.items in
    let head : with_key ≡ marked ++ 4 ∷ text_code pair.key = c.in_ok-write_chars.ensures.ok in (
      pair_written entry_of c.as_slice-pair-items.result.now c.loop-pair.pair-index pair pair.key (tree pair.value) old marked with_key new _ c.loop-pair-test.true c.pair-item.is (entry_is pair) mark head c.in_ok-write_value.ensures.ok c.loop-pair.invariant.0,
      grown_thrice c.args.out.now.items old marked with_key new c.loop-pair.invariant.1 mark c.in_ok-write_chars.ensures.grows c.in_ok-write_value.ensures.grows,
    )
