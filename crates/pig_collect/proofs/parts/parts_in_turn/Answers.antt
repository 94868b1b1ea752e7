use Rattle.std.proofs.Common.{rules, ◌≡◌, ◌<◌, ◌-◌, ◌∷◌, ◌++◌, [], arith, length, map}
use Rattle.std.specs.Vec.Iter.{into_iter_items}
use Rattle.pig_physical.specs.Seen.{staged}
use Rattle.pig_physical.specs.Stages.{tasks_in}
use Rattle.pig_collect.proofs.Owned.{added, mapped_on, turns_on}
use Rattle.pig_collect.proofs.parts.parts_in_turn.Goals as goal

pub loop-place-preserved : goal.loop-place-preserved
loop-place-preserved c =
    let wave = c.waves-wave.result - 1 in
    let tasks = tasks_in (staged c.args.stages.now) wave in
    let parts = c.loop-place.parts in
    let part = c.in_ok-part.part in
    let own = c.in_ok-own.own in
    let pushed : c.push.new.self ≡ c.loop-place.parts ++ c.in_ok-part.part ∷ [] = search rules in
    let less : c.loop-place.place < length c.args.stores.now = search rules in
    let same = c.requires.same in
    let few : c.loop-place.place < length c.args.numbers.now = omega (arith, less, same) in
    let size : c.len-at.result ≡ length c.in_ok-own.own = search rules in
    let count = c.in_ok-own.ensures.count in
    record {
      wave = c.loop-place.invariant.wave;
      statements = mapped_on (λ p. p.statement) (λ s. s.statement) parts c.push.new.self part c.args.stores.now c.loop-place.place c.index-stores-place.result less c.index-stores-place.is pushed
          c.in_ok-part.ensures.statement c.loop-place.invariant.statements;
      dirs = mapped_on (λ p. p.dir) (λ s. s.dir) parts c.push.new.self part c.args.stores.now c.loop-place.place c.index-stores-place.result less c.index-stores-place.is pushed
          c.in_ok-part.ensures.dir c.loop-place.invariant.dirs;
      parts = turns_on c.args.numbers.now c.loop-place.place tasks c.loop-place.at c.len-at.result (into_iter_items c.loop-place.left) (into_iter_items c.own_parts.new.left) (map (λ p. p.parts) parts) _ own _
          few c.in_ok-own.ensures.own c.in_ok-own.ensures.left size (added parts c.push.new.self part own pushed c.in_ok-part.ensures.parts) c.loop-place.invariant.parts;
      count = omega (arith, count, size);
    }
