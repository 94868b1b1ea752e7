use Rattle.std.proofs.Common.{◌≡◌, ◌≤◌, ◌+◌, ◌++◌, ◌∷◌, drop, length, map, take, sym, ◌∙◌, ap, arith, refl, rules, subst}
use Rattle.std.specs.List.{AllByRecursion}
use Rattle.std.proofs.Math.Seq.{take-append_seam}
use Rattle.std.proofs.lemmas.Option.{slice_get_read}
use Rattle.pig_value.specs.Trees.{tree}
use Rattle.pig_plan.specs.ByKey.{holds_null}
use Rattle.pig_typed.specs.Products.{joined, product}
use Rattle.pig_replicated.specs.Holding.{matches_in}
use Rattle.pig_replicated.specs.Joining.{partners}
use Rattle.pig_replicated.proofs.Adding.{behind}
use Rattle.pig_probe.specs.Probing.{HoldsRows}
use Rattle.pig_probe.proofs.ByCodes.{all_matched, begun_with, none_joined, one_match, same_side}
use Rattle.pig_probe.proofs.Values.{matched}
use Rattle.pig_probe.proofs.joining.+add_partners.Goals as goal

pub returns-then-one_lacks-clause-rows : goal.returns-then-one_lacks-clause-rows
returns-then-one_lacks-clause-rows _ c row h =
    let split : c.args.sides.now ≡ c.in-Some.side.now ∷ c.in-Some.rest.now = search rules in
    none_joined c.args.sides.now c.in-Some.side.now c.in-Some.rest.now (tree c.args.key.now) c.args.built.now row split (sym c.one_lacks.ensures ∙ c.if-one_lacks.true) c.requires.none_begun

pub add_partners-requires : goal.add_partners-requires
add_partners-requires _ c =
    let split : c.args.sides.now ≡ c.in-Some.side.now ∷ c.in-Some.rest.now = search rules in
    let key = tree c.args.key.now in
    let held : AllByRecursion HoldsRows (c.in-Some.side.now ∷ c.in-Some.rest.now) = subst (AllByRecursion HoldsRows) split c.requires.rows in
    let parts = c.coded_matches-part-items.result.now in
    let here = slice_get_read parts (length parts) c.loop-part.part-index c.part-item.result refl c.loop-part-test.true c.part-item.is in
    let more : c.add_bytes.new.front.items ≡ c.args.front.now.items ++ c.part-item.result.items =
    c.in_ok-add_bytes.ensures ∙ (λ i. c.loop-part.invariant.0 i ++ c.as_slice.ensures.value i) in (
      (let step = ap length split in let measure = c.decreases in omega (arith, step, measure)),
      (
        c.requires.bytes,
        (
          held.1,
          (
            begun_with (λ r. r.items) parts (matches_in c.in-Some.side.now key) c.coded_matches-part-items.ensures (matched key (holds_null key) refl c.in-Some.side.now held.0) c.loop-part.part-index
                c.part-item.result here c.args.front.now.items c.add_bytes.new.front.items more c.requires.front,
            c.loop-part.invariant.1,
          ),
        ),
      ),
    )

pub loop-part-preserved : goal.loop-part-preserved
loop-part-preserved _ c =
    let split : c.args.sides.now ≡ c.in-Some.side.now ∷ c.in-Some.rest.now = search rules in
    let key = tree c.args.key.now in
    let held : AllByRecursion HoldsRows (c.in-Some.side.now ∷ c.in-Some.rest.now) = subst (AllByRecursion HoldsRows) split c.requires.rows in
    let rest = product (map (λ s. matches_in s key) c.in-Some.rest.now) in
    let parts = c.coded_matches-part-items.result.now in
    let front = c.args.front.now.items in
    let here = slice_get_read parts (length parts) c.loop-part.part-index c.part-item.result refl c.loop-part-test.true c.part-item.is in
    let more : c.add_bytes.new.front.items ≡ front ++ c.part-item.result.items = c.in_ok-add_bytes.ensures ∙ (λ i. c.loop-part.invariant.0 i ++ c.as_slice.ensures.value i) in
    let size : length c.as_slice-size.result.now ≡ length front = ap length c.as_slice-size.ensures.value in
    let longer : c.add_partners.new.front.items ≡ front ++ c.part-item.result.items = c.in_ok-add_partners.ensures.front ∙ more in
    let back : take (length c.as_slice-size.result.now) c.add_partners.new.front.items ≡ front = (λ i. take (size i) (longer i)) ∙ take-append_seam front c.part-item.result.items in (
      c.truncate.ensures.items ∙ back,
      c.add_partners.ensures.none_begun,
      λ first row is h. subst (λ s. c.add_partners.new.built.rows ++ behind row (joined (drop (c.loop-part.part-index + 1) (matches_in s key)) rest) ≡ c.args.built.now.rows ++ partners c.args.sides.now key row)
          (same_side c.args.sides.now c.in-Some.side.now first c.in-Some.rest.now split is)
          (one_match (λ r. r.items) parts (matches_in c.in-Some.side.now key) c.coded_matches-part-items.ensures (matched key (holds_null key) refl c.in-Some.side.now held.0) c.loop-part.part-index
          c.part-item.result here front c.add_bytes.new.front.items more c.loop-part.built c.add_partners.new.built row rest _ h c.in_ok-add_partners.ensures.rows
          (c.loop-part.invariant.2 c.in-Some.side.now row split h)),
    )

pub loop-part-init : goal.loop-part-init
loop-part-init _ c = (refl, c.requires.none_begun, λ first row is h. ap (λ ss. c.args.built.now.rows ++ partners ss (tree c.args.key.now) row) (sym is))

pub returns-clause-rows : goal.returns-clause-rows
returns-clause-rows _ c row h =
    let split : c.args.sides.now ≡ c.in-Some.side.now ∷ c.in-Some.rest.now = search rules in
    let key = tree c.args.key.now in
    let parts = c.coded_matches-part-items.result.now in
    let past : length parts ≤ c.loop-part.part-index = search rules in
    all_matched (λ r. r.items) parts (matches_in c.in-Some.side.now key) c.coded_matches-part-items.ensures c.loop-part.part-index past c.loop-part.built c.args.built.now row
    (product (map (λ s. matches_in s key) c.in-Some.rest.now)) (partners c.args.sides.now key row) c.loop-part.invariant.1 (c.loop-part.invariant.2 c.in-Some.side.now row split h)
