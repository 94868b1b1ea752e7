use Rattle.std.proofs.Common.{◌≡◌, ◌<◌, ◌++◌, ◌∷◌, length, map, take, sym, ◌∙◌, ap, subst, arith}
use Rattle.std.proofs.Math.Seq.{take-append_seam}
use Rattle.std.specs.List.{AllByRecursion}
use Rattle.pig_value.proofs.list_laws.Indexing.{some_at}
use Rattle.pig_typed.specs.Products.{product}
use Rattle.pig_gather.specs.Fields.{IsBegun, inner_code}
use Rattle.pig_gather.specs.Spans.{IsSpan, rows_in}
use Rattle.pig_gather.proofs.Joins.{added_behind, begun_more, none_left, one_row_joined}
use Rattle.pig_gather.proofs.joining.+add_products.Goals as goal

pub add_front-requires-clause-front : goal.add_front-requires-clause-front
add_front-requires-clause-front t c = subst IsBegun (sym c.as_slice.ensures.value) c.requires.front

pub add_products-requires : goal.add_products-requires
add_products-requires t c =
    let run = c.args.entries.now in
    let spans : AllByRecursion (IsSpan run) (c.in-Some.part.now ∷ c.in-Some.rest.now) = subst (AllByRecursion (IsSpan run)) c.in-Some.ensures c.requires.parts in
    let high : c.loop-at.at < length run.entries = let test = c.loop-at-test.true in let within = spans.0.within in omega (arith, test, within) in
    let found = some_at run.entries c.loop-at.at high in
    let more = c.in_ok-add_inner.ensures found.0 found.1 ∙ ap (λ l. l ++ inner_code found.0.row) c.loop-at.invariant.0 in (
      (let step = ap length c.in-Some.ensures in let measure = c.decreases in omega (arith, step, measure)),
      (
        spans.1,
        (begun_more run c.len.ensures.values c.loop-at.at found.0 found.1 c.args.front.now.items c.add_inner.new.front.items more c.requires.front, c.loop-at.invariant.1),
      ),
    )

pub loop-at-preserved : goal.loop-at-preserved
loop-at-preserved t c =
    let run = c.args.entries.now in
    let rest = product (map (rows_in run) c.in-Some.rest.now) in
    let spans : AllByRecursion (IsSpan run) (c.in-Some.part.now ∷ c.in-Some.rest.now) = subst (AllByRecursion (IsSpan run)) c.in-Some.ensures c.requires.parts in
    let high : c.loop-at.at < length run.entries = let test = c.loop-at-test.true in let within = spans.0.within in omega (arith, test, within) in
    let found = some_at run.entries c.loop-at.at high in
    let more = c.in_ok-add_inner.ensures found.0 found.1 ∙ ap (λ l. l ++ inner_code found.0.row) c.loop-at.invariant.0 in
    let front = c.args.front.now.items in
    let size : length c.as_slice-size.result.now ≡ length front = ap length c.as_slice-size.ensures.value in
    let longer : c.add_products.new.front.items ≡ front ++ inner_code found.0.row = c.in_ok-add_products.ensures.front ∙ more in
    let back : take (length c.as_slice-size.result.now) c.add_products.new.front.items ≡ front = (λ i. take (size i) (longer i)) ∙ take-append_seam front (inner_code found.0.row) in
    let any = added_behind run c.len.ensures.values c.loop-at.at found.0 found.1 front c.add_inner.new.front.items more c.loop-at.built c.add_products.new.built rest in (
      c.truncate.ensures.items ∙ back,
      none_left run c.len.ensures.values c.loop-at.at found.0 found.1 front c.add_inner.new.front.items more c.loop-at.built c.add_products.new.built rest c.requires.front c.in_ok-add_products.ensures.rows,
      λ fields h. one_row_joined run c.loop-at.at c.in-Some.part.now.end found.0 c.loop-at.built c.add_products.new.built fields rest _ c.loop-at-test.true spans.0.within found.1
          (any fields h c.in_ok-add_products.ensures.rows) (c.loop-at.invariant.2 fields h),
    )
