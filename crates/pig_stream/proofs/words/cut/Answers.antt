use Rattle.std.proofs.Common.{◌∙◌, sym, ◌∷◌, arith}
use Rattle.pig_stream.specs.WordRows.{pieces}
use Rattle.pig_stream.proofs.WordLaws.{cut_there, edge_after, edge_before, front_is, uncut}
use Rattle.pig_stream.proofs.words.cut.Goals as goal

pub returns-then-end-text-clause-split : goal.returns-then-end-text-clause-split
returns-then-end-text-clause-split c =
    let is = rw c.as_bytes.ensures.value at c.piece_end-end.ensures.is in
    let whole = c.if-end-text.true in
    uncut c.args.text.now (omega (arith, is, whole))

pub range-requires-clause-end_boundary : goal.range-requires-clause-end_boundary
range-requires-clause-end_boundary c =
    let is = rw c.as_bytes.ensures.value at c.piece_end-end.ensures.is in
    let most = rw c.as_bytes.ensures.value at c.piece_end-end.ensures.within in
    let part = c.if-end-text.false in
    edge_before c.args.text.now c.piece_end-end.result is (omega (arith, most, part))

pub range_from-requires : goal.range_from-requires
range_from-requires c =
    let is = rw c.as_bytes.ensures.value at c.piece_end-end.ensures.is in
    let most = rw c.as_bytes.ensures.value at c.piece_end-end.ensures.within in
    let part = c.if-end-text.false in
    λ _. edge_after c.args.text.now c.piece_end-end.result is (omega (arith, most, part)) c.utf8.text

pub returns-clause-split : goal.returns-clause-split
returns-clause-split c =
    let is = rw c.as_bytes.ensures.value at c.piece_end-end.ensures.is in
    let most = rw c.as_bytes.ensures.value at c.piece_end-end.ensures.within in
    let part = c.if-end-text.false in
    cut_there c.args.text.now c.piece_end-end.result is (omega (arith, most, part))
    ∙ (λ i. sym (c.range.ensures.value ∙ front_is c.args.text.now c.piece_end-end.result) i ∷ pieces (sym c.range_from.ensures.value i))
