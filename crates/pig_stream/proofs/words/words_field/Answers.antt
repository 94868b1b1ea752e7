use Rattle.std.proofs.Common.{rules, ◌≡◌, ◌∙◌, sym, arith, []}
use Rattle.pig_stream.proofs.WordLaws.{makes_words, only_item}
use Rattle.pig_stream.proofs.words.words_field.Goals as goal

pub returns-in_ok-field-in-len1 : goal.returns-in_ok-field-in-len1
returns-in_ok-field-in-len1 c =
    let none : c.args.block.now.steps ≡ [] = search rules in
    let low = c.in-len1.len_at_least in
    let high = c.in-len1.len_below in
    let one = only_item c.as_slice.result.now c.item-item.result (omega (arith, low, high)) c.item-item.is in
    makes_words c.args.block.now c.item-item.result c.in_ok-field-in-len1.field none (sym c.as_slice.ensures ∙ one) c.in_ok-field-in-len1.ensures
