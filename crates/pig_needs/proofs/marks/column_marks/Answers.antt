use Rattle.std.proofs.Common.{rules, ◌≡◌, ◌++◌, ◌∷◌, [], ◌∙◌, ap, sym, arith}
use Rattle.std.proofs.lemmas.List.FromFn.{map-range_with_len_more}
use Rattle.pig_needs.specs.Needed.{is_named}
use Rattle.pig_needs.proofs.marks.column_marks.Goals as goal

pub loop-position-preserved : goal.loop-position-preserved
loop-position-preserved c =
    let n = c.loop-position.position in
    let is : c.push.new.self ≡ c.loop-position.marks ++ is_named c.args.need.now c.loop-position.position ∷ [] = search rules in
    is ∙ ap (λ xs. xs ++ is_named c.args.need.now n ∷ []) c.loop-position.invariant ∙ sym (map-range_with_len_more (is_named c.args.need.now) 0 n n (omega arith))
