use Rattle.std.proofs.Common.{rules, ◌≡◌, ◌++◌, ◌∷◌, [], ◌∙◌, ap, sym, arith}
use Rattle.std.proofs.lemmas.List.FromFn.{map-range_with_len_more}
use Rattle.pig_needs.specs.Needed.{field}
use Rattle.pig_needs.proofs.uses.all_fields.Goals as goal

pub loop-position-preserved : goal.loop-position-preserved
loop-position-preserved c =
    let n = c.loop-position.position in
    let is : c.push.new.self ≡ c.loop-position.found ++ field c.loop-position.position ∷ [] = search rules in
    is ∙ ap (λ xs. xs ++ field n ∷ []) c.loop-position.invariant ∙ sym (map-range_with_len_more field 0 n n (omega arith))
