use Rattle.std.proofs.Common.{rules, ◌≡◌, ◌∙◌, ◌++◌, [], ◌∷◌, map, sym, ap}
use Rattle.std.proofs.lemmas.List.{map-append}
use Rattle.pig_value.specs.Trees.{kind_tree}
use Rattle.pig_typed.specs.Typed.{typed}
use Rattle.pig_typing.specs.Views.{typed_tree}
use Rattle.pig_relations.specs.Keyed.{cast_first, cast_keys, rest_of}
use Rattle.pig_relations.proofs.CastKeys.{cast_more, left_after, left_more}
use Rattle.pig_relations.proofs.keyed.cast_keys.Goals as goal

pub loop-key-preserved : goal.loop-key-preserved
loop-key-preserved c =
    let keys = c.loop-key.yielded in
    let key = c.in-Some.key in
    let ks = map kind_tree c.args.kinds.now in
    let left = c.loop-key.invariant.1 in
    let grown : c.push.new.self ≡ c.loop-key.made ++ c.in_ok-cast_first.field-0 ∷ [] = search rules in
    let pushed : map typed c.push.new.self ≡ map typed c.loop-key.made ++ typed c.in_ok-cast_first.field-0 ∷ [] =
    ap (map typed) grown ∙ map-append typed c.loop-key.made (c.in_ok-cast_first.field-0 ∷ []) in
    let next : typed c.in_ok-cast_first.field-0 ≡ cast_first (typed_tree key) (map kind_tree c.loop-key.left.now) = search rules in
    let rest : map kind_tree c.rest_of-left.result.now ≡ rest_of (map kind_tree c.loop-key.left.now) = search rules in
    let at : typed c.in_ok-cast_first.field-0 ≡ cast_first (typed_tree key) (left_after keys ks) = next ∙ ap (cast_first (typed_tree key)) left in (
      pushed ∙ ap (λ made. made ++ typed c.in_ok-cast_first.field-0 ∷ []) c.loop-key.invariant.0 ∙ ap (λ t. cast_keys (map typed_tree keys) ks ++ t ∷ []) at
          ∙ sym (cast_more keys key ks),
      rest ∙ ap rest_of left ∙ sym (left_more keys key ks),
    )
