use Rattle.std.proofs.Common.{◌≡◌, [], ◌∷◌, ◌++◌, ◌∙◌, ap, map, rules}
use Rattle.std.proofs.lemmas.List.{map-append}
use Rattle.pig_packed_text.specs.SeenTexts.{seen_text}
use Rattle.pig_packed_text.proofs.Rows.{begun, one_read}
use Rattle.pig_packed_text.proofs.reading.read_fields.Goals as goal

pub loop-item-init : goal.loop-item-init
loop-item-init c = begun c.args.code.now c.behind_tag-rest.result.now (map seen_text c.clear.new.self.items) c.behind_tag-rest.ensures (ap (map seen_text) c.clear.ensures.items)

pub loop-item-preserved : goal.loop-item-preserved
loop-item-preserved c =
    let field = c.in_ok-field-in-Some.field in
    let olds = c.loop-item.fields.items in
    let pushed : c.push.new.self.items ≡ olds ++ field ∷ [] = search rules in
    let marked : c.loop-item.rest.now ≡ 1 ∷ c.in-Some.item.now = search rules in
    λ row is.
    one_read row (map seen_text olds) (map seen_text c.push.new.self.items) c.loop-item.rest.now c.in-Some.item.now (seen_text field) c.in_ok-field-in-Some.left.now marked
    (ap (map seen_text) pushed ∙ map-append seen_text olds (field ∷ [])) (c.loop-item.invariant row is) c.in_ok-field-in-Some.ensures.text
