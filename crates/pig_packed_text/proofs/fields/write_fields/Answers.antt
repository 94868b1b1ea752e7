use Rattle.std.proofs.Common.{◌≡◌, ◌∷◌, ◌++◌, ℕ, List, ap, map, rules}
use Rattle.pig_packed_text.specs.SeenTexts.{seen_text}
use Rattle.pig_packed_text.proofs.Joined.{all_written, behind}
use Rattle.pig_packed_text.proofs.fields.write_fields.Goals as goal

pub returns : goal.returns
returns c =
    let first : List ℕ = seen_text c.in-Some.first.now in
    let more : List (List ℕ) = map seen_text c.in-Some.more.now in
    let whole : c.args.fields.now ≡ c.in-Some.first.now ∷ c.in-Some.more.now = search rules in
    let one : c.write_field.new.out.items ≡ c.args.out.now.items ++ first = search rules in
    let others : c.write_more.new.out.items ≡ c.write_field.new.out.items ++ behind c.args.delim more = search rules in
    all_written c.args.delim c.args.out.now.items c.write_field.new.out.items c.write_more.new.out.items first more (map seen_text c.args.fields.now) (ap (map seen_text) whole) one others
