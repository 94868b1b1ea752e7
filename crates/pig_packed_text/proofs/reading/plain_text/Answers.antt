use Rattle.std.proofs.Common.{◌≡◌, ◌∷◌, ◌++◌, rules}
use Rattle.pig_keycode.specs.Reading.{HasNoZero}
use Rattle.pig_packed_text.proofs.Front.{plain_front}
use Rattle.pig_packed_text.proofs.reading.plain_text.Goals as goal

pub returns : goal.returns
returns c =
    let is : c.args.content.now ≡ c.in_ok-text.text.now ++ 0 ∷ c.in_ok-text.marked.now = search rules in
    let plain : HasNoZero c.in_ok-text.text.now = search rules in
    let mark : c.in_ok-text.marked.now ≡ 0 ∷ c.in_ok-rest.rest.now = search rules in
    plain_front c.args.content.now c.in_ok-text.text.now c.in_ok-text.marked.now c.in_ok-rest.rest.now is mark plain
