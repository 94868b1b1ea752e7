use Rattle.std.proofs.Common.{◌≡◌, ◌∙◌, ◌+◌, ◌-◌, ap, length, take, drop, refl, arith}
use Rattle.std.proofs.lemmas.List.{length-drop}
use Rattle.pig_stream.specs.Ranges.{lf_in}
use Rattle.pig_stream.proofs.Handed.{rest_is, sought}
use Rattle.pig_stream.proofs.window.Window.find.Goals as goal

pub invariant_of-self : goal.invariant_of-self
invariant_of-self c =
    let bytes = c.self.inside.bytes.items in
    let clean = c.self.inside.clean in
    let begin = c.self.inside.begin in
    let n = c.place_of_lf.result in
    let seen = c.deref.result.now in
    let rest = rest_is bytes seen clean c.deref.ensures.value in
    let found = sought bytes (take (length seen - clean) (drop clean seen)) begin clean n (clean + n) rest c.self.invariant.0 c.self.invariant.2 c.place_of_lf.ensures.is refl in
    let size : length (take (length seen - clean) (drop clean seen)) ≡ length bytes - clean = ap length rest ∙ length-drop clean bytes in
    let low = c.self.invariant.0 in
    let high = c.self.invariant.1 in
    let within = c.place_of_lf.ensures.within in
    (omega (arith, low), omega (arith, high, size, within), omega (arith, found), c.self.invariant.3)

pub returns-clause-is : goal.returns-clause-is
returns-clause-is c =
    let bytes = c.self.inside.bytes.items in
    let clean = c.self.inside.clean in
    let begin = c.self.inside.begin in
    let n = c.place_of_lf.result in
    let seen = c.deref.result.now in
    let rest = rest_is bytes seen clean c.deref.ensures.value in
    let found = sought bytes (take (length seen - clean) (drop clean seen)) begin clean n (clean + n) rest c.self.invariant.0 c.self.invariant.2 c.place_of_lf.ensures.is refl in
    let place : clean + n - begin ≡ lf_in (drop begin bytes) = omega (arith, found) in
    place ∙ ap (λ r. lf_in r.held) c.self.view_is
