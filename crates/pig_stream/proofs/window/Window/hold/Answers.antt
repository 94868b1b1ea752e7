use Rattle.std.proofs.Common.{◌≡◌, ◌∙◌, ap, false}
use Rattle.pig_stream.proofs.Handed.{holds_still}
use Rattle.pig_stream.proofs.window.Window.hold.Goals as goal

pub invariant_of-self-2 : goal.invariant_of-self-2
invariant_of-self-2 c =
    let inside = c.self.inside in
    let told : inside.skips ≡ false = ap (λ r. r.skips) c.self.view_is ∙ ap (λ r. r.skips) c.move_front.ensures ∙ c.requires in
    holds_still inside.bytes.items c.args.block.now c.extend_from_slice.new.self.items inside.begin inside.clean inside.skips
    c.in_ok-extend_from_slice.ensures.items told c.self.invariant.0 c.self.invariant.1 c.self.invariant.2
