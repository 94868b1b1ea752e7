use Rattle.std.proofs.Common.{◌≡◌, ℕ, ◌<◌, List, subst, arith}
use Rattle.std.specs.Slots.{slots_items}
use Rattle.pig_board.specs.Rule.{IsBoard}
use Rattle.pig_board.specs.End.{end_of, end_in}
use Rattle.pig_board.proofs.Ends.{are_small, closed_end}
use Rattle.pig_board.proofs.board.Board.close.Goals as goal

pub end_at-requires-clause-small : goal.end_at-requires-clause-small
end_at-requires-clause-small c =
    let final = c.close_with-closed.ensures.values.2 in
    let n = c.args.self.table.shared.key in
    let words = slots_items c.close_with-closed.result.words in
    let counted = c.args.self.counted in
    let board : IsBoard n words final.0.views = subst (λ (ws : List ℕ). IsBoard n ws final.0.views) final.2 final.1.0 in
    are_small n words final.0.views c.loop-t.t board (omega arith)

pub returns-clause-ends : goal.returns-clause-ends
returns-clause-ends c =
    let final = c.close_with-closed.ensures.values.2 in
    let n = c.args.self.table.shared.key in
    let words = slots_items c.close_with-closed.result.words in
    let counted = c.args.self.counted in
    let board : IsBoard n words final.0.views = subst (λ (ws : List ℕ). IsBoard n ws final.0.views) final.2 final.1.0 in
    let each : (k : ℕ) → k < n → end_of c.loop-t.ends.items k ≡ end_in words k = λ k l. c.loop-t.invariant.each k (omega arith) in
    closed_end n words final.0.views c.args.pass.seat.id c.args.pass.seat.me.0 c.loop-t.ends.items board final.1.1 c.requires.alone (omega arith) each
