use Rattle.std.proofs.Common.{◌≡◌, ℕ, List, [], ◌∷◌, replicate, rules, sym, refl, subst}
use Rattle.pig_board.specs.View.{fresh}
use Rattle.pig_board.specs.Rule.{IsBoard}
use Rattle.pig_board.specs.Words.{words_for}
use Rattle.pig_board.proofs.Opening.{opened}
use Rattle.pig_board.proofs.board.Board.open.Goals as goal

pub of_words-requires : goal.of_words-requires
of_words-requires c =
    let zeros : c.as_slice.result.now ≡ replicate (words_for c.args.tasks) 0 = search rules in
    subst (λ (ws : List ℕ). IsBoard c.args.tasks ws (fresh ∷ [])) (sym zeros) (opened c.args.tasks (words_for c.args.tasks) refl)
