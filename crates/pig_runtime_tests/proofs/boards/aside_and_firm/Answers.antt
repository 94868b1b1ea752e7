use Rattle.pig_runtime_tests.proofs.boards.aside_and_firm.Goals as goal

pub split-other-requires : goal.split-other-requires
split-other-requires g c = c.firm.ensures.board c.expect-board.result.0 c.fail-3.ensures.board
