use Rattle.std.proofs.Common.{sym}
use Rattle.std.specs.Slots.{slots_items}
use Rattle.pig_board.proofs.Ends.{word_is}
use Rattle.pig_board.proofs.calls.word_at.Goals as goal

pub returns : goal.returns
returns c = sym (word_is (slots_items c.args.closed.now.words) c.args.i c.word.result c.word.ensures)
