use Rattle.pig_replicated.proofs.Coded.{code_added}
use Rattle.pig_replicated.proofs.coding.add_code.Goals as goal

pub returns-then-added : goal.returns-then-added
returns-then-added c = code_added (λ k. k.items) c.args.codes.now.keys _ c.args.bytes _ _ c.in_ok-added.ensures.added c.if-added.true c.in_ok-added.ensures.keys
