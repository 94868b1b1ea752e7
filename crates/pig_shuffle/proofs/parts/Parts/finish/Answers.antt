use Rattle.std.proofs.Common.{◌∙◌}
use Rattle.std.proofs.lemmas.Result.{IfOk-weaker}
use Rattle.pig_shuffle.specs.Held.{held_in}
use Rattle.pig_shuffle.proofs.Places.{is_empty, is_some}
use Rattle.pig_shuffle.proofs.Runs.{flushed_made, keys_made, sorted_made}
use Rattle.pig_shuffle.proofs.parts.Parts.finish.Goals as goal

pub returns-then-not-is_empty : goal.returns-then-not-is_empty
returns-then-not-is_empty c cuts sorting n entries h =
    let keys = c.args.self.keys in
    IfOk-weaker c.key_runs.result _ _
    (λ runs is. is ∙ keys_made cuts sorting n entries (held_in c.args.self) (is_some keys.items keys.len keys.ok.0 c.if-not-is_empty.ensures) h) c.key_runs.ensures

pub returns-then-is_empty : goal.returns-then-is_empty
returns-then-is_empty c cuts sorting n entries h =
    let keys = c.args.self.keys in
    let tables = c.args.self.tables in
    IfOk-weaker c.sorted_runs.result _ _
    (λ runs is. is
    ∙ sorted_made cuts sorting n entries (held_in c.args.self) (is_empty tables.items tables.len tables.ok.0 c.if-is_empty.ensures)
    (is_empty keys.items keys.len keys.ok.0 c.if-not-is_empty.ensures) h) c.sorted_runs.ensures

pub returns : goal.returns
returns c cuts sorting n entries h =
    let tables = c.args.self.tables in
    IfOk-weaker c.flushed_runs.result _ _
    (λ runs each. flushed_made cuts sorting n entries (held_in c.args.self) (is_some tables.items tables.len tables.ok.0 c.if-is_empty.ensures) h runs each)
    c.flushed_runs.ensures
