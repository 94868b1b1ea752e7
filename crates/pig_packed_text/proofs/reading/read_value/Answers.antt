use Rattle.std.proofs.Common.{rules}
use Rattle.pig_value.specs.Trees.{tree}
use Rattle.pig_value.specs.Valid.{IsValue}
use Rattle.pig_keycode.specs.Codes.{code}
use Rattle.pig_keycode.specs.Reading.{StandsFirst}
use Rattle.pig_packed_text.proofs.Front.{read_tells}
use Rattle.pig_packed_text.proofs.reading.read_value.Goals as goal

pub returns-in-Some-clause-text : goal.returns-in-Some-clause-text
returns-in-Some-clause-text c =
    let first : StandsFirst code IsValue c.args.code.now (tree c.in-Some.value) c.in-Some.rest.now = search rules in
    read_tells c.args.code.now (tree c.in-Some.value) c.in-Some.rest.now first
