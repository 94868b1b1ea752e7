use Rattle.pig_builtins.proofs.Characters.{starts_text}
use Rattle.pig_builtins.proofs.texts.begins.Goals as goal

pub returns : goal.returns
returns c =
    starts_text c.args.text.now c.args.front.now c.starts_with_str.result c.utf8.text c.utf8.front
    (rw (c.as_bytes.ensures.value, c.as_bytes-2.ensures.value) at c.starts_with_str.ensures)
