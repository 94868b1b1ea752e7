use Rattle.pig_builtins.proofs.Characters.{ends_text}
use Rattle.pig_builtins.proofs.texts.ends.Goals as goal

pub returns : goal.returns
returns c =
    ends_text c.args.text.now c.args.end.now c.ends_with_str.result c.utf8.text c.utf8.end
    (rw (c.as_bytes.ensures.value, c.as_bytes-2.ensures.value) at c.ends_with_str.ensures)
