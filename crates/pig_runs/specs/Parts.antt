-- In which of several parts the entries of a key stand.
use Rattle.std.specs.Prelude.{◌%◌, ℕ}
use Rattle.pig_value.specs.Trees.{Tree}
use Rattle.pig_value.specs.Texts.{text_of}
use Rattle.pig_text.specs.Hash.{hash_of}

-- the part of a key, by the bytes of its text, each of which takes the hash h so far to 31 * h + byte
abbrev pub pn : Tree → ℕ → ℕ
pn key n = hash_of (text_of key) % n
