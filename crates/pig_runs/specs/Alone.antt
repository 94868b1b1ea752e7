-- Keys that stand alone: each once, in an entry whose row is the key and nothing else.
use Rattle.std.specs.Prelude.{◌≡◌, ◌+◌, ℕ, List, [], ◌∷◌, ◌++◌, map, drop}
use Rattle.pig_value.specs.Gathering.{Entry}
use Rattle.pig_value.specs.Orders.{tree_cmp}
use Rattle.pig_value.specs.Sorts.{distinct}
use Rattle.pig_value.specs.Trees.{Tree}
use Rattle.pig_value.specs.Valid.{IsValue}
use Rattle.pig_keycode.specs.Codes.{code}
use Rattle.pig_runs.specs.Entries.{InDirections}

-- the entry of a key alone
abbrev pub alone : Tree → Entry
alone key = record { key = key; input = 0; row = key ∷ [] }

-- the entries of keys, each once and in order
abbrev pub alone_once : List Tree → List Entry
alone_once keys = map alone (distinct tree_cmp keys)

-- the same keys, however often each
abbrev pub SameKeys : List Tree → List Tree → Type 0
SameKeys keys others = distinct tree_cmp keys ≡ distinct tree_cmp others

abbrev pub keys_in : List Entry → List Tree
keys_in entries = map (λ e. e.key) entries

-- the entry as which a key is kept before that
abbrev pub bare : Tree → Entry
bare key = record { key = key; input = 0; row = [] }

-- the bytes are the code of this key
pub record IsKeyCode (bytes : List ℕ) (key : Tree) : Type 0 where
  pub is : code key ≡ bytes
  pub value : IsValue key

-- some keys that go on with those of the entries from a place on, each of these once
abbrev pub with_those_from : ℕ → List Entry → InDirections → List Entry
with_those_from at entries found = found.entries ++ alone_once (keys_in (drop at entries))

-- nothing was added but the key at a place, unless it stands at the next one too
pub record TookKey (at : ℕ) (entries : List Entry) (old new : InDirections) : Type 0 where
  pub dirs : new.dirs ≡ old.dirs
  pub keys : with_those_from (at + 1) entries new ≡ with_those_from at entries old
