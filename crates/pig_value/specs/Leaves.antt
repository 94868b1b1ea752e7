-- What is asked of the texts, the byte strings and the keys in a value.
use Rattle.std.specs.Prelude.{◌<◌, ⊤, ℕ, List}
use Rattle.std.specs.List.{AllByRecursion}
use Rattle.std.specs.Str.{IsUtf8}
use Rattle.pig_value.specs.Trees.{Tree, Fields, Tuples, Entries, v_chars, v_bytes, v_tuple, v_bag, v_listed, v_map, no_fields, more_fields, no_tuples, more_tuples, no_entries, more_entries}

-- what is asked of a chararray, of a bytearray and of the key of a map, and of bags with an order of their own
pub record Leaf : Type 1 where
  pub chars : List ℕ → Type 0
  pub bytes : List ℕ → Type 0
  pub key : List ℕ → Type 0
  pub listed : Type 0

-- all that a value holds is as asked
abbrev mutual
  pub LeavesAre : Leaf → Tree → Type 0
  LeavesAre leaf (v_chars text) = leaf.chars text
  LeavesAre leaf (v_bytes bytes) = leaf.bytes bytes
  LeavesAre leaf (v_tuple vs) = FieldLeavesAre leaf vs
  LeavesAre leaf (v_bag rs) = TupleLeavesAre leaf rs
  LeavesAre leaf (v_listed rs) = leaf.listed × TupleLeavesAre leaf rs
  LeavesAre leaf (v_map ps) = EntryLeavesAre leaf ps
  LeavesAre leaf _ = ⊤

  pub FieldLeavesAre : Leaf → Fields → Type 0
  FieldLeavesAre leaf no_fields = ⊤
  FieldLeavesAre leaf (more_fields v vs) = LeavesAre leaf v × FieldLeavesAre leaf vs

  pub TupleLeavesAre : Leaf → Tuples → Type 0
  TupleLeavesAre leaf no_tuples = ⊤
  TupleLeavesAre leaf (more_tuples r rs) = FieldLeavesAre leaf r × TupleLeavesAre leaf rs

  pub EntryLeavesAre : Leaf → Entries → Type 0
  EntryLeavesAre leaf no_entries = ⊤
  EntryLeavesAre leaf (more_entries key v ps) = leaf.key key × LeavesAre leaf v × EntryLeavesAre leaf ps

-- each number is that of a byte
abbrev pub AreBytes : List ℕ → Type 0
AreBytes = AllByRecursion (λ b. b < 256)

-- chararrays and keys are UTF-8, and bytearrays are of bytes
abbrev pub well_formed : Leaf
well_formed = record { chars = IsUtf8; bytes = AreBytes; key = IsUtf8; listed = ⊤ }
