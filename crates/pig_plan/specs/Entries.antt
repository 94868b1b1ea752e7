-- The operators that bring rows together, in one word: each row of each input is an entry under its key, and what an operator by key
-- gives is made of each distinct key and the bags of the rows that have it.
use Rattle.std.specs.Prelude.{ℕ, ◌+◌, Bool, true, false, List, [], ◌∷◌, ◌++◌, map, length, codes, Option, Some, None, slice_get}
use Rattle.std.specs.Option.{option_map_or}
use Rattle.pig_value.specs.declared.operators.Dir.{Dir}
use Rattle.pig_value.specs.declared.operators.Side.TheVariants as side
use Rattle.pig_value.specs.Gathering.{Entry}
use Rattle.pig_value.specs.Trees.{Tree, v_chars, v_null, v_tuple, fields_of}
use Rattle.pig_typed.specs.declared.blocks.SortKey.{SortKey}
use Rattle.pig_plan.specs.ByKey.{cogroup_of, entries_of_input, group_of, join_of, key_of, outer_of}
use Rattle.pig_plan.specs.Nodes.{inputs_of}
use Rattle.pig_plan.specs.Operators.{key_fields, keys_of}
use Rattle.pig_plan.specs.Plans.{Keyed, PlanOp, p_group_all, p_group, p_join, p_distinct, p_order, p_rank}

-- ---- keys

-- the key of a row of the input at a place
abbrev pub keyed_at : List Keyed → ℕ → List Tree → Tree
keyed_at inputs i row = option_map_or (λ input. key_of (keys_of input.keys row)) (slice_get inputs i) v_null

-- a row of an operator that sorts stands under its fields to sort by
abbrev pub sort_key_of : List SortKey → List Tree → Tree
sort_key_of keys row = v_tuple (fields_of (key_fields keys row))

-- the key under which an operator has a row of the input at a place
abbrev pub key_at : PlanOp → ℕ → List Tree → Tree
key_at (p_group_all input) i row = v_chars (codes "all")
key_at (p_group inputs) i row = keyed_at inputs i row
key_at (p_join inputs side replicated) i row = keyed_at inputs i row
key_at (p_distinct input) i row = v_tuple (fields_of row)
key_at (p_order input keys) i row = sort_key_of keys row
key_at (p_rank input keys dense) i row = sort_key_of keys row
key_at o i row = v_null

-- ---- entries

-- the entries of rows of the input at a place
abbrev pub entries_of : PlanOp → ℕ → List (List Tree) → List Entry
entries_of o i rows = entries_of_input (key_at o i) i rows

-- what is made of the rows of each input, where the first one's place is i, one behind the other
abbrev pub from_inputs : {X : Type 0} → (ℕ → List (List Tree) → List X) → ℕ → List ℕ → (ℕ → List (List Tree)) → List X
from_inputs make i [] rows = []
from_inputs make i (input ∷ inputs) rows = make i (rows input) ++ from_inputs make (i + 1) inputs rows

abbrev pub key_entries : PlanOp → (ℕ → List (List Tree)) → List Entry
key_entries o rows = from_inputs (entries_of o) 0 (inputs_of o) rows

-- ---- by key

abbrev pub is_by_key : PlanOp → Bool
is_by_key (p_group_all input) = true
is_by_key (p_group inputs) = true
is_by_key (p_join inputs side replicated) = true
is_by_key o = false

-- what an operator by key makes of a key and each input's bag of rows, where the nodes' rows are so many fields wide
abbrev pub made_by : (ℕ → ℕ) → PlanOp → Tree → (ℕ → List (List Tree)) → List (List Tree)
made_by width (p_group_all input) = group_of
made_by width (p_group (input ∷ [])) = group_of
made_by width (p_group inputs) = cogroup_of (map (λ input. input.inner) inputs) (length inputs)
made_by width (p_join inputs side.Inner replicated) = join_of (length inputs)
made_by width (p_join (a ∷ b ∷ inputs) s replicated) = outer_of s (width a.input) (width b.input)
made_by width o = λ key rows. []

-- ---- sorting

-- the fields that an operator sorts by
abbrev pub sort_keys : PlanOp → Option (List SortKey)
sort_keys (p_order input keys) = Some keys
sort_keys (p_rank input keys dense) = Some keys
sort_keys o = None

-- their directions, and the entry of a row to sort
abbrev pub dirs_of : List SortKey → List Dir
dirs_of keys = map (λ key. key.dir) keys

abbrev pub sort_entry : List SortKey → List Tree → Entry
sort_entry keys row = record { key = sort_key_of keys row; input = 0; row = row }
