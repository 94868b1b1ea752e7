-- What is left of a node's rows once columns are cut: all fields, or some of them in their order. A field is left whole, but for a bag of
-- rows that are cut themselves, as a GROUP makes of cut rows: it has the rows of a lower node, and they are cut as those of that node.
use Rattle.std.specs.Prelude.{ℕ, ◌==◌, Bool, true, false, List, map, Option, Some, None}
use Rattle.std.specs.List.{find, position_or_len}
use Rattle.std.specs.Option.{option_map, option_map_or}
use Rattle.pig_value.specs.Functions.{bag_tree}
use Rattle.pig_value.specs.Orders.{bag_of}
use Rattle.pig_value.specs.Trees.{Tree, at, v_bag, v_listed, tuples_list, tuples_of}
use Rattle.pig_plan.specs.Results.{at_place, result_at}
use Rattle.pig_cuts.specs.declared.kept.KeptField.{KeptField}

-- none where all fields are left as they are
abbrev pub NodeCut : Type 0
NodeCut = Option (List KeptField)

-- the cut of the node numbered k
abbrev pub cut_at : List NodeCut → ℕ → NodeCut
cut_at = at_place None

-- ---- rows

-- a bag whose rows are cut; what is no bag stays
abbrev pub cut_bag : (List Tree → List Tree) → Tree → Tree
cut_bag cut (v_bag rows) = bag_tree (map cut (tuples_list rows))
cut_bag cut (v_listed rows) = v_listed (tuples_of (map cut (tuples_list rows)))
cut_bag cut v = v

-- a field, where the rows of each node are cut so
abbrev pub cut_field : (ℕ → List Tree → List Tree) → Option ℕ → Tree → Tree
cut_field cutter None v = v
cut_field cutter (Some n) v = cut_bag (cutter n) v

abbrev pub cut_row : (ℕ → List Tree → List Tree) → NodeCut → List Tree → List Tree
cut_row cutter None row = row
cut_row cutter (Some kept) row = map (λ f. cut_field cutter f.like (at f.position row)) kept

-- how the rows of each node are cut
abbrev pub cutters : List NodeCut → ℕ → List Tree → List Tree
cutters = result_at (λ k own cutter. cut_row cutter own) (λ row. row)

-- what is left of the rows of the node numbered k, as a bag where they are cut
abbrev pub cut_rows : List NodeCut → ℕ → List (List Tree) → List (List Tree)
cut_rows cuts k rows = option_map_or (λ kept. bag_of (map (cutters cuts k) rows)) (cut_at cuts k) rows

-- ---- positions

-- How a field is left: not at all, whole, or as a bag of rows that are cut as those of a node.
abbrev pub Left : Type 0
Left = Option (Option ℕ)

abbrev pub left_of : NodeCut → ℕ → Left
left_of None n = Some None
left_of (Some kept) n = option_map (λ f. f.like) (find (λ f. f.position == n) kept)

abbrev pub is_whole : Left → Bool
is_whole (Some None) = true
is_whole left = false

-- the position of a field among those that are left
abbrev pub place_of : NodeCut → ℕ → ℕ
place_of None n = n
place_of (Some kept) n = position_or_len (λ f. f.position == n) kept
