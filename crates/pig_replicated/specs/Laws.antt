-- Replicated JOINs are JOINs.
use Rattle.std.specs.Prelude.{◌≡◌, ℕ, List, [], ◌∷◌, Some, None, if◌then◌else◌}
use Rattle.std.specs.List.{filter, flat_map}
use Rattle.std.specs.Ordering.{is_eq}
use Rattle.pig_value.specs.declared.operators.Side.TheVariants as side
use Rattle.pig_value.specs.Orders.{bag_of, tree_cmp}
use Rattle.pig_value.specs.Trees.{Tree}
use Rattle.pig_typed.specs.Typed.{Typed}
use Rattle.pig_plan.specs.ByKey.{holds_null}
use Rattle.pig_plan.specs.Operators.{join_rows}
use Rattle.pig_plan.specs.Plans.{Keyed}
use Rattle.pig_replicated.specs.Holding.{key_in, lookup_of, matches_in}
use Rattle.pig_replicated.specs.Joining.{probed, sides_of}

-- ---- lookups

-- of these rows those with a key, sorted; none where the key holds a null
abbrev pub rows_with : List Typed → List (List Tree) → Tree → List (List Tree)
rows_with keys rows key = if holds_null key then [] else bag_of (filter (λ row. is_eq (tree_cmp (key_in keys row) key)) rows)

-- what is found in the lookup of rows
abbrev pub LookupsFindRows : Type 0
LookupsFindRows = (keys : List Typed) (rows : List (List Tree)) (key : Tree) → matches_in (lookup_of keys rows) key ≡ rows_with keys rows key

-- a lookup depends on its rows only as a bag
abbrev pub LookupsSeeBags : Type 0
LookupsSeeBags = (keys : List Typed) (rows others : List (List Tree)) → bag_of rows ≡ bag_of others → lookup_of keys rows ≡ lookup_of keys others

-- ---- probes

-- lists that have the rows of an input, all together and in any order
abbrev pub AreCutFrom : List (List Tree) → List (List (List Tree)) → Type 0
AreCutFrom rows pieces = bag_of (flat_map (λ piece. piece) pieces) ≡ bag_of rows

-- Of two or more inputs, the first cut into any lists: what the probes of all lists give is the inner JOIN of the whole.
abbrev pub ProbesGiveInnerJoins : Type 0
ProbesGiveInnerJoins = (first second : Keyed) (others : List Keyed) (width : ℕ → ℕ) (rows : ℕ → List (List Tree)) (pieces : List (List (List Tree)))
    → AreCutFrom (rows first.input) pieces
    → bag_of (flat_map (probed (sides_of (second ∷ others) rows) None first.keys) pieces)
    ≡ bag_of (join_rows side.Inner width (first ∷ second ∷ others) rows)

-- Of two inputs, where rows without a match stand with nulls for the second: the LEFT JOIN.
abbrev pub ProbesGiveLeftJoins : Type 0
ProbesGiveLeftJoins = (first second : Keyed) (width : ℕ → ℕ) (rows : ℕ → List (List Tree)) (pieces : List (List (List Tree)))
    → AreCutFrom (rows first.input) pieces
    → bag_of (flat_map (probed (sides_of (second ∷ []) rows) (Some (width second.input)) first.keys) pieces)
    ≡ bag_of (join_rows side.Left width (first ∷ second ∷ []) rows)
