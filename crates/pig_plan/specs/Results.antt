-- What is said of each node by what was said of the nodes before it.
use Rattle.std.specs.Prelude.{ℕ, List, [], ◌∷◌, ◌++◌, length, slice_get}
use Rattle.std.specs.Option.{unwrap_or}

-- what stands at a place of a list, or nothing where none does
abbrev pub at_place : {R : Type 0} → R → List R → ℕ → R
at_place nothing found k = unwrap_or (slice_get found k) nothing

-- The results of nodes behind those that are found already: of each node what `step` gives of its number, the node and the results
-- before it.
abbrev pub results_behind : {N R : Type 0} → (ℕ → N → (ℕ → R) → R) → R → List R → List N → List R
results_behind step nothing found [] = found
results_behind step nothing found (node ∷ nodes) =
    results_behind step nothing (found ++ step (length found) node (at_place nothing found) ∷ []) nodes

-- the results of all nodes, and that of the node numbered k
abbrev pub results : {N R : Type 0} → (ℕ → N → (ℕ → R) → R) → R → List N → List R
results step nothing = results_behind step nothing []

abbrev pub result_at : {N R : Type 0} → (ℕ → N → (ℕ → R) → R) → R → List N → ℕ → R
result_at step nothing nodes = at_place nothing (results step nothing nodes)
