-- UNION: a FOREACH for each input that widens, in turn and directly before it, and the union of what these give with the other inputs.
-- (Pig Latin Basics: "UNION". That columns of int and long are brought together by casts is a choice of this profile.)
use Rattle.std.specs.Prelude.{◌++◌, ◌+◌, ℕ, Bool, List, [], ◌∷◌, length, Option, Some, None}
use Rattle.std.specs.List.{flat_map}
use Rattle.std.specs.declared.result.Result.TheVariants.{Ok}
use Rattle.pig_typed.specs.Typed.{TypedBlock}
use Rattle.pig_plan.specs.Plans.{PlanOp, p_foreach, p_union}
use Rattle.pig_typing.specs.Results.{Checked, ◌>>=◌}
use Rattle.pig_relations.specs.Unions.{TypedUnion, UnionInput, union_of}
use Rattle.pig_check.specs.States.{Added, State}

abbrev pub widening_ops : ℕ → Option TypedBlock → List PlanOp
widening_ops node None = []
widening_ops node (Some block) = p_foreach node block ∷ []

-- the nodes that stand before a UNION
abbrev pub widenings : List UnionInput → List PlanOp
widenings = flat_map (λ i. widening_ops i.node i.widening)

-- the number of the input itself, or of its FOREACH, which is the next node
abbrev pub input_number : ℕ → ℕ → Option TypedBlock → ℕ
input_number next node None = node
input_number next node (Some block) = next

abbrev pub next_behind : ℕ → Option TypedBlock → ℕ
next_behind next None = next
next_behind next (Some block) = next + 1

abbrev pub input_numbers : ℕ → List UnionInput → List ℕ
input_numbers next [] = []
input_numbers next (i ∷ is) = input_number next i.node i.widening ∷ input_numbers (next_behind next i.widening) is

-- what UNION adds behind so many nodes
abbrev pub united : ℕ → List ℕ → TypedUnion → Added
united n alias t = record {
  ops = widenings t.inputs ++ p_union (input_numbers n t.inputs) ∷ [];
  given = (alias, record { node = n + length (widenings t.inputs); columns = t.columns }) ∷ [];
}

-- ---- the same as a function

unfoldable pub union_at : State → List ℕ → Bool → List (List ℕ) → Checked Added
union_at s alias onschema names = do
  t ← union_of s.aliases onschema names
  Ok (united (length s.nodes) alias t)
