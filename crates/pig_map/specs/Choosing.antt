-- The fields that a path chooses of its source's rows.
use Rattle.std.specs.Prelude.{◌≡◌, ℕ, List, [], ◌∷◌, map, Option}
use Rattle.std.specs.Borrow.{Bor}
use Rattle.pig_value.specs.declared.inputs.Input.{Input}
use Rattle.pig_value.specs.Trees.{Tree, at}
use Rattle.pig_keycode.specs.Keys.{fields_at}
use Rattle.pig_typed.specs.Blocks.{item_lists}
use Rattle.pig_typed.specs.Typed.{TypedItem}
use Rattle.pig_plan.specs.Asserts.{not_met, not_met_at, unmet_on}
use Rattle.pig_plan.specs.Plans.{Plan, PlanOp}
use Rattle.pig_plan.specs.Steps.{Folding, node_step, step_rows, through}
use Rattle.pig_packed_text.specs.SeenTexts.{placed}
use Rattle.pig_physical.specs.Combining.{folds}
use Rattle.pig_physical.specs.Outs.{Outs}
use Rattle.pig_physical.specs.Stages.{MapTask, Stages}
use Rattle.pig_map.specs.Making.{AreFrom}
use Rattle.pig_map.specs.declared.choosing.Chosen.{Chosen}
use Rattle.pig_map.specs.declared.choosing.Chosen.TheVariants as chosen

-- rows, or their fields at places
abbrev pub chosen_rows : Chosen → List (List Tree) → List (List Tree)
chosen_rows chosen.All rows = rows
chosen_rows (chosen.At places) rows = map (fields_at places.items) rows

-- the same as a slice of places has it
abbrev pub PlacesAre : Chosen → Option (Bor (List ℕ)) → Type 0
PlacesAre c places = (rows : List (List Tree)) → placed places rows ≡ chosen_rows c rows

-- an item is the field at a place
abbrev pub PlaceIs : ℕ → TypedItem → Type 0
PlaceIs place item = (row locals : List Tree) → item_lists item row locals ≡ (at place row ∷ []) ∷ []

-- an operator makes of what is chosen what is chosen next, and is no ASSERT
pub record ChoosesBy (folding : Folding) (o : PlanOp) (before next : Chosen) : Type 0 where
  pub rows : (rows : List (List Tree)) → step_rows folding o (chosen_rows before rows) ≡ chosen_rows next rows
  pub asserts : (statement : ℕ) (rows : List (List Tree)) → not_met statement o rows ≡ []

-- so does a node
pub record ChoosesAt (folding : Folding) (plan : Plan) (k : ℕ) (before next : Chosen) : Type 0 where
  pub rows : (rows : List (List Tree)) → node_step folding plan k (chosen_rows before rows) ≡ chosen_rows next rows
  pub asserts : (rows : List (List Tree)) → not_met_at plan k rows ≡ []

-- a path makes of rows what is chosen of them, and has no ASSERT
pub record Chooses (folding : Folding) (plan : Plan) (path : List ℕ) (c : Chosen) : Type 0 where
  pub rows : (rows : List (List Tree)) → through folding plan path rows ≡ chosen_rows c rows
  pub asserts : (rows : List (List Tree)) → unmet_on folding plan path rows ≡ []

-- the rows of a task's part, of no lines; its path only chooses of them, and has no ASSERT
pub record AreLent (s : Stages) (told : Option (List Input)) (outs : Outs) (t : MapTask) (rows : List (List Tree)) (c : Chosen) : Type 0 where
  pub from : AreFrom s told outs t.way.path.source t.part rows 0
  pub chosen : through (folds s.plan) s.plan t.way.path.nodes rows ≡ chosen_rows c rows
  pub asserts : unmet_on (folds s.plan) s.plan t.way.path.nodes rows ≡ []
