-- When stored bytes are the lines of rows, and when rows and bytes are what a node means.
use Rattle.std.specs.Prelude.{◌≡◌, ℕ, List, map, true}
use Rattle.std.specs.List.Sorted.{IsPermutation}
use Rattle.pig_value.specs.declared.inputs.Input.{Input}
use Rattle.pig_value.specs.declared.outcomes.Kept.{Kept}
use Rattle.pig_value.specs.Lines.{stored_lines}
use Rattle.pig_value.specs.Orders.{bag_of}
use Rattle.pig_value.specs.Texts.{row_text}
use Rattle.pig_value.specs.Trees.{Tree}
use Rattle.pig_plan.specs.Meaning.{meaning}
use Rattle.pig_plan.specs.Nodes.{is_list}
use Rattle.pig_plan.specs.Plans.{Plan}

-- the lines of the bytes are the texts of the rows, in order
abbrev pub StoresList : ℕ → List ℕ → List (List Tree) → Type 0
StoresList delimiter bytes rows = stored_lines bytes ≡ map (row_text delimiter) rows

-- the bytes hold each row's text as often as the rows have it, in any order
abbrev pub StoresBag : ℕ → List ℕ → List (List Tree) → Type 0
StoresBag delimiter bytes rows = IsPermutation (map (row_text delimiter) rows) (stored_lines bytes)

-- Rows answer for a node: they are its rows as a bag, and in their order where the node is a list.
pub record AnswersFor (plan : Plan) (inputs : List Input) (kept : List Kept) (k : ℕ) (rows : List (List Tree)) : Type 0 where
  pub bag : bag_of rows ≡ bag_of (meaning plan inputs kept k)
  pub list : is_list plan k ≡ true → rows ≡ meaning plan inputs kept k

-- the bytes, cut at LF alone, are the texts of the node's rows: in their order where the node is a list, and else each as often
pub record StoresMeaning (plan : Plan) (inputs : List Input) (kept : List Kept) (k delimiter : ℕ) (bytes : List ℕ) : Type 0 where
  pub bag : StoresBag delimiter bytes (meaning plan inputs kept k)
  pub list : is_list plan k ≡ true → StoresList delimiter bytes (meaning plan inputs kept k)
