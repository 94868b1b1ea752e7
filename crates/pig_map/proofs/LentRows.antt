-- The rows of an earlier wave, as a task hands on what its path chooses of them.
use Rattle.std.proofs.Common.{◌≡◌, ℕ, Bool, List, [], sym, ◌∙◌, ap, subst, Option}
use Rattle.std.specs.Ordering.{nat_cmp}
use Rattle.pig_value.specs.declared.inputs.Input.{Input}
use Rattle.pig_value.specs.Sorts.{sort}
use Rattle.pig_value.specs.Trees.{Tree}
use Rattle.pig_plan.specs.Asserts.{unmet_on}
use Rattle.pig_plan.specs.Nodes.{Entering}
use Rattle.pig_plan.specs.Plans.{Plan}
use Rattle.pig_plan.specs.Steps.{AreFoldMarks, Folding, through}
use Rattle.pig_stream.specs.Stepping.{marked_folding}
use Rattle.pig_physical.specs.Combining.{folds}
use Rattle.pig_physical.specs.Outs.{Outs}
use Rattle.pig_physical.specs.Stages.{MapTask, Stages}
use Rattle.pig_map.specs.Choosing.{AreLent, Chooses, chosen_rows}
use Rattle.pig_map.specs.Making.{AreFrom, HasRun}
use Rattle.pig_map.specs.declared.choosing.Chosen.{Chosen}

-- what marks of folding nodes stand for
abbrev pub RowsByMarks : Type 0
RowsByMarks = (folding : Folding) (folded : List Bool) → AreFoldMarks folding folded → (plan : Plan) (path : List ℕ) (rows : List (List Tree))
    → through folding plan path rows ≡ through (marked_folding folded) plan path rows

abbrev pub AssertsByMarks : Type 0
AssertsByMarks = (folding : Folding) (folded : List Bool) → AreFoldMarks folding folded → (plan : Plan) (path : List ℕ) (rows : List (List Tree))
    → unmet_on folding plan path rows ≡ unmet_on (marked_folding folded) plan path rows

-- what a path chooses of rows of its part
pub are_lent : (s : Stages) (told : Option (List Input)) (outs : Outs) (t : MapTask) (way : Entering) → t.way ≡ way → (folded : List Bool) → AreFoldMarks (folds s.plan) folded
    → RowsByMarks → AssertsByMarks → (c : Chosen) → Chooses (marked_folding folded) s.plan way.path.nodes c → (rows : List (List Tree))
    → AreFrom s told outs way.path.source t.part rows 0 → AreLent s told outs t rows c
are_lent s told outs t way is_way folded marks by_rows by_asserts c chooses rows from =
    let nodes : t.way.path.nodes ≡ way.path.nodes = ap (λ w. w.path.nodes) is_way in
    let source : way.path.source ≡ t.way.path.source = ap (λ w. w.path.source) (sym is_way) in
    record {
      from = subst (λ k. AreFrom s told outs k t.part rows 0) source from;
      chosen = ap (λ ns. through (folds s.plan) s.plan ns rows) nodes ∙ (by_rows (folds s.plan) folded marks s.plan way.path.nodes rows ∙ chooses.rows rows);
      asserts = ap (λ ns. unmet_on (folds s.plan) s.plan ns rows) nodes ∙ (by_asserts (folds s.plan) folded marks s.plan way.path.nodes rows ∙ chooses.asserts rows);
    }

-- what becomes of what is chosen becomes of the task's rows
pub lent_run : (s : Stages) (told : Option (List Input)) (outs : Outs) (t : MapTask) (c : Chosen) (rows : List (List Tree)) → AreLent s told outs t rows c
    → (after : List (List Tree) → Type 0) (lines : ℕ) (unmet : List ℕ) → after (chosen_rows c rows) → lines ≡ 0 → unmet ≡ [] → HasRun s told outs t after lines unmet
lent_run s told outs t c rows lent after lines unmet taken none_read none_unmet = record {
  rows = rows;
  from = subst (AreFrom s told outs t.way.path.source t.part rows) (sym none_read) lent.from;
  taken = subst after (sym lent.chosen) taken;
  unmet_are = none_unmet ∙ ap (sort nat_cmp) (sym lent.asserts);
}
