-- Each boundary node by its tasks: the rows that its last wave gives are its operator's on the rows that come to its inputs.
use Rattle.std.specs.Prelude.{◌≡◌, ◌<◌, ℕ, false, List, [], ◌∷◌, None, Some, refl}
use Rattle.std.proofs.Common.{ap, sym, ◌∙◌}
use Rattle.std.specs.Option.{option_map, option_map_or}
use Rattle.pig_value.specs.declared.inputs.Input.{Input}
use Rattle.pig_value.specs.declared.operators.Side.{Side}
use Rattle.pig_value.specs.declared.outcomes.Kept.{Kept}
use Rattle.pig_value.specs.Gathering.{Entry}
use Rattle.pig_value.specs.Orders.{bag_of, row_cmp}
use Rattle.pig_value.specs.Trees.{Tree}
use Rattle.pig_value.proofs.OrderLaws.{row_same, row_total}
use Rattle.pig_value.proofs.list_laws.Bags.{bag_from_permutation, bag_once, sort_permutes}
use Rattle.pig_value.proofs.list_laws.Permutations.{IsPermutation-flat_map}
use Rattle.pig_typed.specs.Blocks.{foreach_all, foreach_rows}
use Rattle.pig_typed.specs.Typed.{TypedBlock}
use Rattle.pig_algebra.specs.Combining.{SortedCombinersLaw, combined, folded, parts_of_rows}
use Rattle.pig_plan.proofs.KeyedOnce.{by_key_is}
use Rattle.pig_plan.specs.ByKey.{gathered, group_of}
use Rattle.pig_plan.specs.Entries.{key_entries, made_by}
use Rattle.pig_plan.specs.Meaning.{setting, width_at}
use Rattle.pig_plan.specs.Nodes.{op_at}
use Rattle.pig_plan.specs.Operators.{Setting, operator_rows}
use Rattle.pig_plan.specs.Plans.{Keyed, PlanOp, p_group_all, p_group, p_join}
use Rattle.pig_runs.specs.Cutting.{Point}
use Rattle.pig_physical.specs.Combining.{combining, folds, groups_one}
use Rattle.pig_physical.specs.Outs.{Outs}
use Rattle.pig_physical.specs.Running.{IsRun, rows_given}
use Rattle.pig_physical.specs.Stages.{Stages}
use Rattle.pig_physical.specs.Values.{brought_together, handed_on, reduced}
use Rattle.pig_waves.proofs.Tasks.{enter_first, rows_at_node}
use Rattle.pig_waves.specs.Laws.{StandsAt}
use Rattle.pig_waves.proofs.Folders.{folds_is, none_folds_at}
use Rattle.pig_cutter.proofs.Keyed.{given_by_key, given_folded}

abbrev Rows : Type 0
Rows = List (List Tree)

-- ---- what a boundary node's waves give

pub record AreOf (s : Stages) (inputs : List Input) (kept : List Kept) (outs : Outs) (k statement : ℕ) (o : PlanOp) : Type 0 where
  pub bag : folds s.plan k ≡ None → bag_of (rows_given s.plan outs k o) ≡ bag_of (operator_rows (setting s.plan inputs kept) statement o (rows_at_node s inputs outs))
  pub folded : (block : TypedBlock) → folds s.plan k ≡ Some block
      → bag_of (rows_given s.plan outs k o) ≡ bag_of (foreach_all block (operator_rows (setting s.plan inputs kept) statement o (rows_at_node s inputs outs)))

pub once : (rows : Rows) → bag_of (bag_of rows) ≡ bag_of rows
once rows = bag_once row_cmp row_total rows

foreach_of_bag : (block : TypedBlock) (rows : Rows) → bag_of (foreach_all block rows) ≡ bag_of (foreach_all block (bag_of rows))
foreach_of_bag block rows =
    bag_from_permutation row_cmp row_total row_same (foreach_all block rows) (foreach_all block (bag_of rows))
    (IsPermutation-flat_map (foreach_rows block) rows (bag_of rows) (sort_permutes row_cmp rows))

module _ (law : SortedCombinersLaw) (s : Stages) (inputs : List Input) (kept : List Kept) (points : ℕ → List Point) (outs : Outs)
    (run : IsRun s inputs points outs) (some : 0 < s.sizing.reducers) (k statement : ℕ) where
  abbrev rows : ℕ → Rows
  rows = rows_at_node s inputs outs

  abbrev st : Setting
  st = setting s.plan inputs kept

  -- where nothing is combined, a task hands on its entries
  abbrev IsAlone : PlanOp → Type 0
  IsAlone o = (es : List Entry) → handed_on s.plan k o es ≡ es

  not_combined : (o : PlanOp) → combining s.plan k o ≡ option_map parts_of_rows (folds s.plan k) → folds s.plan k ≡ None → IsAlone o
  not_combined o is none es = ap (λ found. option_map_or (λ parts. combined parts es) found es) (is ∙ ap (option_map parts_of_rows) none)

  not_folded : (o : PlanOp) → folds s.plan k ≡ None → (es : List Entry) → reduced s.plan k o es ≡ brought_together (width_at s.plan) o es
  not_folded o none es = ap (λ found. option_map_or (λ block. folded block es) found (brought_together (width_at s.plan) o es)) none

  -- GROUP ALL
  pub group_all_of : (input : ℕ) → op_at s.plan k ≡ Some (p_group_all input) → StandsAt s k (p_group_all input) → AreOf s inputs kept outs k statement (p_group_all input)
  group_all_of input at stands =
      let o : PlanOp = p_group_all input in
      let own = by_key_is st statement o rows refl in
      record {
        bag = λ none.
            given_by_key s inputs points outs run some k o at stands refl (λ es. refl) (λ i rs form h. h) (λ p form h. h) (not_combined o refl none)
            (made_by (width_at s.plan) o) (not_folded o none)
            ∙ sym (once (gathered (made_by (width_at s.plan) o) (key_entries o rows))) ∙ ap bag_of (sym own);
        folded = λ block found.
            given_folded s inputs points outs run some k o at stands refl (λ es. refl) (λ i rs form h. h) (λ p form h. h) law block (folds_is s.plan k block found).2 (enter_first s k input)
            (λ es. ap (λ f. option_map_or (λ parts. combined parts es) (option_map parts_of_rows f) es) found)
            (λ es. ap (λ f. option_map_or (λ b. folded b es) f (brought_together (width_at s.plan) o es)) found)
            ∙ foreach_of_bag block (gathered group_of (key_entries o rows)) ∙ ap (λ rs. bag_of (foreach_all block rs)) (sym own);
      }

  -- what does not fold
  no_block : (o : PlanOp) → op_at s.plan k ≡ Some o → groups_one o ≡ false → (block : TypedBlock) → folds s.plan k ≡ Some block → ⊥
  no_block o at other block found = let none = none_folds_at s.plan k o at other in absurd (cc)

  abbrev IsFolded : PlanOp → Type 0
  IsFolded o = (block : TypedBlock) → folds s.plan k ≡ Some block → bag_of (rows_given s.plan outs k o) ≡ bag_of (foreach_all block (operator_rows st statement o rows))

  never_folded : (o : PlanOp) → op_at s.plan k ≡ Some o → groups_one o ≡ false → IsFolded o
  never_folded o at other block found = absurd (no_block o at other block found)

  -- GROUP of one input, and COGROUP
  pub group_by : (keyed : List Keyed) → op_at s.plan k ≡ Some (p_group keyed) → StandsAt s k (p_group keyed) → AreOf s inputs kept outs k statement (p_group keyed)
  group_by keyed at stands = record {
    bag = λ none.
        given_by_key s inputs points outs run some k (p_group keyed) at stands refl (λ es. refl) (λ i rs form h. h) (λ p form h. h) (not_combined (p_group keyed) refl none)
        (made_by (width_at s.plan) (p_group keyed)) (not_folded (p_group keyed) none)
        ∙ sym (once (gathered (made_by (width_at s.plan) (p_group keyed)) (key_entries (p_group keyed) rows))) ∙ ap bag_of (sym (by_key_is st statement (p_group keyed) rows refl));
    folded = by_inputs keyed at stands;
  }
    where
      by_inputs : (found : List Keyed) → op_at s.plan k ≡ Some (p_group found) → StandsAt s k (p_group found) → IsFolded (p_group found)
      by_inputs [] here waves = never_folded (p_group []) here refl
      by_inputs (a ∷ b ∷ others) here waves = never_folded (p_group (a ∷ b ∷ others)) here refl
      by_inputs (a ∷ []) here waves = λ block found.
          given_folded s inputs points outs run some k (p_group (a ∷ [])) here waves refl (λ es. refl) (λ i rs form h. h) (λ p form h. h) law block (folds_is s.plan k block found).2 (enter_first s k a.input)
          (λ es. ap (λ f. option_map_or (λ parts. combined parts es) (option_map parts_of_rows f) es) found)
          (λ es. ap (λ f. option_map_or (λ b. folded b es) f (brought_together (width_at s.plan) (p_group (a ∷ [])) es)) found)
          ∙ foreach_of_bag block (gathered group_of (key_entries (p_group (a ∷ [])) rows))
          ∙ ap (λ rs. bag_of (foreach_all block rs)) (sym (by_key_is st statement (p_group (a ∷ [])) rows refl))

  -- JOIN
  pub join_by : (keyed : List Keyed) (side : Side) → op_at s.plan k ≡ Some (p_join keyed side false) → StandsAt s k (p_join keyed side false) → AreOf s inputs kept outs k statement (p_join keyed side false)
  join_by keyed side at stands =
      let o : PlanOp = p_join keyed side false in
      record {
        bag = λ none.
            given_by_key s inputs points outs run some k o at stands refl (λ es. refl) (λ i rs form h. h) (λ p form h. h) (not_combined o refl none)
            (made_by (width_at s.plan) o) (not_folded o none)
            ∙ sym (once (gathered (made_by (width_at s.plan) o) (key_entries o rows))) ∙ ap bag_of (sym (by_key_is st statement o rows refl));
        folded = never_folded o at refl;
      }
