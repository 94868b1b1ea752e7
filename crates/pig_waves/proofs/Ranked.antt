-- RANK by tasks: the partitions, each ranked among the rows of all, are in turn the ranked rows.
use Rattle.std.specs.Prelude.{◌≡◌, ◌+◌, ℕ, Bool, List, ◌∷◌, length, map, Some, refl}
use Rattle.std.proofs.Common.{ap, sym, ◌∙◌, subst}
use Rattle.std.specs.List.{flat_map, range_with_len}
use Rattle.std.proofs.lemmas.List.FromFn.{length-range_with_len}
use Rattle.pig_value.specs.declared.inputs.Input.{Input}
use Rattle.pig_value.specs.Elementwise.{Each}
use Rattle.pig_value.proofs.list_laws.Elementwise.{each_flat, each_length, each_weaker_two}
use Rattle.pig_value.proofs.list_laws.Listing.{map-flat_map}
use Rattle.pig_typed.specs.declared.blocks.SortKey.{SortKey}
use Rattle.pig_plan.specs.Nodes.{op_at}
use Rattle.pig_plan.specs.Operators.{rank_of, rank_rows}
use Rattle.pig_plan.specs.Plans.{PlanOp, p_rank}
use Rattle.pig_runs.specs.Cutting.{Point}
use Rattle.pig_physical.specs.declared.parts.ReduceTask.{ReduceTask}
use Rattle.pig_physical.specs.Outs.{Outs, TaskOut, outs_at, rows_in}
use Rattle.pig_physical.specs.Running.{IsRun}
use Rattle.pig_physical.specs.Stages.{Stages, first_wave, partition_tasks, t_rank}
use Rattle.pig_physical.specs.Values.{AreInOrder, IsRankValue, IsValue, all_rows, ranked, rows_of_part}
use Rattle.pig_waves.proofs.Places.{each_left, of_places}
use Rattle.pig_waves.specs.Laws.{StandsAt}

module _ (s : Stages) (inputs : List Input) (points : ℕ → List Point) (outs : Outs) (run : IsRun s inputs points outs)
    (k input : ℕ) (keys : List SortKey) (dense : Bool) (at : op_at s.plan k ≡ Some (p_rank input keys dense)) (stands : StandsAt s k (p_rank input keys dense)) where
  abbrev o : PlanOp
  o = p_rank input keys dense

  abbrev wave : ℕ
  wave = first_wave s.plan k

  -- what the reduce tasks give, and the rank tasks
  abbrev brought : List TaskOut
  brought = outs_at outs (wave + 1)

  abbrev given : List TaskOut
  given = outs_at outs (wave + 2)

  abbrev parts : List ℕ
  parts = range_with_len 0 s.sizing.reducers

  abbrev rank_task : ℕ → ReduceTask
  rank_task p = record { node = k; wave = wave + 1; part = p }

  rank_values : Each (λ p out. IsRankValue outs (rank_task p) o out) parts given
  rank_values =
      each_weaker_two (λ p out. IsValue s inputs (Some (points (wave + 2))) outs (t_rank (rank_task p)) out) (λ p out. IsRankValue outs (rank_task p) o out)
      (λ p out h. h o at) parts given
      (each_left (λ t out. IsValue s inputs (Some (points (wave + 2))) outs (t_rank t) out) rank_task parts given
      (each_left (IsValue s inputs (Some (points (wave + 2))) outs) t_rank (partition_tasks s (wave + 1) k o) given
      (subst (λ ts. Each (IsValue s inputs (Some (points (wave + 2))) outs) ts given) (stands.ranks refl) (run.values (wave + 2)))))

  pub ranks_as_many : length given ≡ s.sizing.reducers
  ranks_as_many = sym (each_length (λ p out. IsRankValue outs (rank_task p) o out) parts given rank_values) ∙ length-range_with_len 0 s.sizing.reducers

  pub ranks_together : length brought ≡ s.sizing.reducers → AreInOrder o (all_rows brought)
      → flat_map (λ out. rows_in out.form) given ≡ rank_rows keys dense (all_rows brought)
  ranks_together size ordered =
      sym (each_flat (λ p. ranked o (all_rows brought) (rows_of_part brought p)) (λ out. rows_in out.form) parts given
      (each_weaker_two (λ p out. IsRankValue outs (rank_task p) o out) (λ p out. ranked o (all_rows brought) (rows_of_part brought p) ≡ rows_in out.form)
      (λ p out h. sym (ap rows_in (h.form ordered))) parts given rank_values))
      ∙ sym (map-flat_map (λ row. rank_of keys dense (all_rows brought) row ∷ row) (rows_of_part brought) parts)
      ∙ ap (map (λ row. rank_of keys dense (all_rows brought) row ∷ row))
      (ap (λ n. flat_map (rows_of_part brought) (range_with_len 0 n)) (sym size) ∙ of_places (λ out. rows_in out.form) brought)
