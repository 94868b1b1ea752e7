-- What is looked at when all waves have run is left of their outputs.
use Rattle.std.specs.Prelude.{◌≡◌, ◌+◌, ℕ, true, [], length, map, Option, Some, None, slice_get, refl}
use Rattle.std.proofs.Common.{ap, sym, ◌∙◌, arith, inl, inr}
use Rattle.std.specs.List.{flat_map}
use Rattle.std.specs.Option.{option_map, unwrap_or}
use Rattle.std.proofs.lemmas.Bool.{cases_lt}
use Rattle.std.proofs.lemmas.Option.{slice_get_past}
use Rattle.pig_value.proofs.list_laws.Listing.{some_same}
use Rattle.pig_plan.specs.Nodes.{is_boundary, is_live, op_at}
use Rattle.pig_plan.specs.Plans.{PlanNode, p_limit}
use Rattle.pig_plan.specs.Valid.{IsPlan}
use Rattle.pig_physical.specs.Outs.{Outs, outs_at, rows_in}
use Rattle.pig_physical.specs.Running.{rows_given, store_wave}
use Rattle.pig_physical.specs.Stages.{Stages, first_wave, heads, is_replicated, partition_tasks, t_reduce}
use Rattle.pig_driver.specs.Left.{AreLeft, IsChosen, WhatIsLeftStands}
use Rattle.pig_driver.proofs.Left.{left_size}
use Rattle.pig_driver.proofs.Standing.{IsBoundaryAt, its_waves}

module _ (s : Stages) (valid : IsPlan s.plan) (whole left : Outs) (size : length whole ≡ length (heads s.plan)) (are : AreLeft s whole left (length (heads s.plan))) where
  stores_left : outs_at left (store_wave s.plan) ≡ outs_at whole (store_wave s.plan)
  stores_left = elim (cases_lt 0 (length (heads s.plan))) [
    | inl some ↦ are.last (store_wave s.plan) (omega (arith, some))
    | inr none ↦ (let same = left_size s whole left (length (heads s.plan)) are in
        ap (λ o. unwrap_or o []) (slice_get_past left (store_wave s.plan) (omega (arith, none, size, same)) ∙ sym (slice_get_past whole (store_wave s.plan) (omega (arith, none, size)))))
  ]

  chosen_at : (k input count : ℕ) (is : IsBoundaryAt s valid k) → is.node.op ≡ p_limit input count → IsChosen s (first_wave s.plan k + 1)
  chosen_at k input count is limit = record {
    task = record { node = k; wave = first_wave s.plan k; part = 0 };
    stands = ap (λ tasks. slice_get tasks 0) ((its_waves s valid k is (ap is_replicated limit)).reduces ∙ ap (λ o. map t_reduce (partition_tasks s (first_wave s.plan k) k o)) limit);
    input = input;
    count = count;
    is = ap (option_map (λ node. node.op)) is.at ∙ ap Some limit;
  }

  limits_left : (k input count : ℕ) → op_at s.plan k ≡ Some (p_limit input count) → is_live s.plan k ≡ true
      → rows_given s.plan left k (p_limit input count) ≡ rows_given s.plan whole k (p_limit input count)
  limits_left k input count at alive = of_node (slice_get s.plan k) refl
    where
      of_node : (found : Option PlanNode) → slice_get s.plan k ≡ found → rows_given s.plan left k (p_limit input count) ≡ rows_given s.plan whole k (p_limit input count)
      of_node None e = absurd (let f : None ≡ Some (p_limit input count) = sym (ap (option_map (λ n. n.op)) e) ∙ at in cc)
      of_node (Some node) e =
          let limit : node.op ≡ p_limit input count = some_same node.op (p_limit input count) (sym (ap (option_map (λ n. n.op)) e) ∙ at) in
          let is : IsBoundaryAt s valid k = record { node = node; at = e; alive = alive; is = ap is_boundary limit } in
          ap (flat_map (λ out. rows_in out.form)) (are.chosen (first_wave s.plan k + 1) (chosen_at k input count is limit))

pub what_is_left : WhatIsLeftStands
what_is_left = λ s valid whole left size are. record {
  size = left_size s whole left (length (heads s.plan)) are;
  stores = stores_left s valid whole left size are;
  limits = limits_left s valid whole left size are;
}
