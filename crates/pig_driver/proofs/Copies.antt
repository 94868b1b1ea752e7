-- Of the outputs that stand, what a map task hands on goes by the copies alone that it probes.
use Rattle.std.specs.Prelude.{◌≡◌, ◌&&◌, ◌++◌, ℕ, zero, suc, true, false, Bool, List, Option, Some, None, refl, if◌then◌else◌}
use Rattle.std.proofs.Common.{ap, ◌∙◌, subst}
use Rattle.std.specs.Option.{option_map_or}
use Rattle.std.proofs.lemmas.Bool.{eq-eqb, eqb-true}
use Rattle.pig_value.proofs.list_laws.Listing.{some_same}
use Rattle.pig_value.specs.Trees.{Tree}
use Rattle.pig_plan.specs.Entries.{entries_of}
use Rattle.pig_plan.specs.Meaning.{width_at}
use Rattle.pig_plan.specs.Nodes.{op_at}
use Rattle.pig_plan.specs.Plans.{PlanOp, p_load, p_filter, p_foreach, p_group_all, p_group, p_join, p_union, p_distinct, p_order, p_limit, p_store, p_assert, p_rank}
use Rattle.pig_runs.specs.Cutting.{Point}
use Rattle.pig_physical.specs.Outs.{Form, Outs, outs_at}
use Rattle.pig_physical.specs.Stages.{MapTask, Stages, enters_first, first_wave, is_replicated, t_map, tasks_in}
use Rattle.pig_physical.specs.Values.{AreAsBag, IsMapForm, brought_together, handed_entries}
use Rattle.pig_driver.specs.Left.{copies_of}

module _ (s : Stages) (points : Option (List Point)) (here there : Outs) (k : ℕ) where
  -- two lists of outputs have the same copies, where the task of an input probes them
  abbrev pub SameCopies : PlanOp → ℕ → Type 0
  SameCopies o i = is_replicated o ≡ true → i ≡ 0 → outs_at here (first_wave s.plan k) ≡ outs_at there (first_wave s.plan k)

  pub form_over : (o : PlanOp) (i : ℕ) (rows : List (List Tree)) (form : Form) → SameCopies o i
      → IsMapForm s points here k o i rows form → IsMapForm s points there k o i rows form
  form_over (p_join inputs side true) zero rows form same h =
      let o : PlanOp = p_join inputs side true in
      subst
      (λ outs. AreAsBag (brought_together (width_at s.plan) o (entries_of o 0 rows ++ handed_entries o (tasks_in s (first_wave s.plan k)) outs)) form) (same refl refl) h
  form_over (p_join inputs side true) (suc i) rows form same h = h
  form_over (p_join inputs side false) i rows form same h = h
  form_over (p_load path delim columns) i rows form same h = h
  form_over (p_filter input test) i rows form same h = h
  form_over (p_foreach input block) i rows form same h = h
  form_over (p_group_all input) i rows form same h = h
  form_over (p_group inputs) i rows form same h = h
  form_over (p_union inputs) i rows form same h = h
  form_over (p_distinct input) i rows form same h = h
  form_over (p_order input keys) i rows form same h = h
  form_over (p_limit input count) i rows form same h = h
  form_over (p_store input path delim) i rows form same h = h
  form_over (p_assert input test message) i rows form same h = h
  form_over (p_rank input keys dense) i rows form same h = h

-- a task of the first input of a replicated JOIN probes, and no other
module _ (s : Stages) (t : MapTask) where
  pub probes_here : (o : PlanOp) → op_at s.plan t.node ≡ Some o → is_replicated o ≡ true → t.way.input ≡ 0
      → copies_of s (t_map t) ≡ Some (first_wave s.plan t.node)
  probes_here o at replicated first =
      let by_op : option_map_or is_replicated (op_at s.plan t.node) false ≡ true = ap (λ found. option_map_or is_replicated found false) at ∙ replicated in
      let by_way : enters_first t ≡ true = eq-eqb t.way.input 0 first in
      λ i. if by_op i && by_way i then Some (first_wave s.plan t.node) else None

  pub record IsProbe (v : ℕ) : Type 0 where
    pub o : PlanOp
    pub at : op_at s.plan t.node ≡ Some o
    pub replicated : is_replicated o ≡ true
    pub first : t.way.input ≡ 0
    pub wave : first_wave s.plan t.node ≡ v

  pub probe_is : (v : ℕ) → copies_of s (t_map t) ≡ Some v → IsProbe v
  probe_is v h = by_op (op_at s.plan t.node) refl h
    where
      by_way : (o : PlanOp) → op_at s.plan t.node ≡ Some o → is_replicated o ≡ true → (b : Bool) → enters_first t ≡ b
          → (if b then Some (first_wave s.plan t.node) else None) ≡ Some v → IsProbe v
      by_way o at replicated false e g = absurd (let f : None ≡ Some v = g in cc)
      by_way o at replicated true e g = record {
        o = o;
        at = at;
        replicated = replicated;
        first = eqb-true t.way.input 0 e;
        wave = some_same (first_wave s.plan t.node) v g;
      }

      by_test : (o : PlanOp) → op_at s.plan t.node ≡ Some o → (b : Bool) → is_replicated o ≡ b
          → (if b && enters_first t then Some (first_wave s.plan t.node) else None) ≡ Some v → IsProbe v
      by_test o at false e g = absurd (let f : None ≡ Some v = g in cc)
      by_test o at true e g = by_way o at e (enters_first t) refl g

      by_op : (found : Option PlanOp) → op_at s.plan t.node ≡ found
          → (if option_map_or is_replicated found false && enters_first t then Some (first_wave s.plan t.node) else None) ≡ Some v → IsProbe v
      by_op None e g = absurd (let f : None ≡ Some v = g in cc)
      by_op (Some o) e g = by_test o e (is_replicated o) refl g
