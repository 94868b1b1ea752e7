-- What a task has made fits it.
use Rattle.std.specs.Prelude.{◌≡◌, ℕ, List, [], Option, Some, None, IfSome, slice_get}
use Rattle.std.proofs.Common.{sym, subst, refl}
use Rattle.std.proofs.lemmas.Option.{IfSome_then}
use Rattle.pig_value.specs.declared.inputs.Input.{Input}
use Rattle.pig_value.specs.Trees.{Tree}
use Rattle.pig_plan.specs.Nodes.{op_at}
use Rattle.pig_plan.specs.Plans.{PlanOp, p_load}
use Rattle.pig_plan.specs.Valid.{IsPlan}
use Rattle.pig_physical.specs.Fitting.{Fits, HasRead}
use Rattle.pig_physical.specs.Handed.{out_of}
use Rattle.pig_physical.specs.Outs.{Outs, TaskOut}
use Rattle.pig_physical.specs.Stages.{MapTask, Stages, t_map, tasks_in}
use Rattle.pig_physical.specs.declared.outputs.Out.{Out}
use Rattle.pig_physical.specs.declared.parts.Part.{Part}
use Rattle.pig_physical.specs.declared.parts.Part.TheVariants as parts
use Rattle.pig_fitting.specs.Laws.{AreGiven, LoadFits, MapFormFits, PartFits}
use Rattle.pig_map.specs.Making.{HasMade, MayGive}

abbrev Rows : Type 0
Rows = List (List Tree)

-- no rows are of any kinds
none_given : (s : Stages) (k : ℕ) (rows : Rows) → rows ≡ [] → AreGiven s.plan k rows
none_given s k rows none = subst (AreGiven s.plan k) (sym none) (λ kinds is. tt)

module _ (s : Stages) (valid : IsPlan s.plan) (loads : LoadFits) (reads : PartFits) (w at : ℕ) (t : MapTask)
    (stands : slice_get (tasks_in s w) at ≡ Some (t_map t)) (outs : Outs) (has : HasRead s outs t) where
  -- the rows that a part gives are of the kinds of its source
  given : (part : Part) → t.part ≡ part → (o : Option PlanOp) → op_at s.plan t.way.path.source ≡ o → (rows : Rows) → MayGive outs part o rows
      → AreGiven s.plan t.way.path.source rows
  given part is None e rows none = none_given s t.way.path.source rows none
  given (parts.Output wave part) is (Some o) e rows same =
      subst (AreGiven s.plan t.way.path.source) (sym same) (reads s valid w at t stands outs has.part wave part is)
  given (parts.Split split) is (Some (p_load path delim columns)) e rows lines =
      subst (AreGiven s.plan t.way.path.source) (sym lines.1) (loads s.plan valid t.way.path.source path delim columns e lines.0)
  given (parts.Split split) is (Some o) e rows none = none_given s t.way.path.source rows none

  fits_is : MapFormFits → (told : Option (List Input)) (out : TaskOut) → HasMade s told outs t out → Fits s (t_map t) out
  fits_is forms told out made o is =
      forms s valid w at t stands o is outs has.copies made.rows
      (given t.part refl (op_at s.plan t.way.path.source) refl made.rows made.from.given) out.form (made.taken o is)

  pub all_fit : MapFormFits → (told : Option (List Input)) (found : Option Out)
      → IfSome found (λ out. HasMade s told outs t (out_of out)) → IfSome found (λ out. Fits s (t_map t) (out_of out))
  all_fit forms told found made = IfSome_then found made (λ out h. fits_is forms told (out_of out) h)
