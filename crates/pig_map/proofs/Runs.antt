-- What became of a task's rows: of its part, through its path, in the form in which it hands them on.
use Rattle.std.specs.Prelude.{◌≡◌, ◌≤◌, ◌+◌, ℕ, zero, suc, Bool, true, false, List, [], ◌∷◌, length, replicate, take, drop, slice_get, unwrap_or, Option, Some, None, Result, IfOk, IfSome, refl}
use Rattle.std.specs.Option.{option_map_or}
use Rattle.std.proofs.Common.{ap, sym, subst, ◌∙◌, arith}
use Rattle.std.proofs.lemmas.List.{length-take, take-append-drop}
use Rattle.std.proofs.lemmas.Option.{IfSome_then, none-some}
use Rattle.std.proofs.lemmas.Result.{MatchResult-weaker}
use Rattle.pig_value.specs.declared.inputs.Input.{Input}
use Rattle.pig_value.specs.Orders.{row_cmp}
use Rattle.pig_value.specs.Sorts.{times}
use Rattle.pig_value.specs.Trees.{Tree}
use Rattle.pig_value.proofs.list_laws.Bags.{times-append}
use Rattle.pig_value.proofs.list_laws.Listing.{some_same}
use Rattle.pig_storage.specs.declared.splits.Split.{Split}
use Rattle.pig_plan.specs.Nodes.{Entering, is_sorted, op_at}
use Rattle.pig_plan.specs.Plans.{PlanOp, p_join, p_limit, p_load, p_store}
use Rattle.pig_plan.specs.Results.{at_place}
use Rattle.pig_plan.specs.Steps.{through}
use Rattle.pig_plan.proofs.Through.{through_none}
use Rattle.pig_stream.specs.Driving.{IsAll}
use Rattle.pig_stream.specs.Stepping.{HaveNoted, folding_on, path_on, plan_on}
use Rattle.pig_stream.specs.declared.steps.Steps.{Steps}
use Rattle.pig_stream.proofs.Drives.{same_steps}
use Rattle.pig_physical.specs.Combining.{folds}
use Rattle.pig_physical.specs.Handed.{form_of, out_of}
use Rattle.pig_physical.specs.Outs.{Form, Outs, o_rows, rows_in}
use Rattle.pig_physical.specs.Stages.{MapTask, Stages}
use Rattle.pig_physical.specs.Values.{IsMapForm, KeepsInOrder, marked, part_lines, part_rows, source_lines, source_rows}
use Rattle.pig_physical.specs.declared.outputs.Out.{Out}
use Rattle.pig_physical.specs.declared.parts.Part.{Part}
use Rattle.pig_physical.specs.declared.parts.Part.TheVariants as parts
use Rattle.pig_map.specs.Making.{Becomes, FormBy, HasMade, HasRun, HasTakenPart, MayGive, handing_of, load_of, load_parts}
use Rattle.pig_map.specs.declared.attempt.Handing.{Handing}

abbrev Rows : Type 0
Rows = List (List Tree)

-- ---- rows of a part

-- no rows at all
pub none_taken : (s : Steps) (after : Rows → Type 0) → HaveNoted s [] → after [] → IsAll [] s s after 0
none_taken s after noted none = record {
  counted = refl;
  taken = subst after (sym (through_none (folding_on s) (plan_on s) (path_on s))) none;
  noted = noted;
  same = same_steps s;
}

not_loaded : (inputs : List Input) (outs : Outs) (split : Split) (o : PlanOp) → None ≡ load_of o
    → ([] ≡ part_rows inputs outs (parts.Split split) o) × ([] ≡ part_lines inputs (parts.Split split) o)
not_loaded inputs outs split (p_load path delim columns) e = absurd (none-some (load_parts path delim columns) e)
not_loaded inputs outs split o e = (refl, refl)

may_give_none : (outs : Outs) (split : Split) (o : PlanOp) → None ≡ load_of o → MayGive outs (parts.Split split) (Some o) []
may_give_none outs split (p_load path delim columns) e = absurd (none-some (load_parts path delim columns) e)
may_give_none outs split o e = refl

module _ (s : Stages) (told : Option (List Input)) (outs : Outs) (source : ℕ) where
  -- there is no such source
  pub no_source : (part : Part) (t : Steps) (after : Rows → Type 0) → op_at s.plan source ≡ None → HaveNoted t [] → after []
      → HasTakenPart s told outs source part t t after 0
  no_source part t after is noted none = record {
    rows = [];
    count = 0;
    all = none_taken t after noted none;
    from = record {
      rows_are = λ inputs told_is. sym (ap (λ o. option_map_or (part_rows inputs outs part) o []) is);
      lines_are = λ inputs told_is. sym (ap (λ o. length (option_map_or (part_lines inputs part) o [])) is);
      given = subst (λ o. MayGive outs part o []) (sym is) refl;
    };
  }

  module _ (o : PlanOp) (is : op_at s.plan source ≡ Some o) where
    rows_from : (inputs : List Input) (part : Part) → source_rows s.plan inputs outs source part ≡ part_rows inputs outs part o
    rows_from inputs part = ap (λ o. option_map_or (part_rows inputs outs part) o []) is

    lines_from : (inputs : List Input) (part : Part) → source_lines s.plan inputs source part ≡ part_lines inputs part o
    lines_from inputs part = ap (λ o. option_map_or (part_lines inputs part) o []) is

    -- a split of a source that is no LOAD
    pub no_load : (split : Split) (t : Steps) (after : Rows → Type 0) → None ≡ load_of o → HaveNoted t [] → after []
        → HasTakenPart s told outs source (parts.Split split) t t after 0
    no_load split t after e noted none = record {
      rows = [];
      count = 0;
      all = none_taken t after noted none;
      from = record {
        rows_are = λ inputs told_is. (not_loaded inputs outs split o e).0 ∙ sym (rows_from inputs (parts.Split split));
        lines_are = λ inputs told_is. ap length ((not_loaded inputs outs split o e).1 ∙ sym (lines_from inputs (parts.Split split)));
        given = subst (λ o. MayGive outs (parts.Split split) o []) (sym is) (may_give_none outs split o e);
      };
    }

-- ---- rows on their way

-- the way of a task, which it names by the place
pub way_at : (ways : List Entering) (k : ℕ) (none way : Entering) → slice_get ways k ≡ Some way → at_place none ways k ≡ way
way_at ways k none way is = ap (λ o. unwrap_or o none) is

pub run_as : (s : Stages) (told : Option (List Input)) (outs : Outs) (t : MapTask) (A B : Rows → Type 0) (lines : ℕ) (unmet : List ℕ)
    → ((rows : Rows) → A rows → B rows) → HasRun s told outs t A lines unmet → HasRun s told outs t B lines unmet
run_as s told outs t A B lines unmet to h = record {
  rows = h.rows;
  from = h.from;
  taken = to (through (folds s.plan) s.plan t.way.path.nodes h.rows) h.taken;
  unmet_are = h.unmet_are;
}

-- the same as an output has it
pub run_to : (s : Stages) (told : Option (List Input)) (outs : Outs) (t : MapTask) (A B : Rows → Type 0) (lines lines' : ℕ) (unmet unmet' : List ℕ)
    → lines' ≡ lines → unmet' ≡ unmet → ((rows : Rows) → A rows → B rows) → HasRun s told outs t A lines unmet → HasRun s told outs t B lines' unmet'
run_to s told outs t A B lines lines' unmet unmet' lines_are unmet_are to h =
    subst (λ n. HasRun s told outs t B n unmet') (sym lines_are)
    (subst (HasRun s told outs t B lines) (sym unmet_are) (run_as s told outs t A B lines unmet to h))

-- ---- forms

take_times : (n : ℕ) (row : List Tree) (rows : Rows) → times row_cmp row (take n rows) ≤ times row_cmp row rows
take_times n row rows =
    let whole : times row_cmp row rows ≡ times row_cmp row (take n rows) + times row_cmp row (drop n rows) =
    ap (times row_cmp row) (sym (take-append-drop n rows)) ∙ times-append row_cmp row (take n rows) (drop n rows) in
    omega (arith, whole)

first_marked : (n : ℕ) (rows : Rows) → marked (replicate n true) rows ≡ take n rows
first_marked zero rows = refl
first_marked (suc n) [] = refl
first_marked (suc n) (row ∷ rows) = ap (λ more. row ∷ more) (first_marked n rows)

-- the first rows may be kept, whatever node they are of
first_are_kept : (sorted : Bool) (count : ℕ) (rows : Rows) (form : Form) → form ≡ o_rows (take count rows) → KeepsInOrder sorted count rows form
first_are_kept sorted count rows form is = record {
  keeps = record {
    kept = take count rows;
    is = is;
    first = λ e. refl;
    some = λ e. record { held = λ row. take_times count row rows; size = length-take count rows };
  };
  marks = replicate count true;
  order = ap rows_in is ∙ sym (first_marked count rows);
}

form_is : (s : Stages) (outs : Outs) (k : ℕ) (o : PlanOp) (i : ℕ) (rows : Rows) (form : Form) → FormBy s outs k o i rows form (handing_of o i) → IsMapForm s None outs k o i rows form
form_is s outs k (p_limit input count) i rows form h = first_are_kept (is_sorted s.plan input) count rows form h
form_is s outs k (p_store input path delim) i rows form h = h
form_is s outs k (p_join inputs side true) zero rows form h = h
form_is s outs k (p_join inputs side true) (suc i) rows form h = h
form_is s outs k (p_join inputs side false) i rows form h = h
form_is s outs k o i rows form h = h

pub becomes : (s : Stages) (outs : Outs) (t : MapTask) (o : PlanOp) (rows : Rows) (form : Form) (handing : Handing) → op_at s.plan t.node ≡ Some o → handing ≡ handing_of o t.way.input
    → FormBy s outs t.node o t.way.input rows form handing → Becomes s outs t form rows
becomes s outs t o rows form handing is by h other at =
    subst (λ o. IsMapForm s None outs t.node o t.way.input rows form) (some_same o other (sym is ∙ at))
    (form_is s outs t.node o t.way.input rows form (subst (FormBy s outs t.node o t.way.input rows form) by h))

-- what a task made for its node's operator
pub made_for : (s : Stages) (told : Option (List Input)) (outs : Outs) (t : MapTask) (o : PlanOp) (handing : Handing)
    → op_at s.plan t.node ≡ Some o → handing ≡ handing_of o t.way.input → (takes : Rows → Form → Type 0)
    → ((rows : Rows) (form : Form) → takes rows form → FormBy s outs t.node o t.way.input rows form handing)
    → (out : Out) → HasRun s told outs t (λ rows. takes rows (form_of out.form)) out.lines out.unmet → HasMade s told outs t (out_of out)
made_for s told outs t o handing is by takes to out run =
    run_as s told outs t (λ rows. takes rows (form_of out.form)) (Becomes s outs t (form_of out.form)) out.lines out.unmet
    (λ rows taken. becomes s outs t o rows (form_of out.form) handing is by (to rows (form_of out.form) taken)) run

-- the same, as a call has it
pub made_by : {E : Type 0} (s : Stages) (told : Option (List Input)) (outs : Outs) (t : MapTask) (o : PlanOp) (handing : Handing)
    → op_at s.plan t.node ≡ Some o → handing ≡ handing_of o t.way.input → (takes : Rows → Form → Type 0)
    → ((rows : Rows) (form : Form) → takes rows form → FormBy s outs t.node o t.way.input rows form handing)
    → (r : Result (Option Out) E)
    → IfOk r (λ found. IfSome found (λ out. HasRun s told outs t (λ rows. takes rows (form_of out.form)) out.lines out.unmet))
    → IfOk r (λ found. IfSome found (λ out. HasMade s told outs t (out_of out)))
made_by s told outs t o handing is by takes to r h =
    MatchResult-weaker r h (λ found some. IfSome_then found some (λ out run. made_for s told outs t o handing is by takes to out run)) (λ e none. none)
