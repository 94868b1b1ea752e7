-- What the outputs of a wave hand on to a reduce task.
use Rattle.std.proofs.Common.{◌≡◌, ◌+◌, ℕ, List, ◌++◌, map, take, drop, refl, sym, ◌∙◌, ap, subst, arith, append_assoc}
use Rattle.std.specs.Prelude.{Some, None, slice_get}
use Rattle.std.specs.List.{flat_map}
use Rattle.std.proofs.lemmas.List.{length-take, take-append-drop}
use Rattle.pig_value.specs.Orders.{row_cmp}
use Rattle.pig_value.specs.Sorts.{times}
use Rattle.pig_value.specs.Trees.{Tree}
use Rattle.pig_value.proofs.list_laws.Bags.{times-append}
use Rattle.pig_value.proofs.list_laws.Indexing.{dropped}
use Rattle.pig_value.proofs.list_laws.Listing.{some_same}
use Rattle.pig_plan.specs.Meaning.{AreKept}
use Rattle.pig_plan.specs.Nodes.{is_sorted}
use Rattle.pig_plan.specs.Plans.{PlanOp, p_load, p_filter, p_foreach, p_group_all, p_group, p_join, p_union, p_distinct, p_order, p_limit, p_store, p_assert, p_rank}
use Rattle.pig_physical.specs.Outs.{TaskOut, entries_at, o_rows, rows_in}
use Rattle.pig_physical.specs.Stages.{Stages}
use Rattle.pig_physical.specs.Values.{IsReduceForm, Keeps, reduced}
use Rattle.pig_reduce.specs.Made.{IsReduced, limit_of, rows_out}

-- what one more output has
pub one_more : {X Y Z : Type 0} (g : X → Y) (f : Y → List Z) (xs : List X) (i : ℕ) (x : X) (old new all : List Z) → slice_get xs i ≡ Some x
    → new ≡ old ++ f (g x)
    → old ++ flat_map f (map g (drop i xs)) ≡ all → new ++ flat_map f (map g (drop (i + 1) xs)) ≡ all
one_more g f xs i x old new all here is so_far =
    let rest = flat_map f (map g (drop (i + 1) xs)) in
    ap (λ l. l ++ rest) is ∙ (append_assoc old (f (g x)) rest ∙ (ap (λ l. old ++ flat_map f (map g l)) (sym (dropped xs i x here)) ∙ so_far))

-- ---- LIMIT

-- the first rows may be kept
first_kept : (count : ℕ) (rows : List (List Tree)) → AreKept count rows (take count rows)
first_kept count rows = record {
  held = λ row.
      let both : times row_cmp row (take count rows) + times row_cmp row (drop count rows) ≡ times row_cmp row rows =
      sym (times-append row_cmp row (take count rows) (drop count rows)) ∙ ap (times row_cmp row) (take-append-drop count rows) in
      omega (arith, both);
  size = length-take count rows;
}

limit_form : (s : Stages) (k : ℕ) (o : PlanOp) (outs : List TaskOut) (p count : ℕ) → limit_of o ≡ Some count
    → IsReduceForm s k o outs p (o_rows (take count (flat_map (λ out. rows_in out.form) outs)))
limit_form s k (p_limit input own) outs p count is =
    let all = flat_map (λ out. rows_in out.form) outs in
    let same : own ≡ count = some_same own count is in
    subst (λ n. Keeps (is_sorted s.plan input) own all (o_rows (take n all))) same
    (record { kept = take own all; is = refl; first = λ h. refl; some = λ h. first_kept own all })
limit_form s k o outs p count is = absurd (cc)

pub limit_reduced : (s : Stages) (k : ℕ) (o : PlanOp) (outs : List TaskOut) (p count : ℕ) (rows : List (List Tree)) (out : TaskOut) → limit_of o ≡ Some count
    → rows ≡ take count (flat_map (λ out. rows_in out.form) outs) → out ≡ rows_out rows → IsReduced s k o outs p out
limit_reduced s k o outs p count rows out limit is made =
    subst (IsReduced s k o outs p) (sym (made ∙ ap rows_out is)) (record { form = limit_form s k o outs p count limit; lines = refl; unmet = refl })

-- ---- other operators

other_form : (s : Stages) (k : ℕ) (o : PlanOp) (outs : List TaskOut) (p : ℕ) → limit_of o ≡ None
    → IsReduceForm s k o outs p (o_rows (reduced s.plan k o (flat_map (entries_at p) outs)))
other_form s k (p_limit input count) outs p none = absurd (cc)
other_form s k (p_load path delim columns) outs p none = refl
other_form s k (p_filter input test) outs p none = refl
other_form s k (p_foreach input block) outs p none = refl
other_form s k (p_group_all input) outs p none = refl
other_form s k (p_group inputs) outs p none = refl
other_form s k (p_join inputs side replicated) outs p none = refl
other_form s k (p_union inputs) outs p none = refl
other_form s k (p_distinct input) outs p none = refl
other_form s k (p_order input keys) outs p none = refl
other_form s k (p_store input path delim) outs p none = refl
other_form s k (p_assert input test message) outs p none = refl
other_form s k (p_rank input keys dense) outs p none = refl

pub other_reduced : (s : Stages) (k : ℕ) (o : PlanOp) (outs : List TaskOut) (p : ℕ) (rows : List (List Tree)) (out : TaskOut) → limit_of o ≡ None
    → rows ≡ reduced s.plan k o (flat_map (entries_at p) outs) → out ≡ rows_out rows → IsReduced s k o outs p out
other_reduced s k o outs p rows out none is made =
    subst (IsReduced s k o outs p) (sym (made ∙ ap rows_out is)) (record { form = other_form s k o outs p none; lines = refl; unmet = refl })
