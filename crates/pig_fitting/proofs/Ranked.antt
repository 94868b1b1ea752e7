-- What a rank task makes of a partition that fits is rows of the kinds of its node.
use Rattle.std.specs.Prelude.{◌≡◌, ◌-◌, ℕ, Bool, true, List, [], ◌∷◌, map, Option, Some, None, slice_get, refl}
use Rattle.std.proofs.Common.{ap, sym, ◌∙◌, arith, subst, true≢false}
use Rattle.std.specs.Option.{option_and_then, option_map_or}
use Rattle.std.proofs.lemmas.Option.{slice_get_within}
use Rattle.pig_value.specs.Kinds.{IsRowOf}
use Rattle.pig_value.specs.Trees.{Tree, k_long}
use Rattle.pig_value.proofs.KindLaws.{rows_of_each, rows_of_from_each}
use Rattle.pig_value.proofs.list_laws.Listing.{some_same}
use Rattle.pig_typed.specs.declared.blocks.SortKey.{SortKey}
use Rattle.pig_typed.proofs.Found.{found_is, of_found, tested, then_found}
use Rattle.pig_plan.proofs.OfKinds.{Each}
use Rattle.pig_plan.specs.NodeKinds.{RowKinds, is_sorting, kinds_at, node_gives, only_if}
use Rattle.pig_plan.specs.Nodes.{op_at}
use Rattle.pig_plan.specs.Plans.{Plan, PlanOp, p_load, p_filter, p_foreach, p_group_all, p_group, p_join, p_union, p_distinct, p_order, p_limit}
use Rattle.pig_plan.specs.Plans.{p_store, p_assert, p_rank}
use Rattle.pig_plan.specs.Valid.{IsPlan}
use Rattle.pig_physical.specs.Fitting.{Fits, HasAll, HasOutput, HasRows, brought_kinds, given_kinds, kinds_brought}
use Rattle.pig_physical.specs.Outs.{Outs, TaskOut, o_rows, outs_at, rows_in}
use Rattle.pig_physical.specs.Stages.{Stages, partition_tasks, t_reduce, tasks_in}
use Rattle.pig_physical.specs.Values.{rows_of_part}
use Rattle.pig_physical.specs.declared.parts.ReduceTask.{ReduceTask}
use Rattle.pig_waves.proofs.Among.{mapped_from}
use Rattle.pig_waves.proofs.Folders.{none_folds_at}
use Rattle.pig_waves.specs.Laws.{ranks}
use Rattle.pig_rank.specs.Ranks.{AreBehindLongs}
use Rattle.pig_fitting.specs.Laws.{RankFormFits}
use Rattle.pig_fitting.proofs.Given.{Has, given_of, given_unfolded, kinds_by}
use Rattle.pig_fitting.proofs.Standing.{in_partition, ranks_alone, ranks_at}

-- a long before a row is one kind more
longs_before : (ks : RowKinds) (rows made : List (List Tree)) → AreBehindLongs rows made → Each ks rows → Each (k_long ∷ ks) made
longs_before ks [] [] h each = tt
longs_before ks [] (m ∷ made) h each = absurd h
longs_before ks (row ∷ rows) [] h each = absurd h
longs_before ks (row ∷ rows) (m ∷ made) h each = (subst (λ r. IsRowOf r (k_long ∷ ks)) (sym (h.0).is) (tt, each.0), longs_before ks rows made h.1 each.1)

module _ (plan : Plan) (valid : IsPlan plan) (k input : ℕ) (keys : List SortKey) (dense : Bool) (at : op_at plan k ≡ Some (p_rank input keys dense)) where
  ranked_kinds : (rows made : List (List Tree)) → Has (kinds_at plan input) rows → AreBehindLongs rows made → Has (given_kinds plan k) made
  ranked_kinds rows made has behind =
      let o : PlanOp = p_rank input keys dense in
      subst (λ given. Has given made) (sym (given_unfolded plan k (none_folds_at plan k o at refl) ∙ kinds_by plan valid k o at))
      (given_of (node_gives (kinds_at plan) o) made
      (then_found (λ ks. kinds_at plan input ≡ Some ks) (λ given. Has given made) (λ ks. only_if (is_sorting ks keys) (Some (Some (k_long ∷ ks))))
      (λ ks known. tested (λ given. Has given made) (is_sorting ks keys) (Some (Some (k_long ∷ ks)))
      (λ t. longs_before ks rows made behind (found_is (λ ls. Each ls rows) (kinds_at plan input) ks known has)))
      (kinds_at plan input) (of_found (λ ks. kinds_at plan input ≡ Some ks) (kinds_at plan input) (λ ks known. known))))

module _ (s : Stages) (t : ReduceTask) (outs : Outs) (has : HasAll s outs t.wave) where
  abbrev part : List (List Tree)
  part = rows_of_part (outs_at outs t.wave) t.part

  -- the rows of the partition are those that a reduce task of the node brought together
  brought_rows : (o : PlanOp) → op_at s.plan t.node ≡ Some o → tasks_in s t.wave ≡ map t_reduce (partition_tasks s (t.wave - 1) t.node o)
      → Has (kinds_brought s.plan t.node o) part
  brought_rows o at reads = by_out (slice_get (outs_at outs t.wave) t.part) refl
    where
      of_output : (out : TaskOut) → slice_get (outs_at outs t.wave) t.part ≡ Some out → HasOutput s outs t.wave t.part → Has (kinds_brought s.plan t.node o) (rows_in out.form)
      of_output out stands output =
          let from = mapped_from t_reduce (partition_tasks s (t.wave - 1) t.node o) output.task (record { at = t.part; is = ap (λ ts. slice_get ts t.part) (sym reads) ∙ output.is_of }) in
          let node : (from.x).node ≡ t.node = (in_partition s from.x (t.wave - 1) t.node o from.among).0 in
          let fits : HasRows (brought_kinds s.plan (from.x).node) (output.out).form = subst (λ u. Fits s u output.out) (sym from.is) output.fits in
          let own : HasRows (kinds_brought s.plan t.node o) (output.out).form =
          subst (λ found. HasRows found (output.out).form) (ap (brought_kinds s.plan) node ∙ ap (option_and_then (kinds_brought s.plan t.node)) at) fits in
          subst (λ u. Has (kinds_brought s.plan t.node o) (rows_in u.form)) (some_same output.out out (sym output.stands ∙ stands))
          (subst (λ form. Has (kinds_brought s.plan t.node o) (rows_in form)) (sym own.is)
          (of_found (λ ks. Each ks own.rows) (kinds_brought s.plan t.node o) (λ ks known. rows_of_each ks own.rows (own.kinds ks known))))

      by_out : (found : Option TaskOut) → slice_get (outs_at outs t.wave) t.part ≡ found → Has (kinds_brought s.plan t.node o) (option_map_or (λ out. rows_in out.form) found [])
      by_out None e = of_found (λ ks. Each ks []) (kinds_brought s.plan t.node o) (λ ks known. tt)
      by_out (Some out) e =
          let within = slice_get_within (outs_at outs t.wave) t.part out e in let count = has.count in
          of_output out e (has.each t.part (omega (arith, within, count)))

pub rank_forms_fit : RankFormFits
rank_forms_fit s valid w place t stands outs has made behind =
    let of = ranks_at s t w place stands in by_op of.op (ranks_alone of.op of.among) of.at of.reads
  where
    by_op : (o : PlanOp) → ranks o ≡ true → op_at s.plan t.node ≡ Some o → tasks_in s t.wave ≡ map t_reduce (partition_tasks s (t.wave - 1) t.node o)
        → HasRows (given_kinds s.plan t.node) (o_rows made)
    by_op (p_rank input keys dense) h at reads = record {
      rows = made;
      is = refl;
      kinds = λ ks known. rows_of_from_each ks made
          (found_is (λ ls. Each ls made) (given_kinds s.plan t.node) ks known
          (ranked_kinds s.plan valid t.node input keys dense at (part s t outs has) made (brought_rows s t outs has (p_rank input keys dense) at reads) behind));
    }
    by_op (p_load path delim columns) h at reads = absurd (true≢false (sym h))
    by_op (p_filter input test) h at reads = absurd (true≢false (sym h))
    by_op (p_foreach input block) h at reads = absurd (true≢false (sym h))
    by_op (p_group_all input) h at reads = absurd (true≢false (sym h))
    by_op (p_group inputs) h at reads = absurd (true≢false (sym h))
    by_op (p_join inputs side replicated) h at reads = absurd (true≢false (sym h))
    by_op (p_union inputs) h at reads = absurd (true≢false (sym h))
    by_op (p_distinct input) h at reads = absurd (true≢false (sym h))
    by_op (p_order input keys) h at reads = absurd (true≢false (sym h))
    by_op (p_limit input count) h at reads = absurd (true≢false (sym h))
    by_op (p_store input path delim) h at reads = absurd (true≢false (sym h))
    by_op (p_assert input test message) h at reads = absurd (true≢false (sym h))
