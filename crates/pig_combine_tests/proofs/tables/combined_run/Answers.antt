use Rattle.std.proofs.Common.{rules, ◌≡◌, [], ◌∷◌, ◌++◌, ap, arith, length, map, refl, slice_get, subst, sym, take, ◌∙◌, Some}
use Rattle.std.specs.Option.{option_map}
use Rattle.std.proofs.lemmas.List.{map_more}
use Rattle.std.proofs.lemmas.Option.{slice_get_read}
use Rattle.std.proofs.lemmas.Result.{IfOk-weaker}
use Rattle.std.proofs.Math.Seq.{take-length}
use Rattle.pig_value.proofs.list_laws.Indexing.{get_map}
use Rattle.pig_value.proofs.list_laws.Listing.{each_at}
use Rattle.pig_algebra.specs.Combining.{combined, parts_by}
use Rattle.pig_runs.specs.Entries.{IsEntry, keyed, run_of}
use Rattle.pig_combine.specs.Holdings.{HasAdded}
use Rattle.pig_combine_tests.specs.Added.{as_added}
use Rattle.pig_combine_tests.proofs.tables.combined_run.Goals as goal

pub add-requires-clause-key : goal.add-requires-clause-key
add-requires-clause-key c =
    let entries = c.args.entries.now in
    let at = slice_get_read entries (length entries) c.loop-entry.entry-index c.entry-item.result refl c.loop-entry-test.true c.entry-item.is in
    (each_at (IsEntry []) (map keyed entries) c.loop-entry.entry-index (keyed c.entry-item.result)
    (get_map keyed entries c.loop-entry.entry-index ∙ ap (option_map keyed) at) c.requires).key

pub add-requires-clause-row : goal.add-requires-clause-row
add-requires-clause-row c =
    let entries = c.args.entries.now in
    let at = slice_get_read entries (length entries) c.loop-entry.entry-index c.entry-item.result refl c.loop-entry-test.true c.entry-item.is in
    (each_at (IsEntry []) (map keyed entries) c.loop-entry.entry-index (keyed c.entry-item.result)
    (get_map keyed entries c.loop-entry.entry-index ∙ ap (option_map keyed) at) c.requires).row

pub loop-entry-preserved : goal.loop-entry-preserved
loop-entry-preserved c =
    let entries = c.args.entries.now in
    let so_far = map as_added (take c.loop-entry.entry-index entries) in (
      subst (λ es. HasAdded es c.add.new.self)
          (sym (map_more as_added entries c.loop-entry.entry-index c.entry-item.result c.loop-entry-test.true ∙ ap (λ e. so_far ++ as_added e ∷ []) (sym c.entry-item.is)))
          (c.in_ok-add.ensures.added so_far c.loop-entry.invariant.0),
      c.add.ensures.cuts ∙ c.loop-entry.invariant.1,
    )

pub returns : goal.returns
returns c =
    let entries = c.args.entries.now in
    let end : c.loop-entry.entry-index ≡ length entries = search rules in
    let all : take c.loop-entry.entry-index entries ≡ entries = ap (λ n. take n entries) end ∙ take-length entries in
    let has : HasAdded (map as_added entries) c.loop-entry.table = subst (λ es. HasAdded (map as_added es) c.loop-entry.table) all c.loop-entry.invariant.0 in
    IfOk-weaker c.flush.result _ _
    (λ run e. e ∙ ap (λ cs. run_of [] (combined (parts_by cs) (map as_added entries))) c.loop-entry.invariant.1)
    (c.flush.ensures.run (map as_added entries) has)
