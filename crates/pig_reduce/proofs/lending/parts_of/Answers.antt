use Rattle.std.proofs.Common.{length, refl, map, ◌∙◌, ap}
use Rattle.std.specs.Prelude.{option_map}
use Rattle.std.proofs.lemmas.Option.{slice_get_read}
use Rattle.pig_value.proofs.list_laws.Indexing.{get_map}
use Rattle.pig_value.proofs.list_laws.Listing.{each_at}
use Rattle.pig_runs.specs.RunParts.{part_entries}
use Rattle.std.specs.List.{flat_map}
use Rattle.pig_physical.specs.Handed.{out_of}
use Rattle.pig_physical.specs.Outs.{entries_at}
use Rattle.pig_reduce.specs.Made.{HasDirs}
use Rattle.pig_reduce.proofs.Handing.{one_more}
use Rattle.pig_reduce.proofs.lending.parts_of.Goals as goal

pub loop-out-preserved : goal.loop-out-preserved
loop-out-preserved c =
    let outs = c.args.outs.now in
    let at = c.loop-out.out-index in
    let out = c.out-item.result in
    let here = slice_get_read outs (length outs) at out refl c.loop-out-test.true c.out-item.is in (
      one_more out_of (entries_at c.args.part) outs at out (flat_map part_entries c.loop-out.parts.items)
          (flat_map part_entries c.add_part.new.parts.items) _ here
          c.in_ok-add_part.ensures.entries c.loop-out.invariant.0,
      (
        c.in_ok-add_part.ensures.within c.loop-out.invariant.1.0,
        λ ds h.
            c.in_ok-add_part.ensures.alike ds
            (each_at (HasDirs ds c.args.part) (map out_of outs) at (out_of out) (get_map out_of outs at ∙ ap (option_map out_of) here) h)
            (c.loop-out.invariant.1.1 ds h),
      ),
    )
