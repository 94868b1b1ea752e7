use Rattle.std.proofs.Common.{rules, ◌≡◌, ◌++◌, ◌∷◌, [], length, slice_get}
use Rattle.std.specs.Option.{option_copied}
use Rattle.pig_physical.specs.Sliced.{slices_of}
use Rattle.pig_driver.specs.Slicing.{IsNotedAs}
use Rattle.pig_driver.proofs.Cut.{one_more_where, rest_alike}
use Rattle.pig_driver.proofs.slicing.put_slices.Goals as goal

pub loop-run-preserved : goal.loop-run-preserved
loop-run-preserved c =
    let rest = c.loop-run.run-iterator.rest.items in
    let later = c.next.new.self.rest.items in
    let points = c.args.points.now in
    let at : slice_get c.args.notes.now (length c.loop-run.news) ≡ option_copied c.note_at.result = search rules in
    let is : IsNotedAs (option_copied c.note_at.result) (slices_of c.in-Some.run' c.args.points.now.points c.args.parts) c.in_ok-out.out = search rules in
    let pushed : c.push.new.self ≡ c.loop-run.news ++ c.in_ok-out.out ∷ [] = search rules in (
      (rest_alike points.dirs rest later c.in-Some.run' c.in-Some.ensures.steps.0 c.loop-run.invariant.0).1,
      one_more_where c.args.parts points.points c.args.runs rest later c.in-Some.run' c.args.notes.now (option_copied c.note_at.result) c.loop-run.news c.push.new.self c.in_ok-out.out
          c.in-Some.ensures.steps.0 at is pushed c.loop-run.invariant.1,
    )
