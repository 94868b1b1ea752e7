use Rattle.std.proofs.Common.{◌≡◌, sym, ◌∙◌, ap, subst}
use Rattle.std.specs.Prelude.{Some, option_map, slice_get}
use Rattle.pig_runs.specs.Entries.{AreKeyed}
use Rattle.pig_runs.specs.Packed.{packed, packed_lent}
use Rattle.pig_runs.specs.Places.{found_place}
use Rattle.pig_runs.proofs.Stretched.{held_at_place}
use Rattle.pig_runs.proofs.merged.Merged.lend.Goals as goal

pub returns-clause-is : goal.returns-clause-is
returns-clause-is c =
    let here = subst (λ l. slice_get l c.args.at ≡ Some c.place_at-place.result) c.as_slice.ensures.value c.place_at-place.ensures in
    subst (λ b. option_map (packed b.dirs) (slice_get b.entries c.args.at) ≡ Some (packed_lent c.lend_place.result)) c.self.view_is
    (held_at_place c.self.inside.dirs (found_place c.self.inside.stretches.items) c.self.inside.places.items c.self.inside.held c.args.at c.place_at-place.result here
    ∙ ap Some (sym (c.lend_place.ensures ∙ ap (λ l. found_place l c.place_at-place.result) c.as_slice-2.ensures.value)))

pub returns-clause-values : goal.returns-clause-values
returns-clause-values c = subst (λ b. ∥ AreKeyed b.dirs b.entries ∥₁) c.self.view_is c.self.inside.held.1.0
