use Rattle.std.proofs.Common.{map, take, drop, sym, ◌∙◌, ap, subst}
use Rattle.pig_value.specs.Sorts.{Ascends}
use Rattle.pig_runs.specs.Entries.{run_cmp}
use Rattle.pig_runs.specs.Packed.{IsPart, found_at, packed}
use Rattle.pig_runs.specs.Entries.{AreKeyed}
use Rattle.pig_runs.proofs.Stretched.{cut_found, cut_part}
use Rattle.pig_runs.proofs.builder.RunBuilder.stretch.Goals as goal

pub returns-clause-sound : goal.returns-clause-sound
returns-clause-sound c =
    let bytes = c.known_bytes.ensures.same ∙ c.as_slice.ensures.value in
    let slots = c.slots_between.ensures ∙ ap (λ l. drop c.args.from (take c.args.end l)) c.as_slice-2.ensures.value in
    record {
      part = subst (λ b. IsPart b c.slots_between.result.now) (sym bytes)
          (subst (IsPart c.self.inside.bytes.items) (sym slots)
          (cut_part c.self.inside.dirs c.self.inside.bytes.items c.self.inside.slots.items c.self.inside.held c.args.from c.args.end c.self.invariant
          (subst (λ b. ∥ Ascends (run_cmp b.dirs) b.entries ∥₁) (sym c.self.view_is) c.requires)));
      bytes = c.known_bytes.ensures.small;
    }

pub returns-clause-found : goal.returns-clause-found
returns-clause-found c =
    let bytes = c.known_bytes.ensures.same ∙ c.as_slice.ensures.value in
    let slots = c.slots_between.ensures ∙ ap (λ l. drop c.args.from (take c.args.end l)) c.as_slice-2.ensures.value in
    (λ i. map (found_at (bytes i)) (slots i))
    ∙ (cut_found c.self.inside.dirs c.self.inside.bytes.items c.self.inside.slots.items c.self.inside.held c.args.from c.args.end
    ∙ ap (λ b. map (packed b.dirs) (drop c.args.from (take c.args.end b.entries))) c.self.view_is)

pub returns-clause-good : goal.returns-clause-good
returns-clause-good c = subst (λ b. ∥ AreKeyed b.dirs b.entries ∥₁) c.self.view_is c.self.inside.held.1.0
