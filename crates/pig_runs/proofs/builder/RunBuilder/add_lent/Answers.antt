use Rattle.std.proofs.Common.{◌≡◌, [], ◌∷◌, map, sym, ap, subst}
use Rattle.std.proofs.Math.Logic.{∥∥₁_elim}
use Rattle.pig_runs.specs.Entries.{IsEntry}
use Rattle.pig_runs.specs.Packed.{Packed, packed, packed_lent, found_at, Held, held_prop}
use Rattle.pig_runs.proofs.Adding.{finds_lent, new_placed, held_after, placed_after, seen_after, seen_same}
use Rattle.pig_runs.proofs.builder.RunBuilder.add_lent.Goals as goal

pub invariant_of-self-inside : goal.invariant_of-self-inside
invariant_of-self-inside c =
    let p : Packed = packed_lent c.args.lent in
    let same : c.args.self.now.dirs ≡ c.self.inside.dirs = sym (ap (λ b. b.dirs) c.self.view_is) in (
      ∥∥₁_elim c.requires (held_prop c.self.inside.dirs (map (found_at c.add_lent.new.bytes.items) c.add_lent.new.slots.items))
          (λ given. let one : Held c.self.inside.dirs (p ∷ []) = subst (λ ds. Held ds (p ∷ [])) same given in
          held_after c.self.inside.dirs one.0 c.self.inside.bytes.items c.add_lent.new.bytes.items _ c.self.inside.slots.items c.add_lent.new.slots.items _ c.add_lent.result (finds_lent c.self.inside.dirs c.self.inside.bytes.items p one) c.self.invariant c.self.inside.held c.add_lent.ensures.bytes c.add_lent.ensures.slots c.add_lent.ensures.err_bytes c.add_lent.ensures.err_slots),
      tt,
    )

pub invariant_of-self : goal.invariant_of-self
invariant_of-self c =
    placed_after c.self.inside.dirs [] c.self.inside.bytes.items c.add_lent.new.bytes.items _ c.self.inside.slots.items c.add_lent.new.slots.items _ c.add_lent.result (new_placed c.self.inside.bytes.items _ _ c.args.lent.input) c.self.invariant c.add_lent.ensures.bytes c.add_lent.ensures.slots c.add_lent.ensures.err_bytes c.add_lent.ensures.err_slots

pub returns-clause-ok : goal.returns-clause-ok
returns-clause-ok c e good told =
    let p : Packed = packed_lent c.args.lent in
    let same : c.args.self.now.dirs ≡ c.self.inside.dirs = sym (ap (λ b. b.dirs) c.self.view_is) in
    let good : IsEntry c.self.inside.dirs e = subst (λ ds. IsEntry ds e) same good in
    let told : packed c.self.inside.dirs e ≡ p = subst (λ ds. packed ds e ≡ p) same told in
    let one : Held c.self.inside.dirs (p ∷ []) = (e ∷ [], (∣ (good, tt) ∣₁, (λ i. told i ∷ []))) in
    (seen_after c.self.inside.dirs (e ∷ []) c.self.inside.bytes.items c.add_lent.new.bytes.items _ c.self.inside.slots.items c.add_lent.new.slots.items _ c.add_lent.result (finds_lent c.self.inside.dirs c.self.inside.bytes.items p one) c.self.invariant c.self.inside.held c.add_lent.ensures.bytes c.add_lent.ensures.slots c.add_lent.ensures.err_bytes c.add_lent.ensures.err_slots c.self-1.given.0 c.args.self.now (sym c.self.view_is)).0

pub returns-clause-err : goal.returns-clause-err
returns-clause-err c =
    seen_same c.self.inside.dirs c.self.inside.bytes.items c.add_lent.new.bytes.items c.self.inside.slots.items c.add_lent.new.slots.items c.add_lent.result c.self.inside.held c.add_lent.ensures.err_bytes c.add_lent.ensures.err_slots c.self-1.given.0 c.args.self.now (sym c.self.view_is)
