use Rattle.std.proofs.Common.{◌≡◌, ◌++◌, map, subst}
use Rattle.std.specs.Prelude.{OnOk}
use Rattle.pig_runs.specs.Entries.{AreKeyed}
use Rattle.pig_runs.specs.Packed.{packed, packed_lent}
use Rattle.pig_runs.proofs.Lending.{lent_all}
use Rattle.pig_runs.proofs.builder.RunBuilder.lend_all.Goals as goal

pub returns-clause-told : goal.returns-clause-told
returns-clause-told c =
    subst (λ b. OnOk c.lend_slots.result (map packed_lent c.lend_slots.new.all.items ≡ map packed_lent c.args.all.now.items ++ map (packed b.dirs) b.entries)) c.self.view_is
    (lent_all c.self.inside.dirs c.self.inside.bytes.items c.as_slice.result.now c.self.inside.slots.items c.as_slice-2.result.now c.self.inside.held (map packed_lent c.args.all.now.items) (map packed_lent c.lend_slots.new.all.items) c.lend_slots.result c.as_slice.ensures.value c.as_slice-2.ensures.value c.lend_slots.ensures)

pub returns-clause-good : goal.returns-clause-good
returns-clause-good c = subst (λ b. ∥ AreKeyed b.dirs b.entries ∥₁) c.self.view_is c.self.inside.held.1.0
