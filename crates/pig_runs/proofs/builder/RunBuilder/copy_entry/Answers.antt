use Rattle.std.proofs.Common.{◌≡◌, subst}
use Rattle.std.specs.Prelude.{Some, option_map, slice_get}
use Rattle.pig_runs.specs.Entries.{AreKeyed}
use Rattle.pig_runs.specs.Packed.{packed, packed_lent}
use Rattle.pig_runs.proofs.Lending.{held_one, copied}
use Rattle.pig_runs.proofs.builder.RunBuilder.copy_entry.Goals as goal

pub add_lent-requires : goal.add_lent-requires
add_lent-requires c =
    let good : ∥ AreKeyed c.args.self.now.dirs c.args.other.now.entries ∥₁ = subst (λ ds. ∥ AreKeyed ds c.args.other.now.entries ∥₁) c.requires.alike c.lend.ensures.good in
    held_one c.args.self.now.dirs c.args.other.now.entries c.args.at (packed_lent c.lend.result) good (subst (λ ds. option_map (packed ds) (slice_get c.args.other.now.entries c.args.at) ≡ Some (packed_lent c.lend.result)) c.requires.alike c.lend.ensures.is)

pub returns-clause-ok : goal.returns-clause-ok
returns-clause-ok c =
    let good : ∥ AreKeyed c.args.self.now.dirs c.args.other.now.entries ∥₁ = subst (λ ds. ∥ AreKeyed ds c.args.other.now.entries ∥₁) c.requires.alike c.lend.ensures.good in
    copied c.args.self.now.dirs c.args.other.now.entries c.args.at (packed_lent c.lend.result) c.args.self.now c.add_lent.new.self c.add_lent.result good
    (subst (λ ds. option_map (packed ds) (slice_get c.args.other.now.entries c.args.at) ≡ Some (packed_lent c.lend.result)) c.requires.alike c.lend.ensures.is) c.add_lent.ensures.ok
