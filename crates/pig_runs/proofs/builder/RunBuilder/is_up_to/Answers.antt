use Rattle.std.proofs.Common.{◌≡◌, subst}
use Rattle.std.specs.Prelude.{Some, option_map, slice_get}
use Rattle.pig_runs.specs.Entries.{AreKeyed}
use Rattle.pig_runs.specs.Packed.{packed, packed_lent}
use Rattle.pig_runs.proofs.Lending.{lent_up_to}
use Rattle.pig_runs.proofs.builder.RunBuilder.is_up_to.Goals as goal

pub returns : goal.returns
returns c =
    lent_up_to c.args.equal c.args.self.now.dirs c.args.self.now.entries c.args.other.now.entries c.args.at c.args.there (packed_lent c.lend.result) (packed_lent c.lend-2.result) _ c.lend.ensures.good
    (subst (λ ds. ∥ AreKeyed ds c.args.other.now.entries ∥₁) c.requires.alike c.lend-2.ensures.good) c.lend.ensures.is
    (subst (λ ds. option_map (packed ds) (slice_get c.args.other.now.entries c.args.there) ≡ Some (packed_lent c.lend-2.result)) c.requires.alike c.lend-2.ensures.is) c.stands_up_to.ensures
