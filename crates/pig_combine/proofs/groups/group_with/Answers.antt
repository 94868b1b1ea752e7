use Rattle.std.proofs.Common.{ap, refl, ◌∙◌, length, map, []}
use Rattle.pig_combine.specs.Tallies.{told}
use Rattle.pig_combine.proofs.Found.{written_back}
use Rattle.pig_combine.proofs.groups.group_with.Goals as goal

pub returns-clause-told : goal.returns-clause-told
returns-clause-told c =
    ap (map told)
    (written_back c.in_ok-tallies.tallies.items c.add_row.new.tallies (length c.in_ok-tallies.tallies.items) refl (c.add_row.ensures.length ∙ ap length c.as_mut_slice.ensures.value))
    ∙ c.in_ok-add_row.ensures.told [] (ap (map told) c.as_mut_slice.ensures.value ∙ c.in_ok-tallies.ensures.told)
