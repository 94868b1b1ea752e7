use Rattle.std.proofs.Common.{ap, refl, ◌∙◌, length, map}
use Rattle.std.proofs.lemmas.Result.{on_ok_weaker}
use Rattle.pig_combine.specs.Tallies.{told}
use Rattle.pig_combine.proofs.Found.{written_back}
use Rattle.pig_combine.proofs.groups.add_to.Goals as goal

pub returns-clause-told : goal.returns-clause-told
returns-clause-told c rows h =
    on_ok_weaker c.add_row.result
    (λ e. ap (map told) (written_back c.args.group.now.tallies.items c.add_row.new.tallies (length c.args.group.now.tallies.items) refl (c.add_row.ensures.length ∙ ap length c.as_mut_slice.ensures.value)) ∙ e)
    (c.add_row.ensures.told rows (ap (map told) c.as_mut_slice.ensures.value ∙ h))
