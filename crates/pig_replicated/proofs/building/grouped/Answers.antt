use Rattle.std.proofs.Common.{◌∙◌, ap, map, subst, sym}
use Rattle.pig_value.specs.Sorts.{Ascends}
use Rattle.pig_value.proofs.list_laws.Bags.{sort_ascends}
use Rattle.pig_replicated.specs.Held.{keyed_of}
use Rattle.pig_replicated.specs.Holding.{keyed_cmp}
use Rattle.pig_replicated.proofs.Held.{keyed_total}
use Rattle.pig_replicated.proofs.building.grouped.Goals as goal

pub groups_of-requires : goal.groups_of-requires
groups_of-requires c = record {
  sorted = subst (Ascends keyed_cmp) (sym (ap (map keyed_of) c.deref.ensures.value ∙ c.sorted-held.ensures))
      (sort_ascends keyed_cmp keyed_total (map keyed_of c.in_ok-held_rows.field-0.items));
}
