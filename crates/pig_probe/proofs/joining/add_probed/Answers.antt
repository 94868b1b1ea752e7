use Rattle.std.proofs.Common.{sym, subst}
use Rattle.pig_probe.specs.Begun.{IsBegun}
use Rattle.pig_probe.proofs.joining.add_probed.Goals as goal

pub add_alone-requires : goal.add_alone-requires
add_alone-requires c = record {
  front = subst IsBegun (sym c.in_ok-add_partners.ensures.front) c.requires.front;
  none_begun = c.add_partners.ensures.none_begun;
}
