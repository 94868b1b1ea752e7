use Rattle.std.proofs.Common.{refl, ◌∙◌, ap, sym, take, arith}
use Rattle.pig_packed.specs.RowCodes.{ends_from}
use Rattle.pig_packed.proofs.Growing.{none_held}
use Rattle.pig_packed.proofs.builder.PackedBuilder.new.Goals as goal

pub invariant_of-result-2 : goal.invariant_of-result-2
invariant_of-result-2 c = (omega arith, c.new-2.ensures.items ∙ ap (ends_from 0) (sym (none_held (take 0 c.new.result.items) c.result-1.given.0 refl)))

pub returns : goal.returns
returns c = let none = none_held (take 0 c.new.result.items) c.result-1.given.0 refl in λ i. record { rows = none i; begun = c.new.ensures.items i }
