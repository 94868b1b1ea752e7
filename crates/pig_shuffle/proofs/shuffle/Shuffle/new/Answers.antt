use Rattle.pig_plan.specs.Plans.{op_of}
use Rattle.pig_shuffle.specs.Held.{dirs_by, dirs_in}
use Rattle.pig_shuffle.proofs.Keyed.{fits_all, key_fits, value_of_key}
use Rattle.pig_shuffle.proofs.shuffle.Shuffle.new.Goals as goal

pub invariant_of-result : goal.invariant_of-result
invariant_of-result c =
    let o = op_of c.args.op.now in
    let literals = c.requires.literals in
    record {
      keys = c.in_ok-keying.ensures;
      values = λ row h. value_of_key (dirs_by o) _ (key_fits o literals c.args.input row h);
      fit = λ row h. fits_all o literals c.args.input row h (dirs_in c.in_ok-parts.parts.runs.items) c.in_ok-parts.ensures.dirs;
    }
