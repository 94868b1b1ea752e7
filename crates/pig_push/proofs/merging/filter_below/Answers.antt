use Rattle.std.proofs.Common.{rules, ◌≡◌, [], ap, true}
use Rattle.std.specs.Prelude.{refl, length}
use Rattle.std.proofs.lemmas.Option.{slice_get_read}
use Rattle.pig_typed.specs.Typed.{typed}
use Rattle.pig_plan.specs.Plans.{op_of}
use Rattle.pig_push.specs.Lone.{is_shared}
use Rattle.pig_push.proofs.LoneReaders.{unshared}
use Rattle.pig_push.proofs.MergePass.{none_typed}
use Rattle.pig_push.proofs.merging.filter_below.Goals as goal

pub returns : goal.returns
returns c =
    let lone : c.is_lone.result ≡ true = search rules in
    let none : c.in-Some.above.now.more ≡ [] = search rules in
    record {
      under = c.in-Some-get.under.now;
      above = c.in-Some.above.now;
      input = c.in-Filter-op.input;
      first = typed c.in-Filter-op.cond;
      cond = typed c.in-Filter.cond;
      stands = slice_get_read c.args.held.now (length c.args.held.now) c.in-Filter.input c.in-Some-get.under.now refl c.in-Some-get.ensures.lookup.3.0 c.in-Some-get.ensures.lookup.1;
      over = slice_get_read c.args.held.now (length c.args.held.now) c.args.high c.in-Some.above.now refl c.in-Some.ensures.lookup.3.0 c.in-Some.ensures.lookup.1;
      is_under = ap op_of c.in-Filter-op.is;
      is_above = ap op_of c.in-Filter.is;
      plain = none_typed c.in-Some.above.now.more none;
      lone = unshared (is_shared c.args.readers.now c.in-Filter.input) c.is_lone.result c.is_lone.ensures lone;
    }
