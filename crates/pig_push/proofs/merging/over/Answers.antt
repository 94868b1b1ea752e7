use Rattle.std.proofs.Common.{rules, ◌≡◌, ◌++◌, ◌∷◌, []}
use Rattle.std.specs.Prelude.{refl}
use Rattle.pig_push.proofs.MergePass.{more_held}
use Rattle.pig_push.proofs.merging.over.Goals as goal

pub returns : goal.returns
returns c =
    let pushed : c.push.new.self ≡ c.args.under.more ++ c.in_ok-cond.cond ∷ [] = search rules in
    record {
      node = refl;
      more = λ low cond is. more_held c.args.under.more c.push.new.self c.in_ok-cond.cond cond pushed (c.in_ok-cond.ensures low cond is);
    }
