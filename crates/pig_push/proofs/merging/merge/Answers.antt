use Rattle.std.proofs.Common.{rules, ◌≡◌, ◌<◌, ◌∙◌, ap, sym}
use Rattle.std.specs.Prelude.{Some, slice_get, slice_set}
use Rattle.pig_push.proofs.MergePass.{not_same, set_around, under_old}
use Rattle.pig_push.proofs.merging.merge.Goals as goal

pub returns : goal.returns
returns c =
    let below : c.args.low < c.args.high = search rules in
    let first : c.replace-above.new.self ≡ slice_set c.args.held.now c.args.high c.in_ok-spare.spare = search rules in
    let second : c.replace-under.new.self ≡ slice_set c.replace-above.new.self c.args.low c.in_ok-gone.gone = search rules in
    let third : c.replace-last.new.self ≡ slice_set c.replace-under.new.self c.args.high c.in_ok-both.both = search rules in
    let at : slice_get c.replace-above.new.self c.args.low ≡ Some c.replace-under.result = search rules in
    record {
      under = c.replace-under.result;
      above = c.replace-above.result;
      gone = c.in_ok-gone.gone;
      both = c.in_ok-both.both;
      stands = under_old c.args.held.now c.args.low c.args.high c.in_ok-spare.spare c.replace-under.result below (ap (λ xs. slice_get xs c.args.low) (sym first) ∙ at);
      over = search rules;
      is_gone = search rules;
      is_both = search rules;
      is = third ∙ (λ z. slice_set (second z) c.args.high c.in_ok-both.both) ∙ (λ z. slice_set (slice_set (first z) c.args.low c.in_ok-gone.gone) c.args.high c.in_ok-both.both)
          ∙ set_around c.args.held.now c.args.low c.args.high c.in_ok-spare.spare c.in_ok-gone.gone c.in_ok-both.both (not_same c.args.low c.args.high below);
    }
