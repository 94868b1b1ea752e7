use Rattle.std.proofs.Common.{rules, refl, ◌≡◌, ◌<◌, ◌∙◌, ap, arith, get_or, length, map, min, sym}
use Rattle.std.proofs.lemmas.List.{length-map}
use Rattle.std.proofs.lemmas.Option.{slice_get-get_or}
use Rattle.pig_physical.specs.Handed.{out_of, outs_of}
use Rattle.pig_driver.proofs.Looks.{gone_all, gone_next, where_size}
use Rattle.pig_driver.proofs.leaving.let_go.Goals as goal

pub loop-at-preserved : goal.loop-at-preserved
loop-at-preserved c =
    let lasts = c.args.lasts.now in
    let at = c.loop-at.at in
    let mid = outs_of c.loop-at.outs in
    let less : c.loop-at.at < length c.args.lasts.now = search rules in (
      sym (length-map c.let_go_at.new.outs (map out_of)) ∙ ap length c.let_go_at.ensures ∙ where_size _ at mid ∙ length-map c.loop-at.outs (map out_of) ∙ c.loop-at.invariant.0,
      gone_next lasts c.args.wave at (get_or lasts at 0) _ (outs_of c.args.outs.now) mid (outs_of c.let_go_at.new.outs) (slice_get-get_or lasts at 0 less) refl c.let_go_at.ensures c.loop-at.invariant.1,
    )

pub returns : goal.returns
returns c =
    let size = length-map c.args.outs.now (map out_of) in
    let end : c.loop-at.at ≡ min (length c.args.lasts.now) (length (outs_of c.args.outs.now)) = (let least = c.min-at-end.ensures in let low = c.loop-at.auto.at-end in let high = c.loop-at-test.false in omega (arith, size, least, low, high)) in
    gone_all c.args.lasts.now c.args.wave c.loop-at.at (outs_of c.args.outs.now) (outs_of c.loop-at.outs) end c.loop-at.invariant.1
