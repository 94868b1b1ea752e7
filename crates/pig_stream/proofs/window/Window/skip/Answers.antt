use Rattle.std.proofs.Common.{◌∙◌, ◌+◌, ◌-◌, ap, sym, length, take, drop, refl, arith}
use Rattle.std.proofs.lemmas.Result.{on_ok_weaker}
use Rattle.pig_stream.specs.Ranges.{lines_coming}
use Rattle.pig_stream.proofs.Handed.{skip_then, skipped_all}
use Rattle.pig_stream.proofs.window.Window.skip.Goals as goal

pub returns-then-at-block-clause-lines : goal.returns-then-at-block-clause-lines
returns-then-at-block-clause-lines c = λ later.
    ap (λ r. lines_coming r later) (c.pass.ensures ∙ ap (λ n. record { held = c.args.self.now.held; limit = c.args.self.now.limit - n; skips = c.args.self.now.skips; ended = c.args.self.now.ended }) c.if-at-block.true)
    ∙ skipped_all c.args.self.now c.args.block.now later c.requires.begun c.requires.skips c.requires.none (sym c.if-at-block.true ∙ c.place_of_lf-at.ensures.is)

pub returns-clause-lines : goal.returns-clause-lines
returns-clause-lines c = λ later.
    let block = c.args.block.now in
    let at = c.place_of_lf-at.result in
    on_ok_weaker c.hold.result
    (λ is. skip_then c.args.self.now c.begin_behind.new.self c.hold.new.self block (take (length block - (at + 1)) (drop (at + 1) block)) later at
    c.requires.begun c.requires.skips c.requires.none c.place_of_lf-at.ensures.is
    (let h = c.place_of_lf-at.ensures.within in let n = c.if-at-block.false in omega (arith, h, n)) refl c.begin_behind.ensures is)
    c.hold.ensures.held
