use Rattle.std.proofs.Common.{◌≡◌, ◌∷◌, [], length, take, ◌∙◌, ap}
use Rattle.std.proofs.Math.Seq.{take-append_seam}
use Rattle.pig_probe.proofs.ByCodes.{code_with_end, none_begun, whole_with_end}
use Rattle.pig_probe.proofs.pieces.add_row.Goals as goal

pub push_code-requires : goal.push_code-requires
push_code-requires c = record {
  none_begun = c.requires.none_begun;
  whole = whole_with_end c.args.front.now.items c.as_slice.result.now (c.as_slice.ensures.value ∙ c.in_ok-push.ensures.items) c.requires.front;
}

pub returns-clause-row : goal.returns-clause-row
returns-clause-row c fields h =
    c.in_ok-push_code.ensures.ok fields (code_with_end c.args.front.now.items c.as_slice.result.now fields (c.as_slice.ensures.value ∙ c.in_ok-push.ensures.items) h)

pub returns-clause-front : goal.returns-clause-front
returns-clause-front c =
    let front = c.args.front.now.items in
    let size : length c.as_slice-size.result.now ≡ length front = ap length c.as_slice-size.ensures.value in
    c.truncate.ensures.items ∙ (λ i. take (size i) (c.in_ok-push.ensures.items i)) ∙ take-append_seam front (0 ∷ [])

pub returns-clause-none_begun : goal.returns-clause-none_begun
returns-clause-none_begun c =
    none_begun c.args.front.now.items c.as_slice.result.now (c.as_slice.ensures.value ∙ c.in_ok-push.ensures.items) c.args.built.now c.push_code.new.self c.requires.front c.in_ok-push_code.ensures.ok
