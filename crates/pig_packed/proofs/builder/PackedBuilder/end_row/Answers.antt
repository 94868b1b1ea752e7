use Rattle.std.proofs.Common.{◌≡◌, ◌∙◌, ap, sym, subst, length, drop}
use Rattle.pig_keycode.specs.Codable.{IsCodeOfRow}
use Rattle.pig_packed.specs.Growth.{IsWhole}
use Rattle.pig_packed.specs.RowCodes.{ends_from}
use Rattle.pig_packed.proofs.Growing.{on_err, same_rows, held_ended, fits_ended, ended_seen}
use Rattle.pig_packed.proofs.builder.PackedBuilder.end_row.Goals as goal

pub invariant_of-self : goal.invariant_of-self
invariant_of-self c = (c.self.invariant.0, c.in_err-push_end.ensures.err ∙ (c.self.invariant.1 ∙ ap (ends_from 0) (sym (same_rows _ c.in_err-push_end.self-1-own.given.0 c.self.inside.held))))

pub returns-in_err-push_end-clause-err : goal.returns-in_err-push_end-clause-err
returns-in_err-push_end-clause-err c =
    let rows = same_rows _ c.in_err-push_end.self-1-own.given.0 c.self.inside.held in
    on_err c.from_residual.result ((λ i. record { rows = rows i; begun = drop c.self.inside.done c.self.inside.bytes.items }) ∙ c.self.view_is)

pub invariant_of-self-inside-2 : goal.invariant_of-self-inside-2
invariant_of-self-inside-2 c =
    let all : length c.as_slice-end.result.now ≡ length c.self.inside.bytes.items = ap length c.as_slice-end.ensures.value in
    (held_ended c.self.inside.bytes.items c.self.inside.done (length c.as_slice-end.result.now) c.self.invariant.0 all c.self.inside.held (subst IsWhole (sym (ap (λ b. b.begun) c.self.view_is)) c.requires), tt)

pub invariant_of-self-2 : goal.invariant_of-self-2
invariant_of-self-2 c =
    let all : length c.as_slice-end.result.now ≡ length c.self.inside.bytes.items = ap length c.as_slice-end.ensures.value in
    fits_ended c.self.inside.bytes.items c.self.inside.done (length c.as_slice-end.result.now) c.self.invariant.0 all c.self.inside.held (subst IsWhole (sym (ap (λ b. b.begun) c.self.view_is)) c.requires) c.self-2-1.given.0 c.self.inside.ends.items c.push_end.new.ends.items c.self.invariant.1 c.in_ok-push_end.ensures.ok

pub returns-clause-ok : goal.returns-clause-ok
returns-clause-ok c row is =
    let all : length c.as_slice-end.result.now ≡ length c.self.inside.bytes.items = ap length c.as_slice-end.ensures.value in
    let code : IsCodeOfRow (drop c.self.inside.done c.self.inside.bytes.items) row = subst (λ l. IsCodeOfRow l row) (sym (ap (λ b. b.begun) c.self.view_is)) is in
    ended_seen c.self.inside.bytes.items c.self.inside.done (length c.as_slice-end.result.now) c.self.invariant.0 all c.self.inside.held row code c.self-2-1.given.0 c.args.self.now c.self.view_is
