use Rattle.std.proofs.Common.{rules, ◌≡◌, sym, subst}
use Rattle.std.specs.declared.result.Result.TheVariants.{Err}
use Rattle.pig_value.specs.Leaves.{AreBytes}
use Rattle.pig_keycode.specs.Codes.{text_code}
use Rattle.pig_keycode.specs.Reading.{StandsFirst, byte_code, IsByteOrEnd}
use Rattle.pig_keycode.proofs.Passing.{passes_on}
use Rattle.pig_keycode.proofs.Sequences.{TextGoes, text_chunk, text_goes_on, text_ends, text_off}
use Rattle.pig_keycode.proofs.decoding.read_text.Goals as goal

pub returns-in_err-byte : goal.returns-in_err-byte
returns-in_err-byte c =
    let is : c.from_residual-in_err-byte.result ≡ Err c.in_err-byte.field-0.0 = search rules in
    let chunk = text_chunk c.args.bytes.now c.known_bytes-here.result.now c.split_at.result.0.now c.split_at.result.1.now c.loop-text.text.items c.extend_from_slice.new.self.items c.plain_length.result c.split_at.ensures.front c.split_at.ensures.back c.plain_length.ensures.plain c.known_bytes-here.ensures.small c.in_ok-extend_from_slice.ensures.items (subst (λ l. TextGoes c.args.bytes.now l c.loop-text.text.items) (sym c.known_bytes-here.ensures.same) c.loop-text.invariant) in
    passes_on (λ text. text.items) text_code AreBytes (λ b. b) byte_code IsByteOrEnd c.args.bytes.now c.split_at.result.1.now c.in_err-byte.field-0.0 c.from_residual-in_err-byte.result is c.in_err-byte.ensures (text_off c.args.bytes.now c.split_at.result.1.now c.extend_from_slice.new.self.items chunk)

pub returns-in-None : goal.returns-in-None
returns-in-None c =
    let chunk = text_chunk c.args.bytes.now c.known_bytes-here.result.now c.split_at.result.0.now c.split_at.result.1.now c.loop-text.text.items c.extend_from_slice.new.self.items c.plain_length.result c.split_at.ensures.front c.split_at.ensures.back c.plain_length.ensures.plain c.known_bytes-here.ensures.small c.in_ok-extend_from_slice.ensures.items (subst (λ l. TextGoes c.args.bytes.now l c.loop-text.text.items) (sym c.known_bytes-here.ensures.same) c.loop-text.invariant) in
    text_ends c.args.bytes.now c.split_at.result.1.now c.in_ok-byte.left.now c.extend_from_slice.new.self.items chunk
    (subst (λ b. StandsFirst byte_code IsByteOrEnd c.split_at.result.1.now b c.in_ok-byte.left.now) c.in-None.is c.in_ok-byte.ensures)

pub loop-text-preserved : goal.loop-text-preserved
loop-text-preserved c =
    let chunk = text_chunk c.args.bytes.now c.known_bytes-here.result.now c.split_at.result.0.now c.split_at.result.1.now c.loop-text.text.items c.extend_from_slice.new.self.items c.plain_length.result c.split_at.ensures.front c.split_at.ensures.back c.plain_length.ensures.plain c.known_bytes-here.ensures.small c.in_ok-extend_from_slice.ensures.items (subst (λ l. TextGoes c.args.bytes.now l c.loop-text.text.items) (sym c.known_bytes-here.ensures.same) c.loop-text.invariant) in
    subst (λ text. TextGoes c.args.bytes.now c.in_ok-byte.left.now text) (sym c.in_ok-push_byte-in-Some.ensures)
    (text_goes_on c.args.bytes.now c.split_at.result.1.now c.in_ok-byte.left.now c.extend_from_slice.new.self.items c.in-Some.byte chunk
    (subst (λ b. StandsFirst byte_code IsByteOrEnd c.split_at.result.1.now b c.in_ok-byte.left.now) c.in-Some.is c.in_ok-byte.ensures))
