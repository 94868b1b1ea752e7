use Rattle.pig_keycode.proofs.Writing.{zero_written, grown_twice, end_written}
use Rattle.pig_keycode.proofs.encoding.write_text.Goals as goal

pub loop-plain-preserved : goal.loop-plain-preserved
loop-plain-preserved c = (
  zero_written c.loop-plain.out.items c.write_bytes.new.out.items c.write_bytes-in-Some.new.out.items _ c.loop-plain.rest.now c.in-Some.plain.now c.in-Some.more.now c.in_ok-write_bytes.ensures.ok c.in_ok-write_bytes-2.ensures.ok c.in-Some.ensures.plain c.in-Some.ensures.is c.loop-plain.invariant.0,
  grown_twice c.args.out.now.items c.loop-plain.out.items c.write_bytes.new.out.items c.write_bytes-in-Some.new.out.items _ _ c.loop-plain.invariant.1 c.in_ok-write_bytes.ensures.ok c.in_ok-write_bytes-2.ensures.ok,
)

pub returns : goal.returns
returns c = record {
  ok = end_written c.loop-plain.out.items c.write_bytes-2.new.out.items c.write_bytes-3.new.out.items _ c.loop-plain.rest.now c.in_ok-write_bytes-3.ensures.ok c.in_ok-write_bytes-4.ensures.ok c.in_default.ensures.none c.loop-plain.invariant.0;
  grows = grown_twice c.args.out.now.items c.loop-plain.out.items c.write_bytes-2.new.out.items c.write_bytes-3.new.out.items _ _ c.loop-plain.invariant.1 c.in_ok-write_bytes-3.ensures.ok c.in_ok-write_bytes-4.ensures.ok;
}
