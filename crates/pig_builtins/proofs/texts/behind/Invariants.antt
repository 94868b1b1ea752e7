use Rattle.std.proofs.Common.{◌≡◌, ◌≤◌, length, drop}
use Rattle.std.specs.Str.{chars, encode_utf8_all}
use Rattle.std.specs.Str.Iter.{chars_rest}
use Rattle.pig_builtins.proofs.texts.behind.Given as goal

abbrev pub invariant-loop-i : goal.invariant-loop-i
invariant-loop-i l = record {
  within : l._i ≤ length (chars l.text);
  left : chars_rest l.rest ≡ encode_utf8_all (drop l._i (chars l.text));
}
