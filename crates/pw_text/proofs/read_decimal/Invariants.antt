use Rattle.std.proofs.Common.{◌≡◌, ◌<◌, ◌^◌, drop}
use Rattle.std.specs.Str.Parse.{digits_value, digits_value_after, AllDigits}
use Rattle.pw_text.proofs.read_decimal.Given as goal

abbrev pub invariant-loop-byte : goal.invariant-loop-byte
invariant-loop-byte l = record {
  if_all : AllDigits 10 l.bytes → AllDigits 10 (drop l.byte-index l.bytes);
  all_if : AllDigits 10 (drop l.byte-index l.bytes) → AllDigits 10 l.bytes;
  small : l.value < 2 ^ 64;
  value : digits_value_after 10 l.value (drop l.byte-index l.bytes) ≡ digits_value 10 l.bytes;
}
