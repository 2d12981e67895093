use Rattle.std.proofs.Common.{◌≡◌, ◌+◌, ◌-◌, ◌<◌, ◌≤◌, ◌++◌, length}
use Rattle.rate_cert.specs.Numbers.{groups_of, number_bytes, limit}
use Rattle.rate_cert.proofs.layer_bytes.push_number.Given as goal

abbrev pub invariant-loop : goal.invariant-loop
invariant-loop l = record {
  bytes : l.bytes.items ++ groups_of (9 - l.counter) l.left ≡ l.initial.bytes.items ++ number_bytes l.fn.number;
  few : length l.bytes.items ≤ length l.initial.bytes.items + l.counter;
  small : l.left < limit (9 - l.counter);
}
