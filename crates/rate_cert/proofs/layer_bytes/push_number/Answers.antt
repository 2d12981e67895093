use Rattle.std.proofs.Common.{◌++◌, ℕ, ◌-◌, ◌+◌, ◌/◌, ◌%◌, ◌∙◌, List, ap, arith, rules}
use Rattle.rate_cert.specs.Numbers.{groups_of, number_bytes}
use Rattle.rate_cert.proofs.Spelling.{spelled-start, spelled-last, spelled-end, spelled-more, small-first, small-more, small-last}
use Rattle.rate_cert.proofs.layer_bytes.push_number.Goals as goal

pub loop-init : goal.loop-init
loop-init c = record { bytes = spelled-start c.args.bytes.now.items c.args.number; few = omega arith; small = small-first c.args.number (omega arith) }

pub returns-then-left-lt128-clause-bytes : goal.returns-then-left-lt128-clause-bytes
returns-then-left-lt128-clause-bytes c =
    c.push.ensures.items ∙ spelled-last (9 - c.loop.counter) c.loop.left c.loop.bytes.items (c.args.bytes.now.items ++ number_bytes c.args.number) c.if-left-lt128.true c.loop.invariant.bytes

pub loop-preserved : goal.loop-preserved
loop-preserved c = record {
  bytes = ap (λ (l : List ℕ). l ++ groups_of (9 - (c.loop.counter + 1)) (c.loop.left / 128)) c.push-in-loop.ensures.items
      ∙ spelled-more c.loop.counter c.loop.left (128 + c.loop.left % 128) c.loop.bytes.items (c.args.bytes.now.items ++ number_bytes c.args.number) c.loop-test.true c.if-left-lt128.false (omega arith) c.loop.invariant.bytes;
  few = search rules;
  small = small-more c.loop.counter c.loop.left c.loop-test.true c.loop.invariant.small;
}

pub overflow_cast-left-2 : goal.overflow_cast-left-2
overflow_cast-left-2 c = omega (arith, small-last c.loop.counter c.loop.left c.loop-test.false c.loop.invariant.small)

pub returns-clause-bytes : goal.returns-clause-bytes
returns-clause-bytes c =
    c.push-2.ensures.items ∙ spelled-end c.loop.counter c.loop.left c.loop.bytes.items (c.args.bytes.now.items ++ number_bytes c.args.number) c.loop-test.false c.loop.invariant.bytes
