use Rattle.std.proofs.Common.{◌-◌, arith}
use Rattle.std.proofs.lemmas.Result.{err_from_is_err_and}
use Rattle.rate_cert.proofs.Grouped.{groups-first, last_bad, last_ok, more_bad, more_ok, high_bad, high_ok, limit_some, limit_more, limit_most}
use Rattle.rate_cert.proofs.field.+groups_of.Goals as goal

pub returns-in_err-byte-clause-bytes : goal.returns-in_err-byte-clause-bytes
returns-in_err-byte-clause-bytes g t c =
    let p = err_from_is_err_and c.from_residual.result c.from_residual.ensures.1 in
    rw (p.1, p.2) (record { told = λ h. tt; answer = λ h. groups-first c.in_err-byte.field-0.0 c.args.more c.args.first _ (c.in_err-byte.ensures.bytes.answer h) })

pub returns-then-byte-ne1-clause-bytes : goal.returns-then-byte-ne1-clause-bytes
returns-then-byte-ne1-clause-bytes g t c =
    rw c.bad.ensures (record { told = λ h. tt; answer = λ h. last_bad c.args.more c.args.first _ _ c.in_ok-byte.byte c.if-more-eq0.true c.if-byte-ne1.true (c.in_ok-byte.ensures.bytes.answer h) })

pub returns-then-more-eq0-clause-bytes : goal.returns-then-more-eq0-clause-bytes
returns-then-more-eq0-clause-bytes g t c =
    record { told = c.in_ok-byte.ensures.bytes.told; answer = λ h. last_ok c.args.more c.args.first _ _ c.in_ok-byte.byte c.if-more-eq0.true c.if-byte-ne1.false (c.in_ok-byte.ensures.bytes.answer h) }

pub returns-then-more-eq0-clause-small : goal.returns-then-more-eq0-clause-small
returns-then-more-eq0-clause-small g t c = omega (arith, limit_some c.args.more)

pub returns-then-byte-eq0-clause-bytes : goal.returns-then-byte-eq0-clause-bytes
returns-then-byte-eq0-clause-bytes g t c =
    rw c.bad-then-byte-eq0.ensures (record { told = λ h. tt; answer = λ h. more_bad c.args.more c.args.first _ _ c.in_ok-byte.byte (omega (arith, c.if-more-eq0.false)) c.if-byte-eq0.true (c.in_ok-byte.ensures.bytes.answer h) })

pub returns-then-byte-lt128-clause-bytes : goal.returns-then-byte-lt128-clause-bytes
returns-then-byte-lt128-clause-bytes g t c =
    rw c.from.ensures (record { told = c.in_ok-byte.ensures.bytes.told; answer = λ h. more_ok c.args.more c.args.first _ _ c.in_ok-byte.byte (omega (arith, c.if-more-eq0.false)) c.if-byte-eq0.false c.if-byte-lt128.true (c.in_ok-byte.ensures.bytes.answer h) })

pub returns-then-byte-lt128-clause-small : goal.returns-then-byte-lt128-clause-small
returns-then-byte-lt128-clause-small g t c = omega (arith, c.from.ensures, c.if-byte-lt128.true, limit_some (c.args.more - 1), limit_more c.args.more (omega (arith, c.if-more-eq0.false)))

pub returns-in_err-high-clause-bytes : goal.returns-in_err-high-clause-bytes
returns-in_err-high-clause-bytes g t c =
    let p = err_from_is_err_and c.from_residual-in_err-high.result c.from_residual-in_err-high.ensures.1 in
    rw (p.1, p.2) (record { told = λ h. tt; answer = λ h. high_bad c.in_err-high.field-0.0 c.args.more c.args.first _ _ c.in_ok-byte.byte (omega (arith, c.if-more-eq0.false)) c.if-byte-eq0.false c.if-byte-lt128.false (c.in_ok-byte.ensures.bytes.answer h) (c.in_err-high.ensures.bytes.answer (c.in_ok-byte.ensures.bytes.told h)) })

pub overflow_mul-result : goal.overflow_mul-result
overflow_mul-result g t c = omega (arith, c.in_ok-high.ensures.small, limit_most (c.args.more - 1) (omega (arith, c.requires.few)))

pub overflow_add-result : goal.overflow_add-result
overflow_add-result g t c = omega (arith, c.in_ok-high.ensures.small, c.from-2.ensures, limit_most (c.args.more - 1) (omega (arith, c.requires.few)))

pub returns-clause-bytes : goal.returns-clause-bytes
returns-clause-bytes g t c =
    rw c.from-2.ensures (record {
      told = λ h. c.in_ok-high.ensures.bytes.told (c.in_ok-byte.ensures.bytes.told h);
      answer = λ h. high_ok c.args.more c.args.first _ _ _ c.in_ok-byte.byte c.in_ok-high.high (omega (arith, c.if-more-eq0.false)) c.if-byte-eq0.false c.if-byte-lt128.false (c.in_ok-byte.ensures.bytes.answer h) (c.in_ok-high.ensures.bytes.answer (c.in_ok-byte.ensures.bytes.told h));
    })

pub returns-clause-small : goal.returns-clause-small
returns-clause-small g t c = omega (arith, c.in_ok-high.ensures.small, c.from-2.ensures, limit_more c.args.more (omega (arith, c.if-more-eq0.false)))
