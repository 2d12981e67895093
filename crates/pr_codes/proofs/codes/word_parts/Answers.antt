use Rattle.std.proofs.Common.{◌≡◌, ◌+◌, ◌*◌, ◌/◌, ◌%◌, ◌^◌, ◌≤◌, ◌++◌, arith, sym, ap, ◌∙◌}
use Rattle.std.proofs.lemmas.Nat.{one_shl}
use Rattle.pw_bits.specs.Bits.{bits_of, zeros}
use Rattle.pr_codes.proofs.WordsLemmas.{plain, word_small_parts, word_large_parts, machine_offset, length_below}
use Rattle.pr_codes.proofs.codes.word_parts.Goals as goal

pub overflow_sub-result : goal.overflow_sub-result
overflow_sub-result c =
    let b = c.args.book in
    let o = machine_offset b c.args.value c.from-else-high-from.result c.from-else-high-from-2.result (plain b c.requires) c.from-else-high-from.ensures c.from-else-high-from-2.ensures in
    let size = c.bit_length-size.ensures in
    omega (arith, (word_large_parts b c.args.value _ c.bit_length-size.result (omega (arith, c.from.ensures, c.if-high-from.false)) (sym o.is) size.size.0 size.low size.high).0)

pub returns-then-high-from-clause-word : goal.returns-then-high-from-clause-word
returns-then-high-from-clause-word c =
    let b = c.args.book in
    let p = plain b c.requires in
    let mask : 1 * 2 ^ b.rice % 2 ^ 64 ≡ 2 ^ b.rice = one_shl b.rice 64 (omega (arith, p.rice)) in
    let word_mask : 1 * 2 ^ b.rice % 2 ^ 32 ≡ 2 ^ b.rice = one_shl b.rice 32 (omega (arith, p.rice)) in
    word_small_parts b c.args.value (1 * 2 ^ b.rice % 2 ^ 64) (1 * 2 ^ b.rice % 2 ^ 32) (omega (arith, c.from.ensures, c.if-high-from.true)) mask word_mask
    ∙ ap (λ x. zeros (c.args.value / 2 ^ b.rice) ++ bits_of (b.rice + 1) (1 * 2 ^ b.rice % 2 ^ 64 + x)) (sym c.from-then-high-from.ensures)

pub returns-else-high-from-clause-word : goal.returns-else-high-from-clause-word
returns-else-high-from-clause-word c =
    let b = c.args.book in
    let o = machine_offset b c.args.value c.from-else-high-from.result c.from-else-high-from-2.result (plain b c.requires) c.from-else-high-from.ensures c.from-else-high-from-2.ensures in
    let size = c.bit_length-size.ensures in
    (word_large_parts b c.args.value _ c.bit_length-size.result (omega (arith, c.from.ensures, c.if-high-from.false)) (sym o.is) size.size.0 size.low size.high).1

pub returns-else-high-from-clause-sizes : goal.returns-else-high-from-clause-sizes
returns-else-high-from-clause-sizes c =
    let b = c.args.book in
    let p = plain b c.requires in
    let o = machine_offset b c.args.value c.from-else-high-from.result c.from-else-high-from-2.result p c.from-else-high-from.ensures c.from-else-high-from-2.ensures in
    let size = c.bit_length-size.ensures in
    let few : c.bit_length-size.result ≤ 33 = length_below _ c.bit_length-size.result 33 size.size.0 size.low (omega (arith, o.is, o.small, c.ranges.value.fits)) in
    (omega (arith, few, p.last), omega (arith, few))

pub returns-else-high-from-clause-small : goal.returns-else-high-from-clause-small
returns-else-high-from-clause-small c = λ h.
    let b = c.args.book in
    let p = plain b c.requires in
    let o = machine_offset b c.args.value c.from-else-high-from.result c.from-else-high-from-2.result p c.from-else-high-from.ensures c.from-else-high-from-2.ensures in
    let size = c.bit_length-size.ensures in
    let few : c.bit_length-size.result ≤ 21 = length_below _ c.bit_length-size.result 21 size.size.0 size.low (omega (arith, o.is, o.small, h)) in
    (omega (arith, few, p.last), few)
