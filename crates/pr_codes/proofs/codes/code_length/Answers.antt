use Rattle.std.proofs.Common.{length, false, arith, ap, length-append}
use Rattle.std.proofs.lemmas.List.{length-replicate}
use Rattle.pw_bits.specs.Bits.{bits_of, zeros}
use Rattle.pw_bits.proofs.BitsLemmas.{length-bits_of}
use Rattle.pr_codes.proofs.codes.code_length.Goals as goal

pub returns : goal.returns
returns c =
    let p = c.word_parts-parts.result in
    omega (arith, ap length c.word_parts-parts.ensures.word, length-append (zeros p.zeros) (bits_of p.size p.number), length-replicate p.zeros false, length-bits_of p.size p.number, c.from.ensures, c.from-2.ensures)
