use Rattle.std.proofs.Common.{◌∷◌, arith, ap, sym, ◌∙◌}
use Rattle.pw_outside.specs.Reading.{bytes_of}
use Rattle.pw_bits.proofs.ReadingLemmas.{byte-read}
use Rattle.pw_bits.proofs.byte.next_byte.Goals as goal

pub returns-in-Ok-clause-bytes : goal.returns-in-Ok-clause-bytes
returns-in-Ok-clause-bytes g c =
    let r = c.in-Ok.ensures in
    (c.first.ensures.small, λ told. byte-read (g.S.ByteSource.left c.args.source.now) (g.S.ByteSource.left c.read.new.self) c.read.new.piece c.in-Ok.field-0 (omega arith) (omega (arith, r.count)) r.bytes.0 told ∙ ap (λ b. b ∷ bytes_of (g.S.ByteSource.left c.read.new.self)) (sym c.first.ensures.value))
