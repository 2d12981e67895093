use Rattle.std.proofs.Common.{length, sym, ap, ◌∙◌}
use Rattle.pw_bits.specs.Writing.{Writer}
use Rattle.pw_bits.proofs.BitsLemmas.{length-bits_of}
use Rattle.pw_bits.proofs.writer.BitWriter.pending.Goals as goal

pub returns-clause-count : goal.returns-clause-count
returns-clause-count c = sym (length-bits_of c.self.inside.count c.self.inside.low) ∙ ap (λ (w : Writer). length w.pending) c.self.view_is
