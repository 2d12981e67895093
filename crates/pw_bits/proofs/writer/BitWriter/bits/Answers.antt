use Rattle.std.proofs.Common.{◌+◌, ◌*◌, ◌/◌, ◌%◌, ◌^◌, arith, ap}
use Rattle.std.proofs.lemmas.Nat.{one_shl}
use Rattle.pw_bits.specs.Writing.{Writer}
use Rattle.pw_bits.proofs.WritingLemmas.{joined, piece-is, number-lt, Writes-call, Begins-call}
use Rattle.pw_bits.proofs.writer.BitWriter.bits.Goals as goal

pub overflow_cast-all-2 : goal.overflow_cast-all-2
overflow_cast-all-2 g c =
    let s = c.self.inside in
    let j = joined s.count c.args.n s.low c.args.value c.from.result c.from-2.result c.self.invariant.0 c.self.invariant.1 c.requires.size c.requires.fits c.from.ensures c.from-2.ensures in
    omega (arith, number-lt s.count s.low c.args.n c.args.value (c.from.result * 2 ^ c.args.n % 2 ^ 64 + c.from-2.result) (s.count + c.args.n) j)

pub returns-in-Ok-clause-ok : goal.returns-in-Ok-clause-ok
returns-in-Ok-clause-ok g c =
    let s = c.self.inside in
    let j = joined s.count c.args.n s.low c.args.value c.from.result c.from-2.result c.self.invariant.0 c.self.invariant.1 c.requires.size c.requires.fits c.from.ensures c.from-2.ensures in
    let all = c.from.result * 2 ^ c.args.n % 2 ^ 64 + c.from-2.result in
    let total = s.count + c.args.n in
    let put = c.in-Ok.ensures in
    let size = c.from-3.ensures in
    Writes-call s.count s.low c.args.n c.args.value all total j (g.K.ByteSink.held c.args.sink.now) (g.K.ByteSink.held c.put.new.sink) (g.K.ByteSink.taken c.args.sink.now) (g.K.ByteSink.taken c.put.new.sink) (1 * 2 ^ (total % 8) % 2 ^ 64) c.args.self.now.pending _
    (ap (λ (w : Writer). w.pending) c.self.view_is) (one_shl (total % 8) 64 (omega arith)) (piece-is c.to_be_bytes-bytes.result (all / 2 ^ (total % 8)) c.from-3.result (total / 8) c.to_be_bytes-bytes.ensures c.from-3.ensures) put.bytes put.taken

pub returns-in-Err-clause-err : goal.returns-in-Err-clause-err
returns-in-Err-clause-err g c =
    let s = c.self.inside in
    let j = joined s.count c.args.n s.low c.args.value c.from.result c.from-2.result c.self.invariant.0 c.self.invariant.1 c.requires.size c.requires.fits c.from.ensures c.from-2.ensures in
    let all = c.from.result * 2 ^ c.args.n % 2 ^ 64 + c.from-2.result in
    let total = s.count + c.args.n in
    let put = c.in-Err.ensures in
    Begins-call s.count s.low c.args.n c.args.value all total j (g.K.ByteSink.held c.args.sink.now) (g.K.ByteSink.held c.put.new.sink) (g.K.ByteSink.taken c.args.sink.now) (g.K.ByteSink.taken c.put.new.sink) c.in-Err.field-0.out c.args.self.now.pending _ _
    (ap (λ (w : Writer). w.pending) c.self.view_is) (piece-is c.to_be_bytes-bytes.result (all / 2 ^ (total % 8)) c.from-3.result (total / 8) c.to_be_bytes-bytes.ensures c.from-3.ensures) put.bytes put.taken
