use Rattle.std.proofs.Common.{arith, ◌≡◌, ◌<◌, ◌+◌, length, ap, sym}
use Rattle.std.specs.Prelude.{IfSome, slice_get}
use Rattle.qt_tables.specs.declared.runs.ChunkRun.{ChunkRun}
use Rattle.qt_tables.proofs.Chunks.{run-at}
use Rattle.qt_tables.proofs.chunk_tables.samples_of.Goals as goal

abbrev none : ChunkRun
none = record { first = 0; samples = 0; description = 0 }

pub returns : goal.returns
returns c =
    let low = c.halves.low in
    let last : c.halves.high ≡ low + 1 = omega (arith, c.halves.invariant.order, c.halves-test) in
    let within : low < length c.args.runs.now = omega (arith, c.halves.invariant.order, c.halves.invariant.in_range) in
    let next : IfSome (slice_get c.args.runs.now (low + 1)) (λ next. c.args.number < next.first) = rw (← last) c.halves.invariant.next in
    ap (λ r. r.samples) (sym (run-at c.args.runs.now low c.args.number none c.requires.runs within (c.halves.invariant.begun none) next))
