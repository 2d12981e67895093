use Rattle.std.proofs.Common.{arith, ◌≡◌, ◌<◌, ◌+◌, ◌-◌, length}
use Rattle.qt_tables.specs.declared.runs.ChunkRun.{ChunkRun}
use Rattle.qt_tables.proofs.Chunks.{held-first, held-all, some-run, first-of, in-run}
use Rattle.qt_tables.proofs.finding.held_of.Goals as goal

abbrev none : ChunkRun
none = record { first = 0; samples = 0; description = 0 }

pub last_begun-k-requires-clause-some : goal.last_begun-k-requires-clause-some
last_begun-k-requires-clause-some c = omega (arith, some-run c.args.runs.now c.args.offsets.now c.args.i c.requires.runs c.requires.inside, c.requires.sums.count)

pub last_begun-k-requires-clause-first : goal.last_begun-k-requires-clause-first
last_begun-k-requires-clause-first c = omega (arith, held-first c.args.runs.now c.args.offsets.now c.requires.runs, c.requires.sums.each 0 (omega arith))

pub last_begun-k-requires-clause-last : goal.last_begun-k-requires-clause-last
last_begun-k-requires-clause-last c =
    let e : length c.args.sums.now - 1 ≡ length c.args.runs.now = omega (arith, c.requires.sums.count) in
    rw e (omega (arith, held-all c.args.runs.now c.args.offsets.now, c.requires.sums.each (length c.args.runs.now) (omega arith), c.requires.inside))

pub held_in-requires-clause-first : goal.held_in-requires-clause-first
held_in-requires-clause-first c =
    let within : c.last_begun-k.result < length c.args.runs.now = omega (arith, c.last_begun-k.ensures.in_range, c.requires.sums.count) in
    first-of c.args.runs.now c.last_begun-k.result none c.requires.runs within

pub returns : goal.returns
returns c =
    let k = c.last_begun-k.result in
    let within : k < length c.args.runs.now = omega (arith, c.last_begun-k.ensures.in_range, c.requires.sums.count) in
    let here = c.requires.sums.each k (omega arith) in
    let next = c.requires.sums.each (k + 1) (omega arith) in
    let there = in-run c.args.runs.now c.args.offsets.now k c.args.i none c.requires.runs within (omega (arith, here, c.last_begun-k.ensures.begun)) (omega (arith, next, c.last_begun-k.ensures.next)) in
    rw (c.held_in.ensures.chunk, c.held_in.ensures.first, c.held_in.ensures.run, here) there
