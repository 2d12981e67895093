use Rattle.std.proofs.Common.{◌≡◌, length, take}
use Rattle.rate_least.specs.inner.Live.{MarkedMore}
use Rattle.rate_least.proofs.marks.mark_sources.Given as goal

abbrev pub invariant-loop-x : goal.invariant-loop-x
invariant-loop-x l = record {
  count : length l.marks ≡ length l.layer;
  more : MarkedMore (take l.x-index l.slice) l.q l.layer l.fn.marks l.marks;
}
