use Rattle.rate_layers.proofs.Marked.{MarkedSo}
use Rattle.rate_layers.proofs.marks.marks_before.Given as goal

-- the sources of the first pairs of the next frontier are marked
abbrev pub invariant-loop-i : goal.invariant-loop-i
invariant-loop-i l = MarkedSo l.slice l.next l.next_marks l.layer l.marks l.i
