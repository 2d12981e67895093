use Rattle.std.proofs.Common.{◌≡◌, ◌-◌, ◌≤◌, ◌++◌, length, take}
use Rattle.pic_synth.proofs.source.SyntheticSourceByteSource.read.Given as goal

abbrev pub invariant-loop-count : goal.invariant-loop-count
invariant-loop-count l = record {
  in_range : l.count ≤ length l.piece;
  bytes : l.initial.self ≡ take l.count l.piece ++ l.self;
}

abbrev pub decreases-loop-count : goal.decreases-loop-count
decreases-loop-count l = length l.initial.piece - l.count
