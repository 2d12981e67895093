use Rattle.std.proofs.Common.{◌≡◌, ◌+◌, ◌≤◌, length, map, drop}
use Rattle.std.specs.List.{All}
use Rattle.rate_table.specs.Table.{IsSliceTable}
use Rattle.pr_frame.specs.Written.{coded_bytes}
use Rattle.run_encode.specs.Groups.{coded_group}
use Rattle.run_encode.specs.Outputs.{state_of}
use Rattle.run_encode.proofs.FramesLeft.{SoFar}
use Rattle.run_encode.proofs.frames.write_frames.Given as goal

abbrev pub invariant-frames : goal.invariant-frames
invariant-frames g l = record {
  written : SoFar l.job (drop l.frame-index l.frames) (map coded_bytes (coded_group l.job l.frames l.initial.choice)) l.slices l.choice l.frame-index l.initial.movie.sizes l.movie.sizes
      (state_of g.K.ByteSink.held g.K.ByteSink.taken l.initial.out) (state_of g.K.ByteSink.held g.K.ByteSink.taken l.out);
  each : All IsSliceTable l.slices;
  head : l.movie.head ≡ l.initial.movie.head;
  spare : length l.frames ≤ l.movie.spare + l.frame-index;
  cause : g.K.ByteSink.faults l.out ≡ g.K.ByteSink.faults l.initial.out;
}
