use Rattle.std.proofs.Common.{◌≡◌, take}
use Rattle.pcm_track.specs.Adding.{chunk_frames}
use Rattle.pcm_track.proofs.plan.chunk_frames.Given as goal

abbrev pub invariant-loop-part : goal.invariant-loop-part
invariant-loop-part l = l.frames.items ≡ chunk_frames (take l.part-index l.parts)
