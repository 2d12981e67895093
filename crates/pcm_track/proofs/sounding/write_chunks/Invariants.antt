use Rattle.std.proofs.Common.{◌≡◌, length, take, drop}
use Rattle.std.specs.List.{flat_map}
use Rattle.pw_outside.specs.Reading.{Told}
use Rattle.pw_outside.specs.Writing.{sink_state, Puts, Extends}
use Rattle.qt_tables.specs.Samples.{chunks}
use Rattle.pcm_track.specs.Sounding.{chunk_bytes, chunks_end}
use Rattle.pcm_track.proofs.sounding.write_chunks.Given as goal

abbrev pub invariant-loop-i : goal.invariant-loop-i
invariant-loop-i g l = record {
  answer : Told (g.M.ByteStore.bytes l.initial.movie) (λ file. chunks_end file l.channels (drop l.i (chunks l.tables.runs l.tables.offsets)) ≡ chunks_end file l.channels (chunks l.tables.runs l.tables.offsets));
  copied : Told (g.M.ByteStore.bytes l.initial.movie) (λ file. Puts (sink_state (g.K.ByteSink.held l.initial.out) (g.K.ByteSink.taken l.initial.out)) (sink_state (g.K.ByteSink.held l.out) (g.K.ByteSink.taken l.out))
      (flat_map (chunk_bytes file l.channels) (take l.i (chunks l.tables.runs l.tables.offsets))));
  extends : Extends (sink_state (g.K.ByteSink.held l.initial.out) (g.K.ByteSink.taken l.initial.out)) (sink_state (g.K.ByteSink.held l.out) (g.K.ByteSink.taken l.out));
  length : length l.piece ≡ length l.initial.piece;
  bytes : g.M.ByteStore.bytes l.movie ≡ g.M.ByteStore.bytes l.initial.movie;
  read : g.M.ByteStore.faults l.movie ≡ g.M.ByteStore.faults l.initial.movie;
  write : g.K.ByteSink.faults l.out ≡ g.K.ByteSink.faults l.initial.out;
}
