use Rattle.std.proofs.Common.{◌≡◌, ◌≤◌, ◌++◌, length, drop}
use Rattle.std.specs.Prelude.{IsSome, sum_by}
use Rattle.pw_outside.specs.Reading.{rest_of, bytes_of}
use Rattle.pw_outside.specs.Writing.{sink_state}
use Rattle.pcm_track.specs.Writing.{PutsSome, BothTold}
use Rattle.pcm_track.specs.Adding.{data_atoms, parts_end, part_frames}
use Rattle.pcm_track.proofs.adding.write_parts.Given as goal

abbrev pub invariant-loop-k : goal.invariant-loop-k
invariant-loop-k g l = record {
  told : IsSome (g.S.ByteSource.left l.initial.wav) → IsSome (g.S.ByteSource.left l.wav);
  ends : BothTold (g.M.ByteStore.bytes l.initial.movie) (g.S.ByteSource.left l.initial.wav) (λ file sound.
      parts_end file l.initial.reader.form.channels (drop l.k l.parts) (rest_of l.reader.place (g.S.ByteSource.left l.wav))
      ≡ parts_end file l.initial.reader.form.channels l.parts (rest_of l.initial.reader.place (g.S.ByteSource.left l.initial.wav)));
  put : PutsSome (λ bytes. BothTold (g.M.ByteStore.bytes l.initial.movie) (g.S.ByteSource.left l.initial.wav) (λ file sound.
      bytes ++ data_atoms file l.initial.reader.form.channels (drop l.k l.parts) (bytes_of (g.S.ByteSource.left l.wav)) ≡ data_atoms file l.initial.reader.form.channels l.parts sound))
      (sink_state (g.K.ByteSink.held l.initial.out) (g.K.ByteSink.taken l.initial.out)) (sink_state (g.K.ByteSink.held l.out) (g.K.ByteSink.taken l.out));
  form : l.reader.form ≡ l.initial.reader.form;
  left : sum_by part_frames (drop l.k l.parts) ≤ l.reader.left;
  within : l.reader.left ≤ l.initial.reader.form.frames;
  length : length l.piece ≡ length l.initial.piece;
  bytes : g.M.ByteStore.bytes l.movie ≡ g.M.ByteStore.bytes l.initial.movie;
  read : g.M.ByteStore.faults l.movie ≡ g.M.ByteStore.faults l.initial.movie;
  heard : g.S.ByteSource.faults l.wav ≡ g.S.ByteSource.faults l.initial.wav;
  write : g.K.ByteSink.faults l.out ≡ g.K.ByteSink.faults l.initial.out;
}
