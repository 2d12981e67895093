use Rattle.std.proofs.Common.{◌≡◌, ◌-◌, ◌≤◌}
use Rattle.pw_outside.specs.Reading.{Told}
use Rattle.qt_movie.specs.Movie.{is_external}
use Rattle.pcm_track.specs.Track.{readable}
use Rattle.pcm_track.proofs.track.has_external.Given as goal

abbrev pub invariant-loop : goal.invariant-loop
invariant-loop g l = record {
  within : l.place ≤ l.stsd.end;
  value : Told (g.M.ByteStore.bytes l.initial.store) (λ file. is_external l.references (readable file l.stsd (l.count - l.counter) l.place) ≡ is_external l.references (readable file l.stsd l.count l.initial.place));
  bytes : g.M.ByteStore.bytes l.store ≡ g.M.ByteStore.bytes l.initial.store;
  cause : g.M.ByteStore.faults l.store ≡ g.M.ByteStore.faults l.initial.store;
}
