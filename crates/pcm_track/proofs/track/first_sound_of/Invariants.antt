use Rattle.std.proofs.Common.{◌≡◌, ◌-◌, ◌≤◌, None, false}
use Rattle.pw_outside.specs.Reading.{Told}
use Rattle.qt_atoms.specs.Atoms.{walk}
use Rattle.qt_movie.specs.Movie.{traks_of}
use Rattle.pcm_track.specs.Track.{first_sound}
use Rattle.pcm_track.proofs.SoundTracks.{sound_from}
use Rattle.pcm_track.proofs.track.first_sound_of.Given as goal

abbrev pub invariant-walk : goal.invariant-walk
invariant-walk g l = record {
  begins : l.moov.body ≤ l.place;
  ends : l.place ≤ l.moov.end;
  whole : Told (g.M.ByteStore.bytes l.initial.store) (λ file. (walk file l.place l.moov.end false).bad ≡ None);
  value : Told (g.M.ByteStore.bytes l.initial.store) (λ file. sound_from file l.place l.moov.end ≡ first_sound file (traks_of file l.moov));
  bytes : g.M.ByteStore.bytes l.store ≡ g.M.ByteStore.bytes l.initial.store;
  cause : g.M.ByteStore.faults l.store ≡ g.M.ByteStore.faults l.initial.store;
}

abbrev pub decreases-walk : goal.decreases-walk
decreases-walk g l = l.moov.end - l.place
