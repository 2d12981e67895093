use Rattle.std.proofs.Common.{◌≡◌, ◌+◌, ◌-◌, ◌*◌, ◌≤◌, None, false}
use Rattle.pw_outside.specs.Reading.{Told}
use Rattle.qt_atoms.specs.Atoms.{walk}
use Rattle.qt_movie.specs.Movie.{first_track, traks_of}
use Rattle.qt_movie.proofs.InOrder.{track_from}
use Rattle.qt_movie.proofs.track.first_track_of.Given as goal

abbrev pub invariant-walk : goal.invariant-walk
invariant-walk g l = record {
  begins : l.moov.body ≤ l.place;
  ends : l.place ≤ l.moov.end;
  few : l.number * 8 ≤ l.place;
  whole : Told (g.M.ByteStore.bytes l.initial.store) (λ file. (walk file l.place l.moov.end false).bad ≡ None);
  value : Told (g.M.ByteStore.bytes l.initial.store) (λ file. track_from file l.place l.moov.end (l.number + 1) ≡ first_track file (traks_of file l.moov) 1);
  bytes : g.M.ByteStore.bytes l.store ≡ g.M.ByteStore.bytes l.initial.store;
  cause : g.M.ByteStore.faults l.store ≡ g.M.ByteStore.faults l.initial.store;
}

abbrev pub decreases-walk : goal.decreases-walk
decreases-walk g l = l.moov.end - l.place
