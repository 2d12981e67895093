use Rattle.std.proofs.Common.{◌≡◌, ◌-◌, ◌≤◌, true}
use Rattle.std.specs.Prelude.{IfSome}
use Rattle.pw_outside.specs.Reading.{Told}
use Rattle.qt_atoms.specs.Atoms.{walk, LiesIn}
use Rattle.qt_movie.specs.Movie.{moov_in}
use Rattle.qt_movie.proofs.MoovWalk.{moov_from}
use Rattle.qt_movie.proofs.moov.moov_of.Given as goal

abbrev pub invariant-walk : goal.invariant-walk
invariant-walk g l = record {
  ends : l.place ≤ l.end;
  lies : IfSome l.moov (LiesIn 0 l.end);
  value : Told (g.M.ByteStore.bytes l.initial.store) (λ file. moov_from l.moov (walk file l.place l.end true) ≡ moov_in file);
  bytes : g.M.ByteStore.bytes l.store ≡ g.M.ByteStore.bytes l.initial.store;
  cause : g.M.ByteStore.faults l.store ≡ g.M.ByteStore.faults l.initial.store;
}

abbrev pub decreases-walk : goal.decreases-walk
decreases-walk g l = l.end - l.place
