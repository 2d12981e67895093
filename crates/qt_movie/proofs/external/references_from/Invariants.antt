use Rattle.std.proofs.Common.{◌≡◌, ◌-◌, ◌≤◌, ◌++◌}
use Rattle.pw_outside.specs.Reading.{Told}
use Rattle.qt_movie.specs.Movie.{references}
use Rattle.qt_movie.proofs.external.references_from.Given as goal

abbrev pub invariant-loop : goal.invariant-loop
invariant-loop g l = record {
  within : l.place ≤ l.dref.end;
  value : Told (g.M.ByteStore.bytes l.initial.store) (λ file. l.references.items ++ references file l.dref.end (l.count - l.counter) l.place ≡ references file l.dref.end l.count l.initial.place);
  bytes : g.M.ByteStore.bytes l.store ≡ g.M.ByteStore.bytes l.initial.store;
  cause : g.M.ByteStore.faults l.store ≡ g.M.ByteStore.faults l.initial.store;
}
