use Rattle.std.proofs.Common.{◌≡◌, ◌-◌, ◌≤◌}
use Rattle.std.specs.List.{All}
use Rattle.pw_outside.specs.Reading.{Told}
use Rattle.qt_movie.specs.Movie.{described}
use Rattle.qt_movie.specs.Ranges.{HasSize}
use Rattle.qt_movie.proofs.InOrder.{after_front}
use Rattle.qt_movie.proofs.description.described_of.Given as goal

abbrev pub invariant-loop : goal.invariant-loop
invariant-loop g l = record {
  within : l.place ≤ l.stsd.end;
  value : Told (g.M.ByteStore.bytes l.initial.store) (λ file. after_front l.descriptions.items (described file l.stsd (l.count - l.counter) l.place) ≡ described file l.stsd l.count l.initial.place);
  sizes : All (HasSize l.stsd.end) l.descriptions.items;
  bytes : g.M.ByteStore.bytes l.store ≡ g.M.ByteStore.bytes l.initial.store;
  cause : g.M.ByteStore.faults l.store ≡ g.M.ByteStore.faults l.initial.store;
}
