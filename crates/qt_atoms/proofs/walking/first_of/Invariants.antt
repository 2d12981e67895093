use Rattle.std.proofs.Common.{◌≡◌, ◌-◌, ◌≤◌}
use Rattle.pw_outside.specs.Reading.{Told}
use Rattle.qt_atoms.specs.Atoms.{walk, first_in, is_one_of}
use Rattle.qt_atoms.proofs.walking.first_of.Given as goal

abbrev pub invariant-walk : goal.invariant-walk
invariant-walk g l = record {
  begins : l.at ≤ l.place;
  ends : l.place ≤ l.end;
  value : Told (g.M.ByteStore.bytes l.initial.store) (λ file. first_in (is_one_of l.kinds) (walk file l.place l.end l.top) ≡ first_in (is_one_of l.kinds) (walk file l.at l.end l.top));
  bytes : g.M.ByteStore.bytes l.store ≡ g.M.ByteStore.bytes l.initial.store;
  cause : g.M.ByteStore.faults l.store ≡ g.M.ByteStore.faults l.initial.store;
}

abbrev pub decreases-walk : goal.decreases-walk
decreases-walk g l = l.end - l.place
