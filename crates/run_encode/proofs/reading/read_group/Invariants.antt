use Rattle.std.proofs.Common.{◌≡◌}
use Rattle.pic_raw.specs.Any.{IsReader, head_of}
use Rattle.run_encode.proofs.Gathering.{SoFar}
use Rattle.run_encode.proofs.reading.read_group.Given as goal

abbrev pub invariant-group : goal.invariant-group
invariant-group g l = record {
  read : SoFar l.job l.initial.reader l.reader (g.S.ByteSource.left l.initial.pictures) (g.S.ByteSource.left l.pictures) l.group.items l.count;
  reader : IsReader l.reader;
  head : head_of l.reader ≡ l.job.head;
  source : g.S.ByteSource.faults l.pictures ≡ g.S.ByteSource.faults l.initial.pictures;
}
