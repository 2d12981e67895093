use Rattle.std.proofs.Common.{◌≡◌, ◌-◌, ◌+◌, ◌≤◌, length, IsSome}
use Rattle.pic_y4m.specs.declared.head.TheConstants.{MAX_FRAMES}
use Rattle.pic_raw.specs.Any.{IsReader, head_of, frames_of}
use Rattle.run_encode.specs.Outputs.{outputs, ExtendsAll}
use Rattle.run_encode.specs.inner.Steps.{IsOpen, counts_of, left_by, WholeGroups}
use Rattle.run_encode.proofs.groups.encode_groups.Given as goal

abbrev pub invariant-groups : goal.invariant-groups
invariant-groups g l = record {
  told : IsSome (g.S.ByteSource.left l.initial.pictures) → IsSome (g.S.ByteSource.left l.pictures);
  done : IsSome (g.S.ByteSource.left l.initial.pictures) → WholeGroups l.job (left_by l.initial.reader (g.S.ByteSource.left l.initial.pictures)) (left_by l.reader (g.S.ByteSource.left l.pictures))
      (frames_of l.reader) (counts_of l.movie l.proof)
      (outputs g.K.ByteSink.held g.K.ByteSink.taken l.initial.out l.initial.cert l.initial.text) (outputs g.K.ByteSink.held g.K.ByteSink.taken l.out l.cert l.text);
  extends : ExtendsAll (outputs g.K.ByteSink.held g.K.ByteSink.taken l.initial.out l.initial.cert l.initial.text) (outputs g.K.ByteSink.held g.K.ByteSink.taken l.out l.cert l.text);
  head : l.movie.head ≡ l.initial.movie.head;
  form : head_of l.reader ≡ head_of l.initial.reader;
  reader : IsReader l.reader;
  number : length l.movie.sizes ≡ frames_of l.reader;
  open_proof : IsOpen l.job l.proof;
  few : l.proof.progress.count ≤ frames_of l.reader;
  source : g.S.ByteSource.faults l.pictures ≡ g.S.ByteSource.faults l.initial.pictures;
  sinks : (g.K.ByteSink.faults l.out ≡ g.K.ByteSink.faults l.initial.out) × (g.K.ByteSink.faults l.cert ≡ g.K.ByteSink.faults l.initial.cert) × (g.K.ByteSink.faults l.text ≡ g.K.ByteSink.faults l.initial.text);
}

abbrev pub decreases-groups : goal.decreases-groups
decreases-groups g l = MAX_FRAMES + 1 - frames_of l.reader
