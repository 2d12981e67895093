use Rattle.std.proofs.Common.{◌≡◌, ◌≤◌, suc, false}
use Rattle.std.specs.Prelude.{IsSome}
use Rattle.pw_outside.specs.Ports.{GoesOn}
use Rattle.pw_outside.specs.Reading.{rest_of}
use Rattle.pw_outside.specs.Writing.{sink_state}
use Rattle.rate_cert.specs.Files.{most_records, no_records}
use Rattle.run_look.specs.Reproofing.{rewritten_at}
use Rattle.run_look.proofs.Alone.{marks_left}
use Rattle.run_look.proofs.Rewriting.{SoFar, rewritten_from}
use Rattle.run_look.proofs.reproof.rewrite_records.Given as goal

abbrev pub invariant-loop-group : goal.invariant-loop-group
invariant-loop-group g l = record {
  settings : l.reader.settings ≡ l.initial.reader.settings;
  writer : l.writer ≡ record { settings = l.initial.reader.settings; format = 2; progress = l.reader.progress };
  count : l.reader.progress.count ≡ l.records;
  few : l.records ≤ most_records;
  going : l.reader.ended ≡ false;
  told : IsSome (g.S.ByteSource.left l.initial.proof) → IsSome (g.S.ByteSource.left l.proof);
  so_far : SoFar (IsSome (g.S.ByteSource.left l.initial.proof)) l.initial.reader.settings l.reader.progress
      (sink_state (g.K.ByteSink.held l.initial.cert) (g.K.ByteSink.taken l.initial.cert)) (sink_state (g.K.ByteSink.held l.cert) (g.K.ByteSink.taken l.cert))
      (rewritten_at (suc most_records) l.initial.reader.format l.initial.reader.settings no_records (rest_of l.initial.reader.place (g.S.ByteSource.left l.initial.proof)))
      (rewritten_from l.reader.format l.reader.settings l.reader.progress (rest_of l.reader.place (g.S.ByteSource.left l.proof)));
  becomes : GoesOn g.S.ByteSource.becomes l.initial.proof l.proof;
  cause : g.S.ByteSource.faults l.proof ≡ g.S.ByteSource.faults l.initial.proof;
  cert_cause : g.K.ByteSink.faults l.cert ≡ g.K.ByteSink.faults l.initial.cert;
}

abbrev pub decreases-loop-group : goal.decreases-loop-group
decreases-loop-group g l = marks_left l.reader.progress
