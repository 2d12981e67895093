use Rattle.std.proofs.Common.{refl, arith, length, ap, ◌∙◌}
use Rattle.run_encode.proofs.Looping.{none-yet, one-more}
use Rattle.run_encode.proofs.Ending.{ended, all-done, last-done}
use Rattle.run_encode.proofs.Extending.{none-extends, then-extends}
use Rattle.run_encode.proofs.groups.encode_groups.Goals as goal

pub groups-init : goal.groups-init
groups-init g c = record {
  told = λ h. h;
  done = λ h. none-yet _ _ _ _ _ c.requires.fresh c.requires.movie c.requires.proof
      (g.met.K.ByteSink.counts c.args.out.now).1 (g.met.K.ByteSink.counts c.args.cert.now).1 (g.met.K.ByteSink.counts c.args.text.now).1;
  extends = none-extends _ (g.met.K.ByteSink.counts c.args.out.now).1 (g.met.K.ByteSink.counts c.args.cert.now).1 (g.met.K.ByteSink.counts c.args.text.now).1;
  head = refl;
  form = refl;
  reader = c.requires.reader;
  number = omega (arith, ap length c.requires.movie, c.requires.fresh);
  open_proof = c.requires.open;
  few = omega (arith, c.requires.proof);
  source = refl;
  sinks = (refl, refl, refl);
}

pub groups-smaller : goal.groups-smaller
groups-smaller g c = omega (arith, c.in-Whole.ensures.moves.more, c.in-Whole.ensures.moves.few)

pub groups-preserved : goal.groups-preserved
groups-preserved g c = record {
  told = λ h. c.in-Whole.ensures.told (c.groups.invariant.told h);
  done = λ h. one-more _ _ _ _ _ _ _ _ _ _ _ (c.groups.invariant.done h) (c.in-Whole.ensures.turn (c.groups.invariant.told h));
  extends = then-extends _ _ _ c.groups.invariant.extends c.in-Whole.ensures.extends;
  head = c.in-Whole.ensures.head ∙ c.groups.invariant.head;
  form = c.in-Whole.ensures.moves.head ∙ c.groups.invariant.form;
  reader = c.in-Whole.ensures.reader;
  number = c.in-Whole.ensures.moves.frames_are;
  open_proof = c.in-Whole.ensures.open;
  few = c.in-Whole.ensures.moves.records_few;
  source = c.in-Whole.ensures.read.kept ∙ c.groups.invariant.source;
  sinks = (
    c.in-Whole.ensures.write.out_kept ∙ c.groups.invariant.sinks.0,
    c.in-Whole.ensures.write.cert_kept ∙ c.groups.invariant.sinks.1,
    c.in-Whole.ensures.write.text_kept ∙ c.groups.invariant.sinks.2,
  );
}

pub returns-in-Last-clause-ended : goal.returns-in-Last-clause-ended
returns-in-Last-clause-ended g c = λ h. last-done _ _ _ _ _ _ _ _ _ _ c.requires.job.some_group (c.groups.invariant.done h) (c.in-Last.ensures.turn (c.groups.invariant.told h))

pub returns-in-Ended-clause-ended : goal.returns-in-Ended-clause-ended
returns-in-Ended-clause-ended g c = λ h. ended _ _ _ _ _ _ _ _ _ c.requires.job.some_group (c.groups.invariant.done h) c.in-Ended.end (c.in-Ended.ensures.turn (c.groups.invariant.told h))

pub returns-in-End-clause-ended : goal.returns-in-End-clause-ended
returns-in-End-clause-ended g c = λ h.
    let t = c.in-End.ensures.turn (c.groups.invariant.told h) in
    all-done _ _ _ _ _ _ _ _ _ c.requires.job.some_group (c.groups.invariant.done h) t.1 t.0 t.2

pub returns-in-Last-clause-extends : goal.returns-in-Last-clause-extends
returns-in-Last-clause-extends g c = then-extends _ _ _ c.groups.invariant.extends c.in-Last.ensures.extends

pub returns-in-End-clause-extends : goal.returns-in-End-clause-extends
returns-in-End-clause-extends g c = then-extends _ _ _ c.groups.invariant.extends c.in-End.ensures.extends

pub returns-in-Ended-clause-extends : goal.returns-in-Ended-clause-extends
returns-in-Ended-clause-extends g c = then-extends _ _ _ c.groups.invariant.extends c.in-Ended.ensures.extends
