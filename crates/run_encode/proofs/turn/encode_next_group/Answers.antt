use Rattle.std.proofs.Common.{◌≡◌, ◌<◌, ◌≤◌, arith, length, ap, ◌∙◌}
use Rattle.std.proofs.lemmas.List.{length-map}
use Rattle.run_encode.specs.Groups.{coefficients_in}
use Rattle.run_encode.specs.inner.Steps.{counts_of}
use Rattle.run_encode.proofs.Beginning.{nothing-put}
use Rattle.run_encode.proofs.Extending.{none-extends, all-extends, stops-extends}
use Rattle.run_encode.proofs.Turning.{wrote, stopped, unread, counts-kept, nonempty, frames-number}
use Rattle.run_encode.proofs.turn.encode_next_group.Goals as goal

pub returns-in-Err-clause-write : goal.returns-in-Err-clause-write
returns-in-Err-clause-write g c = counts-kept _ _ _ _ _ c.in-Err.ensures.kinds.0

pub returns-in-Err-clause-turn : goal.returns-in-Err-clause-turn
returns-in-Err-clause-turn g c = λ told. unread _ _ _ (counts_of c.args.movie.now c.args.proof.now) (counts_of c.args.movie.now c.args.proof.now) _ c.in-Err.end
    (nothing-put _ (g.met.K.ByteSink.counts c.args.out.now).1 (g.met.K.ByteSink.counts c.args.cert.now).1 (g.met.K.ByteSink.counts c.args.text.now).1) (c.in-Err.ensures.stops told)

pub returns-then-len-from-clause-turn : goal.returns-then-len-from-clause-turn
returns-then-len-from-clause-turn g c = λ told.
    let r = c.in-Ok.ensures.group in
    let n : length c.in-Ok.frames.items ≡ length r.pictures = ap length r.coefficients ∙ length-map r.pictures (coefficients_in c.args.job.now) in
    let lt : length r.pictures < c.args.job.now.group = omega (arith, n, c.if-len-from.true, c.len.ensures, c.from.ensures, c.in-Ok.frames.ok.0) in
    let one = nonempty _ _ c.is_empty.ensures c.if-is_empty.false in
    let some : 1 ≤ length r.pictures = omega (arith, n, one, c.in-Ok.frames.ok.0) in
    record {
      wrote = wrote _ _ _ _ _ _ r.pictures _ _ _ _ _ (c.frames-number.ensures.value ∙ c.requires.number) (c.deref.ensures.value ∙ r.coefficients) r.number (r.end told lt)
          c.in-Ok-encode_frames.ensures.ends;
      some = some;
      short = lt;
    }

pub returns-in-Ok-encode_frames-clause-turn : goal.returns-in-Ok-encode_frames-clause-turn
returns-in-Ok-encode_frames-clause-turn g c = λ told.
    let r = c.in-Ok.ensures.group in
    let n : length c.in-Ok.frames.items ≡ length r.pictures = ap length r.coefficients ∙ length-map r.pictures (coefficients_in c.args.job.now) in
    let e : length r.pictures ≡ c.args.job.now.group = omega (arith, n, c.if-len-from.false, c.len.ensures, c.from.ensures, r.few, c.in-Ok.frames.ok.0) in
    record {
      wrote = wrote _ _ _ _ _ _ r.pictures _ _ _ _ _ (c.frames-number.ensures.value ∙ c.requires.number) (c.deref.ensures.value ∙ r.coefficients) r.number (r.next told e)
          c.in-Ok-encode_frames.ensures.ends;
      whole = e;
    }

pub returns-in-Ok-encode_frames-clause-moves : goal.returns-in-Ok-encode_frames-clause-moves
returns-in-Ok-encode_frames-clause-moves g c =
    let r = c.in-Ok.ensures.group in
    let w = c.in-Ok-encode_frames.ensures.ends in
    let n : length c.in-Ok.frames.items ≡ length r.pictures = ap length r.coefficients ∙ length-map r.pictures (coefficients_in c.args.job.now) in
    let one = nonempty _ _ c.is_empty.ensures c.if-is_empty.false in
    let some : 1 ≤ length r.pictures = omega (arith, n, one, c.in-Ok.frames.ok.0) in
    let sizes = frames-number c.args.job.now c.deref.result.now w.choice c.args.movie.now.sizes c.encode_frames.new.movie.sizes w.sizes in
    let len : length c.deref.result.now ≡ length r.pictures = ap length c.deref.ensures.value ∙ n in
    record {
      more = omega (arith, r.number, some);
      few = r.limit;
      head = r.head;
      frames_are = omega (arith, sizes, len, r.number, c.requires.number);
      records_few = omega (arith, w.records, c.requires.records, r.number, some);
    }

pub returns-clause-turn : goal.returns-clause-turn
returns-clause-turn g c = λ told.
    let r = c.in-Ok.ensures.group in
    let n : length c.in-Ok.frames.items ≡ length r.pictures = ap length r.coefficients ∙ length-map r.pictures (coefficients_in c.args.job.now) in
    let one = nonempty _ _ c.is_empty.ensures c.if-is_empty.false in
    let some : 1 ≤ length r.pictures = omega (arith, n, one, c.in-Ok.frames.ok.0) in
    stopped _ _ _ _ _ _ r told some _ _ _ (counts_of c.args.movie.now c.args.proof.now) (counts_of c.encode_frames.new.movie c.encode_frames.new.proof) _ _ c.in-Err-encode_frames.end (c.frames-number.ensures.value ∙ c.requires.number) c.deref.ensures.value c.in-Err-encode_frames.ensures.ends

pub returns-in-Err-clause-extends : goal.returns-in-Err-clause-extends
returns-in-Err-clause-extends g c = none-extends _ (g.met.K.ByteSink.counts c.args.out.now).1 (g.met.K.ByteSink.counts c.args.cert.now).1 (g.met.K.ByteSink.counts c.args.text.now).1

pub returns-then-is_empty-clause-extends : goal.returns-then-is_empty-clause-extends
returns-then-is_empty-clause-extends g c = none-extends _ (g.met.K.ByteSink.counts c.args.out.now).1 (g.met.K.ByteSink.counts c.args.cert.now).1 (g.met.K.ByteSink.counts c.args.text.now).1

pub returns-then-len-from-clause-extends : goal.returns-then-len-from-clause-extends
returns-then-len-from-clause-extends g c = all-extends _ _ _ c.in-Ok-encode_frames.ensures.ends.puts

pub returns-in-Ok-encode_frames-clause-extends : goal.returns-in-Ok-encode_frames-clause-extends
returns-in-Ok-encode_frames-clause-extends g c = all-extends _ _ _ c.in-Ok-encode_frames.ensures.ends.puts

pub returns-clause-extends : goal.returns-clause-extends
returns-clause-extends g c = stops-extends _ _ _ (counts_of c.args.movie.now c.args.proof.now) (counts_of c.encode_frames.new.movie c.encode_frames.new.proof) c.in-Err-encode_frames.end _ _ c.in-Err-encode_frames.ensures.ends
