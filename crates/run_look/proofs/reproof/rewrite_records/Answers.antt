use Rattle.std.proofs.Common.{rules, ◌≡◌, ◌≤◌, Option, [], ap, sym, subst, refl, arith, ◌∙◌}
use Rattle.std.proofs.lemmas.Result.{err_from_is_err_and}
use Rattle.pw_outside.specs.Reading.{rest_of}
use Rattle.pw_outside.proofs.Puts.{puts_none}
use Rattle.rate_cert.specs.declared.settings.Settings.{Settings}
use Rattle.rate_cert.specs.Records.{Record}
use Rattle.rate_cert.specs.Files.{MayStand, IsWritten, Writing, most_records, after, further}
use Rattle.run_look.specs.declared.end.LookEnd.TheVariants as ends
use Rattle.run_look.proofs.Alone.{fewer_left, one_more, some_of}
use Rattle.run_look.proofs.Rewriting.{so_far-none, so_far-more, so_far-ends, so_far-whole, so_far-written, so_far-extends, so_far-part, part_extends, so_far-err, from-on, from-over, written_on}
use Rattle.run_look.proofs.reproof.rewrite_records.Goals as goal

pub loop-group-init : goal.loop-group-init
loop-group-init g c = record {
  settings = refl;
  writer = c.requires.writer ∙ ap (λ p. record { settings = c.args.reader.now.settings; format = 2; progress = p }) (sym c.requires.fresh);
  count = ap (λ p. p.count) c.requires.fresh;
  few = omega arith;
  going = c.requires.going;
  told = λ h. h;
  so_far = so_far-none _ _ _ _ _ _ c.requires.fresh (puts_none _ (search rules));
  becomes = λ first h. h;
  cause = refl;
  cert_cause = refl;
}

pub returns-in_err-group-clause-answer : goal.returns-in_err-group-clause-answer
returns-in_err-group-clause-answer g c =
    let p = err_from_is_err_and c.from_residual.result c.from_residual.ensures.1 in
    let i = c.loop-group.invariant in
    let few : c.loop-group.reader.progress.count ≤ most_records = search rules in
    rw (p.1, p.2) (λ h. (so_far-err _ _ _ _ (record { place = 0; bytes = [] }) c.in_err-group.field-0.0 i.so_far h few (c.in_err-group.ensures.answer (i.told h))).0)

pub returns-in_err-group-clause-cert : goal.returns-in_err-group-clause-cert
returns-in_err-group-clause-cert g c =
    let p = err_from_is_err_and c.from_residual.result c.from_residual.ensures.1 in
    let i = c.loop-group.invariant in
    let few : c.loop-group.reader.progress.count ≤ most_records = search rules in
    rw (p.1, p.2) (λ h. (so_far-err _ _ _ _ (record { place = 0; bytes = [] }) c.in_err-group.field-0.0 i.so_far h few (c.in_err-group.ensures.answer (i.told h))).1)

pub returns-in_err-group-clause-extends : goal.returns-in_err-group-clause-extends
returns-in_err-group-clause-extends g c = so_far-extends c.loop-group.invariant.so_far

pub put-requires-clause-room : goal.put-requires-clause-room
put-requires-clause-room g c =
    let i = c.loop-group.invariant in
    let both = some_of c.in_ok-group.field-0 c.in-Some.group (λ r. MayStand c.loop-group.reader.progress × IsWritten 2 r) c.in-Some.is c.in_ok-group.ensures.written in
    subst MayStand (sym (ap (λ (w : Writing). w.progress) i.writer)) both.0

pub returns-in-Err-clause-cert : goal.returns-in-Err-clause-cert
returns-in-Err-clause-cert g c = λ h.
    let i = c.loop-group.invariant in
    let few : c.loop-group.reader.progress.count ≤ most_records = search rules in
    let both = some_of c.in_ok-group.field-0 c.in-Some.group (λ r. MayStand c.loop-group.reader.progress × IsWritten 2 r) c.in-Some.is c.in_ok-group.ensures.written in
    let e = c.in_ok-group.ensures.after in
    let format : c.loop-group.writer.format ≡ 2 = ap (λ (w : Writing). w.format) i.writer in
    so_far-part i.so_far _ _ c.in-Some.group h (from-on _ c.next_in_order.new.reader.format _ c.next_in_order.new.reader.settings _ c.next_in_order.new.reader.progress _ (rest_of c.next_in_order.new.reader.place (g.S.ByteSource.left c.next_in_order.new.proof)) c.in_ok-group.field-0 c.in-Some.group c.in-Some.is (c.in_ok-group.ensures.answer (i.told h)) e.1 e.0 e.2 few) (rw format at c.in-Err.ensures.err)

pub returns-in-Err-clause-extends : goal.returns-in-Err-clause-extends
returns-in-Err-clause-extends g c =
    let i = c.loop-group.invariant in
    let format : c.loop-group.writer.format ≡ 2 = ap (λ (w : Writing). w.format) i.writer in
    part_extends i.so_far _ c.in-Some.group (rw format at c.in-Err.ensures.err)

pub loop-group-smaller-in-Ok : goal.loop-group-smaller-in-Ok
loop-group-smaller-in-Ok g c =
    let few : c.loop-group.reader.progress.count ≤ most_records = search rules in
    fewer_left c.loop-group.reader.settings _ _ c.in_ok-group.field-0 c.in-Some.group c.in-Some.is c.in_ok-group.ensures.after.2 few

pub loop-group-preserved-in-Ok : goal.loop-group-preserved-in-Ok
loop-group-preserved-in-Ok g c =
    let i = c.loop-group.invariant in
    let few : c.loop-group.reader.progress.count ≤ most_records = search rules in
    let both = some_of c.in_ok-group.field-0 c.in-Some.group (λ r. MayStand c.loop-group.reader.progress × IsWritten 2 r) c.in-Some.is c.in_ok-group.ensures.written in
    let e = c.in_ok-group.ensures.after in
    let progress : c.next_in_order.new.reader.progress ≡ further c.args.reader.now.settings c.loop-group.reader.progress c.in-Some.group =
    e.2 ∙ ap (λ (x : Option Record). after c.loop-group.reader.settings c.loop-group.reader.progress x) c.in-Some.is ∙ ap (λ (s : Settings). further s c.loop-group.reader.progress c.in-Some.group) i.settings in
    let format : c.loop-group.writer.format ≡ 2 = ap (λ (w : Writing). w.format) i.writer in
    record {
      settings = e.0 ∙ i.settings;
      writer = written_on _ _ c.loop-group.writer _ c.next_in_order.new.reader.progress c.in-Some.group c.in-Ok.ensures.after i.writer progress;
      count = one_more c.loop-group.reader.settings _ _ c.in_ok-group.field-0 c.in-Some.group _ c.in-Some.is e.2 i.count;
      few = omega (arith, both.0.1, i.count);
      going = search rules;
      told = λ h. c.in_ok-group.ensures.told (i.told h);
      so_far = so_far-more i.so_far _ _ _ c.in-Some.group (λ h. from-on _ c.next_in_order.new.reader.format _ c.next_in_order.new.reader.settings _ c.next_in_order.new.reader.progress _ (rest_of c.next_in_order.new.reader.place (g.S.ByteSource.left c.next_in_order.new.proof)) c.in_ok-group.field-0 c.in-Some.group c.in-Some.is (c.in_ok-group.ensures.answer (i.told h)) e.1 e.0 e.2 few) both.0 both.1 progress (rw format at c.in-Ok.ensures.ok);
      becomes = λ first h. c.in_ok-group.ensures.becomes first (i.becomes first h);
      cause = search rules;
      cert_cause = search rules;
    }

pub loop-group-smaller : goal.loop-group-smaller
loop-group-smaller g c =
    let few : c.loop-group.reader.progress.count ≤ most_records = search rules in
    fewer_left c.loop-group.reader.settings _ _ c.in_ok-group.field-0 c.in-Some.group c.in-Some.is c.in_ok-group.ensures.after.2 few

pub loop-group-preserved : goal.loop-group-preserved
loop-group-preserved g c =
    let i = c.loop-group.invariant in
    let few : c.loop-group.reader.progress.count ≤ most_records = search rules in
    let both = some_of c.in_ok-group.field-0 c.in-Some.group (λ r. MayStand c.loop-group.reader.progress × IsWritten 2 r) c.in-Some.is c.in_ok-group.ensures.written in
    let e = c.in_ok-group.ensures.after in
    let progress : c.next_in_order.new.reader.progress ≡ further c.args.reader.now.settings c.loop-group.reader.progress c.in-Some.group =
    e.2 ∙ ap (λ (x : Option Record). after c.loop-group.reader.settings c.loop-group.reader.progress x) c.in-Some.is ∙ ap (λ (s : Settings). further s c.loop-group.reader.progress c.in-Some.group) i.settings in
    let format : c.loop-group.writer.format ≡ 2 = ap (λ (w : Writing). w.format) i.writer in
    record {
      settings = e.0 ∙ i.settings;
      writer = written_on _ _ c.loop-group.writer _ c.next_in_order.new.reader.progress c.in-Some.group c.in-Ok.ensures.after i.writer progress;
      count = one_more c.loop-group.reader.settings _ _ c.in_ok-group.field-0 c.in-Some.group _ c.in-Some.is e.2 i.count;
      few = omega (arith, both.0.1, i.count);
      going = search rules;
      told = λ h. c.in_ok-group.ensures.told (i.told h);
      so_far = so_far-more i.so_far _ _ _ c.in-Some.group (λ h. from-on _ c.next_in_order.new.reader.format _ c.next_in_order.new.reader.settings _ c.next_in_order.new.reader.progress _ (rest_of c.next_in_order.new.reader.place (g.S.ByteSource.left c.next_in_order.new.proof)) c.in_ok-group.field-0 c.in-Some.group c.in-Some.is (c.in_ok-group.ensures.answer (i.told h)) e.1 e.0 e.2 few) both.0 both.1 progress (rw format at c.in-Ok.ensures.ok);
      becomes = λ first h. c.in_ok-group.ensures.becomes first (i.becomes first h);
      cause = search rules;
      cert_cause = search rules;
    }

pub returns-clause-answer : goal.returns-clause-answer
returns-clause-answer g c = λ h.
    let i = c.loop-group.invariant in
    let few : c.loop-group.reader.progress.count ≤ most_records = search rules in
    so_far-ends i.so_far _ h
    (from-over _ _ _ _ (rest_of c.next_in_order.new.reader.place (g.S.ByteSource.left c.next_in_order.new.proof)) c.in_ok-group.field-0 (λ r e. c.in_default.not-Some r e) (c.in_ok-group.ensures.answer (i.told h)) few) i.count

pub returns-clause-cert : goal.returns-clause-cert
returns-clause-cert g c = λ h.
    let i = c.loop-group.invariant in
    let few : c.loop-group.reader.progress.count ≤ most_records = search rules in
    so_far-whole i.so_far ends.Done h
    (from-over _ _ _ _ (rest_of c.next_in_order.new.reader.place (g.S.ByteSource.left c.next_in_order.new.proof)) c.in_ok-group.field-0 (λ r e. c.in_default.not-Some r e) (c.in_ok-group.ensures.answer (i.told h)) few)

pub returns-clause-written : goal.returns-clause-written
returns-clause-written g c = λ h.
    let i = c.loop-group.invariant in
    let few : c.loop-group.reader.progress.count ≤ most_records = search rules in
    so_far-written i.so_far ends.Done h
    (from-over _ _ _ _ (rest_of c.next_in_order.new.reader.place (g.S.ByteSource.left c.next_in_order.new.proof)) c.in_ok-group.field-0 (λ r e. c.in_default.not-Some r e) (c.in_ok-group.ensures.answer (i.told h)) few)

pub returns-clause-extends : goal.returns-clause-extends
returns-clause-extends g c = so_far-extends c.loop-group.invariant.so_far
