use Rattle.std.proofs.Common.{rules, refl, ◌≤◌, ap, subst, ◌∙◌}
use Rattle.pw_outside.specs.Ports.{last}
use Rattle.pw_outside.specs.Reading.{bytes_of}
use Rattle.pw_outside.specs.Writing.{sink_state}
use Rattle.pcm_track.specs.declared.end.SoundEnd.TheVariants as ends
use Rattle.pcm_track.specs.Ends.{PutsUntil, is_read_fault, is_write_fault}
use Rattle.pcm_track.specs.Adding.{added, added_line, parts_in, two_tracks_bytes}
use Rattle.pcm_track.proofs.Sinks.{puts_until, front_until, until_extends, line_end}
use Rattle.pw_outside.proofs.Puts.{front_none, puts_then_none}
use Rattle.pcm_track.proofs.AddedRuns.{WasRead, added-bad, added-bad-sound, run-answer, run-out, run-front, run-text}
use Rattle.pcm_track.proofs.Completing.{completes, none-failed, none-since, never}
use Rattle.pcm_track.proofs.adding.add_run.Goals as goal

pub returns-in-Err-Bad-clause-answer : goal.returns-in-Err-Bad-clause-answer
returns-in-Err-Bad-clause-answer g c h i =
    let value = rw c.in-Err-Bad.field-0-is at c.in-Err-Bad.ensures.value in
    rw (c.in-Err-Bad.kind-is, c.in-Err-Bad.place-is) (added-bad _ (bytes_of (g.S.ByteSource.left c.args.wav.now)) (record { kind = c.in-Err-Bad.kind; place = c.in-Err-Bad.place }) (value h))

pub returns-in-Err-Bad-clause-complete : goal.returns-in-Err-Bad-clause-complete
returns-in-Err-Bad-clause-complete g c h i rm rs ro rt =
    completes _ _ (returns-in-Err-Bad-clause-answer g c h i) (λ e. absurd cc) (λ e. absurd cc)

pub returns-in-Err-Bad-start-clause-answer : goal.returns-in-Err-Bad-start-clause-answer
returns-in-Err-Bad-start-clause-answer g c h i =
    let answer = rw c.in-Err-Bad-start.field-0-is at c.in-Err-Bad-start.ensures.bytes.answer in
    rw (c.in-Err-Bad-start.kind-is, c.in-Err-Bad-start.place-is) (added-bad-sound _ _ c.in-Ok.reader (record { kind = c.in-Err-Bad-start.kind; place = c.in-Err-Bad-start.place }) (c.in-Ok.ensures.value h) (answer i))

pub returns-in-Err-Bad-start-clause-complete : goal.returns-in-Err-Bad-start-clause-complete
returns-in-Err-Bad-start-clause-complete g c h i rm rs ro rt =
    completes _ _ (returns-in-Err-Bad-start-clause-answer g c h i) (λ e. absurd cc) (λ e. absurd cc)

pub returns-in-Ok-write_movie-clause-answer : goal.returns-in-Ok-write_movie-clause-answer
returns-in-Ok-write_movie-clause-answer g c h i =
    let m = c.in-Ok.reader in
    let s = c.in-Ok-start.sound in
    let r : WasRead (g.M.ByteStore.bytes c.args.movie.now) (g.M.ByteStore.bytes c.length.new.self) (g.S.ByteSource.left c.args.wav.now) (g.S.ByteSource.left c.start-2.new.source) m s.form s.place = record {
      same = c.in-Ok-length.ensures.bytes ∙ c.in-Ok.ensures.bytes;
      movie = c.in-Ok.ensures.value;
      form = c.in-Ok-start.ensures.bytes.answer;
      left_told = c.in-Ok-start.ensures.bytes.told;
    } in
    let xs = c.in-Ok-plan_of.ensures.parts ∙ ap (λ p. parts_in m p) c.form.ensures in
    line_end c.finish.result _ (run-answer _ _ _ _ m s.form s.place c.in-Ok-plan_of.plan.parts.items ends.Done r xs c.in-Ok-write_movie.ensures.answer h i) c.finish.ensures.answer

pub returns-in-Ok-write_movie-clause-complete : goal.returns-in-Ok-write_movie-clause-complete
returns-in-Ok-write_movie-clause-complete g c h i rm rs ro rt =
    completes (added (bytes_of (g.M.ByteStore.bytes c.args.movie.now)) (bytes_of (g.S.ByteSource.left c.args.wav.now))).end c.finish.result (returns-in-Ok-write_movie-clause-answer g c h i)
    (never (is_read_fault c.finish.result) c.finish.ensures.reads)
    (none-since _ _ _ _ _ _ (is_write_fault c.finish.result) c.in-Ok-write_movie.ensures.write.kept refl c.finish.ensures.write ro rt)

pub returns-in-Ok-write_movie-clause-out : goal.returns-in-Ok-write_movie-clause-out
returns-in-Ok-write_movie-clause-out g c h i =
    let m = c.in-Ok.reader in
    let s = c.in-Ok-start.sound in
    let r : WasRead (g.M.ByteStore.bytes c.args.movie.now) (g.M.ByteStore.bytes c.length.new.self) (g.S.ByteSource.left c.args.wav.now) (g.S.ByteSource.left c.start-2.new.source) m s.form s.place = record {
      same = c.in-Ok-length.ensures.bytes ∙ c.in-Ok.ensures.bytes;
      movie = c.in-Ok.ensures.value;
      form = c.in-Ok-start.ensures.bytes.answer;
      left_told = c.in-Ok-start.ensures.bytes.told;
    } in
    let xs = c.in-Ok-plan_of.ensures.parts ∙ ap (λ p. parts_in m p) c.form.ensures in
    let moov = c.in-Ok-plan_of.ensures.moov ∙ ap (λ p. two_tracks_bytes m p) c.form.ensures in
    puts_until c.finish.result _ _ _ (puts_then_none (run-out _ _ _ _ m s.form s.place c.in-Ok-plan_of.plan.parts.items c.in-Ok-plan_of.plan.moov _ _ r xs moov c.in-Ok-write_movie.ensures.ok h i) c.finish.ensures.out)

pub returns-in-Ok-write_movie-clause-text : goal.returns-in-Ok-write_movie-clause-text
returns-in-Ok-write_movie-clause-text g c h i =
    let m = c.in-Ok.reader in
    let s = c.in-Ok-start.sound in
    let r : WasRead (g.M.ByteStore.bytes c.args.movie.now) (g.M.ByteStore.bytes c.length.new.self) (g.S.ByteSource.left c.args.wav.now) (g.S.ByteSource.left c.start-2.new.source) m s.form s.place = record {
      same = c.in-Ok-length.ensures.bytes ∙ c.in-Ok.ensures.bytes;
      movie = c.in-Ok.ensures.value;
      form = c.in-Ok-start.ensures.bytes.answer;
      left_told = c.in-Ok-start.ensures.bytes.told;
    } in
    let line = c.deref.ensures.value ∙ c.in-Ok-plan_of.ensures.line ∙ ap (λ p. added_line m p) c.form.ensures in
    subst (λ l. PutsUntil c.finish.result l (sink_state (g.K.ByteSink.held c.args.text.now) (g.K.ByteSink.taken c.args.text.now)) (sink_state (g.K.ByteSink.held c.finish.new.text) (g.K.ByteSink.taken c.finish.new.text)))
    (line ∙ run-text _ _ _ _ m s.form s.place r h i) c.finish.ensures.text

pub returns-in-Ok-write_movie-clause-out_extends : goal.returns-in-Ok-write_movie-clause-out_extends
returns-in-Ok-write_movie-clause-out_extends g c = (c.in-Ok-write_movie.ensures.ok.bytes, puts_then_none c.in-Ok-write_movie.ensures.ok.puts c.finish.ensures.out)

pub returns-in-Ok-write_movie-clause-text_extends : goal.returns-in-Ok-write_movie-clause-text_extends
returns-in-Ok-write_movie-clause-text_extends g c = until_extends c.finish.result _ _ _ c.finish.ensures.text

pub returns-clause-answer : goal.returns-clause-answer
returns-clause-answer g c h i =
    let m = c.in-Ok.reader in
    let s = c.in-Ok-start.sound in
    let r : WasRead (g.M.ByteStore.bytes c.args.movie.now) (g.M.ByteStore.bytes c.length.new.self) (g.S.ByteSource.left c.args.wav.now) (g.S.ByteSource.left c.start-2.new.source) m s.form s.place = record {
      same = c.in-Ok-length.ensures.bytes ∙ c.in-Ok.ensures.bytes;
      movie = c.in-Ok.ensures.value;
      form = c.in-Ok-start.ensures.bytes.answer;
      left_told = c.in-Ok-start.ensures.bytes.told;
    } in
    let xs = c.in-Ok-plan_of.ensures.parts ∙ ap (λ p. parts_in m p) c.form.ensures in
    run-answer _ _ _ _ m s.form s.place c.in-Ok-plan_of.plan.parts.items c.in-Err.end r xs c.in-Err.ensures.answer h i

pub returns-clause-complete : goal.returns-clause-complete
returns-clause-complete g c h i rm rs ro rt =
    completes (added (bytes_of (g.M.ByteStore.bytes c.args.movie.now)) (bytes_of (g.S.ByteSource.left c.args.wav.now))).end c.in-Err.end (returns-clause-answer g c h i)
    (none-since _ _ _ _ _ _ (is_read_fault c.in-Err.end) (c.in-Ok-length.ensures.cause.kept ∙ c.in-Ok.ensures.cause.kept) c.in-Ok-start.ensures.cause.kept c.in-Err.ensures.read rm rs)
    (none-failed _ _ (is_write_fault c.in-Err.end) c.in-Err.ensures.write ro)

pub returns-clause-out : goal.returns-clause-out
returns-clause-out g c h i =
    let m = c.in-Ok.reader in
    let s = c.in-Ok-start.sound in
    let r : WasRead (g.M.ByteStore.bytes c.args.movie.now) (g.M.ByteStore.bytes c.length.new.self) (g.S.ByteSource.left c.args.wav.now) (g.S.ByteSource.left c.start-2.new.source) m s.form s.place = record {
      same = c.in-Ok-length.ensures.bytes ∙ c.in-Ok.ensures.bytes;
      movie = c.in-Ok.ensures.value;
      form = c.in-Ok-start.ensures.bytes.answer;
      left_told = c.in-Ok-start.ensures.bytes.told;
    } in
    let xs = c.in-Ok-plan_of.ensures.parts ∙ ap (λ p. parts_in m p) c.form.ensures in
    let moov = c.in-Ok-plan_of.ensures.moov ∙ ap (λ p. two_tracks_bytes m p) c.form.ensures in
    front_until c.in-Err.end _ _ _ c.in-Err.ensures.not_done (run-front _ _ _ _ m s.form s.place c.in-Ok-plan_of.plan.parts.items c.in-Ok-plan_of.plan.moov _ _ r xs moov c.in-Err.ensures.err h i)

pub returns-clause-text : goal.returns-clause-text
returns-clause-text g c h i =
    let few : g.K.ByteSink.taken c.args.text.now ≤ last = search rules in
    front_until c.in-Err.end _ _ _ c.in-Err.ensures.not_done (front_none _ _ few)
