use Rattle.std.proofs.Common.{rules, refl, ◌≡◌, ◌≤◌, ◌∙◌, sym, subst}
use Rattle.pw_outside.specs.Ports.{last}
use Rattle.pw_outside.specs.Reading.{bytes_of}
use Rattle.pw_outside.specs.Writing.{sink_state}
use Rattle.pcm_track.specs.Ends.{AnswersUnlessOutside, PutsUntil, is_read_fault, is_write_fault}
use Rattle.pcm_track.specs.Writing.{sound_line}
use Rattle.pcm_track.specs.Sounding.{sounded}
use Rattle.pcm_track.proofs.Completing.{completes, never, none-failed, none-failed-since, none-since}
use Rattle.pcm_track.proofs.Sinks.{puts_until, front_until, line_end}
use Rattle.pw_outside.proofs.Puts.{front_none, puts_then_none}
use Rattle.pcm_track.proofs.SoundedRuns.{sounded-bad, sounded-end, sounded-out, sounded-text}
use Rattle.pcm_track.proofs.sounding.sound_run.Goals as goal

pub returns-in-Err-Bad-clause-answer : goal.returns-in-Err-Bad-clause-answer
returns-in-Err-Bad-clause-answer g c h =
    let told = rw c.in-Ok.ensures.bytes at c.in-Err-Bad.ensures.value in
    let value = rw c.in-Err-Bad.field-0-is at told in
    rw (c.in-Err-Bad.kind-is, c.in-Err-Bad.place-is) (sounded-bad _ (record { kind = c.in-Err-Bad.kind; place = c.in-Err-Bad.place }) (value h))

pub returns-in-Ok-write_wav-clause-answer : goal.returns-in-Ok-write_wav-clause-answer
returns-in-Ok-write_wav-clause-answer g c h =
    let value = rw c.in-Ok.ensures.bytes at c.in-Ok-sound_of.ensures.value in
    let there = rw c.in-Ok-sound_of.ensures.bytes at c.in-Ok-write_wav.ensures.answer in
    let done = rw c.in-Ok.ensures.bytes at there in
    subst (AnswersUnlessOutside c.finish.result) (sym (sounded-end _ _ (value h))) (line_end c.finish.result _ (done h) c.finish.ensures.answer)

pub returns-in-Ok-write_wav-clause-out : goal.returns-in-Ok-write_wav-clause-out
returns-in-Ok-write_wav-clause-out g c h =
    let value = rw c.in-Ok.ensures.bytes at c.in-Ok-sound_of.ensures.value in
    let there = rw c.in-Ok-sound_of.ensures.bytes at c.in-Ok-write_wav.ensures.ok in
    let ok = rw c.in-Ok.ensures.bytes at there in
    subst (λ l. PutsUntil c.finish.result l (sink_state (g.K.ByteSink.held c.args.out.now) (g.K.ByteSink.taken c.args.out.now)) (sink_state (g.K.ByteSink.held c.finish.new.out) (g.K.ByteSink.taken c.finish.new.out)))
    (sounded-out _ _ c.in-Ok-sound_of.sound.frames (value h) c.in-Ok-sound_of.ensures.frames)
    (puts_until c.finish.result _ _ _ (puts_then_none (ok h) c.finish.ensures.out))

pub returns-in-Ok-write_wav-clause-text : goal.returns-in-Ok-write_wav-clause-text
returns-in-Ok-write_wav-clause-text g c h =
    let value = rw c.in-Ok.ensures.bytes at c.in-Ok-sound_of.ensures.value in
    let line : c.deref.result.now ≡ sound_line c.in-Ok-sound_of.sound.format c.in-Ok-sound_of.sound.frames = search rules in
    subst (λ l. PutsUntil c.finish.result l (sink_state (g.K.ByteSink.held c.args.text.now) (g.K.ByteSink.taken c.args.text.now)) (sink_state (g.K.ByteSink.held c.finish.new.text) (g.K.ByteSink.taken c.finish.new.text)))
    (line ∙ sounded-text _ _ c.in-Ok-sound_of.sound.frames (value h) c.in-Ok-sound_of.ensures.frames)
    c.finish.ensures.text

pub returns-clause-answer : goal.returns-clause-answer
returns-clause-answer g c h =
    let value = rw c.in-Ok.ensures.bytes at c.in-Ok-sound_of.ensures.value in
    let there = rw c.in-Ok-sound_of.ensures.bytes at c.in-Err.ensures.answer in
    let ended = rw c.in-Ok.ensures.bytes at there in
    subst (AnswersUnlessOutside c.in-Err.end) (sym (sounded-end _ _ (value h))) (ended h)

pub returns-clause-out : goal.returns-clause-out
returns-clause-out g c h =
    let value = rw c.in-Ok.ensures.bytes at c.in-Ok-sound_of.ensures.value in
    let there = rw c.in-Ok-sound_of.ensures.bytes at c.in-Err.ensures.err in
    let front = rw c.in-Ok.ensures.bytes at there in
    subst (λ l. PutsUntil c.in-Err.end l (sink_state (g.K.ByteSink.held c.args.out.now) (g.K.ByteSink.taken c.args.out.now)) (sink_state (g.K.ByteSink.held c.write_wav.new.out) (g.K.ByteSink.taken c.write_wav.new.out)))
    (sounded-out _ _ c.in-Ok-sound_of.sound.frames (value h) c.in-Ok-sound_of.ensures.frames)
    (front_until c.in-Err.end _ _ _ c.in-Err.ensures.not_done (front h))

pub returns-clause-text : goal.returns-clause-text
returns-clause-text g c h =
    let few : g.K.ByteSink.taken c.args.text.now ≤ last = search rules in
    front_until c.in-Err.end _ _ _ c.in-Err.ensures.not_done (front_none _ _ few)

pub returns-in-Err-Bad-clause-complete : goal.returns-in-Err-Bad-clause-complete
returns-in-Err-Bad-clause-complete g c h rm ro rt = completes _ _ (returns-in-Err-Bad-clause-answer g c h) (λ e. absurd cc) (λ e. absurd cc)

pub returns-in-Ok-write_wav-clause-complete : goal.returns-in-Ok-write_wav-clause-complete
returns-in-Ok-write_wav-clause-complete g c h rm ro rt =
    completes (sounded (bytes_of (g.M.ByteStore.bytes c.args.movie.now))).end c.finish.result (returns-in-Ok-write_wav-clause-answer g c h)
    (never (is_read_fault c.finish.result) c.finish.ensures.reads)
    (none-since _ _ _ _ _ _ (is_write_fault c.finish.result) c.in-Ok-write_wav.ensures.write.kept refl c.finish.ensures.write ro rt)

pub returns-clause-complete : goal.returns-clause-complete
returns-clause-complete g c h rm ro rt =
    completes (sounded (bytes_of (g.M.ByteStore.bytes c.args.movie.now))).end c.in-Err.end (returns-clause-answer g c h)
    (none-failed-since _ _ _ (is_read_fault c.in-Err.end) (c.in-Ok-sound_of.ensures.cause.kept ∙ c.in-Ok.ensures.cause.kept) c.in-Err.ensures.read rm)
    (none-failed _ _ (is_write_fault c.in-Err.end) c.in-Err.ensures.write ro)
