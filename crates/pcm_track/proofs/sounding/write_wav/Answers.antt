use Rattle.std.proofs.Common.{rules, ◌≡◌, ◌++◌, subst}
use Rattle.std.proofs.lemmas.Result.{on_ok_weaker, on_err_weaker}
use Rattle.pw_outside.specs.Writing.{sink_state, Puts}
use Rattle.pw_outside.proofs.Puts.{puts_then, then_front}
use Rattle.pcm_track.specs.Writing.{wav_head}
use Rattle.pcm_track.proofs.sounding.write_wav.Goals as goal

pub returns-in-Ok-put_all-clause-ok : goal.returns-in-Ok-put_all-clause-ok
returns-in-Ok-put_all-clause-ok g c h =
    let piece : c.held.result.now ≡ wav_head c.args.sound.now.format c.args.sound.now.frames = search rules in
    let first = subst (λ l. Puts (sink_state (g.K.ByteSink.held c.args.out.now) (g.K.ByteSink.taken c.args.out.now)) (sink_state (g.K.ByteSink.held c.put_all.new.sink) (g.K.ByteSink.taken c.put_all.new.sink)) l)
    piece c.in-Ok-put_all.ensures.ok in
    on_ok_weaker c.write_chunks.result (λ p. puts_then first p) (c.write_chunks.ensures.ok h)

pub returns-in-Ok-put_all-clause-err : goal.returns-in-Ok-put_all-clause-err
returns-in-Ok-put_all-clause-err g c h =
    let piece : c.held.result.now ≡ wav_head c.args.sound.now.format c.args.sound.now.frames = search rules in
    let first = subst (λ l. Puts (sink_state (g.K.ByteSink.held c.args.out.now) (g.K.ByteSink.taken c.args.out.now)) (sink_state (g.K.ByteSink.held c.put_all.new.sink) (g.K.ByteSink.taken c.put_all.new.sink)) l)
    piece c.in-Ok-put_all.ensures.ok in
    on_err_weaker c.write_chunks.result (λ p. then_front first p) (c.write_chunks.ensures.err h)

pub returns-in-Ok-put_all-clause-extends : goal.returns-in-Ok-put_all-clause-extends
returns-in-Ok-put_all-clause-extends g c = (c.held.result.now ++ c.write_chunks.ensures.extends.0, puts_then c.in-Ok-put_all.ensures.ok c.write_chunks.ensures.extends.1)
