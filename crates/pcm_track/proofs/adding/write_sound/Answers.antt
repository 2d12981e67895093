use Rattle.std.proofs.Common.{ap, subst, ◌∙◌}
use Rattle.pw_outside.specs.Writing.{sink_state, Puts, PutsFront}
use Rattle.qt_movie.specs.MovieBytes.{frame_head_bytes}
use Rattle.pcm_track.specs.declared.form.Pcm.{Pcm}
use Rattle.pcm_track.specs.Wav.{sound_size}
use Rattle.pcm_track.proofs.Pieces.{any_err}
use Rattle.pcm_track.proofs.DataAtoms.{put-atom, put-atom-front, put-head-front}
use Rattle.pcm_track.proofs.adding.write_sound.Goals as goal

pub returns-in_err-put_head-clause-err : goal.returns-in_err-put_head-clause-err
returns-in_err-put_head-clause-err g c =
    let size = c.sound_bytes-size.ensures ∙ ap (λ (p : Pcm). sound_size p.channels c.args.frames) c.form.ensures in
    let err = subst (λ k. PutsFront (sink_state (g.K.ByteSink.held c.args.out.now) (g.K.ByteSink.taken c.args.out.now)) (sink_state (g.K.ByteSink.held c.put_head.new.out) (g.K.ByteSink.taken c.put_head.new.out)) (frame_head_bytes k)) size c.in_err-put_head.ensures.err in
    any_err c.from_residual.result (put-head-front (g.S.ByteSource.left c.args.wav.now) (sound_size c.args.reader.now.form.channels c.args.frames) err)

pub returns-in-Ok-clause-ok : goal.returns-in-Ok-clause-ok
returns-in-Ok-clause-ok g c =
    let size = c.sound_bytes-size.ensures ∙ ap (λ (p : Pcm). sound_size p.channels c.args.frames) c.form.ensures in
    let ok = subst (λ k. Puts (sink_state (g.K.ByteSink.held c.args.out.now) (g.K.ByteSink.taken c.args.out.now)) (sink_state (g.K.ByteSink.held c.put_head.new.out) (g.K.ByteSink.taken c.put_head.new.out)) (frame_head_bytes k)) size c.in_ok-put_head.ensures.ok in
    put-atom {told = g.S.ByteSource.left c.args.wav.now} {n = sound_size c.args.reader.now.form.channels c.args.frames} ok c.in-Ok.ensures.ok

pub returns-in-Err-Sound-Bad-clause-err : goal.returns-in-Err-Sound-Bad-clause-err
returns-in-Err-Sound-Bad-clause-err g c =
    let size = c.sound_bytes-size.ensures ∙ ap (λ (p : Pcm). sound_size p.channels c.args.frames) c.form.ensures in
    let ok = subst (λ k. Puts (sink_state (g.K.ByteSink.held c.args.out.now) (g.K.ByteSink.taken c.args.out.now)) (sink_state (g.K.ByteSink.held c.put_head.new.out) (g.K.ByteSink.taken c.put_head.new.out)) (frame_head_bytes k)) size c.in_ok-put_head.ensures.ok in
    put-atom-front {told = g.S.ByteSource.left c.args.wav.now} {n = sound_size c.args.reader.now.form.channels c.args.frames} ok c.in-Err-Sound-Bad.ensures.err

pub returns-in-Err-Sound-Failed-clause-err : goal.returns-in-Err-Sound-Failed-clause-err
returns-in-Err-Sound-Failed-clause-err g c =
    let size = c.sound_bytes-size.ensures ∙ ap (λ (p : Pcm). sound_size p.channels c.args.frames) c.form.ensures in
    let ok = subst (λ k. Puts (sink_state (g.K.ByteSink.held c.args.out.now) (g.K.ByteSink.taken c.args.out.now)) (sink_state (g.K.ByteSink.held c.put_head.new.out) (g.K.ByteSink.taken c.put_head.new.out)) (frame_head_bytes k)) size c.in_ok-put_head.ensures.ok in
    put-atom-front {told = g.S.ByteSource.left c.args.wav.now} {n = sound_size c.args.reader.now.form.channels c.args.frames} ok c.in-Err-Sound-Failed.ensures.err

pub returns-in-Err-Sink-clause-err : goal.returns-in-Err-Sink-clause-err
returns-in-Err-Sink-clause-err g c =
    let size = c.sound_bytes-size.ensures ∙ ap (λ (p : Pcm). sound_size p.channels c.args.frames) c.form.ensures in
    let ok = subst (λ k. Puts (sink_state (g.K.ByteSink.held c.args.out.now) (g.K.ByteSink.taken c.args.out.now)) (sink_state (g.K.ByteSink.held c.put_head.new.out) (g.K.ByteSink.taken c.put_head.new.out)) (frame_head_bytes k)) size c.in_ok-put_head.ensures.ok in
    put-atom-front {told = g.S.ByteSource.left c.args.wav.now} {n = sound_size c.args.reader.now.form.channels c.args.frames} ok c.in-Err-Sink.ensures.err
