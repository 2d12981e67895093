use Rattle.std.proofs.Common.{rules, ◌≤◌}
use Rattle.pw_outside.specs.Ports.{last}
use Rattle.pw_outside.specs.Writing.{sink_state}
use Rattle.pcm_track.specs.Writing.{told_from}
use Rattle.pcm_track.proofs.Pieces.{any_err, copied_resized, front_resized}
use Rattle.pcm_track.proofs.DataAtoms.{put-atom, put-atom-front, put-head-front, put-nothing}
use Rattle.pcm_track.proofs.adding.write_picture.Goals as goal

pub returns-then-end-sample-clause-err : goal.returns-then-end-sample-clause-err
returns-then-end-sample-clause-err g c =
    let few : g.K.ByteSink.taken c.args.out.now ≤ last = search rules in
    put-nothing (told_from c.args.sample.at (g.M.ByteStore.bytes c.args.movie.now)) c.args.sample.size (sink_state (g.K.ByteSink.held c.args.out.now) (g.K.ByteSink.taken c.args.out.now)) few

pub returns-then-sample-gt-MOST_BYTES-clause-err : goal.returns-then-sample-gt-MOST_BYTES-clause-err
returns-then-sample-gt-MOST_BYTES-clause-err g c =
    let few : g.K.ByteSink.taken c.args.out.now ≤ last = search rules in
    put-nothing (told_from c.args.sample.at (g.M.ByteStore.bytes c.args.movie.now)) c.args.sample.size (sink_state (g.K.ByteSink.held c.args.out.now) (g.K.ByteSink.taken c.args.out.now)) few

pub returns-in_err-put_head-clause-err : goal.returns-in_err-put_head-clause-err
returns-in_err-put_head-clause-err g c =
    any_err c.from_residual.result (put-head-front (told_from c.args.sample.at (g.M.ByteStore.bytes c.args.movie.now)) c.args.sample.size c.in_err-put_head.ensures.err)

pub returns-in-Ok-clause-ok : goal.returns-in-Ok-clause-ok
returns-in-Ok-clause-ok g c =
    put-atom {told = told_from c.args.sample.at (g.M.ByteStore.bytes c.args.movie.now)} {n = c.args.sample.size} c.in_ok-put_head.ensures.ok
    (copied_resized {m = c.from-size.result} c.in-Ok.ensures.ok c.from-size.ensures)

pub returns-in-Err-Store-clause-err : goal.returns-in-Err-Store-clause-err
returns-in-Err-Store-clause-err g c =
    put-atom-front {told = told_from c.args.sample.at (g.M.ByteStore.bytes c.args.movie.now)} {n = c.args.sample.size} c.in_ok-put_head.ensures.ok
    (front_resized {m = c.from-size.result} c.in-Err-Store.ensures.err c.from-size.ensures)

pub returns-in-Err-Sink-clause-err : goal.returns-in-Err-Sink-clause-err
returns-in-Err-Sink-clause-err g c =
    put-atom-front {told = told_from c.args.sample.at (g.M.ByteStore.bytes c.args.movie.now)} {n = c.args.sample.size} c.in_ok-put_head.ensures.ok
    (front_resized {m = c.from-size.result} c.in-Err-Sink.ensures.err c.from-size.ensures)

pub returns-in-Err-Short-clause-err : goal.returns-in-Err-Short-clause-err
returns-in-Err-Short-clause-err g c =
    put-atom-front {told = told_from c.args.sample.at (g.M.ByteStore.bytes c.args.movie.now)} {n = c.args.sample.size} c.in_ok-put_head.ensures.ok
    (front_resized {m = c.from-size.result} c.in-Err-Short.ensures.err c.from-size.ensures)
