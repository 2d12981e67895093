use Rattle.std.proofs.Common.{rules, ◌≡◌, ◌≤◌, ◌++◌, sym, subst}
use Rattle.std.proofs.lemmas.Result.{err_from_is_err_and, on_ok_weaker, on_err_weaker}
use Rattle.pw_outside.specs.Ports.{last, CountsFaults}
use Rattle.qt_movie.specs.MovieBytes.{ftyp_bytes}
use Rattle.pcm_track.specs.Adding.{data_atoms}
use Rattle.pcm_track.proofs.Pieces.{any_err}
use Rattle.pcm_track.proofs.DataAtoms.{none-both, head-both, middle-both, last-both, whole-both, answer-last, not-done-last, not-read-last}
use Rattle.pcm_track.proofs.adding.write_movie.Goals as goal

pub returns-in_default-clause-err : goal.returns-in_default-clause-err
returns-in_default-clause-err g c =
    let few : g.K.ByteSink.taken c.args.out.now ≤ last = search rules in
    none-both (g.M.ByteStore.bytes c.args.movie.now) (g.S.ByteSource.left c.args.wav.now) (λ x y. ftyp_bytes ++ (data_atoms x c.args.reader.now.form.channels c.args.plan.now.parts.items y ++ c.args.plan.now.moov)) _ few

pub returns-in_err-put_bytes-clause-err : goal.returns-in_err-put_bytes-clause-err
returns-in_err-put_bytes-clause-err g c =
    any_err c.from_residual.result (head-both (g.M.ByteStore.bytes c.args.movie.now) (g.S.ByteSource.left c.args.wav.now) ftyp_bytes
    (λ x y. data_atoms x c.args.reader.now.form.channels c.args.plan.now.parts.items y ++ c.args.plan.now.moov) _ _ c.in_err-put_bytes.ensures.err)

pub returns-in_err-write_parts-clause-answer : goal.returns-in_err-write_parts-clause-answer
returns-in_err-write_parts-clause-answer g c h i =
    let p = err_from_is_err_and c.from_residual-in_err-write_parts.result c.from_residual-in_err-write_parts.ensures.1 in
    let answer = rw c.deref.ensures.value at c.in_err-write_parts.ensures.answer in
    rw (p.1, p.2) (answer h i)

pub returns-in_err-write_parts-clause-err : goal.returns-in_err-write_parts-clause-err
returns-in_err-write_parts-clause-err g c =
    let err = rw c.deref.ensures.value at c.in_err-write_parts.ensures.err in
    any_err c.from_residual-in_err-write_parts.result (middle-both (g.M.ByteStore.bytes c.args.movie.now) (g.S.ByteSource.left c.args.wav.now) ftyp_bytes c.args.plan.now.moov
    (λ x y. data_atoms x c.args.reader.now.form.channels c.args.plan.now.parts.items y) _ _ _ c.in_ok-put_bytes.ensures.ok err)

pub returns-clause-answer : goal.returns-clause-answer
returns-clause-answer g c h i =
    let answer = rw c.deref.ensures.value at c.in_ok-write_parts.ensures.answer in
    answer-last c.put_bytes-2.result _ c.put_bytes-2.ensures.end (answer h i)

pub returns-clause-ok : goal.returns-clause-ok
returns-clause-ok g c =
    let moov : c.held.result.now ≡ c.args.plan.now.moov = search rules in
    let parts = rw c.deref.ensures.value at c.in_ok-write_parts.ensures.ok in
    let ok = rw moov at c.put_bytes-2.ensures.ok in
    on_ok_weaker c.put_bytes-2.result (λ p. whole-both (g.M.ByteStore.bytes c.args.movie.now) (g.S.ByteSource.left c.args.wav.now) ftyp_bytes c.args.plan.now.moov
    (λ x y. data_atoms x c.args.reader.now.form.channels c.args.plan.now.parts.items y) _ _ _ _ c.in_ok-put_bytes.ensures.ok parts p) ok

pub returns-clause-err : goal.returns-clause-err
returns-clause-err g c =
    let moov : c.held.result.now ≡ c.args.plan.now.moov = search rules in
    let parts = rw c.deref.ensures.value at c.in_ok-write_parts.ensures.ok in
    let err = rw moov at c.put_bytes-2.ensures.err in
    on_err_weaker c.put_bytes-2.result (λ p. last-both (g.M.ByteStore.bytes c.args.movie.now) (g.S.ByteSource.left c.args.wav.now) ftyp_bytes c.args.plan.now.moov
    (λ x y. data_atoms x c.args.reader.now.form.channels c.args.plan.now.parts.items y) _ _ _ _ c.in_ok-put_bytes.ensures.ok parts p) err

pub returns-clause-not_done : goal.returns-clause-not_done
returns-clause-not_done g c = not-done-last c.put_bytes-2.result c.put_bytes-2.ensures.end

pub returns-clause-read : goal.returns-clause-read
returns-clause-read g c =
    subst (λ b. CountsFaults (g.M.ByteStore.faults c.args.movie.now) (g.M.ByteStore.faults c.write_parts.new.movie) (g.S.ByteSource.faults c.args.wav.now) (g.S.ByteSource.faults c.write_parts.new.wav) b)
    (sym (not-read-last c.put_bytes-2.result c.put_bytes-2.ensures.end)) c.in_ok-write_parts.ensures.read
