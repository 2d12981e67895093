use Rattle.std.proofs.Common.{ap, length, subst, sym, ◌∙◌}
use Rattle.std.proofs.lemmas.Result.{err_from_is_err_and}
use Rattle.pw_outside.specs.Reading.{bytes_of}
use Rattle.qt_tables.specs.Samples.{samples}
use Rattle.run_look.specs.Agreeing.{given, left_by, AreFrames}
use Rattle.run_look.proofs.Agreed.{group_by_samples, group_by_pictures}
use Rattle.run_look.proofs.agreeing.take_group.Goals as goal

pub returns-in_err-frames-clause-takes : goal.returns-in_err-frames-clause-takes
returns-in_err-frames-clause-takes g c =
    let p = err_from_is_err_and c.from_residual.result c.from_residual.ensures.1 in
    rw (p.1, p.2) (λ told shown ps are.
    group_by_samples (given (bytes_of (g.M.ByteStore.bytes c.args.movie.now)) (samples c.args.reader.now.tables) ps) c.args.layout.now c.args.settings.now c.args.group.now c.args.first c.in_err-frames.field-0.0
    (c.in_err-frames.ensures.stops told ps))

pub take_pictures-requires-clause-number : goal.take_pictures-requires-clause-number
take_pictures-requires-clause-number g c = ap length c.deref.ensures.value ∙ c.in_ok-frames.ensures.number

pub returns-clause-takes : goal.returns-clause-takes
returns-clause-takes g c = λ told shown ps are.
    let x = given (bytes_of (g.M.ByteStore.bytes c.args.movie.now)) (samples c.args.reader.now.tables) ps in
    let all = c.in_ok-frames.ensures.takes told ps in
    let frames : AreFrames x c.args.first c.deref.result.now = subst (λ l. AreFrames x c.args.first l) (sym c.deref.ensures.value) all.1 in
    group_by_pictures x c.args.layout.now c.args.settings.now c.args.group.now c.args.first c.take_pictures.result (left_by c.take_pictures.new.reader (g.S.ByteSource.left c.take_pictures.new.pictures)) all.0
    (c.take_pictures.ensures.takes shown x are frames)
