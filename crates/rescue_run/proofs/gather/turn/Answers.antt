use Rattle.std.proofs.Common.{rules, ◌≡◌, ◌+◌, ◌≤◌, length, arith, subst}
use Rattle.std.specs.Prelude.{Err, IsSome, IfSome}
use Rattle.pw_outside.specs.Reading.{bytes_of}
use Rattle.pw_outside.specs.Writing.{sink_state}
use Rattle.qt_atoms.specs.Atoms.{bytes_in}
use Rattle.rescue_run.specs.inner.Steps.{TakingIs, GatheredUpTo, extents_in}
use Rattle.rescue_run.proofs.Turning.{goes_err, halted_reading, halted_taking, judged_some, judged_none, gathered_one, gathered_none}
use Rattle.rescue_run.proofs.gather.turn.Goals as goal

pub returns-in_err-form-clause-goes : goal.returns-in_err-form-clause-goes
returns-in_err-form-clause-goes g c = λ told start h.
    let file = bytes_of (g.M.ByteStore.bytes c.args.movie.now) in
    let is : c.from_residual.result ≡ Err c.in_err-form.field-0.0 = search rules in
    let le : c.args.place ≤ length file = omega (arith, c.requires.there, c.requires.shows.within, c.requires.whole told) in
    goes_err file c.from_residual.result c.in_err-form.field-0.0 _ start _ is (halted_reading file c.args.place c.args.gathering.now start _ c.in_err-form.field-0.0 c.in_err-form.ensures.end le h)

pub returns-in_err-take_frame-in-Some-clause-goes : goal.returns-in_err-take_frame-in-Some-clause-goes
returns-in_err-take_frame-in-Some-clause-goes g c = λ told start h.
    let file = bytes_of (g.M.ByteStore.bytes c.args.movie.now) in
    let size = c.size_in-size.result in
    let before = sink_state (g.K.ByteSink.held c.args.out.now) (g.K.ByteSink.taken c.args.out.now) in
    let after = sink_state (g.K.ByteSink.held c.take_frame.new.out) (g.K.ByteSink.taken c.take_frame.new.out) in
    let is : c.from_residual-in_err-take_frame-in-Some.result ≡ Err c.in_err-take_frame-in-Some.field-0.0 = search rules in
    let fits = subst (λ o. IfSome o (λ _. (28 ≤ size) × (size ≤ 4294967286) × (c.args.place + size ≤ c.args.total))) c.in-Some.is c.in_ok-form.ensures.fits in
    let inside : c.args.place + size ≤ length file = omega (arith, fits.2, c.requires.whole told) in
    let taking = subst (λ x. IsSome x → TakingIs (bytes_in size (bytes_of x) c.args.place) c.args.place (extents_in c.args.gathering.now) c.take_frame.result before after) c.judge.ensures.bytes c.take_frame.ensures.taking in
    let halt = subst (λ r. TakingIs (bytes_in size file c.args.place) c.args.place (extents_in c.args.gathering.now) r before after) c.in_err-take_frame-in-Some.was (taking told) in
    goes_err file c.from_residual-in_err-take_frame-in-Some.result c.in_err-take_frame-in-Some.field-0.0 _ start after is
    (halted_taking file c.args.place size c.args.gathering.now start before after c.in-Some.form (c.size_in-size.ensures file (c.requires.shows.same told))
    (judged_some file c.args.place c.form_in-first.result c.in_ok-form.field-0 c.args.gathering.now c.in-Some.form c.form_in-first.ensures c.in-Some.is (c.in_ok-form.ensures.judged told)) h inside c.in_err-take_frame-in-Some.field-0.0 halt)

pub returns-in_ok-take_frame-in-Some-clause-goes : goal.returns-in_ok-take_frame-in-Some-clause-goes
returns-in_ok-take_frame-in-Some-clause-goes g c = λ told start h.
    let file = bytes_of (g.M.ByteStore.bytes c.args.movie.now) in
    let size = c.size_in-size.result in
    let before = sink_state (g.K.ByteSink.held c.args.out.now) (g.K.ByteSink.taken c.args.out.now) in
    let after = sink_state (g.K.ByteSink.held c.take_frame.new.out) (g.K.ByteSink.taken c.take_frame.new.out) in
    let taking = subst (λ x. IsSome x → TakingIs (bytes_in size (bytes_of x) c.args.place) c.args.place (extents_in c.args.gathering.now) c.take_frame.result before after) c.judge.ensures.bytes c.take_frame.ensures.taking in
    let took = subst (λ r. TakingIs (bytes_in size file c.args.place) c.args.place (extents_in c.args.gathering.now) r before after) c.in_ok-take_frame-in-Some.was (taking told) in
    let next : c.args.place + size ≡ c.args.place + c.from.result = search rules in
    subst (λ n. GatheredUpTo file n c.take_frame.new.gathering start after) next
    (gathered_one file c.args.place size c.args.gathering.now start before after c.in-Some.form (c.size_in-size.ensures file (c.requires.shows.same told))
    (judged_some file c.args.place c.form_in-first.result c.in_ok-form.field-0 c.args.gathering.now c.in-Some.form c.form_in-first.ensures c.in-Some.is (c.in_ok-form.ensures.judged told)) h
    c.take_frame.new.gathering c.in_ok-take_frame-in-Some.ensures.form c.in_ok-take_frame-in-Some.ensures.extents took.0 took.1)

pub returns-in-None-clause-goes : goal.returns-in-None-clause-goes
returns-in-None-clause-goes g c = λ told start h.
    let file = bytes_of (g.M.ByteStore.bytes c.args.movie.now) in
    gathered_none file c.args.place c.args.gathering.now start _
    (judged_none file c.args.place c.form_in-first.result c.in_ok-form.field-0 c.args.gathering.now c.form_in-first.ensures c.in-None.is (c.in_ok-form.ensures.judged told)) h
