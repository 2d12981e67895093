use Rattle.std.proofs.Common.{rules, ◌≡◌, ◌<◌, length, arith}
use Rattle.std.specs.Prelude.{Err}
use Rattle.pw_outside.specs.Reading.{bytes_of}
use Rattle.qt_atoms.specs.Atoms.{bytes_in}
use Rattle.qt_tables.specs.declared.tables.TheConstants.{MAX_SAMPLES}
use Rattle.rescue_run.proofs.Taking.{taking_first, took_first, taking_later}
use Rattle.rescue_run.proofs.gathering.take_frame.Goals as goal

pub returns-in_err-take_first-in-None-clause-taking : goal.returns-in_err-take_first-in-None-clause-taking
returns-in_err-take_first-in-None-clause-taking g c =
    let is : c.from_residual.result ≡ Err c.in_err-take_first-in-None.field-0.0 = search rules in
    λ told. taking_first (bytes_in c.args.found.now.size (bytes_of (g.M.ByteStore.bytes c.args.movie.now)) c.args.found.now.at) c.args.found.now.at c.args.gathering.now c.from_residual.result c.in_err-take_first-in-None.field-0.0 _ _ c.in-None.is is
    (c.in_err-take_first-in-None.ensures.told_end told) (c.in_err-take_first-in-None.ensures.err told)

pub returns-else-frames-ge-MAX_SAMPLES-clause-taking : goal.returns-else-frames-ge-MAX_SAMPLES-clause-taking
returns-else-frames-ge-MAX_SAMPLES-clause-taking g c =
    let few : length c.in-Some.gathered.writer.sizes < MAX_SAMPLES = omega (arith, c.frames.ensures.value, c.if-frames-ge-MAX_SAMPLES.false) in
    λ told. taking_later c.args.rate.now (bytes_in c.args.found.now.size (bytes_of (g.M.ByteStore.bytes c.args.movie.now)) c.args.found.now.at) c.args.found.now.at c.args.gathering.now c.in-Some.gathered c.add.result _ _ c.in-Some.is c.requires.kept few
    (c.add.ensures.ok told) (c.add.ensures.err told) (c.add.ensures.told_end told)

pub returns-in_ok-take_first-in-None-clause-taking : goal.returns-in_ok-take_first-in-None-clause-taking
returns-in_ok-take_first-in-None-clause-taking g c =
    λ told. took_first (bytes_in c.args.found.now.size (bytes_of (g.M.ByteStore.bytes c.args.movie.now)) c.args.found.now.at) c.args.found.now.at c.args.gathering.now _ _ c.in-None.is (c.in_ok-take_first-in-None.ensures.ok told)
