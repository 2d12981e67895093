use Rattle.std.proofs.Common.{refl, arith}
use Rattle.pr_frame.proofs.Short.{pictures-ready}
use Rattle.std.proofs.lemmas.Result.{on_ok_weaker, on_err_weaker}
use Rattle.pw_outside.proofs.Results.{any_err}
use Rattle.pr_frame.proofs.PutSteps.{frame-puts, frame-head, frame-pictures}
use Rattle.pr_frame.proofs.write.write_frame.Goals as goal

pub write_pictures-requires-clause-ready : goal.write_pictures-requires-clause-ready
write_pictures-requires-clause-ready g c =
    let w = c.requires.writable in
    rw c.as_slice.ensures (pictures-ready c.args.frame.now.header c.args.frame.now.pictures w.coded.pictures w.values)

pub write_pictures-requires-clause-short : goal.write_pictures-requires-clause-short
write_pictures-requires-clause-short g c = rw c.as_slice.ensures (omega (arith, c.requires.short))

pub returns-in_err-write_frame_header-clause-err : goal.returns-in_err-write_frame_header-clause-err
returns-in_err-write_frame_header-clause-err g c =
    let f = c.args.frame.now in
    any_err c.from_residual.result (frame-head f c.frame_length-size.result f.pictures c.frame_length-size.ensures refl c.in_err-write_frame_header.ensures.err)

pub returns-clause-ok : goal.returns-clause-ok
returns-clause-ok g c =
    let f = c.args.frame.now in
    on_ok_weaker c.write_pictures.result (frame-puts f c.frame_length-size.result c.as_slice.result.now c.frame_length-size.ensures c.as_slice.ensures c.in_ok-write_frame_header.ensures.ok) c.write_pictures.ensures.ok

pub returns-clause-err : goal.returns-clause-err
returns-clause-err g c =
    let f = c.args.frame.now in
    on_err_weaker c.write_pictures.result (frame-pictures f c.frame_length-size.result c.as_slice.result.now c.frame_length-size.ensures c.as_slice.ensures c.in_ok-write_frame_header.ensures.ok) c.write_pictures.ensures.err
