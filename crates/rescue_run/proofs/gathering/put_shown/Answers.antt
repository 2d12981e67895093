use Rattle.std.proofs.Common.{arith}
use Rattle.rescue_run.proofs.Copying.{shown_puts, shown_part}
use Rattle.pw_outside.proofs.Results.{any_err}
use Rattle.rescue_run.proofs.gathering.put_shown.Goals as goal

pub returns-in_err-put_all-clause-err : goal.returns-in_err-put_all-clause-err
returns-in_err-put_all-clause-err g c =
    let w = c.args.window.now in
    λ file part. any_err c.from_residual.result (shown_part file w.piece.items _ w.held w.from c.args.place c.min-stop.result c.args.end _ _ part c.deref.ensures.value c.requires.from
    (omega (arith, c.min-stop.ensures, c.requires.there, c.requires.end)) (omega (arith, c.min-stop.ensures)) (omega (arith, c.min-stop.ensures)) c.in_err-put_all.ensures.err)

pub returns-clause-ok : goal.returns-clause-ok
returns-clause-ok g c =
    let w = c.args.window.now in
    λ file part. shown_puts file w.piece.items _ w.held w.from c.args.place c.min-stop.result _ _ part c.deref.ensures.value c.requires.from
    (omega (arith, c.min-stop.ensures, c.requires.there, c.requires.end)) (omega (arith, c.min-stop.ensures)) c.in_ok-put_all.ensures.ok
