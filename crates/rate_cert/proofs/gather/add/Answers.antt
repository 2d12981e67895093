use Rattle.pw_outside.proofs.Puts.{front_more, then_front}
use Rattle.pw_outside.proofs.Results.{any_err}
use Rattle.rate_cert.proofs.Gathering.{gathers_all}
use Rattle.rate_cert.proofs.gather.add.Goals as goal

pub returns-in_err-give-clause-err : goal.returns-in_err-give-clause-err
returns-in_err-give-clause-err g c = any_err c.from_residual.result (front_more c.args.piece.now c.in_err-give.ensures.err)

pub returns-in_err-write-clause-err : goal.returns-in_err-write-clause-err
returns-in_err-write-clause-err g c = any_err c.from_residual-in_err-write.result (then_front c.in_ok-give.ensures.ok c.in_err-write.ensures.err)

pub returns-then-piece-gt-ROOM-clause-ok : goal.returns-then-piece-gt-ROOM-clause-ok
returns-then-piece-gt-ROOM-clause-ok g c = gathers_all c.args.gathered.now.items c.give.new.gathered.items c.args.piece.now c.in_ok-give.ensures.ok c.in_ok-write.ensures.ok c.in_ok-give.ensures.empty
