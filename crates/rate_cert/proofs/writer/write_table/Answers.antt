use Rattle.pw_outside.proofs.Puts.{front_more, then_front}
use Rattle.pw_outside.proofs.Results.{any_err}
use Rattle.rate_table.specs.Body.{body_bytes}
use Rattle.rate_cert.proofs.writer.write_table.Goals as goal

pub returns-in_err-write-clause-err : goal.returns-in_err-write-clause-err
returns-in_err-write-clause-err g c = any_err c.from_residual.result (front_more (body_bytes c.args.table.now) c.in_err-write.ensures.err)

pub returns-in_err-write_body-clause-err : goal.returns-in_err-write_body-clause-err
returns-in_err-write_body-clause-err g c = any_err c.from_residual-in_err-write_body.result (then_front c.in_ok-write.ensures.ok c.in_err-write_body.ensures.front)
