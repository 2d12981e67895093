use Rattle.std.proofs.Common.{ap}
use Rattle.pw_outside.proofs.Results.{any_err}
use Rattle.rate_cert.specs.Records.{said_by}
use Rattle.rate_cert.specs.Files.{Writing}
use Rattle.rate_cert.proofs.Recording.{record_text, same_front, same_puts}
use Rattle.rate_cert.proofs.writer.ProofWriter.put.Goals as goal

pub returns-in_err-write_said-clause-err : goal.returns-in_err-write_said-clause-err
returns-in_err-write_said-clause-err g c =
    any_err c.from_residual.result (same_front (record_text c.self.inside.format c.args.self.now.format c.proof.inside.table (said_by c.proof.inside.verdict) c.args.proof.now c.proof.view_is (ap (λ (w : Writing). w.format) c.self.view_is)) c.in_err-write_said.ensures.err)

pub returns-clause-ok : goal.returns-clause-ok
returns-clause-ok g c =
    same_puts (record_text c.self.inside.format c.args.self.now.format c.proof.inside.table (said_by c.proof.inside.verdict) c.args.proof.now c.proof.view_is (ap (λ (w : Writing). w.format) c.self.view_is)) c.in_ok-write_said.ensures.ok
