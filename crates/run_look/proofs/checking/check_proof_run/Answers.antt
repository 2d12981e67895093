use Rattle.run_look.proofs.Once.{reader_completes}
use Rattle.run_look.proofs.checking.check_proof_run.Goals as goal

pub returns-in-Err-clause-complete : goal.returns-in-Err-clause-complete
returns-in-Err-clause-complete g c = λ h records b no_read no_write. reader_completes _ c.in-Err.end records _ (c.in-Err.ensures.answer h) c.in-Err.ensures.end c.in-Err.ensures.read.rose b no_read
