use Rattle.run_synth.specs.Synthesis.{is_write_fault}
use Rattle.run_synth.proofs.Telling.{flushed-front}
use Rattle.run_synth.proofs.run.tell.Goals as goal

pub returns-in-Ok-clause-front : goal.returns-in-Ok-clause-front
returns-in-Ok-clause-front g c = flushed-front (is_write_fault c.flush.result) c.in-Ok.ensures.ok c.flush.ensures.puts
