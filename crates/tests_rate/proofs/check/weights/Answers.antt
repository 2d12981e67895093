use Rattle.std.proofs.Common.{arith}
use Rattle.std.proofs.lemmas.List.Elements.{All-replicate}
use Rattle.pr_quant.specs.Matrices.{IsWeight}
use Rattle.tests_rate.proofs.check.weights.Goals as goal

pub returns-clause-each : goal.returns-clause-each
returns-clause-each c = All-replicate IsWeight 64 4 (omega arith, omega arith)
