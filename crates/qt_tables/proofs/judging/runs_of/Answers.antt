use Rattle.std.proofs.Common.{rules}
use Rattle.qt_tables.proofs.Chunks.{runs-of}
use Rattle.qt_tables.proofs.judging.runs_of.Goals as goal

pub returns-clause-good : goal.returns-clause-good
returns-clause-good g c = runs-of c.args.descriptions c.in_ok-runs.runs.items (search (rules, c.are_runs.ensures, c.if-not-are_runs.false))
