use Rattle.std.proofs.Common.{◌≤◌, length}
use Rattle.tests_run.proofs.decode.movie_of.Given as goal

abbrev pub invariant-loop-number : goal.invariant-loop-number
invariant-loop-number l = length l.writer.sizes ≤ l.number
