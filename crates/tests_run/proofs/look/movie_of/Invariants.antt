use Rattle.std.proofs.Common.{◌≤◌, length}
use Rattle.tests_run.proofs.look.movie_of.Given as goal

abbrev pub invariant-loop-2 : goal.invariant-loop-2
invariant-loop-2 l = length l.writer.sizes ≤ l.counter
