use Rattle.std.proofs.Common.{◌≡◌}
use Rattle.workshop.proofs.input.InputPort.read_open.Given as goal

abbrev pub invariant-loop : goal.invariant-loop
invariant-loop g l = l.self.faults ≡ l.initial.self.faults
