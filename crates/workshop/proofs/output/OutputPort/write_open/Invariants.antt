use Rattle.std.proofs.Common.{◌≡◌}
use Rattle.workshop.proofs.output.OutputPort.write_open.Given as goal

abbrev pub invariant-loop : goal.invariant-loop
invariant-loop g l = (l.self.taken ≡ l.initial.self.taken) × (l.self.settled ≡ l.initial.self.settled) × (l.self.faults ≡ l.initial.self.faults)
