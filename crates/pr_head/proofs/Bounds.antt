-- The bound on the remaining bytes, over several reads: the lemmas of `pw_outside` with names that a tactic can cite.
use Rattle.std.proofs.Common.{ℕ, Option}
use Rattle.pw_outside.specs.Ports.{Lowers}
use Rattle.pw_outside.proofs.Loops.{Lowers-then, Lowers-same, Lowers-weaker}

pub lowers_then : (old mid new : Option ℕ) (m n : ℕ) → Lowers old mid m → Lowers mid new n → Lowers old new 0
lowers_then = Lowers-then

pub lowers_same : (o : Option ℕ) → Lowers o o 0
lowers_same = Lowers-same

pub lowers_some : (old new : Option ℕ) (n : ℕ) → Lowers old new n → Lowers old new 0
lowers_some = Lowers-weaker
