use Rattle.std.proofs.Common.{ℕ, suc, ◌<◌, get_or}
use Rattle.rate_least.proofs.Orders.{no_pair}
use Rattle.rate_least.proofs.layers.rises_and_falls.Given as goal

abbrev pub invariant-loop-k : goal.invariant-loop-k
invariant-loop-k l = (i : ℕ) → suc i < l.k → ((get_or l.layer i no_pair).size < (get_or l.layer (suc i) no_pair).size) × ((get_or l.layer (suc i) no_pair).error < (get_or l.layer i no_pair).error)
