-- Pairs of rising sizes and falling errors, by their positions.
use Rattle.std.proofs.Common.{ℕ, zero, suc, ◌<◌, List, [], ◌∷◌, length, get_or, arith}
use Rattle.rate_least.specs.declared.outcome.WidePair.{WidePair}
use Rattle.rate_least.specs.Pairs.{RisesAndFalls}

abbrev pub no_pair : WidePair
no_pair = record { size = 0; error = 0 }

falls_tail : (p : WidePair) (ps : List WidePair) → RisesAndFalls (p ∷ ps) → RisesAndFalls ps
falls_tail p [] h = tt
falls_tail p (q ∷ ps) h = h.2

from_first : (p : WidePair) (ps : List WidePair) (d : WidePair) (j : ℕ) → RisesAndFalls (p ∷ ps) → j < length ps → (p.size < (get_or ps j d).size) × ((get_or ps j d).error < p.error)
from_first p [] d j h n = omega arith
from_first p (q ∷ ps) d zero h n = (h.0, h.1)
from_first p (q ∷ ps) d (suc j) h n = let r = from_first q ps d j h.2 (omega arith) in (omega arith, omega arith)

-- of two pairs the later one is larger and has less error
pub apart : (ps : List WidePair) (d : WidePair) (i j : ℕ) → RisesAndFalls ps → i < j → j < length ps → ((get_or ps i d).size < (get_or ps j d).size) × ((get_or ps j d).error < (get_or ps i d).error)
apart [] d i j h n m = absurd (omega arith)
apart (p ∷ ps) d zero zero h n m = absurd (omega arith)
apart (p ∷ ps) d zero (suc j) h n m = from_first p ps d j h (omega arith)
apart (p ∷ ps) d (suc i) zero h n m = absurd (omega arith)
apart (p ∷ ps) d (suc i) (suc j) h n m = apart ps d i j (falls_tail p ps h) (omega arith) (omega arith)

-- if each pair and the next are in order, all are
pub in_order : (ps : List WidePair) (d : WidePair) → ((i : ℕ) → suc i < length ps → ((get_or ps i d).size < (get_or ps (suc i) d).size) × ((get_or ps (suc i) d).error < (get_or ps i d).error)) → RisesAndFalls ps
in_order [] d h = tt
in_order (p ∷ []) d h = tt
in_order (p ∷ q ∷ ps) d h =
    let f = h 0 (omega arith) in
    (f.0, f.1, in_order (q ∷ ps) d (λ i n. h (suc i) (omega arith)))
