-- Frontiers with too many pairs.
use Rattle.std.proofs.Common.{ℕ, ◌^◌, ◌<◌, ◌≤◌, List, arith}
use Rattle.rate_table.specs.declared.entry.Entry.{Entry}
use Rattle.rate_table.specs.Table.{IsChoice, size_of, error_of}
use Rattle.rate_least.specs.declared.outcome.WidePair.{WidePair}
use Rattle.rate_least.specs.Layers.{pairs_in}
use Rattle.rate_least.specs.Held.{AreHeld, IsBend, IsGreatestMultiplier}
use Rattle.rate_least.specs.Answers.{PassesByBend, IsWide}
use Rattle.rate_least.specs.inner.Live.{Capped}
use Rattle.rate_least.proofs.Wholes.{kept_exist, kept_narrow, kept_are_fewer}
use Rattle.rate_least.proofs.Bends.{bend_choice, bend_meets}

-- slices and a cap
abbrev pub capped : List (List Entry) → ℕ → Capped
capped slices cap = record { slices = slices; cap = cap }

-- If the frontiers of a size up to that of the Lagrangian minimisers are too large, so are those of the minimisers'
-- size.
pub passes_by_bend : (slices : List (List Entry)) (cap m v : ℕ) (bend : List Entry) → IsGreatestMultiplier slices cap m → IsBend m slices bend → v ≤ size_of bend → ((layers : List (List WidePair)) → AreHeld slices cap m v layers → 2 ^ 25 < pairs_in layers) → PassesByBend slices cap
passes_by_bend slices cap m v bend i a l full =
    let some = kept_exist (capped slices cap) m v in
    let all = kept_exist (capped slices cap) m (size_of bend) in
    record {
      multiplier = m;
      is_multiplier = i;
      bend = bend;
      is_bend = a;
      layers = all.0;
      held = all.1;
      passes = omega (arith, full some.0 some.1, kept_are_fewer (capped slices cap) m (size_of bend) v all.0 some.0 l all.1 some.1);
    }

-- the minimisers meet the cap, and their size is within itself
pub bend_within : (slices : List (List Entry)) (cap m : ℕ) (bend : List Entry) → IsGreatestMultiplier slices cap m → IsBend m slices bend → IsChoice slices bend × (error_of bend ≤ cap)
bend_within slices cap m bend i a = (bend_choice m slices bend a, bend_meets slices cap m bend a i.meets)

-- Only slices with many sizes have such frontiers.
pub wide_passes : (slices : List (List Entry)) (cap : ℕ) → PassesByBend slices cap → IsWide slices
wide_passes slices cap p = omega (arith, p.passes, kept_narrow (capped slices cap) p.multiplier (size_of p.bend) p.layers p.held)
