-- Frontiers with too many pairs.
use Rattle.std.proofs.Common.{ℕ, ◌+◌, ◌*◌, ◌^◌, ◌<◌, ◌≤◌, List, length, arith}
use Rattle.rate_table.specs.declared.entry.Entry.{Entry}
use Rattle.rate_table.specs.declared.entry.Pair.{Pair}
use Rattle.rate_table.specs.Table.{Table, IsChoice, Fits, error_of}
use Rattle.rate_layers.specs.Layers.{AreKept, pairs_in}
use Rattle.rate_layers.specs.Multiplier.{ArePicks, IsMultiplier}
use Rattle.rate_layers.specs.Best.{PassesByPicks}
use Rattle.rate_layers.proofs.Wholes.{kept_exist, kept_narrow, kept_are_fewer}
use Rattle.rate_layers.proofs.Picks.{picks_choice, picks_fit}

-- If the frontiers of an error up to that of the Lagrangian minimisers are too large, so are those of the
-- minimisers' error.
pub passes_by_picks : (t : Table) (m v : ℕ) (picks : List Entry) → IsMultiplier t m → ArePicks m t.slices picks → v ≤ error_of picks → ((layers : List (List Pair)) → AreKept t m v layers → 2 ^ 25 < pairs_in layers) → PassesByPicks t
passes_by_picks t m v picks i a l full =
    let some = kept_exist t m v in
    let all = kept_exist t m (error_of picks) in
    record {
      multiplier = m;
      is_multiplier = i;
      picks = picks;
      are_picks = a;
      layers = all.0;
      kept = all.1;
      passes = omega (arith, full some.0 some.1, kept_are_fewer t m (error_of picks) v all.0 some.0 l all.1 some.1);
    }

-- the minimisers fit, and their error is within itself
pub picks_within : (t : Table) (m : ℕ) (picks : List Entry) → IsMultiplier t m → ArePicks m t.slices picks → IsChoice t.slices picks × Fits t picks
picks_within t m picks i a = (picks_choice m t.slices picks a, picks_fit t m picks a i.fits)

-- A table with a small budget and few slices has no such frontiers.
pub narrow_passes : (t : Table) → (t.budget + 1) * (length t.slices + 1) ≤ 2 ^ 25 → PassesByPicks t → ⊥
narrow_passes t n p = omega (arith, n, p.passes, kept_narrow t p.multiplier (error_of p.picks) p.layers p.kept)
