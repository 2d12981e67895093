-- The goal of found frontiers is the best choice's pair.
use Rattle.std.proofs.Common.{◌≡◌, ℕ, List, [], length, get_or, sym, ap, ◌∙◌, subst, arith}
use Rattle.rate_table.specs.declared.entry.Entry.{Entry}
use Rattle.rate_table.specs.declared.entry.Pair.{Pair}
use Rattle.rate_table.specs.Table.{Table, IsTable, IsBest, size_of, error_of, indices}
use Rattle.rate_table.specs.Records.{IsGoodFit, record_of}
use Rattle.rate_layers.specs.First.{IsFirst}
use Rattle.rate_layers.specs.Layers.{AreKept}
use Rattle.rate_layers.specs.Multiplier.{IsMultiplier}
use Rattle.rate_layers.specs.inner.Live.{AreFound}
use Rattle.rate_layers.specs.Best.{TellsBest, PassesByBest}
use Rattle.rate_layers.proofs.Picks.{multiplier_same}
use Rattle.rate_layers.proofs.Wholes.{kept_are_fewer}
use Rattle.rate_layers.proofs.Produced.{best_kept_law, produced_kept}

module _ (t : Table) (m : ℕ) (goal : Pair) (layers : List (List Pair)) (found : AreFound t m goal.error goal layers) (c : List Entry) (first : IsFirst t.slices goal c) where
  is_best : IsBest t c
  is_best =
      let s = found.some in
      best_kept_law t m goal.error s.0 (get_or layers (length t.slices) []) found.last.0 goal c s.1 s.2 s.3 (found.kept.1 (length t.slices) (omega arith)) found.last.1 first

  has_size : size_of c ≡ goal.size
  has_size = ap (λ (p : Pair). p.size) first.pair

  has_error : error_of c ≡ goal.error
  has_error = ap (λ (p : Pair). p.error) first.pair

  pub tells_best : (chosen : List ℕ) (size : ℕ) → chosen ≡ indices c → size ≡ goal.size → TellsBest t (record { choice = chosen; size = size; error = goal.error; multiplier = m; layers = layers })
  tells_best chosen size e e' = record { best = c; is_best = is_best; choice = e; size = e' ∙ sym has_size; error = sym has_error }

  pub tells_good : IsTable t → (chosen : List ℕ) (size : ℕ) → chosen ≡ indices c → size ≡ goal.size → IsGoodFit t (record { choice = chosen; size = size; error = goal.error; multiplier = m; layers = layers })
  tells_good ok chosen size e e' =
      let k = subst (λ u. AreKept t m u layers) (sym has_error) found.kept in
      let g = produced_kept t ok c is_best m layers k in
      let es = e' ∙ sym has_size in
      let ee = sym has_error in
      let same : record_of c m layers ≡ record { choice = chosen; size = size; error = goal.error; multiplier = m; layers = layers } =
      λ i. record { choice = sym e i; size = sym es i; error = sym ee i; multiplier = m; layers = layers } in
      subst (λ r. IsGoodFit t r) same g

  pub not_passed : IsMultiplier t m → PassesByBest t → ⊥
  not_passed i p =
      let em = multiplier_same t p.multiplier m p.is_multiplier i in
      let k = subst (λ n. AreKept t n (error_of p.best) p.layers) em p.kept in
      let l = p.is_best.error c is_best.choice is_best.fits in
      omega (arith, p.passes, found.few, kept_are_fewer t m goal.error (error_of p.best) layers p.layers (omega (arith, l, has_error)) found.kept k)
