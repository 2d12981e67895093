-- Pairs below a bound's two numbers, and the first frontier.
use Rattle.std.proofs.Common.{◌≡◌, ℕ, suc, ◌+◌, ◌*◌, ◌<◌, List, [], ◌∷◌, length, get_or, drop, sym, ap, ◌∙◌, arith, ◌↔◌}
use Rattle.std.specs.List.{sum_by}
use Rattle.std.proofs.lemmas.List.Sums.{sum_by-cons}
use Rattle.std.proofs.Math.Seq.{drop-cons}
use Rattle.rate_table.specs.declared.entry.Entry.{Entry}
use Rattle.rate_table.specs.declared.entry.Pair.{Pair}
use Rattle.rate_table.specs.Table.{Table}
use Rattle.rate_layers.specs.declared.bound.Bound.{Bound}
use Rattle.rate_layers.specs.Layers.{Reaches, IsFront}
use Rattle.rate_layers.specs.inner.Bound.{IsBoundOf, HasRoom, IsWithin}
use Rattle.rate_layers.proofs.Asked.{Stays, At}

-- A pair is below both exactly if it can still fit and stays within the bound.
pub bound_stays : (t : Table) (m u : ℕ) (later : List (List Entry)) (b : Bound) → IsBoundOf t m u later b → (p : Pair) → (HasRoom b p × IsWithin b p) ↔ Stays t m u later p
bound_stays t m u later b o p =
    let e : b.multiplier * p.size ≡ m * p.size = ap (λ n. n * p.size) o.multiplier in (
      (λ h. (omega (arith, o.end, h.0), omega (arith, o.ceiling, e, h.1))),
      (λ h. (omega (arith, o.end, h.0), omega (arith, o.ceiling, e, h.1))),
    )

-- a frontier of the same pairs by another description
pub front_as : (P Q : Pair → Type 0) (layer : List Pair) → ((p : Pair) → P p → Q p) → ((p : Pair) → Q p → P p) → IsFront P layer → IsFront Q layer
front_as P Q layer to from f = record { order = f.order; only = λ p c. to p (f.only p c); covers = λ p h. f.covers p (from p h) }

-- the first frontier
pub front_first : (t : Table) (m u : ℕ) (b : Bound) (layer : List Pair) → IsBoundOf t m u t.slices b
    → IsFront (λ p. (p ≡ record { size = 0; error = 0 }) × (HasRoom b p × IsWithin b p)) layer → IsFront (At t (Stays t m u) 0) layer
front_first t m u b layer o f =
    front_as (λ p. (p ≡ record { size = 0; error = 0 }) × (HasRoom b p × IsWithin b p)) (At t (Stays t m u) 0) layer
    (λ p h. (([], tt, sym h.0), (bound_stays t m u t.slices b o p).0 h.1))
    (λ p h. (nothing p h.0, (bound_stays t m u t.slices b o p).1 h.1)) f
  where
    nothing : (p : Pair) → Reaches [] p → p ≡ record { size = 0; error = 0 }
    nothing p ([], h, e) = sym e
    nothing p (x ∷ c, h, e) = absurd h

-- a sum over the remaining slices, with one slice less
pub sum_step : (f : List Entry → ℕ) (slices : List (List Entry)) (k : ℕ) (s : List Entry) → k < length slices → s ≡ get_or slices k s → sum_by f (drop k slices) ≡ f s + sum_by f (drop (suc k) slices)
sum_step f slices k s n e =
    ap (λ l. sum_by f l) (drop-cons slices k s n) ∙ sum_by-cons f (get_or slices k s) (drop (suc k) slices) ∙ ap (λ l. f l + sum_by f (drop (suc k) slices)) (sym e)
