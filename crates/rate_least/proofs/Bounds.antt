-- Pairs below a bound's numbers, and the first frontier.
use Rattle.std.proofs.Common.{◌≡◌, ℕ, ◌*◌, List, [], ◌∷◌, sym, ap, arith, ◌↔◌}
use Rattle.rate_table.specs.declared.entry.Entry.{Entry}
use Rattle.rate_least.specs.declared.outcome.WidePair.{WidePair}
use Rattle.rate_least.specs.declared.bound.Bound.{Bound}
use Rattle.rate_least.specs.Layers.{Reaches, IsFront}
use Rattle.rate_least.specs.inner.Covering.{IsBoundOf}
use Rattle.rate_least.specs.inner.Merge.{Passes}
use Rattle.rate_least.specs.inner.Live.{Capped}
use Rattle.rate_least.proofs.Asked.{Stays, At}

-- A pair passes a bound exactly if it can still meet the cap and stays within the bound.
pub bound_stays : (t : Capped) (m u : ℕ) (later : List (List Entry)) (b : Bound) → IsBoundOf t.cap m u later b → (p : WidePair) → Passes b p ↔ Stays t m u later p
bound_stays t m u later b o p =
    let e : b.multiplier * p.size ≡ m * p.size = ap (λ n. n * p.size) o.multiplier in (
      (λ h. (omega (arith, o.errors, o.limit, h.0), omega (arith, o.floor, o.most, e, h.1))),
      (λ h. (omega (arith, o.errors, o.limit, h.0), omega (arith, o.floor, o.most, e, h.1))),
    )

-- a frontier of the same pairs by another description
pub front_as : (P Q : WidePair → Type 0) (layer : List WidePair) → ((p : WidePair) → P p → Q p) → ((p : WidePair) → Q p → P p) → IsFront P layer → IsFront Q layer
front_as P Q layer to from f = record { order = f.order; only = λ p c. to p (f.only p c); covers = λ p h. f.covers p (from p h) }

-- the first frontier
pub front_first : (t : Capped) (m u : ℕ) (b : Bound) (layer : List WidePair) → IsBoundOf t.cap m u t.slices b
    → IsFront (λ p. (p ≡ record { size = 0; error = 0 }) × Passes b p) layer → IsFront (At t (Stays t m u) 0) layer
front_first t m u b layer o f =
    front_as (λ p. (p ≡ record { size = 0; error = 0 }) × Passes b p) (At t (Stays t m u) 0) layer
    (λ p h. (([], tt, sym h.0), (bound_stays t m u t.slices b o p).0 h.1))
    (λ p h. (nothing p h.0, (bound_stays t m u t.slices b o p).1 h.1)) f
  where
    nothing : (p : WidePair) → Reaches [] p → p ≡ record { size = 0; error = 0 }
    nothing p ([], h, e) = sym e
    nothing p (x ∷ c, h, e) = absurd h
