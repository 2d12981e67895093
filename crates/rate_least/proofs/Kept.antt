-- The pairs that stay within a bound.
use Rattle.std.proofs.Common.{ℕ, ◌<◌, List, [], ◌∷◌, drop, ap, subst, arith, ⊎_elim}
use Rattle.std.specs.List.{Contains}
use Rattle.std.proofs.lemmas.Bool.{cases_lt}
use Rattle.rate_least.specs.declared.outcome.WidePair.{WidePair}
use Rattle.rate_least.specs.Layers.{Rises, IsFront}
use Rattle.rate_least.specs.inner.Live.{Capped}
use Rattle.rate_least.specs.Pairs.{RisesAndFalls}
use Rattle.rate_least.proofs.Fronts.{front_layer, one_only}
use Rattle.rate_table.proofs.Lists.{contains_head, contains_tail}
use Rattle.rate_least.proofs.Asked.{IsKept, Stays, At, within_down, front_full, full_front}

module _ (t : Capped) (m u : ℕ) (k : ℕ) where
  falls_within : (layer : List WidePair) → RisesAndFalls layer → (kept : List WidePair) → Rises kept → ((p : WidePair) → Contains kept p → Contains layer p) → RisesAndFalls kept
  falls_within layer f [] h sub = tt
  falls_within layer f (p ∷ []) h sub = tt
  falls_within layer f (p ∷ q ∷ kept) h sub =
      let cp = sub p (contains_head p (q ∷ kept)) in
      let cq = sub q (contains_tail p (q ∷ kept) q (contains_head q kept)) in
      let fall : q.error < p.error = ⊎_elim (λ l. l)
      (λ l. let e = one_only layer q p f cq cp (omega arith, l) in let s = ap (λ (x : WidePair). x.size) e in absurd (omega arith)) (cases_lt q.error p.error) in
      (h.0, fall, falls_within layer f (q ∷ kept) h.1 (λ x c. sub x (contains_tail p (q ∷ kept) x c)))

  pub kept_front : (kept : List WidePair) → IsKept t m u k kept → IsFront (At t (Stays t m u) k) kept
  kept_front kept a =
      let layer = a.layer in
      let rises = a.rises in
      let has = a.has in
      let f = full_front t k layer a.capped in
      record {
        order = falls_within layer f.order kept rises (λ p c. ((has p).0 c).0);
        only = λ p c. let i = (has p).0 c in let j = f.only p i.0 in (j.0, (j.1, i.1));
        covers = λ p h. let q = f.covers p (h.0, h.1.0) in
            (q.0, (has q.0).1 (q.1, within_down t m u (drop k t.slices) p q.0 q.2 h.1.1), q.2);
      }

  pub front_kept : (kept : List WidePair) → IsFront (At t (Stays t m u) k) kept → IsKept t m u k kept
  front_kept kept g =
      let f = front_full t k in
      let l = front_layer _ f.0 f.1 in
      let n = front_layer _ kept g in
      record {
        layer = f.0;
        capped = l;
        rises = n.rises;
        has = λ p. (
          (λ c. let i = (n.has p).0 c in
              ((l.has p).1 ((i.0.0, i.0.1.0), λ q h d. i.1 q (h.0, (h.1, within_down t m u (drop k t.slices) p q d i.0.1.1)) d), i.0.1.1)),
          (λ c. let i = (l.has p).0 c.0 in let q = g.covers p (i.0.0, (i.0.1, c.1)) in let o = g.only q.0 q.1 in
              subst (λ x. Contains kept x) (i.1 q.0 (o.0, o.1.0) q.2) q.1),
        );
      }
