-- The pairs that stay within a bound.
use Rattle.std.proofs.Common.{ℕ, ◌<◌, List, [], ◌∷◌, drop, ap, subst, arith, ⊎_elim}
use Rattle.std.specs.List.{Contains}
use Rattle.std.proofs.lemmas.Bool.{cases_lt}
use Rattle.rate_table.specs.declared.entry.Pair.{Pair}
use Rattle.rate_table.specs.Table.{Table}
use Rattle.rate_layers.specs.Layers.{Rises, IsFront, IsKept}
use Rattle.rate_table.specs.Pairs.{RisesAndFalls}
use Rattle.rate_layers.proofs.Fronts.{front_layer, one_only}
use Rattle.rate_table.proofs.Lists.{contains_head, contains_tail}
use Rattle.rate_layers.proofs.Asked.{Stays, At, within_down}
use Rattle.rate_layers.proofs.Exists.{front_full, full_front}

module _ (t : Table) (m u : ℕ) (k : ℕ) where
  falls_within : (layer : List Pair) → RisesAndFalls layer → (kept : List Pair) → Rises kept → ((p : Pair) → Contains kept p → Contains layer p) → RisesAndFalls kept
  falls_within layer f [] h sub = tt
  falls_within layer f (p ∷ []) h sub = tt
  falls_within layer f (p ∷ q ∷ kept) h sub =
      let cp = sub p (contains_head p (q ∷ kept)) in
      let cq = sub q (contains_tail p (q ∷ kept) q (contains_head q kept)) in
      let fall : q.error < p.error = ⊎_elim (λ l. l)
      (λ l. let e = one_only layer q p f cq cp (omega arith, l) in let s = ap (λ (x : Pair). x.size) e in absurd (omega arith)) (cases_lt q.error p.error) in
      (h.0, fall, falls_within layer f (q ∷ kept) h.1 (λ x c. sub x (contains_tail p (q ∷ kept) x c)))

  pub kept_front : (kept : List Pair) → IsKept t m u k kept → IsFront (At t (Stays t m u) k) kept
  kept_front kept (layer, full, rises, has) =
      let f = full_front t k layer full in
      record {
        order = falls_within layer f.order kept rises (λ p c. ((has p).0 c).0);
        only = λ p c. let i = (has p).0 c in let j = f.only p i.0 in (j.0, (j.1, i.1));
        covers = λ p h. let q = f.covers p (h.0, h.1.0) in
            (q.0, (has q.0).1 (q.1, within_down t m u (drop k t.slices) p q.0 q.2 h.1.1), q.2);
      }

  pub front_kept : (kept : List Pair) → IsFront (At t (Stays t m u) k) kept → IsKept t m u k kept
  front_kept kept g =
      let f = front_full t k in
      let l = front_layer _ f.0 f.1 in
      let n = front_layer _ kept g in (
        f.0,
        l,
        n.rises,
        λ p. (
          (λ c. let i = (n.has p).0 c in
              ((l.has p).1 ((i.0.0, i.0.1.0), λ q h d. i.1 q (h.0, (h.1, within_down t m u (drop k t.slices) p q d i.0.1.1)) d), i.0.1.1)),
          (λ c. let i = (l.has p).0 c.0 in let q = g.covers p (i.0.0, (i.0.1, c.1)) in let o = g.only q.0 q.1 in
              subst (λ x. Contains kept x) (i.1 q.0 (o.0, o.1.0) q.2) q.1),
        ),
      )
