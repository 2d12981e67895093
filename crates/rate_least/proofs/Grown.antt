-- One slice more: from the pairs of a frontier to those of the next.
use Rattle.std.proofs.Common.{◌≡◌, List, [], ◌∷◌, ◌++◌, refl, sym, ap, ◌∙◌, subst, arith}
use Rattle.std.specs.List.{Contains}
use Rattle.rate_layers.proofs.Grown.{choice_push, choice_last, sum_push}
use Rattle.rate_table.specs.declared.entry.Entry.{Entry}
use Rattle.rate_least.specs.declared.outcome.WidePair.{WidePair}
use Rattle.rate_least.specs.Pairs.{Dominates, joined}
use Rattle.rate_least.specs.Layers.{wide_of, Reaches, IsFront, Joins}
use Rattle.rate_least.proofs.Fronts.{same_pair, dominates_trans}

pub pair_push : (c : List Entry) (x : Entry) → wide_of (c ++ x ∷ []) ≡ joined (wide_of c) x
pair_push c x = same_pair _ _ (sum_push (λ x. x.size) c x) (sum_push (λ x. x.error) c x)

module _ (done : List (List Entry)) (slice : List Entry) (Fine Next : WidePair → Type 0) where
  -- If a pair passes, so does each pair that dominates it, and the pair that it was joined from.
  pub front_step : ((p q : WidePair) → Dominates q p → Next p → Next q) → ((p : WidePair) (x : Entry) → Contains slice x → Next (joined p x) → Fine p) → (layer next : List WidePair) → IsFront (λ p. Reaches done p × Fine p) layer → IsFront (λ p. Joins layer slice p × Next p) next → IsFront (λ p. Reaches (done ++ slice ∷ []) p × Next p) next
  front_step down back layer next f g = record {
    order = g.order;
    only = λ p h. let j = g.only p h in
        let from = f.only j.0.0 j.0.2 in
        let c = from.0 in
        ((c.0 ++ j.0.1 ∷ [], choice_push done slice c.0 j.0.1 c.1 j.0.3, pair_push c.0 j.0.1 ∙ ap (λ q. joined q j.0.1) c.2 ∙ sym j.0.4), j.1);
    covers = λ p h. let l = choice_last done slice h.0.0 h.0.1 in
        let x = l.entry in
        let e : joined (wide_of l.front) x ≡ p = sym (pair_push l.front x) ∙ ap wide_of (sym l.is) ∙ h.0.2 in
        let fine : Fine (wide_of l.front) = back (wide_of l.front) x l.in_slice (subst Next (sym e) h.1) in
        let q = f.covers (wide_of l.front) ((l.front, l.chosen, refl), fine) in
        let dom : Dominates (joined q.0 x) p = subst (λ y. Dominates (joined q.0 x) y) e (omega arith, omega arith) in
        let r = g.covers (joined q.0 x) ((q.0, x, q.1, l.in_slice, refl), down p (joined q.0 x) dom h.1) in
        (r.0, r.1, dominates_trans r.0 (joined q.0 x) p r.2 dom);
  }
