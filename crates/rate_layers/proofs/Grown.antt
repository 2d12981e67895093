-- One slice more: from the pairs of a frontier to those of the next.
use Rattle.std.proofs.Common.{◌≡◌, ℕ, ◌+◌, List, [], ◌∷◌, ◌++◌, refl, sym, ap, ◌∙◌, subst, arith}
use Rattle.std.specs.List.{Contains, sum_by}
use Rattle.std.proofs.lemmas.List.Sums.{sum_by-cons}
use Rattle.rate_table.specs.declared.entry.Entry.{Entry}
use Rattle.rate_table.specs.declared.entry.Pair.{Pair}
use Rattle.rate_table.specs.Table.{IsChoice, pair_of}
use Rattle.rate_table.specs.Pairs.{Dominates, joined}
use Rattle.rate_layers.specs.Layers.{Reaches, IsFront, Joins}
use Rattle.rate_layers.proofs.Fronts.{same_pair, dominates_trans}

-- choices of one slice more
pub choice_push : (slices : List (List Entry)) (s : List Entry) (c : List Entry) (x : Entry) → IsChoice slices c → Contains s x → IsChoice (slices ++ s ∷ []) (c ++ x ∷ [])
choice_push [] s [] x h i = (i, tt)
choice_push [] s (y ∷ c) x h i = absurd h
choice_push (r ∷ slices) s [] x h i = absurd h
choice_push (r ∷ slices) s (y ∷ c) x h i = (h.0, choice_push slices s c x h.1 i)

-- a choice without its last entry
pub record Last (slices : List (List Entry)) (s : List Entry) (d : List Entry) : Type 0 where
  pub front : List Entry
  pub entry : Entry
  pub is : d ≡ front ++ entry ∷ []
  pub chosen : IsChoice slices front
  pub in_slice : Contains s entry

pub choice_last : (slices : List (List Entry)) (s : List Entry) (d : List Entry) → IsChoice (slices ++ s ∷ []) d → Last slices s d
choice_last [] s [] h = absurd h
choice_last [] s (x ∷ []) h = record { front = []; entry = x; is = refl; chosen = tt; in_slice = h.0 }
choice_last [] s (x ∷ y ∷ d) h = absurd h.1
choice_last (r ∷ slices) s [] h = absurd h
choice_last (r ∷ slices) s (x ∷ d) h =
    let l = choice_last slices s d h.1 in
    record { front = x ∷ l.front; entry = l.entry; is = ap (λ e. x ∷ e) l.is; chosen = (h.0, l.chosen); in_slice = l.in_slice }

pub sum_push : (f : Entry → ℕ) (c : List Entry) (x : Entry) → sum_by f (c ++ x ∷ []) ≡ sum_by f c + f x
sum_push f [] x = omega arith
sum_push f (y ∷ c) x = omega (arith, sum_by-cons f y (c ++ x ∷ []), sum_by-cons f y c, sum_push f c x)

pub pair_push : (c : List Entry) (x : Entry) → pair_of (c ++ x ∷ []) ≡ joined (pair_of c) x
pair_push c x = same_pair _ _ (sum_push (λ x. x.size) c x) (sum_push (λ x. x.error) c x)

module _ (done : List (List Entry)) (slice : List Entry) (Fine Next : Pair → Type 0) where
  -- If a pair passes, so does each pair that dominates it, and the pair that it was joined from.
  pub front_step : ((p q : Pair) → Dominates q p → Next p → Next q) → ((p : Pair) (x : Entry) → Contains slice x → Next (joined p x) → Fine p) → (layer next : List Pair) → IsFront (λ p. Reaches done p × Fine p) layer → IsFront (λ p. Joins layer slice p × Next p) next → IsFront (λ p. Reaches (done ++ slice ∷ []) p × Next p) next
  front_step down back layer next f g = record {
    order = g.order;
    only = λ p h. let j = g.only p h in
        let from = f.only j.0.0 j.0.2 in
        let c = from.0 in
        ((c.0 ++ j.0.1 ∷ [], choice_push done slice c.0 j.0.1 c.1 j.0.3, pair_push c.0 j.0.1 ∙ ap (λ q. joined q j.0.1) c.2 ∙ sym j.0.4), j.1);
    covers = λ p h. let l = choice_last done slice h.0.0 h.0.1 in
        let x = l.entry in
        let e : joined (pair_of l.front) x ≡ p = sym (pair_push l.front x) ∙ ap pair_of (sym l.is) ∙ h.0.2 in
        let fine : Fine (pair_of l.front) = back (pair_of l.front) x l.in_slice (subst Next (sym e) h.1) in
        let q = f.covers (pair_of l.front) ((l.front, l.chosen, refl), fine) in
        let dom : Dominates (joined q.0 x) p = subst (λ y. Dominates (joined q.0 x) y) e (omega arith, omega arith) in
        let r = g.covers (joined q.0 x) ((q.0, x, q.1, l.in_slice, refl), down p (joined q.0 x) dom h.1) in
        (r.0, r.1, dominates_trans r.0 (joined q.0 x) p r.2 dom);
  }
