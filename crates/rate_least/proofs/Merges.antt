-- The steps of a merge.
use Rattle.std.proofs.Common.{◌≡◌, ℕ, zero, suc, ◌+◌, ◌-◌, ◌<◌, ◌≤◌, List, [], ◌∷◌, ◌++◌, length, get_or, take, drop, refl, sym, ap, ◌∙◌, subst, arith, ◌⊎◌, inl, inr, ⊎_elim}
use Rattle.std.specs.List.{Contains}
use Rattle.std.proofs.lemmas.List.Elements.{Contains-append_left, Contains-push_cases, Contains-push}
use Rattle.std.proofs.lemmas.List.{take_more, drop_more, take_all, drop_all}
use Rattle.std.proofs.lemmas.Bool.{cases_lt}
use Rattle.rate_table.specs.declared.entry.Entry.{Entry}
use Rattle.rate_least.specs.declared.outcome.WidePair.{WidePair}
use Rattle.rate_least.specs.declared.bound.Bound.{Bound}
use Rattle.rate_least.specs.Pairs.{Dominates, joined, RisesAndFalls}
use Rattle.rate_least.specs.Layers.{IsFront}
use Rattle.rate_least.specs.inner.Merge.{IsBehind, AreBehind, Offered, Passes, JoinsOne, Merged, Merging, IsNext}
use Rattle.rate_table.proofs.Lists.{contains_cases, contains_head, contains_tail, contains_none}
use Rattle.rate_least.proofs.Fronts.{dominates_self, dominates_trans, first_below, falls_tail}

push_order : (old : List WidePair) (p : WidePair) → RisesAndFalls old → ((q : WidePair) → Contains old q → (q.size < p.size) × (p.error < q.error)) → RisesAndFalls (old ++ p ∷ [])
push_order [] p h f = tt
push_order (q ∷ []) p h f = let g = f q (contains_head q []) in (g.0, g.1, tt)
push_order (q ∷ r ∷ old) p h f = (h.0, h.1, push_order (r ∷ old) p h.2 (λ s c. f s (contains_tail q (r ∷ old) s c)))

-- The pair has less error than each of the frontier.
pub offered_push : (p : WidePair) (old : List WidePair) → RisesAndFalls old → AreBehind p old → ((q : WidePair) → Contains old q → p.error < q.error) → Offered p old (old ++ p ∷ [])
offered_push p old h a less = record {
  front = record {
    order = push_order old p h (λ q c. let b = a.each q c in let l = less q c in
        (⊎_elim (λ s. s) (λ s. let e = b.1 s in absurd (omega arith)) (cases_lt q.size p.size), l));
    only = λ q c. Contains-push_cases old p q c;
    covers = λ q c. ⊎_elim (λ i. (q, Contains-append_left old (p ∷ []) q i, dominates_self q)) (λ e. (p, Contains-push old p, subst (λ y. Dominates p y) e (dominates_self p))) c;
  };
}

-- A pair of the frontier dominates it.
pub offered_keep : (p : WidePair) (old : List WidePair) → RisesAndFalls old → (q : WidePair) × Contains old q × Dominates q p → Offered p old old
offered_keep p old h d = record {
  front = record {
    order = h;
    only = λ q c. inl c;
    covers = λ q c. ⊎_elim (λ i. (q, i, dominates_self q)) (λ e. (d.0, d.1, subst (λ y. Dominates d.0 y) e d.2)) c;
  };
}

module _ (b : Bound) (x : Entry) where
  -- a pair of `front` is offered
  pub merging_front : (done left ldone lleft out new : List WidePair) (p : WidePair) → RisesAndFalls (p ∷ left) → ((r : WidePair) → Contains lleft r → IsBehind (joined r x) p) → Merging b x done (p ∷ left) ldone lleft out → Offered p out new → Merging b x (done ++ p ∷ []) left ldone lleft new
  merging_front done left ldone lleft out new p h later m o = record {
    front = record {
      order = o.front.order;
      only = λ q c. ⊎_elim (λ i. ⊎_elim (λ j. inl (Contains-append_left done (p ∷ []) q j)) (λ j. inr j) (m.front.only q i)) (λ e. inl (subst (λ y. Contains (done ++ p ∷ []) y) e (Contains-push done p))) (o.front.only q c);
      covers = λ q c. ⊎_elim
          (λ i. ⊎_elim (λ j. from_old q (inl j)) (λ e. o.front.covers q (inr e)) (Contains-push_cases done p q i))
          (λ i. from_old q (inr i)) c;
    };
    behind = λ r c. record { each = λ q i. ⊎_elim (λ j. (m.behind r (contains_tail p left r c)).each q j) (λ e. subst (λ y. IsBehind r y) e (let f = first_below p left r h c in (omega arith, λ s. absurd (omega arith)))) (o.front.only q i) };
    layer_behind = λ r c. record { each = λ q i. ⊎_elim (λ j. (m.layer_behind r c).each q j) (λ e. subst (λ y. IsBehind (joined r x) y) e (later r c)) (o.front.only q i) };
  }
    where
      from_old : (q : WidePair) → Contains done q ⊎ JoinsOne b ldone x q → (r : WidePair) × Contains new r × Dominates r q
      from_old q i = let a = m.front.covers q i in let c = o.front.covers a.0 (inl a.1) in (c.0, c.1, dominates_trans c.0 a.0 q c.2 a.2)

  -- a pair of the layer, joined with the entry, is offered
  pub merging_layer : (done left ldone lleft out new : List WidePair) (p : WidePair) → RisesAndFalls (p ∷ lleft) → Passes b (joined p x) → ((r : WidePair) → Contains left r → IsBehind r (joined p x)) → Merging b x done left ldone (p ∷ lleft) out → Offered (joined p x) out new → Merging b x done left (ldone ++ p ∷ []) lleft new
  merging_layer done left ldone lleft out new p h pass later m o = record {
    front = record {
      order = o.front.order;
      only = λ q c. ⊎_elim (λ i. ⊎_elim (λ j. inl j) (λ j. inr (more q j)) (m.front.only q i)) (λ e. inr (subst (λ y. JoinsOne b (ldone ++ p ∷ []) x y) e (p, Contains-push ldone p, refl, pass))) (o.front.only q c);
      covers = λ q c. ⊎_elim (λ i. from_old q (inl i))
          (λ i. ⊎_elim (λ j. from_old q (inr (i.0, j, i.2, i.3))) (λ e. o.front.covers q (inr (ap (λ y. joined y x) e ∙ sym i.2))) (Contains-push_cases ldone p i.0 i.1)) c;
    };
    behind = λ r c. record { each = λ q i. ⊎_elim (λ j. (m.behind r c).each q j) (λ e. subst (λ y. IsBehind r y) e (later r c)) (o.front.only q i) };
    layer_behind = λ r c. record { each = λ q i. ⊎_elim (λ j. (m.layer_behind r (contains_tail p lleft r c)).each q j) (λ e. subst (λ y. IsBehind (joined r x) y) e (let f = first_below p lleft r h c in (omega arith, λ s. absurd (omega arith)))) (o.front.only q i) };
  }
    where
      more : (q : WidePair) → JoinsOne b ldone x q → JoinsOne b (ldone ++ p ∷ []) x q
      more q j = (j.0, Contains-append_left ldone (p ∷ []) j.0 j.1, j.2, j.3)

      from_old : (q : WidePair) → Contains done q ⊎ JoinsOne b ldone x q → (r : WidePair) × Contains new r × Dominates r q
      from_old q i = let a = m.front.covers q i in let c = o.front.covers a.0 (inl a.1) in (c.0, c.1, dominates_trans c.0 a.0 q c.2 a.2)

  -- a pair of the layer, joined with the entry, doesn't pass
  pub merging_skip : (done left ldone lleft out : List WidePair) (p : WidePair) → (Passes b (joined p x) → ⊥) → Merging b x done left ldone (p ∷ lleft) out → Merging b x done left (ldone ++ p ∷ []) lleft out
  merging_skip done left ldone lleft out p fails m = record {
    front = record {
      order = m.front.order;
      only = λ q c. ⊎_elim (λ j. inl j) (λ j. inr (j.0, Contains-append_left ldone (p ∷ []) j.0 j.1, j.2, j.3)) (m.front.only q c);
      covers = λ q c. ⊎_elim (λ i. m.front.covers q (inl i))
          (λ i. ⊎_elim (λ j. m.front.covers q (inr (i.0, j, i.2, i.3))) (λ e. absurd (fails (subst (λ y. Passes b y) (i.2 ∙ ap (λ y. joined y x) (sym e)) i.3))) (Contains-push_cases ldone p i.0 i.1)) c;
    };
    behind = m.behind;
    layer_behind = λ r c. m.layer_behind r (contains_tail p lleft r c);
  }

  pub merging_none : (left lleft : List WidePair) → Merging b x [] left [] lleft []
  merging_none left lleft = record {
    front = record { order = tt; only = λ q c. absurd (contains_none q c); covers = λ q c. ⊎_elim (λ i. absurd (contains_none q i)) (λ i. absurd (contains_none i.0 i.1)) c };
    behind = λ r c. record { each = λ q i. absurd (contains_none q i) };
    layer_behind = λ r c. record { each = λ q i. absurd (contains_none q i) };
  }

-- the last pair
pub at_end : (layer : List WidePair) (last : WidePair) → RisesAndFalls layer → 0 < length layer → last ≡ get_or layer (length layer - 1) last → Contains layer last × ((q : WidePair) → Contains layer q → last.error ≤ q.error)
at_end [] last h n e = absurd (omega arith)
at_end (p ∷ []) last h n e = (
  subst (λ y. Contains (p ∷ []) y) (sym e) (contains_head p []),
  λ q c. ⊎_elim (λ i. let j = ap (λ (y : WidePair). y.error) (e ∙ i) in omega arith) (λ i. absurd (contains_none q i)) (contains_cases p [] q c),
)
at_end (p ∷ r ∷ layer) last h n e =
    let k : length (p ∷ r ∷ layer) - 1 ≡ suc (length (r ∷ layer) - 1) = omega arith in
    let f = at_end (r ∷ layer) last h.2 (omega arith) (subst (λ i. last ≡ get_or (p ∷ r ∷ layer) i last) k e) in (
      contains_tail p (r ∷ layer) last f.0,
      λ q c. ⊎_elim (λ i. let j = ap (λ (y : WidePair). y.error) i in let b = first_below p (r ∷ layer) last h f.0 in omega arith) (λ i. f.1 q i) (contains_cases p (r ∷ layer) q c),
    )

-- The same by indices, as a loop uses it.
pub falls_drop : (i : ℕ) (ps : List WidePair) → RisesAndFalls ps → RisesAndFalls (drop i ps)
falls_drop zero ps h = h
falls_drop (suc i) [] h = tt
falls_drop (suc i) (p ∷ ps) h = falls_drop i ps (falls_tail p ps h)

pub contains_drop : (ps : List WidePair) (i : ℕ) (d : WidePair) → i < length ps → Contains (drop i ps) (get_or ps i d)
contains_drop ps i d h = subst (λ l. Contains l (get_or ps i d)) (sym (drop_more ps i d h)) (contains_head (get_or ps i d) (drop (i + 1) ps))

module _ (b : Bound) (x : Entry) where
  pub step_front : (f : List WidePair) (i : ℕ) (d : WidePair) (ldone lleft out new : List WidePair) → RisesAndFalls f → i < length f → ((r : WidePair) → Contains lleft r → IsBehind (joined r x) (get_or f i d)) → Merging b x (take i f) (drop i f) ldone lleft out → Offered (get_or f i d) out new → Merging b x (take (i + 1) f) (drop (i + 1) f) ldone lleft new
  step_front f i d ldone lleft out new h n later m o =
      let e = drop_more f i d n in
      subst (λ l. Merging b x l (drop (i + 1) f) ldone lleft new) (sym (take_more f i d n))
      (merging_front b x (take i f) (drop (i + 1) f) ldone lleft out new (get_or f i d) (subst RisesAndFalls e (falls_drop i f h)) later (subst (λ l. Merging b x (take i f) l ldone lleft out) e m) o)

  pub step_layer : (l : List WidePair) (j : ℕ) (d : WidePair) (done left out new : List WidePair) → RisesAndFalls l → j < length l → Passes b (joined (get_or l j d) x) → ((r : WidePair) → Contains left r → IsBehind r (joined (get_or l j d) x)) → Merging b x done left (take j l) (drop j l) out → Offered (joined (get_or l j d) x) out new → Merging b x done left (take (j + 1) l) (drop (j + 1) l) new
  step_layer l j d done left out new h n pass later m o =
      let e = drop_more l j d n in
      subst (λ k. Merging b x done left k (drop (j + 1) l) new) (sym (take_more l j d n))
      (merging_layer b x done left (take j l) (drop (j + 1) l) out new (get_or l j d) (subst RisesAndFalls e (falls_drop j l h)) pass later (subst (λ k. Merging b x done left (take j l) k out) e m) o)

  pub step_skip : (l : List WidePair) (j : ℕ) (d : WidePair) (done left out : List WidePair) → j < length l → (Passes b (joined (get_or l j d) x) → ⊥) → Merging b x done left (take j l) (drop j l) out → Merging b x done left (take (j + 1) l) (drop (j + 1) l) out
  step_skip l j d done left out n fails m =
      let e = drop_more l j d n in
      subst (λ k. Merging b x done left k (drop (j + 1) l) out) (sym (take_more l j d n))
      (merging_skip b x done left (take j l) (drop (j + 1) l) out (get_or l j d) fails (subst (λ k. Merging b x done left (take j l) k out) e m))

  -- what comes after the next of the layer
  pub layer_later : (l : List WidePair) (j : ℕ) (d p : WidePair) → RisesAndFalls l → j < length l → IsBehind (joined (get_or l j d) x) p → (r : WidePair) → Contains (drop j l) r → IsBehind (joined r x) p
  layer_later l j d p h n a r c =
      let e = drop_more l j d n in
      ⊎_elim (λ i. subst (λ y. IsBehind (joined y x) p) i a)
      (λ i. let f = first_below (get_or l j d) (drop (j + 1) l) r (subst RisesAndFalls e (falls_drop j l h)) i in (omega (arith, a.0), λ s. absurd (omega (arith, a.0))))
      (contains_cases (get_or l j d) (drop (j + 1) l) r (subst (λ k. Contains k r) e c))

pub front_later : (f : List WidePair) (i : ℕ) (d q : WidePair) → RisesAndFalls f → (i < length f → IsBehind (get_or f i d) q) → (r : WidePair) → Contains (drop i f) r → IsBehind r q
front_later f i d q h a r c = ⊎_elim
    (λ n. let e = drop_more f i d n in
    ⊎_elim (λ k. subst (λ y. IsBehind y q) k (a n))
    (λ k. let g = first_below (get_or f i d) (drop (i + 1) f) r (subst RisesAndFalls e (falls_drop i f h)) k in let b = (a n).0 in (omega arith, λ s. absurd (omega arith)))
    (contains_cases (get_or f i d) (drop (i + 1) f) r (subst (λ k. Contains k r) e c)))
    (λ n. absurd (contains_none r (subst (λ k. Contains k r) (drop_all i f n) c)))
    (cases_lt i (length f))

pub merged_end : (b : Bound) (x : Entry) (f : List WidePair) (i : ℕ) (l out : List WidePair) → length f ≤ i → Merging b x (take i f) (drop i f) l [] out → Merged b f l x out
merged_end b x f i l out n m = record { front = subst (λ k. IsFront (λ p. Contains k p ⊎ JoinsOne b l x p) out) (take_all i f n) m.front }

-- the next frontier, entry by entry
pub next_none : (b : Bound) (layer : List WidePair) → IsNext b layer [] []
next_none b layer = record { order = tt; only = λ p c. absurd (contains_none p c); covers = λ p h. absurd (contains_none h.0.1 h.0.3) }

pub next_push : (b : Bound) (layer : List WidePair) (xs : List Entry) (x : Entry) (old new : List WidePair) → IsNext b layer xs old → Merged b old layer x new → IsNext b layer (xs ++ x ∷ []) new
next_push b layer xs x old new n m = record {
  order = m.front.order;
  only = λ p c. ⊎_elim
      (λ i. let j = n.only p i in ((j.0.0, j.0.1, j.0.2, Contains-append_left xs (x ∷ []) j.0.1 j.0.3, j.0.4), j.1))
      (λ i. ((i.0, x, i.1, Contains-push xs x, i.2), i.3))
      (m.front.only p c);
  covers = λ p h. ⊎_elim
      (λ i. let a = n.covers p ((h.0.0, h.0.1, h.0.2, i, h.0.4), h.1) in let c = m.front.covers a.0 (inl a.1) in (c.0, c.1, dominates_trans c.0 a.0 p c.2 a.2))
      (λ e. m.front.covers p (inr (h.0.0, h.0.2, h.0.4 ∙ ap (λ y. joined h.0.0 y) (sym e), h.1)))
      (Contains-push_cases xs x h.0.1 h.0.3);
}
