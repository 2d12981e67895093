-- Pairs with marks.
use Rattle.std.proofs.Common.{◌≡◌, ℕ, zero, suc, ◌+◌, ◌<◌, List, [], ◌∷◌, ◌++◌, length, get_or, set, take, replicate, Bool, true, false, cond, refl, sym, ap, ◌∙◌, subst, arith, ◌⊎◌, inl, inr, ⊎_elim}
use Rattle.std.specs.Prelude.{◌↔◌}
use Rattle.std.specs.List.{Contains}
use Rattle.std.proofs.lemmas.List.{get_or_default, get_or-set_same, get_or-set_other, get_or-replicate, length-replicate, take_more}
use Rattle.std.proofs.lemmas.List.Elements.{Contains-get_or, Contains-append_left, Contains-push_cases, Contains-push}
use Rattle.std.proofs.lemmas.Bool.{cases_lt, cases_eq, cases_Bool, false≢true, true≢false}
use Rattle.rate_table.specs.declared.entry.Entry.{Entry}
use Rattle.rate_least.specs.declared.outcome.WidePair.{WidePair}
use Rattle.rate_least.specs.Pairs.{joined}
use Rattle.rate_table.proofs.Lists.{contains_cases, contains_head, contains_tail, contains_none}
use Rattle.rate_least.specs.Layers.{Rises}
use Rattle.rate_least.specs.inner.Live.{StandsAt, LeadsAt, marked, MarkedMore, MarkedOn}
use Rattle.rate_least.proofs.Fronts.{first_smaller, rises_tail}
use Rattle.rate_least.proofs.Onward.{rises_at, build_rises}

-- ---- which pairs are marked

pub marked_has : (marks : List Bool) (layer : List WidePair) (p : WidePair) → Contains (marked marks layer) p → (i : ℕ) × (i < length layer) × (get_or layer i p ≡ p) × (get_or marks i false ≡ true)
marked_has [] layer p c = absurd (contains_none p c)
marked_has (m ∷ marks) [] p c = absurd (contains_none p c)
marked_has (m ∷ marks) (q ∷ layer) p c =
    ⊎_elim
    (λ e. let c' = subst (λ b. Contains (cond b (q ∷ marked marks layer) (marked marks layer)) p) e c in
    ⊎_elim (λ i. (0, omega arith, i, e)) (λ d. let r = marked_has marks layer p d in (suc r.0, omega (arith, r.1), r.2, r.3)) (contains_cases q (marked marks layer) p c'))
    (λ e. let r = marked_has marks layer p (subst (λ b. Contains (cond b (q ∷ marked marks layer) (marked marks layer)) p) e c) in (suc r.0, omega (arith, r.1), r.2, r.3))
    (cases_Bool m)

pub has_marked : (marks : List Bool) (layer : List WidePair) (i : ℕ) (p : WidePair) → i < length layer → get_or layer i p ≡ p → get_or marks i false ≡ true → Contains (marked marks layer) p
has_marked [] layer zero p n e m = absurd (false≢true m)
has_marked [] layer (suc i) p n e m = absurd (false≢true m)
has_marked (b ∷ marks) [] i p n e m = absurd (omega arith)
has_marked (b ∷ marks) (q ∷ layer) zero p n e m =
    subst (λ c. Contains (cond c (q ∷ marked marks layer) (marked marks layer)) p) (sym m)
    (subst (λ x. Contains (q ∷ marked marks layer) x) e (contains_head q (marked marks layer)))
has_marked (b ∷ marks) (q ∷ layer) (suc i) p n e m =
    let r = has_marked marks layer i p (omega arith) e m in
    ⊎_elim
    (λ c. subst (λ b. Contains (cond b (q ∷ marked marks layer) (marked marks layer)) p) (sym c) (contains_tail q (marked marks layer) p r))
    (λ c. subst (λ b. Contains (cond b (q ∷ marked marks layer) (marked marks layer)) p) (sym c) r) (cases_Bool b)

pub marked_in : (marks : List Bool) (layer : List WidePair) (p : WidePair) → Contains (marked marks layer) p → Contains layer p
marked_in marks layer p c = let r = marked_has marks layer p c in (r.0, r.1, r.2)

rises_marked : (marks : List Bool) (layer : List WidePair) → Rises layer → Rises (marked marks layer)
rises_marked [] layer h = tt
rises_marked (m ∷ marks) [] h = tt
rises_marked (m ∷ marks) (q ∷ layer) h =
    let r = rises_marked marks layer (rises_tail q layer h) in
    ⊎_elim
    (λ e. subst (λ b. Rises (cond b (q ∷ marked marks layer) (marked marks layer))) (sym e)
    (build_rises q (marked marks layer) r (λ x c. first_smaller q layer x h (marked_in marks layer x c))))
    (λ e. subst (λ b. Rises (cond b (q ∷ marked marks layer) (marked marks layer))) (sym e) r)
    (cases_Bool m)

-- the first pair alone
none_marked : (back : List WidePair) → marked (replicate (length back) false) back ≡ []
none_marked [] = refl
none_marked (q ∷ back) = none_marked back

pub marked_first : (p : WidePair) (back : List WidePair) → marked (true ∷ replicate (length back) false) (p ∷ back) ≡ p ∷ []
marked_first p back = ap (λ l. p ∷ l) (none_marked back)

-- ---- the position of a pair

same_place : (layer : List WidePair) (i j : ℕ) (d : WidePair) → Rises layer → i < length layer → j < length layer → (get_or layer i d).size ≡ (get_or layer j d).size → i ≡ j
same_place layer i j d h n l e =
    ⊎_elim (λ b. absurd (omega (arith, rises_at layer i j d h b l)))
    (λ b. ⊎_elim (λ c. absurd (omega (arith, rises_at layer j i d h c n))) (λ c. omega arith) (cases_lt j i)) (cases_lt i j)

pub marked_at : (marks : List Bool) (layer : List WidePair) (p : WidePair) (at : ℕ) → Rises layer → StandsAt layer p at → (get_or marks at false ≡ true) ↔ Contains (marked marks layer) p
marked_at marks layer p at h s = (
  (λ m. has_marked marks layer at p s.0 s.1 m),
  (λ c. let r = marked_has marks layer p c in
      let e : r.0 ≡ at = same_place layer r.0 at p h r.1 s.0 (ap (λ (q : WidePair). q.size) (r.2 ∙ sym s.1)) in
      subst (λ i. get_or marks i false ≡ true) e r.3),
)

-- an entry leads from here
pub leads_at : (layer : List WidePair) (x : Entry) (p q : WidePair) (at : ℕ) → StandsAt layer p at → joined p x ≡ q → LeadsAt layer x q at
leads_at layer x p q at s e = (s.0, λ d. ap (λ r. joined r x) (get_or_default layer at d p s.0 ∙ s.1) ∙ e)

-- ---- one pair's sources

module _ (q : WidePair) (layer : List WidePair) (old : List Bool) where
  pub more_none : MarkedMore [] q layer old old
  more_none = record { each = λ i d n. ((λ h. inl h), (λ s. ⊎_elim (λ h. h) (λ r. absurd (contains_none r.0 r.1)) s)) }

  more_set : (xs : List Entry) (x : Entry) (marks : List Bool) (at : ℕ) → Rises layer → length marks ≡ length layer → LeadsAt layer x q at → MarkedMore xs q layer old marks → MarkedMore (xs ++ x ∷ []) q layer old (set marks at true)
  more_set xs x marks at h count s m = record {
    each = λ i d n. ⊎_elim (λ e. here i d n e) (λ e. there i d n e) (cases_eq i at);
  }
    where
      Now : ℕ → WidePair → Type 0
      Now i d = (get_or (set marks at true) i false ≡ true) ↔ ((get_or old i false ≡ true) ⊎ ((y : Entry) × Contains (xs ++ x ∷ []) y × (joined (get_or layer i d) y ≡ q)))

      here : (i : ℕ) (d : WidePair) → i < length layer → i ≡ at → Now i d
      here i d n e =
          let w : get_or (set marks at true) i false ≡ true = ap (λ j. get_or (set marks at true) j false) e ∙ get_or-set_same marks at true false (omega (arith, s.0)) in
          ((λ h. inr (x, Contains-push xs x, ap (λ j. joined (get_or layer j d) x) e ∙ s.1 d)), (λ h. w))

      there : (i : ℕ) (d : WidePair) → i < length layer → (i ≡ at → ⊥) → Now i d
      there i d n e =
          let w : get_or (set marks at true) i false ≡ get_or marks i false = get_or-set_other marks at i true false e in
          let m' = m.each i d n in (
            (λ g. ⊎_elim (λ o. inl o) (λ r. inr (r.0, Contains-append_left xs (x ∷ []) r.0 r.1, r.2)) (m'.0 (sym w ∙ g))),
            (λ g. w ∙ ⊎_elim (λ o. m'.1 (inl o))
                (λ r. ⊎_elim (λ c. m'.1 (inr (r.0, c, r.2)))
                (λ f. let z = subst (λ y. joined (get_or layer i d) y ≡ q) (sym f) r.2 ∙ sym (s.1 d) in
                let z' = ap (λ (p : WidePair). p.size) z in
                absurd (e (same_place layer i at d h n s.0 (omega arith))))
                (Contains-push_cases xs x r.0 r.1)) g),
          )

  more_skip : (xs : List Entry) (x : Entry) (marks : List Bool) → ((p : WidePair) → Contains layer p → joined p x ≡ q → ⊥) → MarkedMore xs q layer old marks → MarkedMore (xs ++ x ∷ []) q layer old marks
  more_skip xs x marks none m = record {
    each = λ i d n. let m' = m.each i d n in (
      (λ g. ⊎_elim (λ o. inl o) (λ r. inr (r.0, Contains-append_left xs (x ∷ []) r.0 r.1, r.2)) (m'.0 g)),
      (λ g. ⊎_elim (λ o. m'.1 (inl o))
          (λ r. ⊎_elim (λ c. m'.1 (inr (r.0, c, r.2)))
          (λ f. absurd (none (get_or layer i d) (Contains-get_or layer i d n) (subst (λ y. joined (get_or layer i d) y ≡ q) (sym f) r.2)))
          (Contains-push_cases xs x r.0 r.1)) g),
    );
  }

  pub more_marked : (slice : List Entry) (k : ℕ) (e : Entry) (marks : List Bool) (at : ℕ) → k < length slice → Rises layer → length marks ≡ length layer → LeadsAt layer (get_or slice k e) q at → MarkedMore (take k slice) q layer old marks → MarkedMore (take (k + 1) slice) q layer old (set marks at true)
  more_marked slice k e marks at n h count s m =
      subst (λ y. MarkedMore y q layer old (set marks at true)) (sym (take_more slice k e n)) (more_set (take k slice) (get_or slice k e) marks at h count s m)

  pub more_same : (slice : List Entry) (k : ℕ) (e : Entry) (marks : List Bool) → k < length slice → ((p : WidePair) → Contains layer p → joined p (get_or slice k e) ≡ q → ⊥) → MarkedMore (take k slice) q layer old marks → MarkedMore (take (k + 1) slice) q layer old marks
  more_same slice k e marks n none m =
      subst (λ y. MarkedMore y q layer old marks) (sym (take_more slice k e n)) (more_skip (take k slice) (get_or slice k e) marks none m)

-- ---- the sources of all marked pairs

module _ (slice : List Entry) (next : List WidePair) (next_marks : List Bool) (layer : List WidePair) where
  -- an entry leads to a marked one of the first k pairs
  abbrev pub Source : ℕ → WidePair → Type 0
  Source k p = (i : ℕ) × (i < k) × (get_or next_marks i false ≡ true) × (x : Entry) × Contains slice x × ((d : WidePair) → joined p x ≡ get_or next i d)

  -- the sources of the first k pairs are marked
  pub record MarkedSo (marks : List Bool) (k : ℕ) : Type 0 where
    pub count : length marks ≡ length layer
    pub each : (j : ℕ) (d : WidePair) → j < length layer → (get_or marks j false ≡ true) ↔ Source k (get_or layer j d)

  pub so_none : (marks : List Bool) (n : ℕ) → n ≡ length layer → marks ≡ replicate n false → MarkedSo marks 0
  so_none marks n e is = record {
    count = ap length is ∙ length-replicate n false ∙ e;
    each = λ j d l. (
      (λ m. absurd (true≢false (sym m ∙ ap (λ ms. get_or ms j false) is ∙ get_or-replicate n j false false (omega arith)))),
      (λ s. absurd (omega (arith, s.1))),
    );
  }

  pub so_more : (marks new : List Bool) (k : ℕ) (q : WidePair) → k < length next → get_or next_marks k false ≡ true → q ≡ get_or next k q → length new ≡ length layer → MarkedMore slice q layer marks new → MarkedSo marks k → MarkedSo new (k + 1)
  so_more marks new k q n m is count more a = record {
    count = count;
    each = λ j d l.
        let g = more.each j d l in
        let o = a.each j d l in (
          (λ h. ⊎_elim
              (λ b. let s = o.0 b in (s.0, omega (arith, s.1), s.2, s.3, s.4, s.5))
              (λ r. (k, omega arith, m, r.0, r.1, λ e. r.2 ∙ is ∙ get_or_default next k q e n)) (g.0 h)),
          (λ s. ⊎_elim
              (λ b. g.1 (inl (o.1 (s.0, b, s.2, s.3, s.4, s.5))))
              (λ b. let e : s.0 ≡ k = omega (arith, s.1) in
              g.1 (inr (s.3, s.4, s.5 q ∙ ap (λ i. get_or next i q) e ∙ sym is))) (cases_lt s.0 k)),
        );
  }

  pub so_same : (marks : List Bool) (k : ℕ) → get_or next_marks k false ≡ false → MarkedSo marks k → MarkedSo marks (k + 1)
  so_same marks k m a = record {
    count = a.count;
    each = λ j d l.
        let o = a.each j d l in (
          (λ h. let s = o.0 h in (s.0, omega (arith, s.1), s.2, s.3, s.4, s.5)),
          (λ s. ⊎_elim
              (λ b. o.1 (s.0, b, s.2, s.3, s.4, s.5))
              (λ b. let e : s.0 ≡ k = omega (arith, s.1) in
              absurd (true≢false (sym s.2 ∙ ap (λ i. get_or next_marks i false) e ∙ m))) (cases_lt s.0 k)),
        );
  }

  pub so_end : (marks : List Bool) (k : ℕ) → k ≡ length next → Rises layer → MarkedSo marks k → MarkedOn slice next next_marks layer marks
  so_end marks k z h a = record {
    count = a.count;
    lead = record {
      rises = rises_marked marks layer h;
      some = λ p c.
          let r = marked_has marks layer p c in
          let s = (a.each r.0 p r.1).0 r.3 in
          let is : get_or next s.0 (joined p s.3) ≡ joined p s.3 = sym (s.5 (joined p s.3)) ∙ ap (λ y. joined y s.3) r.2 in
          (marked_in marks layer p c, (s.3, s.4, has_marked next_marks next s.0 (joined p s.3) (omega (arith, s.1)) is s.2));
      all = λ p c on.
          let r = marked_has next_marks next (joined p on.0) on.2 in
          let to : Source k (get_or layer c.0 p) =
          (r.0, omega (arith, r.1), r.3, on.0, on.1, λ d. ap (λ y. joined y on.0) c.2 ∙ sym r.2 ∙ get_or_default next r.0 (joined p on.0) d r.1) in
          has_marked marks layer c.0 p c.1 c.2 ((a.each c.0 p c.1).1 to);
    };
  }
