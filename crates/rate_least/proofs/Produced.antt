-- The outcome with the smallest choice and its held frontiers is good.
use Rattle.std.proofs.Common.{◌≡◌, ℕ, suc, ◌+◌, ◌*◌, ◌<◌, ◌≤◌, List, [], ◌∷◌, ◌++◌, length, get_or, take, drop, refl, sym, ap, ◌∙◌, subst, arith, ◌⊎◌, inl, inr, ⊎_elim}
use Rattle.std.specs.List.{Contains, All}
use Rattle.std.proofs.lemmas.List.{take_all, drop_all, get_or_default}
use Rattle.std.proofs.lemmas.Bool.{cases_lt}
use Rattle.std.proofs.Math.Seq.{take-suc}
use Rattle.pw_outside.proofs.Lists.{all_from}
use Rattle.rate_layers.proofs.Firsts.{length_chosen}
use Rattle.rate_layers.proofs.Grown.{choice_push}
use Rattle.rate_table.specs.declared.entry.Entry.{Entry}
use Rattle.rate_table.specs.Table.{IsChoice, IsSliceTable, size_of, error_of, indices}
use Rattle.rate_table.specs.Pairs.{rest}
use Rattle.rate_table.proofs.Entries.{choice_same}
use Rattle.rate_least.specs.declared.outcome.WidePair.{WidePair}
use Rattle.rate_least.specs.Pairs.{joined, RisesAndFalls, least_error}
use Rattle.rate_least.specs.Layers.{Reaches, IsFront}
use Rattle.rate_least.specs.Records.{Printed, IsCovered, Steps, IsGoodFit}
use Rattle.rate_least.specs.Answers.{IsSmallest}
use Rattle.rate_least.specs.inner.First.{IsFirst}
use Rattle.rate_least.specs.inner.Live.{Capped}
use Rattle.rate_least.proofs.Fronts.{front_layer, one_layer}
use Rattle.rate_least.proofs.Grown.{pair_push}
use Rattle.rate_least.proofs.Asked.{Meets, Within, Fits, IsKept, AreKept, At, Stays, kept_test, layer_none}
use Rattle.rate_least.proofs.Kept.{kept_front}
use Rattle.rate_least.proofs.Firsts.{best_first}
use Rattle.rate_least.proofs.Stepped.{all_by_number}

-- the printed record of a choice
abbrev pub printed_of : List Entry → ℕ → List (List WidePair) → Printed
printed_of b m layers = record { choice = indices b; size = size_of b; error = error_of b; multiplier = m; layers = layers }

module _ (t : Capped) (m u : ℕ) where
  -- a pair passes, or a clause says why not
  judged : (later : List (List Entry)) (p : WidePair) → Stays t m u later p ⊎ (Meets t later p → ⊥) ⊎ (Within t m u later p → ⊥)
  judged later p =
      ⊎_elim (λ l. inr (inl (λ h. omega arith)))
      (λ l. ⊎_elim (λ g. inr (inr (λ h. omega arith))) (λ g. inl (l, g)) (cases_lt (t.cap + m * u) (p.error + rest m later + m * p.size)))
      (cases_lt t.cap (p.error + least_error later))

  -- one frontier and the next
  steps_at : (r : Printed) → r.multiplier ≡ m → r.size ≡ u → (k : ℕ) (layer next : List WidePair) → k < length t.slices → IsFront (At t (Stays t m u) k) layer → IsFront (At t (Stays t m u) (suc k)) next → Steps t.cap r (get_or t.slices k []) (drop (suc k) t.slices) layer next
  steps_at r em eu k layer next h f g =
      let s = get_or t.slices k [] in
      let later = drop (suc k) t.slices in
      all_from (λ p. All (λ x. IsCovered t.cap r later next (joined p x)) s) layer (λ p c.
      all_from (λ x. IsCovered t.cap r later next (joined p x)) s (λ x i. covered p c x i (judged later (joined p x))))
    where
      reach : (p : WidePair) → Contains layer p → (x : Entry) → Contains (get_or t.slices k []) x → Reaches (take (suc k) t.slices) (joined p x)
      reach p c x i =
          let o = (f.only p c).0 in
          subst (λ l. Reaches l (joined p x)) (sym (take-suc t.slices k [] h))
          (o.0 ++ x ∷ [], choice_push (take k t.slices) (get_or t.slices k []) o.0 x o.1 i, pair_push o.0 x ∙ ap (λ q. joined q x) o.2)

      covered : (p : WidePair) → Contains layer p → (x : Entry) → Contains (get_or t.slices k []) x → Stays t m u (drop (suc k) t.slices) (joined p x) ⊎ (Meets t (drop (suc k) t.slices) (joined p x) → ⊥) ⊎ (Within t m u (drop (suc k) t.slices) (joined p x) → ⊥) → IsCovered t.cap r (drop (suc k) t.slices) next (joined p x)
      covered p c x i (inl fine) = inl (g.covers (joined p x) (reach p c x i, fine))
      covered p c x i (inr (inl other)) = inr (inl other)
      covered p c x i (inr (inr other)) = inr (inr (λ stays. other (subst (λ n. Within t n u (drop (suc k) t.slices) (joined p x)) em (subst (λ n. Within t r.multiplier n (drop (suc k) t.slices) (joined p x)) eu stays))))

-- the frontier after all slices
pub whole : (t : Capped) (Fine : List (List Entry) → WidePair → Type 0) (layer : List WidePair) → IsFront (At t Fine (length t.slices)) layer → IsFront (λ p. Reaches t.slices p × Fine [] p) layer
whole t Fine layer f =
    subst (λ l. IsFront (λ p. Reaches l p × Fine [] p) layer) (take_all (length t.slices) t.slices (omega arith))
    (subst (λ l. IsFront (λ p. Reaches (take (length t.slices) t.slices) p × Fine l p) layer) (drop_all (length t.slices) t.slices (omega arith)) f)

-- the smallest choice with the frontiers held under its size
pub produced_kept : (t : Capped) → All IsSliceTable t.slices → (b : List Entry) → IsSmallest t.slices t.cap b → (m : ℕ) (layers : List (List WidePair)) → AreKept t m (size_of b) layers → IsGoodFit t.slices t.cap (printed_of b m layers)
produced_kept t each b best m layers a =
    let none : WidePair = record { size = 0; error = 0 } in
    let u = size_of b in
    let r = printed_of b m layers in
    let test = kept_test t m u in
    let front = λ (k : ℕ) (h : k ≤ length t.slices). kept_front t m u k (get_or layers k []) (a.1 k h) in
    let fine = test.keeps t.slices none b best.choice (omega (arith, best.under)) (omega arith) in
    let l0 = front_layer _ (none ∷ []) (layer_none t u (Stays t m u) test fine) in
    let m0 = front_layer _ (get_or layers 0 []) (front 0 (omega arith)) in
    let fn = whole t (Stays t m u) (get_or layers (length t.slices) []) (front (length t.slices) (omega arith)) in
    record {
      counts = (length_chosen t.slices b best.choice, a.0);
      entries = (b, best.choice, refl);
      sums = λ c h e. subst (λ d. (size_of d ≡ size_of b) × (error_of d ≡ error_of b) × (error_of d ≤ t.cap)) (choice_same t.slices each b c best.choice h (sym e)) (refl, refl, best.under);
      layers = record {
        first = one_layer _ (get_or layers 0 []) (none ∷ []) m0 l0;
        order = λ k d h. subst (λ l. RisesAndFalls l) (get_or_default layers k [] d h) (front k (omega (arith, a.0, h))).order;
        steps = all_by_number t.cap r t.slices layers a.0 (λ k h. steps_at t m u r refl refl k (get_or layers k []) (get_or layers (suc k) []) h (front k (omega arith)) (front (suc k) h));
        last = all_from (λ p. size_of b ≤ p.size) (get_or layers (length t.slices) []) (λ p c.
            let o = fn.only p c in
            let es : size_of o.0.0 ≡ p.size = ap (λ (x : WidePair). x.size) o.0.2 in
            let ee : error_of o.0.0 ≡ p.error = ap (λ (x : WidePair). x.error) o.0.2 in
            omega (arith, best.size o.0.0 o.0.1 (omega (arith, o.1.0))));
      };
    }

-- The first pair of the last held frontier is that of the smallest choice, if some choice that meets the cap has no
-- more size than u.
pub best_kept : (t : Capped) (m u : ℕ) (some : List Entry) (layer back : List WidePair) (p : WidePair) (c : List Entry) → IsChoice t.slices some → Fits t some → size_of some ≤ u → IsKept t m u (length t.slices) layer → layer ≡ p ∷ back → IsFirst t.slices p c → IsSmallest t.slices t.cap c
best_kept t m u some layer back p c i fits le f e first =
    let g = whole t (Stays t m u) layer (kept_front t m u (length t.slices) layer f) in
    let g' = subst (λ l. IsFront (λ p. Reaches t.slices p × Stays t m u [] p) l) e g in
    best_first t u (Stays t m u) (kept_test t m u) p back g' some i fits le c first
