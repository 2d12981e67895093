-- Without the dominated entries the merge makes the same frontier.
use Rattle.std.proofs.Common.{◌≡◌, ℕ, suc, ◌+◌, ◌-◌, ◌<◌, ◌≤◌, List, [], ◌∷◌, ◌++◌, length, get_or, drop, refl, sym, ap, ◌∙◌, subst, arith, ⊎_elim}
use Rattle.std.specs.List.{Contains}
use Rattle.std.proofs.lemmas.Nat.{mul-le}
use Rattle.std.proofs.lemmas.List.Elements.{Contains-append_left, Contains-push_cases, Contains-push}
use Rattle.std.proofs.Math.Seq.{drop-cons}
use Rattle.rate_table.specs.declared.entry.Entry.{Entry}
use Rattle.rate_table.specs.declared.entry.Pair.{Pair}
use Rattle.rate_table.specs.Pairs.{Dominates, joined}
use Rattle.rate_table.proofs.Lists.{contains_cases, contains_head, contains_tail}
use Rattle.rate_layers.specs.declared.bound.Bound.{Bound}
use Rattle.rate_layers.specs.inner.Bound.{IsNext}
use Rattle.rate_layers.specs.inner.Merge.{Thinned}
use Rattle.rate_layers.proofs.Fronts.{dominates_trans}

-- an entry that is kept
thinned_push : (x : Entry) (xs few : List Entry) → Thinned xs few → Thinned (x ∷ xs) (few ++ x ∷ [])
thinned_push x xs few t = record {
  only = λ y c. ⊎_elim (λ i. contains_tail x xs y (t.only y i)) (λ e. subst (λ z. Contains (x ∷ xs) z) e (contains_head x xs)) (Contains-push_cases few x y c);
  covers = λ y c. ⊎_elim
      (λ e. subst (λ z. (w : Entry) × Contains (few ++ x ∷ []) w × (w.size ≤ z.size) × (w.error ≤ z.error)) e (x, Contains-push few x, omega arith, omega arith))
      (λ i. let r = t.covers y i in (r.0, Contains-append_left few (x ∷ []) r.0 r.1, r.2, r.3)) (contains_cases x xs y c);
}

-- an entry that is dominated
thinned_skip : (x : Entry) (xs few : List Entry) → (y : Entry) × Contains few y × (y.size ≤ x.size) × (y.error ≤ x.error) → Thinned xs few → Thinned (x ∷ xs) few
thinned_skip x xs few b t = record {
  only = λ y c. contains_tail x xs y (t.only y c);
  covers = λ y c. ⊎_elim (λ e. subst (λ z. (w : Entry) × Contains few w × (w.size ≤ z.size) × (w.error ≤ z.error)) e b) (λ i. t.covers y i) (contains_cases x xs y c);
}

-- The same from the back, as a loop over the entries uses it.
back : (xs : List Entry) (k : ℕ) (d : Entry) → k < length xs → drop (length xs - (k + 1)) xs ≡ get_or xs (length xs - 1 - k) d ∷ drop (length xs - k) xs
back xs k d n =
    let i : length xs - (k + 1) ≡ length xs - 1 - k = omega arith in
    let j : suc (length xs - 1 - k) ≡ length xs - k = omega arith in
    ap (λ m. drop m xs) i ∙ drop-cons xs (length xs - 1 - k) d (omega arith) ∙ ap (λ m. get_or xs (length xs - 1 - k) d ∷ drop m xs) j

pub back_push : (xs : List Entry) (k : ℕ) (d : Entry) (few : List Entry) → k < length xs → Thinned (drop (length xs - k) xs) few → Thinned (drop (length xs - (k + 1)) xs) (few ++ get_or xs (length xs - 1 - k) d ∷ [])
back_push xs k d few n t =
    let x = get_or xs (length xs - 1 - k) d in
    subst (λ l. Thinned l (few ++ x ∷ [])) (sym (back xs k d n)) (thinned_push x (drop (length xs - k) xs) few t)

pub back_skip : (xs : List Entry) (k : ℕ) (d : Entry) (few : List Entry) → k < length xs → (y : Entry) × Contains few y × (y.size ≤ (get_or xs (length xs - 1 - k) d).size) × (y.error ≤ (get_or xs (length xs - 1 - k) d).error) → Thinned (drop (length xs - k) xs) few → Thinned (drop (length xs - (k + 1)) xs) few
back_skip xs k d few n b t = subst (λ l. Thinned l few) (sym (back xs k d n)) (thinned_skip (get_or xs (length xs - 1 - k) d) (drop (length xs - k) xs) few b t)

pub thinned_trans : (xs few fewer : List Entry) → Thinned xs few → Thinned few fewer → Thinned xs fewer
thinned_trans xs few fewer s t = record {
  only = λ x c. s.only x (t.only x c);
  covers = λ x c. let a = s.covers x c in let b = t.covers a.0 a.1 in (b.0, b.1, omega (arith, a.2, b.2), omega (arith, a.3, b.3));
}

-- the merge with the remaining entries is the next frontier
pub next_thinned : (b : Bound) (layer : List Pair) (xs few : List Entry) (next : List Pair) → Thinned xs few → IsNext b layer few next → IsNext b layer xs next
next_thinned b layer xs few next t f = record {
  order = f.order;
  only = λ p c. let j = f.only p c in ((j.0.0, j.0.1, j.0.2, t.only j.0.1 j.0.3, j.0.4), j.1);
  covers = λ p h.
      let q = h.0.0 in
      let x = h.0.1 in
      let r = t.covers x h.0.3 in
      let es = ap (λ (y : Pair). y.size) h.0.4 in
      let ee = ap (λ (y : Pair). y.error) h.0.4 in
      let dom : Dominates (joined q r.0) p = (omega (arith, r.2), omega (arith, r.3)) in
      let less = mul-le b.multiplier (q.size + r.0.size) b.multiplier p.size (omega arith) (omega (arith, r.2)) in
      let g = f.covers (joined q r.0) ((q, r.0, h.0.2, r.1, refl), (omega (arith, r.2, h.1.0), omega (arith, r.3, less, h.1.1))) in
      (g.0, g.1, dominates_trans g.0 (joined q r.0) p g.2 dom);
}
