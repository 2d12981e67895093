-- Entries that are pruned with every pair of the frontier are left out.
use Rattle.std.proofs.Common.{ℕ, ◌+◌, ◌<◌, ◌≤◌, List, [], ◌∷◌, ◌++◌, length, get_or, take, sym, subst, arith, ⊎_elim}
use Rattle.std.specs.List.{Contains}
use Rattle.std.proofs.lemmas.List.{take_more}
use Rattle.std.proofs.lemmas.List.Elements.{All-contains, Contains-append_left, Contains-push_cases, Contains-push}
use Rattle.rate_table.specs.declared.entry.Entry.{Entry}
use Rattle.rate_table.specs.Pairs.{cost}
use Rattle.rate_table.proofs.Lists.{contains_none}
use Rattle.rate_least.specs.declared.outcome.WidePair.{WidePair}
use Rattle.rate_least.specs.declared.bound.Bound.{Bound}
use Rattle.rate_least.specs.Pairs.{joined}
use Rattle.rate_least.specs.inner.Covering.{weight, IsBelowWeights}
use Rattle.rate_least.specs.inner.Merge.{IsWithin, IsNext, Passing}

module _ (b : Bound) (layer : List WidePair) where
  pub passing_none : Passing b layer [] []
  passing_none = record { only = λ x c. c; all = λ x p c d w. absurd (contains_none x c) }

  -- an entry that is kept
  passing_push : (xs few : List Entry) (x : Entry) → Passing b layer xs few → Passing b layer (xs ++ x ∷ []) (few ++ x ∷ [])
  passing_push xs few x t = record {
    only = λ y c. ⊎_elim (λ i. Contains-append_left xs (x ∷ []) y (t.only y i)) (λ e. subst (λ z. Contains (xs ++ x ∷ []) z) e (Contains-push xs x)) (Contains-push_cases few x y c);
    all = λ y p c d w. ⊎_elim (λ i. Contains-append_left few (x ∷ []) y (t.all y p i d w)) (λ e. subst (λ z. Contains (few ++ x ∷ []) z) e (Contains-push few x)) (Contains-push_cases xs x y c);
  }

  -- an entry that is left out
  passing_skip : (xs few : List Entry) (x : Entry) → ((p : WidePair) → Contains layer p → IsWithin b (joined p x) → ⊥) → Passing b layer xs few → Passing b layer (xs ++ x ∷ []) few
  passing_skip xs few x out t = record {
    only = λ y c. Contains-append_left xs (x ∷ []) y (t.only y c);
    all = λ y p c d w. ⊎_elim (λ i. t.all y p i d w) (λ e. absurd (out p d (subst (λ z. IsWithin b (joined p z)) (sym e) w))) (Contains-push_cases xs x y c);
  }

  pub passing_kept : (slice few : List Entry) (k : ℕ) (d : Entry) → k < length slice → Passing b layer (take k slice) few → Passing b layer (take (k + 1) slice) (few ++ get_or slice k d ∷ [])
  passing_kept slice few k d n t =
      subst (λ y. Passing b layer y (few ++ get_or slice k d ∷ [])) (sym (take_more slice k d n)) (passing_push (take k slice) few (get_or slice k d) t)

  -- With the least cost of the frontier's pairs it exceeds the bound, and so it does with each pair.
  pub passing_left : (slice few : List Entry) (k least : ℕ) (d : Entry) → k < length slice → IsBelowWeights b.multiplier layer least → b.most < least + b.floor + cost b.multiplier (get_or slice k d) → Passing b layer (take k slice) few → Passing b layer (take (k + 1) slice) few
  passing_left slice few k least d n f l t =
      let x = get_or slice k d in
      subst (λ y. Passing b layer y few) (sym (take_more slice k d n))
      (passing_skip (take k slice) few x (λ p c w. let e : least ≤ weight b.multiplier p = All-contains (λ q. least ≤ weight b.multiplier q) layer p f c in omega (arith, e, l, w)) t)

-- the merge with the remaining entries is the next frontier
pub next_passing : (b : Bound) (layer : List WidePair) (slice few : List Entry) (next : List WidePair) → Passing b layer slice few → IsNext b layer few next → IsNext b layer slice next
next_passing b layer slice few next t f = record {
  order = f.order;
  only = λ p c. let j = f.only p c in ((j.0.0, j.0.1, j.0.2, t.only j.0.1 j.0.3, j.0.4), j.1);
  covers = λ p h.
      let w = subst (λ q. IsWithin b q) h.0.4 h.1.1 in
      f.covers p ((h.0.0, h.0.1, h.0.2, t.all h.0.1 h.0.0 h.0.3 h.0.2 w, h.0.4), h.1);
}
