-- The first index list of the last pair, by the pairs of each frontier that lead to it.
use Rattle.std.proofs.Common.{◌≡◌, ℕ, suc, ◌+◌, ◌<◌, ◌≤◌, List, [], ◌∷◌, ◌++◌, length, get_or, take, drop, sym, ap, ◌∙◌, subst, arith, ⊎_elim}
use Rattle.std.specs.List.{Contains}
use Rattle.std.proofs.Math.Seq.{take-suc, drop-cons}
use Rattle.rate_table.specs.declared.entry.Entry.{Entry}
use Rattle.rate_table.specs.declared.entry.Pair.{Pair}
use Rattle.rate_table.specs.Table.{Table, IsChoice, pair_of, IndicesRise}
use Rattle.rate_layers.specs.First.{IsFirst, extended, IsFirstFrom, Leads}
use Rattle.rate_table.specs.Pairs.{joined}
use Rattle.rate_layers.specs.Layers.{IsFront}
use Rattle.rate_layers.proofs.Fronts.{same_pair}
use Rattle.rate_table.proofs.Lists.{contains_head, contains_cases, contains_none}
use Rattle.rate_layers.proofs.Grown.{choice_push, pair_push}
use Rattle.rate_layers.proofs.Asked.{IsTest, At}
use Rattle.rate_layers.proofs.Firsts.{IsOptimal, prefix_in, extended_cons, greedy_step}

-- The live pairs of a frontier: those that lead to the goal.
pub record AreLive (later : List (List Entry)) (goal : Pair) (layer live : List Pair) : Type 0 where
  pub some : (p : Pair) → Contains live p → Contains layer p × Leads later p goal
  pub all : (p : Pair) → Contains layer p → Leads later p goal → Contains live p

module _ (t : Table) (u : ℕ) (Fine : List (List Entry) → Pair → Type 0) (test : IsTest t u Fine) (goal : Pair) (opt : IsOptimal t goal) (fits : t.fixed + goal.size ≤ t.budget) (below : goal.error ≤ u) where
  -- if a pair of a frontier leads to the goal, the next pair is in the next frontier
  pub leads_next : (k : ℕ) (layer next : List Pair) → k < length t.slices → IsFront (At t Fine k) layer → IsFront (At t Fine (suc k)) next → (p : Pair) → Contains layer p → (x : Entry) → Contains (get_or t.slices k []) x → Leads (drop (suc k) t.slices) (joined p x) goal → Contains next (joined p x)
  leads_next k layer next n f g p c x i l =
      let o = (f.only p c).0 in
      let s = get_or t.slices k [] in
      let whole : IsChoice (take (suc k) t.slices) (o.0 ++ x ∷ []) = subst (λ y. IsChoice y (o.0 ++ x ∷ [])) (sym (take-suc t.slices k [] n)) (choice_push (take k t.slices) s o.0 x o.1 i) in
      let e : pair_of (o.0 ++ x ∷ []) ≡ joined p x = pair_push o.0 x ∙ ap (λ q. joined q x) o.2 in
      subst (λ q. Contains next q) e
      (prefix_in t u Fine test (suc k) next g goal opt fits below (o.0 ++ x ∷ []) l.0 whole l.1 (ap (λ q. extended q l.0) e ∙ l.2))

  -- the live pairs of a frontier, from those of the next
  pub live_step : (k : ℕ) (layer next live_next live : List Pair) → k < length t.slices → IsFront (At t Fine k) layer → IsFront (At t Fine (suc k)) next → AreLive (drop (suc k) t.slices) goal next live_next → ((p : Pair) → Contains live p → Contains layer p × (x : Entry) × Contains (get_or t.slices k []) x × Contains live_next (joined p x)) → ((p : Pair) → Contains layer p → (x : Entry) → Contains (get_or t.slices k []) x → Contains live_next (joined p x) → Contains live p) → AreLive (drop k t.slices) goal layer live
  live_step k layer next live_next live n f g a from to =
      let s = get_or t.slices k [] in
      let later = drop (suc k) t.slices in
      let e : drop k t.slices ≡ s ∷ later = drop-cons t.slices k [] n in
      record {
        some = λ p c. let i = from p c in let l = (a.some (joined p i.1) i.3).1 in
            (i.0, subst (λ y. Leads y p goal) (sym e) (i.1 ∷ l.0, (i.2, l.1), extended_cons p i.1 l.0 ∙ l.2));
        all = λ p c l. onward p c (subst (λ y. Leads y p goal) e l);
      }
    where
      onward : (p : Pair) → Contains layer p → Leads (get_or t.slices k [] ∷ drop (suc k) t.slices) p goal → Contains live p
      onward p c ([], h, e) = absurd h
      onward p c (x ∷ d, h, e) =
          let l : Leads (drop (suc k) t.slices) (joined p x) goal = (d, h.1, sym (extended_cons p x d) ∙ e) in
          to p c x h.0 (a.all (joined p x) (leads_next k layer next n f g p c x h.0 l) l)

  -- one step of the walk: the first entry whose pair is live
  pub walk_step : (k : ℕ) (layer next live_next : List Pair) → k < length t.slices → IsFront (At t Fine k) layer → IsFront (At t Fine (suc k)) next → AreLive (drop (suc k) t.slices) goal next live_next → IndicesRise (get_or t.slices k []) → (p : Pair) → Contains layer p → (x : Entry) → Contains (get_or t.slices k []) x → Contains live_next (joined p x) → ((y : Entry) → Contains (get_or t.slices k []) y → Contains live_next (joined p y) → x.index ≤ y.index) → (d : List Entry) → IsFirstFrom (drop (suc k) t.slices) (joined p x) goal d → IsFirstFrom (drop k t.slices) p goal (x ∷ d)
  walk_step k layer next live_next n f g a rise p c x i lives first d w =
      subst (λ y. IsFirstFrom y p goal (x ∷ d)) (sym (drop-cons t.slices k [] n))
      (greedy_step (get_or t.slices k []) (drop (suc k) t.slices) p goal x d rise i
      (λ y j l. first y j (a.all (joined p y) (leads_next k layer next n f g p c y j l) l)) w)

pub live_end : (goal : Pair) (layer : List Pair) → Contains layer goal → AreLive [] goal layer (goal ∷ [])
live_end goal layer c = record {
  some = λ p h. ⊎_elim (λ e. subst (λ q. Contains layer q × Leads [] q goal) e (c, ([], tt, same_pair _ _ (omega arith) (omega arith)))) (λ i. absurd (contains_none p i)) (contains_cases goal [] p h);
  all = λ p h l. subst (λ q. Contains (goal ∷ []) q) (sym (stays p l)) (contains_head goal []);
}
  where
    stays : (p : Pair) → Leads [] p goal → p ≡ goal
    stays p ([], h, e) = let a = ap (λ (q : Pair). q.size) e in let b = ap (λ (q : Pair). q.error) e in same_pair p goal (omega arith) (omega arith)
    stays p (x ∷ d, h, e) = absurd h

-- the choice that the walk from the empty pair finds
pub first_from_none : (slices : List (List Entry)) (goal : Pair) (c : List Entry) → IsFirstFrom slices (record { size = 0; error = 0 }) goal c → IsFirst slices goal c
first_from_none slices goal c w = record {
  chosen = w.chosen;
  pair = same_pair (pair_of c) (extended (record { size = 0; error = 0 }) c) (omega arith) (omega arith) ∙ w.leads;
  first = λ other h e. w.first other h (same_pair (extended (record { size = 0; error = 0 }) other) (pair_of other) (omega arith) (omega arith) ∙ e);
}
