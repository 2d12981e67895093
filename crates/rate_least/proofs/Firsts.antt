-- The best choice from the frontiers.
use Rattle.std.proofs.Common.{◌≡◌, ℕ, ◌+◌, ◌<◌, ◌≤◌, List, [], ◌∷◌, ◌++◌, take, drop, refl, sym, ap, ◌∙◌, subst, arith, ◌⊎◌, inl, inr, ⊎_elim}
use Rattle.std.specs.List.{Contains}
use Rattle.std.proofs.lemmas.List.{take-append-drop}
use Rattle.std.proofs.lemmas.List.Sums.{sum_by-cons}
use Rattle.std.proofs.lemmas.Bool.{cases_lt}
use Rattle.rate_layers.proofs.Firsts.{sum_append, choice_append}
use Rattle.rate_table.specs.declared.entry.Entry.{Entry}
use Rattle.rate_table.specs.declared.entry.Pair.{Pair}
use Rattle.rate_least.specs.declared.outcome.WidePair.{WidePair}
use Rattle.rate_table.specs.Table.{IsChoice, size_of, error_of, indices, ComesFirst, least, IndicesRise}
use Rattle.rate_least.specs.inner.Live.{Capped}
use Rattle.rate_least.specs.Answers.{IsSmallest}
use Rattle.rate_least.specs.inner.First.{IsFirst, extended, IsFirstFrom, Leads}
use Rattle.rate_least.specs.Pairs.{Dominates, joined, RisesAndFalls}
use Rattle.rate_least.specs.Layers.{wide_of, Reaches, IsFront}
use Rattle.rate_least.proofs.Fronts.{same_pair, first_below}
use Rattle.rate_table.proofs.Lists.{contains_cases, contains_head}
use Rattle.rate_least.proofs.Asked.{Fits, IsTest, At}
use Rattle.rate_table.proofs.Entries.{index_same}

pub pair_append : (c d : List Entry) → wide_of (c ++ d) ≡ extended (wide_of c) d
pair_append c d = same_pair _ _ (sum_append (λ x. x.size) c d) (sum_append (λ x. x.error) c d)

-- No choice that meets the cap has another pair that dominates this one.
abbrev pub IsOptimal : Capped → WidePair → Type 0
IsOptimal t p = (other : List Entry) → IsChoice t.slices other → Fits t other → Dominates (wide_of other) p → wide_of other ≡ p

-- A prefix of a choice with an optimal pair has its pair in the frontier.
pub prefix_in : (t : Capped) (u : ℕ) (Fine : List (List Entry) → WidePair → Type 0) → IsTest t u Fine → (k : ℕ) (layer : List WidePair) → IsFront (At t Fine k) layer → (p : WidePair) → IsOptimal t p → p.error ≤ t.cap → p.size ≤ u → (c d : List Entry) → IsChoice (take k t.slices) c → IsChoice (drop k t.slices) d → extended (wide_of c) d ≡ p → Contains layer (wide_of c)
prefix_in t u Fine test k layer f p opt fits below c d hc hd e =
    let later = drop k t.slices in
    let es : size_of c + size_of d ≡ p.size = ap (λ (x : WidePair). x.size) e in
    let ee : error_of c + error_of d ≡ p.error = ap (λ (x : WidePair). x.error) e in
    let q = f.covers (wide_of c) ((c, hc, refl), test.keeps later (wide_of c) d hd (omega arith) (omega arith)) in
    let o = f.only q.0 q.1 in
    let b = o.0.0 in
    let eb : wide_of b ≡ q.0 = o.0.2 in
    let bs : size_of b ≡ q.0.size = ap (λ (x : WidePair). x.size) eb in
    let be : error_of b ≡ q.0.error = ap (λ (x : WidePair). x.error) eb in
    let whole : IsChoice t.slices (b ++ d) = subst (λ l. IsChoice l (b ++ d)) (take-append-drop k t.slices) (choice_append (take k t.slices) later b d o.0.1 hd) in
    let s1 = sum_append (λ x. x.size) b d in
    let s2 = sum_append (λ x. x.error) b d in
    let g = opt (b ++ d) whole (omega (arith, q.2)) (omega (arith, q.2), omega (arith, q.2)) in
    let g1 : size_of (b ++ d) ≡ p.size = ap (λ (x : WidePair). x.size) g in
    let g2 : error_of (b ++ d) ≡ p.error = ap (λ (x : WidePair). x.error) g in
    subst (λ x. Contains layer x) (same_pair q.0 (wide_of c) (omega arith) (omega arith)) q.1

pub extended_cons : (p : WidePair) (x : Entry) (d : List Entry) → extended p (x ∷ d) ≡ extended (joined p x) d
extended_cons p x d = same_pair _ _ (omega (arith, sum_by-cons (λ (x : Entry). x.size) x d)) (omega (arith, sum_by-cons (λ (x : Entry). x.error) x d))

-- the first index list, entry by entry from slice 0 on
pub greedy_step : (s : List Entry) (later : List (List Entry)) (p goal : WidePair) (x : Entry) (d : List Entry) → IndicesRise s → Contains s x → ((y : Entry) → Contains s y → Leads later (joined p y) goal → x.index ≤ y.index) → IsFirstFrom later (joined p x) goal d → IsFirstFrom (s ∷ later) p goal (x ∷ d)
greedy_step s later p goal x d r c least f = record {
  chosen = (c, f.chosen);
  leads = extended_cons p x d ∙ f.leads;
  first = go;
}
  where
    go : (other : List Entry) → IsChoice (s ∷ later) other → extended p other ≡ goal → ComesFirst (indices (x ∷ d)) (indices other)
    go [] h e = absurd h
    go (y ∷ o) h e =
        let e' : extended (joined p y) o ≡ goal = sym (extended_cons p y o) ∙ e in
        let b = least y h.0 (o, h.1, e') in
        ⊎_elim (λ l. inl l)
        (λ l. let i : x.index ≡ y.index = omega arith in
        let same = index_same s x y r c h.0 i in
        inr (i, f.first o h.1 (subst (λ z. extended (joined p z) o ≡ goal) (sym same) e'))) (cases_lt x.index y.index)

pub greedy_end : (p : WidePair) → IsFirstFrom [] p p []
greedy_end p = record { chosen = tt; leads = same_pair _ _ (omega arith) (omega arith); first = λ other h e. tt }

-- the first pair of a frontier has the least size
first_least : (p : WidePair) (back : List WidePair) (q : WidePair) → RisesAndFalls (p ∷ back) → Contains (p ∷ back) q → (q ≡ p) ⊎ (p.size < q.size)
first_least p back q h c = ⊎_elim (λ e. inl (sym e)) (λ i. inr (first_below p back q h i).0) (contains_cases p back q c)

module _ (t : Capped) (u : ℕ) (Fine : List (List Entry) → WidePair → Type 0) (test : IsTest t u Fine) (p : WidePair) (back : List WidePair) (f : IsFront (λ p. Reaches t.slices p × Fine [] p) (p ∷ back)) where
  -- what the first pair of the last frontier proves of each choice within the bound that meets the cap
  pub below_first : (other : List Entry) → IsChoice t.slices other → Fits t other → size_of other ≤ u → (p.size ≤ size_of other) × (size_of other ≡ p.size → p.error ≤ error_of other)
  below_first other i fits le =
      let q = f.covers (wide_of other) ((other, i, refl), test.keeps [] (wide_of other) [] tt (omega arith) (omega arith)) in
      ⊎_elim
      (λ e. let s = ap (λ (x : WidePair). x.size) e in let r = ap (λ (x : WidePair). x.error) e in (omega (arith, q.2), λ _. omega (arith, q.2)))
      (λ l. (omega (arith, q.2), λ h. omega (arith, q.2)))
      (first_least p back q.0 f.order q.1)

  -- a choice of size at most u meets the cap, so the first pair is the smallest choice's
  pub best_first : (some : List Entry) → IsChoice t.slices some → Fits t some → size_of some ≤ u → (c : List Entry) → IsFirst t.slices p c → IsSmallest t.slices t.cap c
  best_first some i fits le c first =
      let o = f.only p (contains_head p back) in
      let can = test.can [] p o.1 in
      let es : size_of c ≡ p.size = ap (λ (x : WidePair). x.size) first.pair in
      let ee : error_of c ≡ p.error = ap (λ (x : WidePair). x.error) first.pair in
      let ps = (below_first some i fits le).0 in
      let least : (other : List Entry) → IsChoice t.slices other → Fits t other → size_of c ≤ size_of other =
      (λ other j g. ⊎_elim (λ l. omega arith) (λ l. omega (arith, (below_first other j g l).0)) (cases_lt u (size_of other))) in
      record {
        choice = first.chosen;
        under = omega arith;
        size = least;
        error = λ other j g e. omega (arith, (below_first other j g (omega arith)).1 (e ∙ es));
        first = λ other j e. first.first other j (same_pair (wide_of other) (wide_of c) (ap (λ (x : Pair). x.size) e) (ap (λ (x : Pair). x.error) e) ∙ first.pair);
      }
