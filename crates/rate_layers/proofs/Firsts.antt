-- The best choice from the frontiers.
use Rattle.std.proofs.Common.{◌≡◌, ℕ, ◌+◌, ◌<◌, ◌≤◌, List, [], ◌∷◌, ◌++◌, length, take, drop, refl, sym, ap, ◌∙◌, subst, arith, ◌⊎◌, inl, inr, ⊎_elim}
use Rattle.std.specs.List.{Contains, sum_by}
use Rattle.std.proofs.lemmas.List.{take-append-drop, map_push}
use Rattle.std.proofs.lemmas.List.Sums.{sum_by-cons}
use Rattle.std.proofs.lemmas.Bool.{cases_lt}
use Rattle.rate_table.proofs.Enumerated.{comes_first-then}
use Rattle.rate_table.specs.declared.entry.Entry.{Entry}
use Rattle.rate_table.specs.declared.entry.Pair.{Pair}
use Rattle.rate_table.specs.Table.{Table, IsChoice, Fits, size_of, error_of, pair_of, indices, ComesFirst, IsBest, least, IndicesRise}
use Rattle.rate_layers.specs.First.{IsFirst, extended, IsFirstFrom, Leads}
use Rattle.rate_table.specs.Pairs.{Dominates, joined, RisesAndFalls}
use Rattle.rate_layers.specs.Layers.{Reaches, IsFront}
use Rattle.rate_layers.proofs.Fronts.{same_pair, falls_tail, first_below}
use Rattle.rate_table.proofs.Lists.{contains_cases, contains_head, contains_tail, contains_none}
use Rattle.rate_layers.proofs.Grown.{choice_last, choice_push, pair_push}
use Rattle.rate_layers.proofs.Asked.{IsTest, At}
use Rattle.rate_table.proofs.Entries.{index_same}

pub first_push : (xs ys : List ℕ) (z : ℕ) → length xs ≡ length ys → ComesFirst xs ys → ComesFirst (xs ++ z ∷ []) (ys ++ z ∷ [])
first_push [] [] z n a = inr (refl, tt)
first_push [] (y ∷ ys) z n a = absurd (omega arith)
first_push (x ∷ xs) [] z n a = absurd a
first_push (x ∷ xs) (y ∷ ys) z n a =
    ⊎_elim (λ l. inl l) (λ l. inr (l.0, first_push xs ys z (omega arith) l.1)) a

-- sums over a choice in two parts
pub sum_append : (f : Entry → ℕ) (c d : List Entry) → sum_by f (c ++ d) ≡ sum_by f c + sum_by f d
sum_append f [] d = omega arith
sum_append f (x ∷ c) d = omega (arith, sum_by-cons f x (c ++ d), sum_by-cons f x c, sum_append f c d)

pub pair_append : (c d : List Entry) → pair_of (c ++ d) ≡ extended (pair_of c) d
pair_append c d = same_pair _ _ (sum_append (λ x. x.size) c d) (sum_append (λ x. x.error) c d)

pub choice_append : (ss rs : List (List Entry)) (c d : List Entry) → IsChoice ss c → IsChoice rs d → IsChoice (ss ++ rs) (c ++ d)
choice_append [] rs [] d h i = i
choice_append [] rs (x ∷ c) d h i = absurd h
choice_append (s ∷ ss) rs [] d h i = absurd h
choice_append (s ∷ ss) rs (x ∷ c) d h i = (h.0, choice_append ss rs c d h.1 i)

-- No fitting choice has another pair that dominates this one.
abbrev pub IsOptimal : Table → Pair → Type 0
IsOptimal t p = (other : List Entry) → IsChoice t.slices other → Fits t other → Dominates (pair_of other) p → pair_of other ≡ p

-- A prefix of a choice with an optimal pair has its pair in the frontier.
pub prefix_in : (t : Table) (u : ℕ) (Fine : List (List Entry) → Pair → Type 0) → IsTest t u Fine → (k : ℕ) (layer : List Pair) → IsFront (At t Fine k) layer → (p : Pair) → IsOptimal t p → t.fixed + p.size ≤ t.budget → p.error ≤ u → (c d : List Entry) → IsChoice (take k t.slices) c → IsChoice (drop k t.slices) d → extended (pair_of c) d ≡ p → Contains layer (pair_of c)
prefix_in t u Fine test k layer f p opt fits below c d hc hd e =
    let later = drop k t.slices in
    let es : size_of c + size_of d ≡ p.size = ap (λ (x : Pair). x.size) e in
    let ee : error_of c + error_of d ≡ p.error = ap (λ (x : Pair). x.error) e in
    let q = f.covers (pair_of c) ((c, hc, refl), test.keeps later (pair_of c) d hd (omega arith) (omega arith)) in
    let o = f.only q.0 q.1 in
    let b = o.0.0 in
    let eb : pair_of b ≡ q.0 = o.0.2 in
    let bs : size_of b ≡ q.0.size = ap (λ (x : Pair). x.size) eb in
    let be : error_of b ≡ q.0.error = ap (λ (x : Pair). x.error) eb in
    let whole : IsChoice t.slices (b ++ d) = subst (λ l. IsChoice l (b ++ d)) (take-append-drop k t.slices) (choice_append (take k t.slices) later b d o.0.1 hd) in
    let s1 = sum_append (λ x. x.size) b d in
    let s2 = sum_append (λ x. x.error) b d in
    let g = opt (b ++ d) whole (omega (arith, q.2)) (omega (arith, q.2), omega (arith, q.2)) in
    let g1 : size_of (b ++ d) ≡ p.size = ap (λ (x : Pair). x.size) g in
    let g2 : error_of (b ++ d) ≡ p.error = ap (λ (x : Pair). x.error) g in
    subst (λ x. Contains layer x) (same_pair q.0 (pair_of c) (omega arith) (omega arith)) q.1

pub extended_cons : (p : Pair) (x : Entry) (d : List Entry) → extended p (x ∷ d) ≡ extended (joined p x) d
extended_cons p x d = same_pair _ _ (omega (arith, sum_by-cons (λ (x : Entry). x.size) x d)) (omega (arith, sum_by-cons (λ (x : Entry). x.error) x d))

-- the first index list, entry by entry from slice 0 on
pub greedy_step : (s : List Entry) (later : List (List Entry)) (p goal : Pair) (x : Entry) (d : List Entry) → IndicesRise s → Contains s x → ((y : Entry) → Contains s y → Leads later (joined p y) goal → x.index ≤ y.index) → IsFirstFrom later (joined p x) goal d → IsFirstFrom (s ∷ later) p goal (x ∷ d)
greedy_step s later p goal x d r c least f = record {
  chosen = (c, f.chosen);
  leads = extended_cons p x d ∙ f.leads;
  first = go;
}
  where
    go : (other : List Entry) → IsChoice (s ∷ later) other → extended p other ≡ goal → ComesFirst (indices (x ∷ d)) (indices other)
    go [] h e = absurd h
    go (y ∷ o) h e =
        let e' : extended (joined p y) o ≡ goal = sym (extended_cons p y o) ∙ e in
        let b = least y h.0 (o, h.1, e') in
        ⊎_elim (λ l. inl l)
        (λ l. let i : x.index ≡ y.index = omega arith in
        let same = index_same s x y r c h.0 i in
        inr (i, f.first o h.1 (subst (λ z. extended (joined p z) o ≡ goal) (sym same) e'))) (cases_lt x.index y.index)

pub greedy_end : (p : Pair) → IsFirstFrom [] p p []
greedy_end p = record { chosen = tt; leads = same_pair _ _ (omega arith) (omega arith); first = λ other h e. tt }

pub length_chosen : (ss : List (List Entry)) (c : List Entry) → IsChoice ss c → length (indices c) ≡ length ss
length_chosen [] [] h = refl
length_chosen [] (x ∷ c) h = absurd h
length_chosen (s ∷ ss) [] h = absurd h
length_chosen (s ∷ ss) (x ∷ c) h = omega (arith, length_chosen ss c h.1)

-- the first index list of a pair, from those of the pairs of the frontier before
pub first_step : (done : List (List Entry)) (s : List Entry) (layer : List Pair) (firsts : (q : Pair) → Contains layer q → (d : List Entry) × IsFirst done q d) (p : Pair) → ((d : List Entry) (x : Entry) → IsChoice done d → Contains s x → joined (pair_of d) x ≡ p → Contains layer (pair_of d)) → (q : Pair) (has : Contains layer q) (x : Entry) → Contains s x → joined q x ≡ p → ((q' : Pair) (has' : Contains layer q') (x' : Entry) → Contains s x' → joined q' x' ≡ p → ComesFirst (indices ((firsts q has).0 ++ x ∷ [])) (indices ((firsts q' has').0 ++ x' ∷ []))) → IsFirst (done ++ s ∷ []) p ((firsts q has).0 ++ x ∷ [])
first_step done s layer firsts p front q has x h e best =
    let c = firsts q has in
    record {
      chosen = choice_push done s c.0 x c.1.chosen h;
      pair = pair_push c.0 x ∙ ap (λ y. joined y x) c.1.pair ∙ e;
      first = λ other i j.
          let l = choice_last done s other i in
          let j' : joined (pair_of l.front) l.entry ≡ p = sym (pair_push l.front l.entry) ∙ ap pair_of (sym l.is) ∙ j in
          let k = front l.front l.entry l.chosen l.in_slice j' in
          let d = firsts (pair_of l.front) k in
          let a = best (pair_of l.front) k l.entry l.in_slice j' in
          let n : length (indices d.0) ≡ length (indices l.front) = length_chosen done d.0 d.1.chosen ∙ sym (length_chosen done l.front l.chosen) in
          let b = first_push (indices d.0) (indices l.front) l.entry.index n (d.1.first l.front l.chosen refl) in
          let b' = subst (λ z. ComesFirst z (indices l.front ++ l.entry.index ∷ [])) (sym (map_push (λ (y : Entry). y.index) d.0 l.entry)) b in
          let b'' = subst (λ z. ComesFirst (indices (d.0 ++ l.entry ∷ [])) z) (sym (map_push (λ (y : Entry). y.index) l.front l.entry) ∙ ap indices (sym l.is)) b' in
          comes_first-then (indices (c.0 ++ x ∷ [])) (indices (d.0 ++ l.entry ∷ [])) (indices other) a b'';
    }

-- the last pair of a frontier has the least error
pub last_in : (front : List Pair) (p : Pair) → Contains (front ++ p ∷ []) p
last_in [] p = contains_head p []
last_in (r ∷ front) p = contains_tail r (front ++ p ∷ []) p (last_in front p)

pub last_least : (front : List Pair) (p q : Pair) → RisesAndFalls (front ++ p ∷ []) → Contains (front ++ p ∷ []) q → (q ≡ p) ⊎ (p.error < q.error)
last_least [] p q h c = ⊎_elim (λ e. inl (sym e)) (λ i. absurd (contains_none q i)) (contains_cases p [] q c)
last_least (r ∷ front) p q h c =
    ⊎_elim (λ e. let b = first_below r (front ++ p ∷ []) p h (last_in front p) in let e' = ap (λ (x : Pair). x.error) e in inr (omega arith))
    (λ i. last_least front p q (falls_tail r (front ++ p ∷ []) h) i) (contains_cases r (front ++ p ∷ []) q c)

module _ (t : Table) (u : ℕ) (Fine : List (List Entry) → Pair → Type 0) (test : IsTest t u Fine) (front : List Pair) (p : Pair) (f : IsFront (λ p. Reaches t.slices p × Fine [] p) (front ++ p ∷ [])) where
  -- what the last pair of the last frontier proves of each fitting choice within the bound
  pub below_last : (other : List Entry) → IsChoice t.slices other → Fits t other → error_of other ≤ u → (p.error ≤ error_of other) × (error_of other ≡ p.error → p.size ≤ size_of other)
  below_last other i fits le =
      let q = f.covers (pair_of other) ((other, i, refl), test.keeps [] (pair_of other) [] tt (omega arith) (omega arith)) in
      ⊎_elim
      (λ e. let s = ap (λ (x : Pair). x.size) e in let r = ap (λ (x : Pair). x.error) e in (omega (arith, q.2), λ _. omega (arith, q.2)))
      (λ l. (omega (arith, q.2), λ h. omega (arith, q.2)))
      (last_least front p q.0 f.order q.1)

  -- the error of a fitting choice is at most u, so the last pair's error is
  pub best_last : (some : List Entry) → IsChoice t.slices some → Fits t some → error_of some ≤ u → (c : List Entry) → IsFirst t.slices p c → IsBest t c
  best_last some i fits le c first =
      let o = f.only p (last_in front p) in
      let can = test.can [] p o.1 in
      let es : size_of c ≡ p.size = ap (λ (x : Pair). x.size) first.pair in
      let ee : error_of c ≡ p.error = ap (λ (x : Pair). x.error) first.pair in
      let ps = (below_last some i fits le).0 in
      let least : (other : List Entry) → IsChoice t.slices other → Fits t other → error_of c ≤ error_of other =
      (λ other j g. ⊎_elim (λ l. omega arith) (λ l. omega (arith, (below_last other j g l).0)) (cases_lt u (error_of other))) in
      record {
        choice = first.chosen;
        fits = omega arith;
        error = least;
        size = λ other j g e. omega (arith, (below_last other j g (omega arith)).1 (e ∙ ee));
        first = λ other j e. first.first other j (e ∙ first.pair);
      }
