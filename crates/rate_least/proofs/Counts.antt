-- The number of pairs of frontiers.
use Rattle.std.proofs.Common.{ℕ, zero, suc, take, ◌+◌, ◌≤◌, List, [], ◌∷◌, length, drop, ap, arith, ⊎_elim, ◌↔◌}
use Rattle.std.specs.List.{Contains}
use Rattle.rate_least.specs.declared.outcome.WidePair.{WidePair}
use Rattle.rate_least.specs.Layers.{Rises}
use Rattle.rate_least.specs.inner.Live.{Capped}
use Rattle.rate_least.specs.Answers.{greatest, greatest_size}
use Rattle.rate_least.proofs.Asked.{IsKept, Within}
use Rattle.rate_table.specs.declared.entry.Entry.{Entry}
use Rattle.rate_table.specs.Table.{IsChoice, size_of}
use Rattle.std.proofs.lemmas.List.Sums.{sum_by-cons}
use Rattle.std.proofs.lemmas.Nat.{mul-le}
use Rattle.rate_table.proofs.Lists.{contains_cases, contains_head, contains_tail, contains_none}
use Rattle.rate_least.proofs.Fronts.{rises_tail, first_smaller}

rises_room : (p : WidePair) (ps : List WidePair) (b : ℕ) → Rises (p ∷ ps) → ((q : WidePair) → Contains (p ∷ ps) q → q.size ≤ b) → p.size + length (p ∷ ps) ≤ b + 1
rises_room p [] b h f = let g = f p (contains_head p []) in omega arith
rises_room p (q ∷ ps) b h f = omega (arith, rises_room q ps b h.1 (λ x c. f x (contains_tail p (q ∷ ps) x c)), h.0)

-- At most budget + 1 pairs have rising sizes up to the budget.
pub rises_length : (ps : List WidePair) (b : ℕ) → Rises ps → ((q : WidePair) → Contains ps q → q.size ≤ b) → length ps ≤ b + 1
rises_length [] b h f = omega arith
rises_length (p ∷ ps) b h f = omega (arith, rises_room p ps b h f)

-- no entry passes the greatest
at_most_greatest : (f : Entry → ℕ) (s : List Entry) (x : Entry) → Contains s x → f x ≤ greatest f s
at_most_greatest f [] x c = absurd (contains_none x c)
at_most_greatest f (y ∷ s) x c = ⊎_elim (λ e. let e' = ap f e in omega arith) (λ i. omega (arith, at_most_greatest f s x i)) (contains_cases y s x c)

size_below : (slices : List (List Entry)) (k : ℕ) (c : List Entry) → IsChoice (take k slices) c → size_of c ≤ greatest_size slices
size_below slices zero [] h = omega arith
size_below slices zero (x ∷ c) h = absurd h
size_below [] (suc k) [] h = omega arith
size_below [] (suc k) (x ∷ c) h = absurd h
size_below (s ∷ ss) (suc k) [] h = absurd h
size_below (s ∷ ss) (suc k) (x ∷ c) h =
    omega (arith, at_most_greatest (λ x. x.size) s x h.0, size_below ss k c h.1, sum_by-cons (greatest (λ x. x.size)) s ss, sum_by-cons (λ (x : Entry). x.size) x c)

pub kept_length : (t : Capped) (m u k : ℕ) (layer : List WidePair) → IsKept t m u k layer → length layer ≤ greatest_size t.slices + 1
kept_length t m u k layer a =
    rises_length layer (greatest_size t.slices) a.rises (λ p c.
    let r = ((a.capped.has p).0 ((a.has p).0 c).0).0.0 in
    let e = ap (λ (q : WidePair). q.size) r.2 in
    omega (arith, size_below t.slices k r.0 r.1))

rises_sub : (ps qs : List WidePair) → Rises ps → Rises qs → ((x : WidePair) → Contains ps x → Contains qs x) → length ps ≤ length qs
rises_sub [] qs a b f = omega arith
rises_sub (p ∷ ps) [] a b f = absurd (contains_none p (f p (contains_head p ps)))
rises_sub (p ∷ ps) (q ∷ qs) a b f =
    ⊎_elim
    (λ e. let r = rises_sub ps qs (rises_tail p ps a) (rises_tail q qs b)
    (λ x c. ⊎_elim (λ i. let s = ap (λ (y : WidePair). y.size) i in let s' = ap (λ (y : WidePair). y.size) e in absurd (omega (arith, first_smaller p ps x a c))) (λ d. d) (contains_cases q qs x (f x (contains_tail p ps x c)))) in omega arith)
    (λ i. let r = rises_sub (p ∷ ps) qs a (rises_tail q qs b)
    (λ x c. ⊎_elim (λ j. let s = ap (λ (y : WidePair). y.size) j in absurd (omega (arith, first_smaller q qs p b i, below x c))) (λ d. d) (contains_cases q qs x (f x c))) in omega arith)
    (contains_cases q qs p (f p (contains_head p ps)))
  where
    below : (x : WidePair) → Contains (p ∷ ps) x → p.size ≤ x.size
    below x c = ⊎_elim (λ e. let s = ap (λ (y : WidePair). y.size) e in omega arith) (λ i. omega (arith, first_smaller p ps x a i)) (contains_cases p ps x c)

-- A smaller size holds a subset.
pub kept_less : (t : Capped) (m u v k : ℕ) (kept less : List WidePair) → v ≤ u → IsKept t m u k kept → Rises less → ((p : WidePair) → Contains less p ↔ (Contains kept p × Within t m v (drop k t.slices) p)) → IsKept t m v k less
kept_less t m u v k kept less l a r part =
    let far = mul-le m v m u (omega arith) l in
    record {
      layer = a.layer;
      capped = a.capped;
      rises = r;
      has = λ p. (
        (λ c. let b = (part p).0 c in (((a.has p).0 b.0).0, b.1)),
        (λ c. (part p).1 ((a.has p).1 (c.0, omega (arith, c.1, far)), c.1)),
      );
    }

pub kept_fewer : (t : Capped) (m u v k : ℕ) (kept less : List WidePair) → v ≤ u → IsKept t m u k kept → IsKept t m v k less → length less ≤ length kept
kept_fewer t m u v k kept less l a b =
    let far = mul-le m v m u (omega arith) l in
    rises_sub less kept b.rises a.rises (λ x c. let i = (b.has x).0 c in (a.has x).1 ((a.capped.has x).1 ((b.capped.has x).0 i.0), omega (arith, i.1, far)))
