-- The tests that the pairs of a frontier pass besides being undominated.
use Rattle.std.proofs.Common.{ℕ, suc, ◌+◌, ◌*◌, ◌<◌, ◌≤◌, List, [], ◌∷◌, length, get_or, take, drop, sym, subst, arith, leb, ⊎_elim}
use Rattle.std.specs.List.{Contains}
use Rattle.std.proofs.lemmas.Nat.{mul-le}
use Rattle.std.proofs.lemmas.Bool.{leb-true, le-leb}
use Rattle.std.proofs.lemmas.List.Sums.{sum_by-cons}
use Rattle.std.proofs.Math.Seq.{take-suc, drop-cons}
use Rattle.rate_table.specs.declared.entry.Entry.{Entry}
use Rattle.rate_table.specs.Table.{IsChoice, size_of, error_of, least}
use Rattle.rate_table.proofs.Costs.{least_at_most, rest_below}
use Rattle.rate_table.proofs.Entries.{least_below}
use Rattle.rate_table.proofs.Lists.{contains_none, contains_head, contains_cases}
use Rattle.rate_least.specs.declared.outcome.WidePair.{WidePair}
use Rattle.rate_least.specs.Pairs.{Dominates, joined, least_error, MeetsCap, StaysWithin}
use Rattle.rate_least.specs.Layers.{Reaches, IsFront, Joins}
use Rattle.rate_least.specs.Held.{IsCapped, IsHeld, AreHeld}
use Rattle.rate_least.specs.inner.Live.{Capped}
use Rattle.rate_least.proofs.Fronts.{front_layer, one_layer}
use Rattle.rate_least.proofs.Grown.{front_step}
use Rattle.rate_least.proofs.Exists.{front_of_tested}

-- definitions over slices and a cap
abbrev pub Meets : Capped → List (List Entry) → WidePair → Type 0
Meets t later p = MeetsCap t.cap later p

abbrev pub Within : Capped → ℕ → ℕ → List (List Entry) → WidePair → Type 0
Within t m u later p = StaysWithin t.cap m u later p

abbrev pub Fits : Capped → List Entry → Type 0
Fits t c = error_of c ≤ t.cap

abbrev pub IsFull : Capped → ℕ → List WidePair → Type 0
IsFull t k layer = IsCapped t.slices t.cap k layer

abbrev pub IsKept : Capped → ℕ → ℕ → ℕ → List WidePair → Type 0
IsKept t m u k held = IsHeld t.slices t.cap m u k held

abbrev pub AreKept : Capped → ℕ → ℕ → List (List WidePair) → Type 0
AreKept t m u layers = AreHeld t.slices t.cap m u layers

-- If a pair passes the test, so does each pair that dominates it, and the pair before. No prefix of a choice of
-- size at most u that meets the cap fails it.
pub record IsTest (t : Capped) (u : ℕ) (Fine : List (List Entry) → WidePair → Type 0) : Type 0 where
  pub down : (later : List (List Entry)) (p q : WidePair) → Dominates q p → Fine later p → Fine later q
  pub back : (s : List Entry) (later : List (List Entry)) (p : WidePair) (x : Entry) → Contains s x → Fine later (joined p x) → Fine (s ∷ later) p
  pub can : (later : List (List Entry)) (p : WidePair) → Fine later p → Meets t later p
  pub keeps : (later : List (List Entry)) (p : WidePair) (d : List Entry) → IsChoice later d → p.error + error_of d ≤ t.cap → p.size + size_of d ≤ u → Fine later p

-- A pair can still meet the cap and stays within the bound.
abbrev pub Stays : Capped → ℕ → ℕ → List (List Entry) → WidePair → Type 0
Stays t m u later p = Meets t later p × Within t m u later p

pub within_down : (t : Capped) (m u : ℕ) (later : List (List Entry)) (p q : WidePair) → Dominates q p → Within t m u later p → Within t m u later q
within_down t m u later p q d h =
    let e = mul-le m q.size m p.size (omega arith) (omega arith) in omega arith

within_back : (t : Capped) (m u : ℕ) (s : List Entry) (later : List (List Entry)) (p : WidePair) (x : Entry) → Contains s x → Within t m u later (joined p x) → Within t m u (s ∷ later) p
within_back t m u s later p x c h =
    omega (arith, sum_by-cons (least (λ x. x.error + m * x.size)) s later, least_at_most (λ x. x.error + m * x.size) s x c)

-- A pair that can be completed to a choice of size at most u that meets the cap stays within the bound, by any
-- multiplier.
fitting_within : (t : Capped) (m u : ℕ) (later : List (List Entry)) (p : WidePair) (d : List Entry) → IsChoice later d → p.error + error_of d ≤ t.cap → p.size + size_of d ≤ u → Within t m u later p
fitting_within t m u later p d c f e =
    let h : m * (p.size + size_of d) ≤ m * u = mul-le m (p.size + size_of d) m u (omega arith) (omega arith) in
    omega (arith, rest_below m later d c, h)

pub kept_test : (t : Capped) (m u : ℕ) → IsTest t u (Stays t m u)
kept_test t m u = record {
  down = λ later p q d h. (omega (arith, d.1, h.0), within_down t m u later p q d h.1);
  back = λ s later p x c h. (omega (arith, h.0, sum_by-cons (least (λ x. x.error)) s later, least_at_most (λ x. x.error) s x c), within_back t m u s later p x c h.1);
  can = λ later p h. h.0;
  keeps = λ later p d c g e. (omega (arith, g, least_below (λ x. x.error) later d c), fitting_within t m u later p d c g e);
}

-- the pair of a choice of the first k slices, if it passes
abbrev pub At : Capped → (List (List Entry) → WidePair → Type 0) → ℕ → WidePair → Type 0
At t Fine k p = Reaches (take k t.slices) p × Fine (drop k t.slices) p

-- There is a capped frontier after each number of slices.
pub front_full : (t : Capped) (k : ℕ) → (layer : List WidePair) × IsFront (At t (Meets t) k) layer
front_full t k =
    front_of_tested (take k t.slices) (Meets t (drop k t.slices)) (λ p. leb (p.error + least_error (drop k t.slices)) t.cap)
    (λ p h. leb-true _ _ h) (λ p h. le-leb _ _ h)

-- a capped frontier in the form that a merge establishes
pub full_front : (t : Capped) (k : ℕ) (layer : List WidePair) → IsFull t k layer → IsFront (At t (Meets t) k) layer
full_front t k layer h =
    let f = front_full t k in
    subst (λ l. IsFront (At t (Meets t) k) l) (one_layer _ f.0 layer (front_layer _ f.0 f.1) h) f.1

module _ (t : Capped) (u : ℕ) (Fine : List (List Entry) → WidePair → Type 0) (test : IsTest t u Fine) where
  -- one slice more
  pub layer_step : (k : ℕ) (layer next : List WidePair) → k < length t.slices → IsFront (At t Fine k) layer → IsFront (λ p. Joins layer (get_or t.slices k []) p × Fine (drop (suc k) t.slices) p) next → IsFront (At t Fine (suc k)) next
  layer_step k layer next h f g =
      let s = get_or t.slices k [] in
      let later = drop (suc k) t.slices in
      subst (λ done. IsFront (λ p. Reaches done p × Fine later p) next) (sym (take-suc t.slices k [] h))
      (front_step (take k t.slices) s (Fine (drop k t.slices)) (Fine later) (test.down later)
      (λ p x c i. subst (λ l. Fine l p) (sym (drop-cons t.slices k [] h)) (test.back s later p x c i)) layer next f g)

  -- the first frontier
  pub layer_none : Fine t.slices (record { size = 0; error = 0 }) → IsFront (At t Fine 0) (record { size = 0; error = 0 } ∷ [])
  layer_none fine =
      let none : WidePair = record { size = 0; error = 0 } in
      record {
        order = tt;
        only = λ p c. ⊎_elim (λ e. (([], tt, e), subst (λ q. Fine t.slices q) e fine)) (λ i. absurd (contains_none p i)) (contains_cases none [] p c);
        covers = λ p h. (none, contains_head none [], (omega arith, omega arith));
      }
