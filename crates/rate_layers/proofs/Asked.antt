-- The tests that the pairs of a frontier pass besides being undominated.
use Rattle.std.proofs.Common.{ℕ, suc, ◌+◌, ◌*◌, ◌<◌, ◌≤◌, List, [], ◌∷◌, length, get_or, take, drop, sym, subst, arith, ⊎_elim}
use Rattle.std.specs.List.{Contains}
use Rattle.std.proofs.lemmas.Nat.{mul-le}
use Rattle.std.proofs.lemmas.List.Sums.{sum_by-cons}
use Rattle.std.proofs.Math.Seq.{take-suc, drop-cons}
use Rattle.rate_table.specs.declared.entry.Entry.{Entry}
use Rattle.rate_table.specs.declared.entry.Pair.{Pair}
use Rattle.rate_table.specs.Table.{Table, IsChoice, size_of, error_of, least}
use Rattle.rate_table.specs.Pairs.{Dominates, joined, CanFit, StaysWithin}
use Rattle.rate_layers.specs.Layers.{Reaches, IsFront, Joins}
use Rattle.rate_table.proofs.Costs.{least_at_most, rest_below}
use Rattle.rate_table.proofs.Entries.{least_below}
use Rattle.rate_table.proofs.Lists.{contains_none, contains_head, contains_cases}
use Rattle.rate_layers.proofs.Grown.{front_step}

-- If a pair passes the test, so does each pair that dominates it, and the pair before. No prefix of a fitting
-- choice of error at most u fails it.
pub record IsTest (t : Table) (u : ℕ) (Fine : List (List Entry) → Pair → Type 0) : Type 0 where
  pub down : (later : List (List Entry)) (p q : Pair) → Dominates q p → Fine later p → Fine later q
  pub back : (s : List Entry) (later : List (List Entry)) (p : Pair) (x : Entry) → Contains s x → Fine later (joined p x) → Fine (s ∷ later) p
  pub can : (later : List (List Entry)) (p : Pair) → Fine later p → CanFit t later p
  pub keeps : (later : List (List Entry)) (p : Pair) (d : List Entry) → IsChoice later d → t.fixed + (p.size + size_of d) ≤ t.budget → p.error + error_of d ≤ u → Fine later p

-- A pair can still fit and stays within the bound.
abbrev pub Stays : Table → ℕ → ℕ → List (List Entry) → Pair → Type 0
Stays t m u later p = CanFit t later p × StaysWithin t m u later p

pub full_test : (t : Table) (u : ℕ) → IsTest t u (CanFit t)
full_test t u = record {
  down = λ later p q d h. omega arith;
  back = λ s later p x c h. omega (arith, sum_by-cons (least (λ x. x.size)) s later, least_at_most (λ x. x.size) s x c);
  can = λ later p h. h;
  keeps = λ later p d c f e. omega (arith, least_below (λ x. x.size) later d c);
}

pub within_down : (t : Table) (m u : ℕ) (later : List (List Entry)) (p q : Pair) → Dominates q p → StaysWithin t m u later p → StaysWithin t m u later q
within_down t m u later p q d h =
    let e = mul-le m (t.fixed + q.size) m (t.fixed + p.size) (omega arith) (omega arith) in omega arith

within_back : (t : Table) (m u : ℕ) (s : List Entry) (later : List (List Entry)) (p : Pair) (x : Entry) → Contains s x → StaysWithin t m u later (joined p x) → StaysWithin t m u (s ∷ later) p
within_back t m u s later p x c h =
    omega (arith, sum_by-cons (least (λ x. x.error + m * x.size)) s later, least_at_most (λ x. x.error + m * x.size) s x c)

-- A pair that can be completed to a fitting choice of error at most u stays within the bound, by any multiplier.
fitting_within : (t : Table) (m u : ℕ) (later : List (List Entry)) (p : Pair) (d : List Entry) → IsChoice later d → t.fixed + (p.size + size_of d) ≤ t.budget → p.error + error_of d ≤ u → StaysWithin t m u later p
fitting_within t m u later p d c f e =
    let h : m * (t.fixed + (p.size + size_of d)) ≤ m * t.budget = mul-le m (t.fixed + (p.size + size_of d)) m t.budget (omega arith) (omega arith) in
    omega (arith, rest_below m later d c, h)

pub kept_test : (t : Table) (m u : ℕ) → IsTest t u (Stays t m u)
kept_test t m u =
    let f = full_test t u in
    record {
      down = λ later p q d h. (f.down later p q d h.0, within_down t m u later p q d h.1);
      back = λ s later p x c h. (f.back s later p x c h.0, within_back t m u s later p x c h.1);
      can = λ later p h. h.0;
      keeps = λ later p d c g e. (f.keeps later p d c g e, fitting_within t m u later p d c g e);
    }

-- the pair of a choice of the first k slices, if it passes
abbrev pub At : Table → (List (List Entry) → Pair → Type 0) → ℕ → Pair → Type 0
At t Fine k p = Reaches (take k t.slices) p × Fine (drop k t.slices) p

module _ (t : Table) (u : ℕ) (Fine : List (List Entry) → Pair → Type 0) (test : IsTest t u Fine) where
  -- one slice more
  pub layer_step : (k : ℕ) (layer next : List Pair) → k < length t.slices → IsFront (At t Fine k) layer → IsFront (λ p. Joins layer (get_or t.slices k []) p × Fine (drop (suc k) t.slices) p) next → IsFront (At t Fine (suc k)) next
  layer_step k layer next h f g =
      let s = get_or t.slices k [] in
      let later = drop (suc k) t.slices in
      subst (λ done. IsFront (λ p. Reaches done p × Fine later p) next) (sym (take-suc t.slices k [] h))
      (front_step (take k t.slices) s (Fine (drop k t.slices)) (Fine later) (test.down later)
      (λ p x c i. subst (λ l. Fine l p) (sym (drop-cons t.slices k [] h)) (test.back s later p x c i)) layer next f g)

  -- the first frontier
  pub layer_none : Fine t.slices (record { size = 0; error = 0 }) → IsFront (At t Fine 0) (record { size = 0; error = 0 } ∷ [])
  layer_none fine =
      let none : Pair = record { size = 0; error = 0 } in
      record {
        order = tt;
        only = λ p c. ⊎_elim (λ e. (([], tt, e), subst (λ q. Fine t.slices q) e fine)) (λ i. absurd (contains_none p i)) (contains_cases none [] p c);
        covers = λ p h. (none, contains_head none [], (omega arith, omega arith));
      }
