-- No fitting choice has less error than a good record.
use Rattle.std.proofs.Common.{◌≡◌, ℕ, suc, ◌+◌, ◌*◌, ◌<◌, ◌≤◌, List, [], ◌∷◌, length, get_or, refl, sym, subst, arith, inl, inr, ⊎_elim}
use Rattle.std.specs.List.{Contains, All}
use Rattle.std.proofs.lemmas.List.Sums.{sum_by-cons}
use Rattle.std.proofs.lemmas.List.Elements.{All-contains}
use Rattle.std.proofs.lemmas.Nat.{mul-le}
use Rattle.std.proofs.lemmas.Bool.{cases_lt}
use Rattle.rate_table.specs.declared.entry.Entry.{Entry}
use Rattle.rate_table.specs.declared.entry.Pair.{Pair}
use Rattle.rate_table.specs.Table.{Table, IsChoice, Fits, HasNoFit, size_of, error_of}
use Rattle.rate_table.specs.Pairs.{Dominates, joined}
use Rattle.rate_table.specs.Records.{Printed, IsCovered, AllStep, IsGoodFit, TellsLeast, SaysNone}
use Rattle.rate_table.proofs.Entries.{least_below}
use Rattle.rate_table.proofs.Costs.{rest_below}

module _ (t : Table) (r : Printed) where
  -- A pair that can be completed to a fitting choice of less error is dominated by a pair of the next layer.
  covered : (later : List (List Entry)) (next : List Pair) (p q : Pair) (d : List Entry) → IsCovered t r later next q → Dominates q p → IsChoice later d → t.fixed + (p.size + size_of d) ≤ t.budget → p.error + error_of d < r.error → (q' : Pair) × Contains next q' × Dominates q' p
  covered later next p q d (inl (q', has, below)) dom c fits less = (q', has, (omega arith, omega arith))
  covered later next p q d (inr (inl full)) dom c fits less =
      absurd (full (omega (arith, least_below (λ x. x.size) later d c)))
  covered later next p q d (inr (inr passes)) dom c fits less =
      let m = r.multiplier in
      let h : m * (t.fixed + (q.size + size_of d)) ≤ m * t.budget = mul-le m (t.fixed + (q.size + size_of d)) m t.budget (omega arith) (omega arith) in
      absurd (passes (omega (arith, rest_below m later d c, h)))

  -- By induction over the remaining slices: p is the pair of a choice of the slices before, and the layer's pair q
  -- dominates it.
  no_less : (slices : List (List Entry)) (layers : List (List Pair)) (layer : List Pair) (p q : Pair) (d : List Entry) → AllStep t r slices (layer ∷ layers) → length layers ≡ length slices → All (λ p. r.error ≤ p.error) (get_or (layer ∷ layers) (length slices) []) → Contains layer q → Dominates q p → IsChoice slices d → t.fixed + (p.size + size_of d) ≤ t.budget → p.error + error_of d < r.error → ⊥
  no_less [] layers layer p q [] steps n last has dom c fits less =
      let h = All-contains (λ (p : Pair). r.error ≤ p.error) layer q last has in omega arith
  no_less [] layers layer p q (x ∷ d) steps n last has dom c fits less = c
  no_less (s ∷ ss) layers layer p q [] steps n last has dom c fits less = c
  no_less (s ∷ ss) [] layer p q (x ∷ d) steps n last has dom c fits less = omega arith
  no_less (s ∷ ss) (next ∷ layers) layer p q (x ∷ d) steps n last has dom c fits less =
      let at_q = All-contains (λ (p : Pair). All (λ x. IsCovered t r ss next (joined p x)) s) layer q steps.0 has in
      let at_x = All-contains (λ (x : Entry). IsCovered t r ss next (joined q x)) s x at_q c.0 in
      let es = sum_by-cons (λ (x : Entry). x.size) x d in
      let ee = sum_by-cons (λ (x : Entry). x.error) x d in
      let fits' : t.fixed + ((joined p x).size + size_of d) ≤ t.budget = omega arith in
      let less' : (joined p x).error + error_of d < r.error = omega arith in
      let g = covered ss next (joined p x) (joined q x) d at_x (omega arith, omega arith) c.1 fits' less' in
      no_less ss layers next (joined p x) g.0 d steps.1 (omega arith) last g.1 g.2 c.1 fits' less'

module _ (t : Table) (r : Printed) where
  -- the whole table, from the first layer (the empty pair)
  no_less_whole : (layers : List (List Pair)) (d : List Entry) → length layers ≡ suc (length t.slices) → get_or layers 0 [] ≡ record { size = 0; error = 0 } ∷ [] → AllStep t r t.slices layers → All (λ p. r.error ≤ p.error) (get_or layers (length t.slices) []) → IsChoice t.slices d → Fits t d → error_of d < r.error → ⊥
  no_less_whole [] d n first steps last c fits less = omega arith
  no_less_whole (layer ∷ layers) d n first steps last c fits less =
      let none : Pair = record { size = 0; error = 0 } in
      let has : Contains layer none = subst (λ l. Contains l none) (sym first) (0, omega arith, refl) in
      no_less t r t.slices layers layer none none d steps (omega arith) last has (omega arith, omega arith) c (omega arith) (omega arith)

pub sound_law : (t : Table) (r : Printed) → IsGoodFit t r → TellsLeast t r
sound_law t r g =
    let s = g.sums g.entries.0 g.entries.1 g.entries.2 in
    record {
      choice = g.entries.0;
      printed = g.entries.2;
      is_choice = g.entries.1;
      fits = s.2;
      size = s.0;
      error = s.1;
      least = λ other c fits. ⊎_elim (λ l. absurd (no_less_whole t r r.layers other g.counts.1 g.first g.steps g.last c fits l)) (λ l. l) (cases_lt (error_of other) r.error);
    }

pub sound_none_law : (t : Table) (least : ℕ) → SaysNone t least → HasNoFit t
sound_none_law t least g choice c fits = omega (arith, least_below (λ x. x.size) t.slices choice c)
