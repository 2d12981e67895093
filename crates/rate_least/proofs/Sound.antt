-- No choice of error at most the cap has less size than a good certificate.
use Rattle.std.proofs.Common.{◌≡◌, ℕ, suc, ◌+◌, ◌*◌, ◌<◌, ◌≤◌, List, [], ◌∷◌, length, get_or, refl, sym, subst, arith, inl, inr, ⊎_elim}
use Rattle.std.specs.List.{Contains, All}
use Rattle.std.proofs.lemmas.List.Sums.{sum_by-cons}
use Rattle.std.proofs.lemmas.List.Elements.{All-contains}
use Rattle.std.proofs.lemmas.Nat.{mul-le}
use Rattle.std.proofs.lemmas.Bool.{cases_lt}
use Rattle.rate_table.specs.declared.entry.Entry.{Entry}
use Rattle.rate_table.specs.Table.{IsChoice, size_of, error_of}
use Rattle.rate_table.proofs.Entries.{least_below}
use Rattle.rate_table.proofs.Costs.{rest_below}
use Rattle.rate_least.specs.declared.outcome.WidePair.{WidePair}
use Rattle.rate_least.specs.Pairs.{Dominates, joined}
use Rattle.rate_least.specs.Least.{HasNoneUnder}
use Rattle.rate_least.specs.Records.{Printed, fits, none, IsCovered, AllStep, IsGoodFit, IsLeastSize, SaysNone}
use Rattle.rate_least.specs.Laws.{GoodIsTrue}

module _ (cap : ℕ) (r : Printed) where
  -- A pair that can be completed to a choice of less size that meets the cap is dominated by a pair of the next
  -- layer.
  covered : (later : List (List Entry)) (next : List WidePair) (p q : WidePair) (d : List Entry) → IsCovered cap r later next q → Dominates q p → IsChoice later d → p.error + error_of d ≤ cap → p.size + size_of d < r.size → (q' : WidePair) × Contains next q' × Dominates q' p
  covered later next p q d (inl (q', has, below)) dom c meets less = (q', has, (omega arith, omega arith))
  covered later next p q d (inr (inl full)) dom c meets less =
      absurd (full (omega (arith, least_below (λ x. x.error) later d c)))
  covered later next p q d (inr (inr passes)) dom c meets less =
      let m = r.multiplier in
      let h : m * (q.size + size_of d) ≤ m * r.size = mul-le m (q.size + size_of d) m r.size (omega arith) (omega arith) in
      absurd (passes (omega (arith, rest_below m later d c, h)))

  -- By induction over the remaining slices: p is the pair of a choice of the slices before, and the layer's pair q
  -- dominates it.
  no_less : (slices : List (List Entry)) (layers : List (List WidePair)) (layer : List WidePair) (p q : WidePair) (d : List Entry) → AllStep cap r slices (layer ∷ layers) → length layers ≡ length slices → All (λ p. r.size ≤ p.size) (get_or (layer ∷ layers) (length slices) []) → Contains layer q → Dominates q p → IsChoice slices d → p.error + error_of d ≤ cap → p.size + size_of d < r.size → ⊥
  no_less [] layers layer p q [] steps n last has dom c meets less =
      let h = All-contains (λ (p : WidePair). r.size ≤ p.size) layer q last has in omega arith
  no_less [] layers layer p q (x ∷ d) steps n last has dom c meets less = c
  no_less (s ∷ ss) layers layer p q [] steps n last has dom c meets less = c
  no_less (s ∷ ss) [] layer p q (x ∷ d) steps n last has dom c meets less = omega arith
  no_less (s ∷ ss) (next ∷ layers) layer p q (x ∷ d) steps n last has dom c meets less =
      let at_q = All-contains (λ (p : WidePair). All (λ x. IsCovered cap r ss next (joined p x)) s) layer q steps.0 has in
      let at_x = All-contains (λ (x : Entry). IsCovered cap r ss next (joined q x)) s x at_q c.0 in
      let es = sum_by-cons (λ (x : Entry). x.size) x d in
      let ee = sum_by-cons (λ (x : Entry). x.error) x d in
      let meets' : (joined p x).error + error_of d ≤ cap = omega arith in
      let less' : (joined p x).size + size_of d < r.size = omega arith in
      let g = covered ss next (joined p x) (joined q x) d at_x (omega arith, omega arith) c.1 meets' less' in
      no_less ss layers next (joined p x) g.0 d steps.1 (omega arith) last g.1 g.2 c.1 meets' less'

  -- the whole table, from the first layer (the empty pair)
  no_less_whole : (slices : List (List Entry)) (layers : List (List WidePair)) (d : List Entry) → length layers ≡ suc (length slices) → get_or layers 0 [] ≡ record { size = 0; error = 0 } ∷ [] → AllStep cap r slices layers → All (λ p. r.size ≤ p.size) (get_or layers (length slices) []) → IsChoice slices d → error_of d ≤ cap → size_of d < r.size → ⊥
  no_less_whole slices [] d n first steps last c meets less = omega arith
  no_less_whole slices (layer ∷ layers) d n first steps last c meets less =
      let none : WidePair = record { size = 0; error = 0 } in
      let has : Contains layer none = subst (λ l. Contains l none) (sym first) (0, omega arith, refl) in
      no_less slices layers layer none none d steps (omega arith) last has (omega arith, omega arith) c (omega arith) (omega arith)

fit_is_true : (slices : List (List Entry)) (cap : ℕ) (r : Printed) → IsGoodFit slices cap r → IsLeastSize slices cap r
fit_is_true slices cap r g =
    let s = g.sums g.entries.0 g.entries.1 g.entries.2 in
    record {
      choice = g.entries.0;
      printed = g.entries.2;
      is_choice = g.entries.1;
      under = s.2;
      size = s.0;
      error = s.1;
      least = λ other c meets. ⊎_elim (λ l. absurd (no_less_whole cap r slices r.layers other g.counts.1 g.layers.first g.layers.steps g.layers.last c meets l)) (λ l. l) (cases_lt (size_of other) r.size);
    }

none_is_true : (slices : List (List Entry)) (cap least : ℕ) → SaysNone slices cap least → HasNoneUnder slices cap
none_is_true slices cap least g choice c meets = omega (arith, g.0, g.1, least_below (λ x. x.error) slices choice c)

pub good_is_true : GoodIsTrue
good_is_true slices cap (fits r) g = fit_is_true slices cap r g
good_is_true slices cap (none least) g = none_is_true slices cap least g
