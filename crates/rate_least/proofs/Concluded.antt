-- The goal of found frontiers is the smallest choice's pair.
use Rattle.std.proofs.Common.{◌≡◌, ℕ, zero, suc, ◌<◌, ◌≤◌, List, [], ◌∷◌, length, get_or, take, refl, sym, ap, ◌∙◌, subst, arith}
use Rattle.std.specs.Prelude.{Result, Ok, Err, IfErr}
use Rattle.std.specs.List.{All, Contains}
use Rattle.std.proofs.lemmas.List.{length-take, get_or_default}
use Rattle.std.proofs.lemmas.List.Elements.{All-head, All-tail, All-contains, All-take, Contains-get_or}
use Rattle.std.proofs.lemmas.List.Sums.{sum_by-cons}
use Rattle.rate_layers.proofs.Firsts.{length_chosen}
use Rattle.rate_layers.proofs.Assembled.{error_small}
use Rattle.rate_table.specs.declared.table.TheConstants.{MAX_TABLE_SLICES}
use Rattle.rate_table.specs.declared.entry.Entry.{Entry}
use Rattle.rate_table.specs.Table.{Table, IsEntry, IsSliceTable, least, IsChoice, size_of, error_of, indices}
use Rattle.rate_least.specs.declared.outcome.WidePair.{WidePair}
use Rattle.rate_layers.specs.declared.fault.BestFault.{BestFault}
use Rattle.rate_least.specs.Pairs.{least_error}
use Rattle.rate_least.specs.Least.{HasNoneUnder}
use Rattle.rate_least.specs.Records.{Printed, IsGoodFit}
use Rattle.rate_table.proofs.Entries.{least_below, least_attained}
use Rattle.rate_least.specs.Files.{IsPrintable, HasWidths, IsPair}
use Rattle.rate_least.specs.inner.First.{IsFirst}
use Rattle.rate_least.specs.Held.{IsGreatestMultiplier}
use Rattle.rate_least.specs.inner.Live.{AreFound}
use Rattle.rate_least.specs.Answers.{IsSmallest, IsSmallestWith, PassesBySmallest}
use Rattle.rate_least.proofs.Asked.{AreKept}
use Rattle.rate_least.proofs.Bends.{multiplier_same}
use Rattle.rate_least.proofs.Curved.{size_small}
use Rattle.rate_least.proofs.Refused.{capped}
use Rattle.rate_least.proofs.Wholes.{kept_are_fewer}
use Rattle.rate_least.proofs.Produced.{best_kept, produced_kept, printed_of}

all_more : (n : ℕ) (ns : List ℕ) → n < 256 → All (λ index. index < 256) ns → All (λ index. index < 256) (n ∷ ns)
all_more n ns h a zero d l = h
all_more n ns h a (suc k) d l = a k d (omega (arith, l))

-- indices of a choice are bytes
indices_small : (slices : List (List Entry)) → All IsSliceTable slices → (c : List Entry) → IsChoice slices c → All (λ index. index < 256) (indices c)
indices_small [] a [] h = λ k d n. absurd (omega arith)
indices_small [] a (x ∷ c) h = absurd h
indices_small (s ∷ ss) a [] h = absurd h
indices_small (s ∷ ss) a (x ∷ c) h =
    let b : IsEntry x = All-contains IsEntry s x (All-head IsSliceTable s ss a).limits h.0 in
    all_more x.index (indices c) (omega (arith, b.index_to)) (indices_small ss (All-tail IsSliceTable s ss a) c h.1)

-- the first pair of some
pub begins : (ps : List WidePair) (d p : WidePair) → 0 < length ps → p ≡ get_or ps 0 d → (back : List WidePair) × (ps ≡ p ∷ back)
begins [] d p n e = absurd (omega arith)
begins (q ∷ ps) d p n e = (ps, ap (λ r. r ∷ ps) (sym e))

-- Some choice has the least errors.
pub least_meets : (slices : List (List Entry)) → All IsSliceTable slices → (c : List Entry) × IsChoice slices c × (error_of c ≡ least_error slices)
least_meets [] a = ([], tt, refl)
least_meets ([] ∷ ss) a = let h = All-head IsSliceTable [] ss a in absurd (omega (arith, h.some))
least_meets ((x ∷ s) ∷ ss) a =
    let r = least_attained (λ x. x.error) x s in
    let c = least_meets ss (All-tail IsSliceTable (x ∷ s) ss a) in
    (r.0 ∷ c.0, (r.1, c.1), omega (arith, sum_by-cons (λ (x : Entry). x.error) r.0 c.0, sum_by-cons (least (λ x. x.error)) (x ∷ s) ss, r.2, c.2))

-- If they exceed it, none does.
pub none_meets : (slices : List (List Entry)) (cap : ℕ) → cap < least_error slices → HasNoneUnder slices cap
none_meets slices cap h c i f = omega (arith, least_below (λ x. x.error) slices c i)

-- a property of an error, by another description
pub err_weaker : {A : Type 0} (r : Result A BestFault) (P Q : BestFault → Type 0) → ((e : BestFault) → P e → Q e) → IfErr r P → IfErr r Q
err_weaker (Ok x) P Q f h = tt
err_weaker (Err e) P Q f h = f e h

module _ (slices : List (List Entry)) (cap m : ℕ) (goal : WidePair) (layers : List (List WidePair)) (found : AreFound (capped slices cap) m goal.size goal layers) (c : List Entry) (first : IsFirst slices goal c) where
  is_smallest : IsSmallest slices cap c
  is_smallest =
      let s = found.some in
      best_kept (capped slices cap) m goal.size s.0 (get_or layers (length slices) []) found.first.0 goal c s.1 s.2 s.3 (found.kept.1 (length slices) (omega arith)) found.first.1 first

  has_size : size_of c ≡ goal.size
  has_size = ap (λ (p : WidePair). p.size) first.pair

  has_error : error_of c ≡ goal.error
  has_error = ap (λ (p : WidePair). p.error) first.pair

  -- the printed record
  abbrev pub shown : List ℕ → Printed
  shown chosen = record { choice = chosen; size = goal.size; error = goal.error; multiplier = m; layers = layers }

  pub tells_smallest : IsGreatestMultiplier slices cap m → (chosen : List ℕ) → chosen ≡ indices c → IsSmallestWith slices cap (shown chosen)
  tells_smallest i chosen e = record { best = c; is_smallest = is_smallest; choice = e; size = sym has_size; error = sym has_error; multiplier = i; held = found.kept }

  pub tells_good : All IsSliceTable slices → (chosen : List ℕ) → chosen ≡ indices c → IsGoodFit slices cap (shown chosen)
  tells_good each chosen e =
      let k = subst (λ u. AreKept (capped slices cap) m u layers) (sym has_size) found.kept in
      let g = produced_kept (capped slices cap) each c is_smallest m layers k in
      let es = sym has_size in
      let ee = sym has_error in
      let same : printed_of c m layers ≡ shown chosen =
      λ i. record { choice = sym e i; size = sym es i; error = sym ee i; multiplier = m; layers = layers } in
      subst (λ r. IsGoodFit slices cap r) same g

  pub tells_said : (t : Table) → t.slices ≡ slices → (chosen : List ℕ) → chosen ≡ indices c → IsPrintable t (shown chosen)
  tells_said t e chosen e' = record {
    counts = (ap length e' ∙ length_chosen slices c first.chosen ∙ sym (ap length e), found.kept.0 ∙ ap (λ l. suc (length l)) (sym e));
    few = found.few;
  }

  pub tells_widths : All IsSliceTable slices → length slices ≤ MAX_TABLE_SLICES → IsGreatestMultiplier slices cap m → (chosen : List ℕ) → chosen ≡ indices c → HasWidths (shown chosen)
  tells_widths each few i chosen e = record {
    indices = subst (λ l. All (λ index. index < 256) l) (sym e) (indices_small slices each c first.chosen);
    size = omega (arith, has_size, size_small slices each c first.chosen, few);
    error = omega (arith, has_error, error_small slices each c first.chosen, few);
    multiplier = omega (arith, i.limit);
    pairs = pairs_wide;
  }
    where
      pairs_wide : All (λ layer. All IsPair layer) layers
      pairs_wide k d n j p l =
          let a = found.kept.1 k (omega (arith, found.kept.0, n)) in
          let e = get_or_default layers k [] d n in
          let q = get_or (get_or layers k d) j p in
          let i : Contains (get_or layers k []) q = subst (λ y. Contains y q) (sym e) (Contains-get_or (get_or layers k d) j p l) in
          let r = ((a.capped.has q).0 ((a.has q).0 i).0).0.0 in
          let s = ap (λ (x : WidePair). x.size) r.2 in
          let f = ap (λ (x : WidePair). x.error) r.2 in (
            omega (arith, s, size_small (take k slices) (All-take IsSliceTable k slices each) r.0 r.1, few, length-take k slices),
            omega (arith, f, error_small (take k slices) (All-take IsSliceTable k slices each) r.0 r.1, few, length-take k slices),
          )

  pub not_passed : IsGreatestMultiplier slices cap m → PassesBySmallest slices cap → ⊥
  not_passed i p =
      let em = multiplier_same slices cap p.multiplier m p.is_multiplier i in
      let k = subst (λ n. AreKept (capped slices cap) n (size_of p.best) p.layers) em p.held in
      let l = p.is_smallest.size c is_smallest.choice is_smallest.under in
      omega (arith, p.passes, found.few, kept_are_fewer (capped slices cap) m goal.size (size_of p.best) layers p.layers (omega (arith, l, has_size)) found.kept k)
