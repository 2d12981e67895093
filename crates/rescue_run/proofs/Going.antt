-- Rescuing has an outcome.
use Rattle.std.proofs.Common.{◌≡◌, refl, ℕ, zero, suc, ◌+◌, ◌-◌, ◌≤◌, ◌<◌, List, [], ◌∷◌, ◌++◌, length, length-append, append-nil, append_assoc, arith, sym, subst, inl, inr}
use Rattle.std.specs.Prelude.{◌⊎◌}
use Rattle.pr_frame.specs.Laws.{OneFrame, FrameOrFault, FrameHasNoFault}
use Rattle.qt_tables.specs.declared.tables.TheConstants.{MAX_SAMPLES}
use Rattle.qt_tables.specs.declared.fault.MovieKind.TheVariants.{NoFrames, TooManySamples}
use Rattle.rescue_run.specs.declared.end.RescueEnd.{RescueEnd}
use Rattle.rescue_run.specs.declared.end.RescueEnd.TheVariants as ends
use Rattle.std.specs.Prelude.{None}
use Rattle.rescue_run.specs.Chain.{Taken, behind, TakesFirst, IsChain}
use Rattle.rescue_run.specs.Rescuing.{Rescues}
use Rattle.rescue_run.specs.Laws.{Goes}
use Rattle.rescue_run.specs.inner.Steps.{HoldsNone, form_after}
use Rattle.rescue_run.proofs.Following.{below_or, one_none, none_more, take_more}
use Rattle.rescue_run.proofs.Deciding.{HoldsOne, one_or_none}

module _ (one : OneFrame) (judged : FrameOrFault) (no_fault : FrameHasNoFault) (file : List ℕ) where
  ends_here : (ts : List Taken) (end : RescueEnd) → Rescues file ts end → Goes file ts
  ends_here ts end r = record { more = []; end = end; rescues = subst (λ l. Rescues file l end) (sym (append-nil ts)) r }

  at_end : (ts : List Taken) → IsChain file ts → length ts ≤ MAX_SAMPLES → Goes file ts
  at_end [] h few = ends_here [] (ends.BadMovie NoFrames 0) (inl (refl, refl, refl, h))
  at_end (t ∷ ts) h few = ends_here (t ∷ ts) ends.Done (h, omega arith, few)

  behind_one : (ts : List Taken) (t : Taken) → Goes file (ts ++ t ∷ []) → Goes file ts
  behind_one ts t g = record { more = t ∷ g.more; end = g.end; rescues = subst (λ l. Rescues file l g.end) (append_assoc ts (t ∷ []) g.more) g.rescues }

  -- one more frame, or one too many
  with_one : (ts : List Taken) (t : Taken) → TakesFirst file (ts ++ t ∷ []) (behind file t) → length ts ≤ MAX_SAMPLES → (length (ts ++ t ∷ []) ≤ MAX_SAMPLES → Goes file (ts ++ t ∷ [])) → ((length ts < MAX_SAMPLES) ⊎ (MAX_SAMPLES ≤ length ts)) → Goes file ts
  with_one ts t h few more (inl lt) = behind_one ts t (more (omega (arith, lt, length-append ts (t ∷ []))))
  with_one ts t h few more (inr ge) = ends_here ts (ends.BadMovie TooManySamples t.at) (inr (refl, omega (arith, few, ge), record { next = t; at = refl; takes = h }))

  -- the outcome from an offset, by its distance from the end
  abbrev FromNear : ℕ → Type 0
  FromNear k = (ts : List Taken) (to : ℕ) → to ≤ length file → length file ≤ to + k → TakesFirst file ts to → length ts ≤ MAX_SAMPLES → Goes file ts

  goes_by : (k : ℕ) → FromNear k → (ts : List Taken) (to : ℕ) → to < length file → length file ≤ to + suc k → TakesFirst file ts to → length ts ≤ MAX_SAMPLES
      → HoldsOne file to (form_after None ts) ⊎ HoldsNone file to (form_after None ts) → Goes file ts
  goes_by k more ts to lt far h few (inr none) =
      more ts (to + 1) (omega (arith, lt)) (omega (arith, far)) (none_more file None 0 ts to (to + 1) h (omega arith) (one_none file (form_after None ts) to none)) few
  goes_by k more ts to lt far h few (inl x) =
      let t : Taken = record { at = to; frame = x.frame } in
      let takes : TakesFirst file (ts ++ t ∷ []) (behind file t) = take_more file None 0 ts t h x.holds x.like in
      with_one ts t takes few (λ fit. more (ts ++ t ∷ []) (behind file t) x.holds.inside (omega (arith, far, x.holds.least)) takes fit) (below_or (length ts) MAX_SAMPLES)

  goes_at : (k : ℕ) → FromNear k → (ts : List Taken) (to : ℕ) → to ≤ length file → length file ≤ to + suc k → TakesFirst file ts to → length ts ≤ MAX_SAMPLES → ((to < length file) ⊎ (length file ≤ to)) → Goes file ts
  goes_at k more ts to le far h few (inr ge) = let e : to ≡ length file = omega (arith, le, ge) in at_end ts (subst (TakesFirst file ts) e h) few
  goes_at k more ts to le far h few (inl lt) = goes_by k more ts to lt far h few (one_or_none one judged no_fault file to (form_after None ts))

  goes : (k : ℕ) → FromNear k
  goes zero ts to le far h few = let e : to ≡ length file = omega (arith, le, far) in at_end ts (subst (TakesFirst file ts) e h) few
  goes (suc k) ts to le far h few = goes_at k (goes k) ts to le far h few (below_or to (length file))

  pub goes_on : (ts : List Taken) (to : ℕ) → to ≤ length file → TakesFirst file ts to → length ts ≤ MAX_SAMPLES → Goes file ts
  goes_on ts to le h few = goes (length file - to) ts to le (omega (arith, le)) h few
