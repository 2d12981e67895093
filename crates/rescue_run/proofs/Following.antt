-- One more frame of the chain, and offsets that are skipped.
use Rattle.std.proofs.Common.{◌≡◌, refl, ℕ, zero, suc, ◌+◌, ◌≤◌, ◌<◌, List, [], ◌∷◌, ◌++◌, arith, subst, inl, inr}
use Rattle.std.specs.Prelude.{◌⊎◌, Option}
use Rattle.pr_frame.specs.declared.coded.CodedFrame.{CodedFrame}
use Rattle.rescue_run.specs.declared.form.FrameForm.{FrameForm}
use Rattle.rescue_run.specs.Chain.{HoldsFrame, IsLike, form_behind, NoneHeld, Taken, behind, Takes, TakesFirst}
use Rattle.rescue_run.specs.inner.Windows.{NoMark}
use Rattle.rescue_run.specs.inner.Steps.{HoldsNone, form_after}

-- nothing yet
pub none_taken : (file : List ℕ) → TakesFirst file [] 0
none_taken file = (omega arith, λ place frame ge lt h like. absurd (omega (arith, lt)))

-- an offset without a mark holds no frame
pub no_mark_held : (file : List ℕ) (first : Option FrameForm) (from to : ℕ) → NoMark file from to → NoneHeld file first from to
no_mark_held file first from to none = λ place frame ge lt h like. none place ge lt h.mark

-- one offset
pub one_none : (file : List ℕ) (first : Option FrameForm) (place : ℕ) → HoldsNone file place first → NoneHeld file first place (place + 1)
one_none file first place none = λ p frame ge lt h like. let e : p ≡ place = omega (arith, ge, lt) in none frame (subst (λ q. HoldsFrame file q frame) e h) like

pub below_or : (a b : ℕ) → (a < b) ⊎ (b ≤ a)
below_or zero zero = inr (omega arith)
below_or zero (suc b) = inl (omega arith)
below_or (suc a) zero = inr (omega arith)
below_or (suc a) (suc b) = shift (below_or a b)
  where
    shift : (a < b) ⊎ (b ≤ a) → (suc a < suc b) ⊎ (suc b ≤ suc a)
    shift (inl h) = inl (omega (arith, h))
    shift (inr h) = inr (omega (arith, h))

none_by : (file : List ℕ) (first : Option FrameForm) (a b c : ℕ) → NoneHeld file first a b → NoneHeld file first b c → (p : ℕ) (frame : CodedFrame) → a ≤ p → p < c → HoldsFrame file p frame → IsLike first frame → ((p < b) ⊎ (b ≤ p)) → ⊥
none_by file first a b c x y p frame ge lt h like (inl l) = x p frame ge l h like
none_by file first a b c x y p frame ge lt h like (inr g) = y p frame g lt h like

pub none_then : (file : List ℕ) (first : Option FrameForm) (a b c : ℕ) → NoneHeld file first a b → NoneHeld file first b c → NoneHeld file first a c
none_then file first a b c x y = λ p frame ge lt h like. none_by file first a b c x y p frame ge lt h like (below_or p b)

-- offsets after the frames that hold none
pub none_more : (file : List ℕ) (first : Option FrameForm) (from : ℕ) (ts : List Taken) (to to' : ℕ) → Takes file first from ts to → to ≤ to' → NoneHeld file (form_after first ts) to to' → Takes file first from ts to'
none_more file first from [] to to' t le none = (omega (arith, t.0, le), none_then file first from to to' t.1 none)
none_more file first from (x ∷ xs) to to' t le none = (t.0, t.1, t.2, t.3, none_more file (form_behind first x.frame) (behind file x) xs to to' t.4 le none)

-- a frame at the current offset
pub take_more : (file : List ℕ) (first : Option FrameForm) (from : ℕ) (ts : List Taken) (t : Taken) → Takes file first from ts t.at → HoldsFrame file t.at t.frame → IsLike (form_after first ts) t.frame
    → Takes file first from (ts ++ t ∷ []) (behind file t)
take_more file first from [] t k h like = (k.0, k.1, h, like, (omega arith, λ p frame ge lt x y. absurd (omega (arith, ge, lt))))
take_more file first from (x ∷ xs) t k h like = (k.0, k.1, k.2, k.3, take_more file (form_behind first x.frame) (behind file x) xs t k.4 h like)

pub form_more : (first : Option FrameForm) (ts : List Taken) (t : Taken) → form_after first (ts ++ t ∷ []) ≡ form_behind (form_after first ts) t.frame
form_more first [] t = refl
form_more first (x ∷ xs) t = form_more (form_behind first x.frame) xs t
