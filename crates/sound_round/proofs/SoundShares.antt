-- The shares of sound beside the samples: none is empty, and together they are all sound.
use Rattle.std.proofs.Common.{◌≡◌, refl, ℕ, ◌+◌, ◌-◌, ◌*◌, ◌/◌, ◌≤◌, Bool, true, false, List, [], ◌∷◌, arith, ap, ◌∙◌}
use Rattle.std.specs.Prelude.{◌==◌, if◌then◌else◌}
use Rattle.std.specs.List.{AllByRecursion, sum_by}
use Rattle.std.proofs.Math.Nat.{zero-div}
use Rattle.std.proofs.lemmas.Bool.Decides.{nat_tests}
use Rattle.std.proofs.lemmas.List.Sums.{sum_by-cons}
use Rattle.qt_tables.specs.declared.runs.Sample.{Sample}
use Rattle.pcm_track.specs.declared.form.Pcm.{Pcm}
use Rattle.pcm_track.specs.declared.parts.Part.{Part}
use Rattle.pcm_track.specs.declared.parts.Part.TheVariants as parts
use Rattle.pcm_track.specs.Adding.{border, sound_end, parts_from, parts_of, part_frames, chunk_frames}
use Rattle.pcm_track.proofs.Shares.{frames-sound, frames-from}

-- ---- none is empty

filled-in : (b : Bool) (n : ℕ) (others : List Part) → (n == 0) ≡ b → AllByRecursion (λ k. 1 ≤ k) (chunk_frames others) → AllByRecursion (λ k. 1 ≤ k) (chunk_frames (if b then others else parts.Sound n ∷ others))
filled-in true n others e h = h
filled-in false n others e h = (grind (arith, nat_tests, e), h)

filled-from : (timescale : ℕ) (p : Pcm) (time : ℕ) (ss : List Sample) → AllByRecursion (λ k. 1 ≤ k) (chunk_frames (parts_from timescale p time ss))
filled-from timescale p time [] = tt
filled-from timescale p time (s ∷ ss) =
    let n = sound_end timescale p (time + s.duration) ss - border timescale p time in
    filled-in (n == 0) n (parts_from timescale p (time + s.duration) ss) refl (filled-from timescale p (time + s.duration) ss)

pub filled-of : (timescale : ℕ) (p : Pcm) (ss : List Sample) → AllByRecursion (λ k. 1 ≤ k) (chunk_frames (parts_of timescale p ss))
filled-of timescale p [] = filled-in (p.frames == 0) p.frames [] refl tt
filled-of timescale p (s ∷ ss) = filled-from timescale p 0 (s ∷ ss)

-- ---- together they are all sound

-- the number of frames of some shares
abbrev pub total : List ℕ → ℕ
total ns = sum_by (λ (n : ℕ). n) ns

shares-are : (xs : List Part) → total (chunk_frames xs) ≡ sum_by part_frames xs
shares-are [] = refl
shares-are (parts.Picture s ∷ xs) = omega (arith, sum_by-cons part_frames (parts.Picture s) xs, shares-are xs)
shares-are (parts.Sound n ∷ xs) = omega (arith, sum_by-cons part_frames (parts.Sound n) xs, sum_by-cons (λ (k : ℕ). k) n (chunk_frames xs), shares-are xs)

-- no sound comes before the first sample
none-before : (timescale : ℕ) (p : Pcm) → border timescale p 0 ≡ 0
none-before timescale p =
    let none : 0 * p.rate / timescale ≡ 0 = ap (λ (n : ℕ). n / timescale) (let z : 0 * p.rate ≡ 0 = omega arith in z) ∙ zero-div timescale in
    omega (arith, none)

pub all-shared : (timescale : ℕ) (p : Pcm) (ss : List Sample) → 1 ≤ timescale → total (chunk_frames (parts_of timescale p ss)) ≡ p.frames
all-shared timescale p [] h = omega (arith, shares-are (parts_of timescale p []), frames-sound p.frames [])
all-shared timescale p (s ∷ ss) h = omega (arith, shares-are (parts_of timescale p (s ∷ ss)), frames-from timescale p 0 s ss h, none-before timescale p)

-- ---- each is among them

pub each-small : (ns : List ℕ) (most : ℕ) → total ns ≤ most → AllByRecursion (λ n. n ≤ most) ns
each-small [] most le = tt
each-small (n ∷ ns) most le =
    let one = sum_by-cons (λ (k : ℕ). k) n ns in
    (omega (arith, one, le), each-small ns most (omega (arith, one, le)))
