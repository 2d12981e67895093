-- Runs of equal durations, and the durations of samples.
use Rattle.std.proofs.Common.{◌≡◌, refl, ℕ, zero, suc, ◌+◌, ◌≤◌, ◌<◌, ◌^◌, Bool, true, false, if◌then◌else◌, List, [], ◌∷◌, ◌++◌, length, take, drop, map, arith, ap, ◌∙◌}
use Rattle.std.specs.Prelude.{◌==◌, replicate}
use Rattle.std.specs.List.{AllByRecursion}
use Rattle.std.proofs.lemmas.List.{length-take, length-drop, length-append}
use Rattle.qt_tables.specs.declared.runs.TimeRun.{TimeRun}
use Rattle.qt_tables.specs.declared.runs.Sample.{Sample}
use Rattle.qt_tables.specs.Samples.{Chunk, durations, chunks, samples_at, samples_in, Tables, samples}
use Rattle.qt_movie.proofs.WrittenTables.{time_run}
use Rattle.pcm_track.specs.Adding.{joined, runs_of}
use Rattle.sound_round.proofs.EqualRuns.{spread, spread-runs}
use Rattle.sound_round.proofs.PicturesRead.{AreShort}

-- ---- the runs of a list are the list

times-spread : (rs : List (ℕ × ℕ)) → durations (map time_run rs) ≡ spread rs
times-spread [] = refl
times-spread (r ∷ rs) = ap (λ l. replicate r.0 r.1 ++ l) (times-spread rs)

pub runs-given : (xs : List ℕ) → durations (map time_run (runs_of xs)) ≡ xs
runs-given xs = times-spread (runs_of xs) ∙ spread-runs xs

-- ---- each run has at most the list's length, and a value of the list

abbrev Bounded : (n : ℕ) → List (ℕ × ℕ) → Type 0
Bounded n rs = AllByRecursion (λ (r : ℕ × ℕ). (r.0 ≤ n) × (r.1 < 2 ^ 32)) rs

bounded-up : (n : ℕ) (rs : List (ℕ × ℕ)) → Bounded n rs → Bounded (suc n) rs
bounded-up n [] h = tt
bounded-up n (r ∷ rs) h = ((omega (arith, h.0.0), h.0.1), bounded-up n rs h.1)

bounded-in : (b : Bool) (n x : ℕ) (r : ℕ × ℕ) (rs : List (ℕ × ℕ)) → x < 2 ^ 32 → Bounded n (r ∷ rs) → Bounded (suc n) (if b then (r.0 + 1, x) ∷ rs else (1, x) ∷ r ∷ rs)
bounded-in true n x r rs small h = ((omega (arith, h.0.0), small), bounded-up n rs h.1)
bounded-in false n x r rs small h = ((omega arith, small), bounded-up n (r ∷ rs) h)

bounded-joined : (n x : ℕ) (rs : List (ℕ × ℕ)) → x < 2 ^ 32 → Bounded n rs → Bounded (suc n) (joined x rs)
bounded-joined n x [] small h = ((omega arith, small), tt)
bounded-joined n x (r ∷ rs) small h = bounded-in (r.1 == x) n x r rs small h

runs-bounded : (xs : List ℕ) → AllByRecursion (λ x. x < 2 ^ 32) xs → Bounded (length xs) (runs_of xs)
runs-bounded [] h = tt
runs-bounded (x ∷ xs) h = bounded-joined (length xs) x (runs_of xs) h.0 (runs-bounded xs h.1)

bounded-fit : (n : ℕ) (rs : List (ℕ × ℕ)) → n ≤ 1000000 → Bounded n rs → AllByRecursion (λ (r : ℕ × ℕ). (r.0 < 2 ^ 32) × (r.1 < 2 ^ 32)) rs
bounded-fit n [] few h = tt
bounded-fit n (r ∷ rs) few h = ((omega (arith, few, h.0.0), h.0.1), bounded-fit n rs few h.1)

-- the numbers of the runs fit their fields
pub runs-fit : (xs : List ℕ) → length xs ≤ 1000000 → AllByRecursion (λ x. x < 2 ^ 32) xs → AllByRecursion (λ (r : ℕ × ℕ). (r.0 < 2 ^ 32) × (r.1 < 2 ^ 32)) (runs_of xs)
runs-fit xs few h = bounded-fit (length xs) (runs_of xs) few (runs-bounded xs h)

-- ---- the durations of samples

module _ {X : Type 0} (P : X → Type 0) where
  both-all : (xs ys : List X) → AllByRecursion P xs → AllByRecursion P ys → AllByRecursion P (xs ++ ys)
  both-all [] ys h k = k
  both-all (x ∷ xs) ys h k = (h.0, both-all xs ys h.1 k)

  behind-all : (n : ℕ) (xs : List X) → AllByRecursion P xs → AllByRecursion P (drop n xs)
  behind-all zero xs h = h
  behind-all (suc n) [] h = tt
  behind-all (suc n) (x ∷ xs) h = behind-all n xs h.1

  each-all : (n : ℕ) (x : X) → P x → AllByRecursion P (replicate n x)
  each-all zero x h = tt
  each-all (suc n) x h = (h, each-all n x h)

abbrev Short : ℕ → Type 0
Short n = n < 2 ^ 32

durations-short : (times : List TimeRun) → AreShort times → AllByRecursion Short (durations times)
durations-short [] h = tt
durations-short (r ∷ times) h = both-all Short (replicate r.count r.duration) (durations times) (each-all Short r.count r.duration h.0) (durations-short times h.1)

abbrev Lasts : Sample → Type 0
Lasts s = s.duration < 2 ^ 32

samples-at-last : (description at : ℕ) (sizes times : List ℕ) → AllByRecursion Short times → AllByRecursion Lasts (samples_at description at sizes times)
samples-at-last description at [] times h = tt
samples-at-last description at (size ∷ sizes) [] h = tt
samples-at-last description at (size ∷ sizes) (time ∷ times) h = (h.0, samples-at-last description (at + size) sizes times h.1)

samples-in-last : (cs : List Chunk) (sizes times : List ℕ) → AllByRecursion Short times → AllByRecursion Lasts (samples_in cs sizes times)
samples-in-last [] sizes times h = tt
samples-in-last (c ∷ cs) sizes times h =
    both-all Lasts (samples_at c.description c.at (take c.samples sizes) times) (samples_in cs (drop c.samples sizes) (drop c.samples times))
    (samples-at-last c.description c.at (take c.samples sizes) times h) (samples-in-last cs (drop c.samples sizes) (drop c.samples times) (behind-all Short c.samples times h))

of-samples : (ss : List Sample) → AllByRecursion Lasts ss → AllByRecursion (λ x. x < 2 ^ 32) (map (λ (s : Sample). s.duration) ss)
of-samples [] h = tt
of-samples (s ∷ ss) h = (h.0, of-samples ss h.1)

pub samples-last : (t : Tables) → AreShort t.times → AllByRecursion (λ x. x < 2 ^ 32) (map (λ (s : Sample). s.duration) (samples t))
samples-last t h = of-samples (samples t) (samples-in-last (chunks t.runs t.offsets) t.sizes (durations t.times) (durations-short t.times h))

-- ---- the number of samples

few-at : (description at : ℕ) (sizes times : List ℕ) → length (samples_at description at sizes times) ≤ length sizes
few-at description at [] times = omega arith
few-at description at (size ∷ sizes) [] = omega arith
few-at description at (size ∷ sizes) (time ∷ times) = omega (arith, few-at description (at + size) sizes times)

few-in : (cs : List Chunk) (sizes times : List ℕ) → length (samples_in cs sizes times) ≤ length sizes
few-in [] sizes times = omega arith
few-in (c ∷ cs) sizes times =
    let front = samples_at c.description c.at (take c.samples sizes) times in
    let rest = samples_in cs (drop c.samples sizes) (drop c.samples times) in
    omega (arith, length-append front rest, few-at c.description c.at (take c.samples sizes) times, few-in cs (drop c.samples sizes) (drop c.samples times), length-take c.samples sizes, length-drop c.samples sizes)

-- at most as many samples as sizes
pub samples-few : (t : Tables) → length (samples t) ≤ length t.sizes
samples-few t = few-in (chunks t.runs t.offsets) t.sizes (durations t.times)
