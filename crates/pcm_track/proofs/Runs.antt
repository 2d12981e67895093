-- Runs of equal values, and runs of chunks.
use Rattle.std.proofs.Common.{◌≡◌, refl, ℕ, suc, ◌+◌, ◌≤◌, Bool, true, false, if◌then◌else◌, ◌==◌, List, [], ◌∷◌, length, arith, ap, ◌∙◌, eq-eqb}
use Rattle.std.specs.List.{sum_by}
use Rattle.std.proofs.lemmas.List.Sums.{sum_by-cons}
use Rattle.pcm_track.specs.Adding.{joined, runs_of, chunk_runs, where_some}

-- a run, before other runs, the first of which may have the same value
abbrev pub run_then : (count value : ℕ) → List (ℕ × ℕ) → List (ℕ × ℕ)
run_then count value [] = (count, value) ∷ []
run_then count value (r ∷ rs) = if r.1 == value then (r.0 + count, value) ∷ rs else (count, value) ∷ r ∷ rs

pub run-one : (x : ℕ) (rs : List (ℕ × ℕ)) → joined x rs ≡ run_then 1 x rs
run-one x [] = refl
run-one x (r ∷ rs) = refl

same : (y : ℕ) → (y == y) ≡ true
same y = eq-eqb y y refl

-- one more of the same value
more-in : (b : Bool) (count y : ℕ) (r : ℕ × ℕ) (rs : List (ℕ × ℕ))
    → run_then count y (if b then (r.0 + 1, y) ∷ rs else (1, y) ∷ r ∷ rs) ≡ (if b then (r.0 + (count + 1), y) ∷ rs else (count + 1, y) ∷ r ∷ rs)
more-in true count y r rs = let n : r.0 + 1 + count ≡ r.0 + (count + 1) = omega arith in rw (same y) (ap (λ n. (n, y) ∷ rs) n)
more-in false count y r rs = let n : 1 + count ≡ count + 1 = omega arith in rw (same y) (ap (λ n. (n, y) ∷ r ∷ rs) n)

pub run-more : (count y : ℕ) (rs : List (ℕ × ℕ)) → run_then count y (joined y rs) ≡ run_then (count + 1) y rs
run-more count y [] = let n : 1 + count ≡ count + 1 = omega arith in rw (same y) (ap (λ n. (n, y) ∷ []) n)
run-more count y (r ∷ rs) = more-in (r.1 == y) count y r rs

-- ---- the number of values

where-in : {A : Type 0} (b : Bool) (x : A) → length (if b then [] else x ∷ []) ≤ 1
where-in true x = omega arith
where-in false x = omega arith

pub where-few : {A : Type 0} (n : ℕ) (x : A) → length (where_some n x) ≤ 1
where-few n x = where-in (n == 0) x

abbrev pub counted : List (ℕ × ℕ) → ℕ
counted rs = sum_by (λ (r : ℕ × ℕ). r.0) rs

counted-in : (b : Bool) (x : ℕ) (r : ℕ × ℕ) (rs : List (ℕ × ℕ)) → counted (if b then (r.0 + 1, x) ∷ rs else (1, x) ∷ r ∷ rs) ≡ suc (counted (r ∷ rs))
counted-in true x r rs = omega (arith, sum_by-cons (λ (r : ℕ × ℕ). r.0) (r.0 + 1, x) rs, sum_by-cons (λ (r : ℕ × ℕ). r.0) r rs)
counted-in false x r rs = omega (arith, sum_by-cons (λ (r : ℕ × ℕ). r.0) (1, x) (r ∷ rs))

counted-joined : (x : ℕ) (rs : List (ℕ × ℕ)) → counted (joined x rs) ≡ suc (counted rs)
counted-joined x [] = refl
counted-joined x (r ∷ rs) = counted-in (r.1 == x) x r rs

-- the runs have as many values as the list
pub runs-counted : (xs : List ℕ) → counted (runs_of xs) ≡ length xs
runs-counted [] = refl
runs-counted (x ∷ xs) = counted-joined x (runs_of xs) ∙ ap suc (runs-counted xs)

length-in : (b : Bool) (x : ℕ) (r : ℕ × ℕ) (rs : List (ℕ × ℕ)) → length (if b then (r.0 + 1, x) ∷ rs else (1, x) ∷ r ∷ rs) ≤ suc (length (r ∷ rs))
length-in true x r rs = omega arith
length-in false x r rs = omega arith

length-joined : (x : ℕ) (rs : List (ℕ × ℕ)) → length (joined x rs) ≤ suc (length rs)
length-joined x [] = omega arith
length-joined x (r ∷ rs) = length-in (r.1 == x) x r rs

pub runs-few : (xs : List ℕ) → length (runs_of xs) ≤ length xs
runs-few [] = omega arith
runs-few (x ∷ xs) = omega (arith, length-joined x (runs_of xs), runs-few xs)

pub chunk-runs-many : (number : ℕ) (rs : List (ℕ × ℕ)) → length (chunk_runs number rs) ≡ length rs
chunk-runs-many number [] = refl
chunk-runs-many number (r ∷ rs) = ap suc (chunk-runs-many (number + r.0) rs)
