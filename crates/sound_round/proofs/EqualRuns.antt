-- The values of a list's runs are the list.
use Rattle.std.proofs.Common.{◌≡◌, refl, ℕ, suc, ◌+◌, ◌≤◌, Bool, true, false, List, [], ◌∷◌, ◌++◌, replicate, arith, sym, ap, ◌∙◌}
use Rattle.std.specs.Prelude.{◌==◌, if◌then◌else◌}
use Rattle.std.specs.List.{AllByRecursion, flat_map}
use Rattle.std.proofs.lemmas.Bool.{eqb-true}
use Rattle.pcm_track.specs.Adding.{joined, runs_of}

-- the values of runs, one by one
abbrev pub spread : List (ℕ × ℕ) → List ℕ
spread rs = flat_map (λ (r : ℕ × ℕ). replicate r.0 r.1) rs

spread-in : (b : Bool) (x : ℕ) (r : ℕ × ℕ) (rs : List (ℕ × ℕ)) → (r.1 == x) ≡ b → spread (if b then (r.0 + 1, x) ∷ rs else (1, x) ∷ r ∷ rs) ≡ x ∷ spread (r ∷ rs)
spread-in true x r rs e =
    let same : r.1 ≡ x = eqb-true r.1 x e in
    let more : r.0 + 1 ≡ suc r.0 = omega arith in
    ap (λ (n : ℕ). replicate n x ++ spread rs) more ∙ ap (λ (y : ℕ). x ∷ (replicate r.0 y ++ spread rs)) (sym same)
spread-in false x r rs e = refl

spread-joined : (x : ℕ) (rs : List (ℕ × ℕ)) → spread (joined x rs) ≡ x ∷ spread rs
spread-joined x [] = refl
spread-joined x (r ∷ rs) = spread-in (r.1 == x) x r rs refl

-- the values of the runs of a list are that list
pub spread-runs : (xs : List ℕ) → spread (runs_of xs) ≡ xs
spread-runs [] = refl
spread-runs (x ∷ xs) = spread-joined x (runs_of xs) ∙ ap (λ l. x ∷ l) (spread-runs xs)

-- a run of values of which this holds
abbrev pub RunOf : (ℕ → Type 0) → ℕ × ℕ → Type 0
RunOf P r = (1 ≤ r.0) × P r.1

runs-hold-in : (P : ℕ → Type 0) (b : Bool) (x : ℕ) (r : ℕ × ℕ) (rs : List (ℕ × ℕ)) → P x → AllByRecursion (RunOf P) (r ∷ rs) → AllByRecursion (RunOf P) (if b then (r.0 + 1, x) ∷ rs else (1, x) ∷ r ∷ rs)
runs-hold-in P true x r rs p h = ((omega arith, p), h.1)
runs-hold-in P false x r rs p h = ((omega arith, p), h)

runs-hold-joined : (P : ℕ → Type 0) (x : ℕ) (rs : List (ℕ × ℕ)) → P x → AllByRecursion (RunOf P) rs → AllByRecursion (RunOf P) (joined x rs)
runs-hold-joined P x [] p h = ((omega arith, p), tt)
runs-hold-joined P x (r ∷ rs) p h = runs-hold-in P (r.1 == x) x r rs p h

-- a fact of each value is a fact of each run
pub runs-hold : (P : ℕ → Type 0) (xs : List ℕ) → AllByRecursion P xs → AllByRecursion (RunOf P) (runs_of xs)
runs-hold P [] h = tt
runs-hold P (x ∷ xs) h = runs-hold-joined P x (runs_of xs) h.0 (runs-hold P xs h.1)
