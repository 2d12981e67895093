-- The chunks of runs of equal shares of sound: one for each share.
use Rattle.std.proofs.Common.{◌≡◌, refl, ℕ, zero, suc, ◌+◌, ◌≤◌, ◌<◌, ◌^◌, true, false, nat_lt, nat_le, List, [], ◌∷◌, ◌++◌, length, map, replicate, arith, ap, ◌∙◌, length-append}
use Rattle.std.specs.List.{AllByRecursion, sum_by}
use Rattle.std.proofs.lemmas.Bool.Decides.{nat_tests}
use Rattle.std.proofs.lemmas.List.{length-replicate}
use Rattle.std.proofs.lemmas.List.Sums.{sum_by-cons}
use Rattle.qt_tables.specs.declared.runs.ChunkRun.{ChunkRun}
use Rattle.qt_tables.specs.Samples.{Chunk, run_from, run_of, no_run, chunk_of, chunks_from, chunks, held_by}
use Rattle.qt_tables.specs.Tables.{begins_at_1, is_in_order}
use Rattle.qt_movie.proofs.WrittenTables.{chunk_run, RunFits}
use Rattle.pcm_track.specs.Adding.{runs_of, chunk_runs}
use Rattle.pcm_track.proofs.Runs.{counted}
use Rattle.sound_round.proofs.EqualRuns.{spread, spread-runs, RunOf}

-- ---- the runs of chunks

abbrev pub IsShare : ℕ → Type 0
IsShare n = (1 ≤ n) × (n < 2 ^ 32)

pub runs-in-order : (from number : ℕ) (rs : List (ℕ × ℕ)) → from < number → AllByRecursion (RunOf IsShare) rs → is_in_order 1 from (map chunk_run (chunk_runs number rs)) ≡ true
runs-in-order from number [] lt h = refl
runs-in-order from number (r ∷ rs) lt h =
    let a : nat_lt from number ≡ true = grind (arith, nat_tests) in
    let b : nat_lt 0 r.1 ≡ true = grind (arith, nat_tests, h.0.1.0) in
    rw (a, b) (runs-in-order number (number + r.0) rs (omega (arith, h.0.0)) h.1)

pub runs-begin : (rs : List (ℕ × ℕ)) → begins_at_1 (map chunk_run (chunk_runs 1 rs)) ≡ true
runs-begin [] = refl
runs-begin (r ∷ rs) = refl

pub runs-fit : (number : ℕ) (rs : List (ℕ × ℕ)) → AllByRecursion (RunOf IsShare) rs → number + counted rs < 2 ^ 32 → AllByRecursion RunFits (chunk_runs number rs)
runs-fit number [] h few = tt
runs-fit number (r ∷ rs) h few =
    let one = sum_by-cons (λ (q : ℕ × ℕ). q.0) r rs in
    ((omega (arith, few, one), h.0.1.1, omega arith), runs-fit (number + r.0) rs h.1 (omega (arith, few, one)))

-- ---- the chunks

-- chunks at these offsets, with these numbers of frames
abbrev pub chunks_at : (places frames : List ℕ) → List Chunk
chunks_at (place ∷ places) (n ∷ ns) = record { at = place; samples = n; description = 1 } ∷ chunks_at places ns
chunks_at _ _ = []

run-later : (k number : ℕ) (run : ChunkRun) (rs : List (ℕ × ℕ)) → k < number → run_from run (map chunk_run (chunk_runs number rs)) k ≡ run
run-later k number run [] lt = refl
run-later k number run (r ∷ rs) lt = let e : nat_le number k ≡ false = grind (arith, nat_tests) in rw e refl

begun : (before run : ChunkRun) (runs : List ChunkRun) (k : ℕ) → run.first ≤ k → run_from before (run ∷ runs) k ≡ run_from run runs k
begun before run runs k le = let e : nat_le run.first k ≡ true = grind (arith, nat_tests) in rw e refl

-- the chunks of one run, and those after it
run-chunks : (all : List ChunkRun) (first count number n : ℕ) (places ns : List ℕ) → ((k : ℕ) → number ≤ k → k < number + count → run_of all k ≡ chunk_run (first, n, 1))
    → ((later : List ℕ) → length later ≡ length ns → chunks_from all (number + count) later ≡ chunks_at later ns) → length places ≡ count + length ns
    → chunks_from all number places ≡ chunks_at places (replicate count n ++ ns)
run-chunks all first zero number n places ns here behind many =
    let e : number ≡ number + 0 = omega arith in
    ap (λ (k : ℕ). chunks_from all k places) e ∙ behind places (omega (arith, many))
run-chunks all first (suc count) number n [] ns here behind many = absurd (omega (arith, many))
run-chunks all first (suc count) number n (place ∷ places) ns here behind many =
    let e : (number + 1) + count ≡ number + suc count = omega arith in
    ap (λ (run : ChunkRun). chunk_of place run ∷ chunks_from all (number + 1) places) (here number (omega arith) (omega arith))
    ∙ ap (λ l. chunk_of place (chunk_run (first, n, 1)) ∷ l)
    (run-chunks all first count (number + 1) n places ns (λ k le lt. here k (omega arith) (omega arith)) (λ later l. ap (λ (k : ℕ). chunks_from all k later) e ∙ behind later l) (omega (arith, many)))

all-chunks : (rs : List (ℕ × ℕ)) (all : List ChunkRun) (before : ChunkRun) (number : ℕ) (places : List ℕ)
    → ((k : ℕ) → number ≤ k → run_of all k ≡ run_from before (map chunk_run (chunk_runs number rs)) k) → length places ≡ length (spread rs)
    → chunks_from all number places ≡ chunks_at places (spread rs)
all-chunks [] all before number [] is many = refl
all-chunks [] all before number (place ∷ places) is many = absurd (omega (arith, many))
all-chunks (r ∷ rs) all before number places is many =
    let run = chunk_run (number, r.1, 1) in
    let rest = map chunk_run (chunk_runs (number + r.0) rs) in
    run-chunks all number r.0 number r.1 places (spread rs)
    (λ k le lt. is k le ∙ begun before run rest k le ∙ run-later k (number + r.0) run rs lt)
    (λ later l. all-chunks rs all run (number + r.0) later (λ k le. is k (omega arith) ∙ begun before run rest k (omega arith)) l)
    (omega (arith, many, length-append (replicate r.0 r.1) (spread rs), length-replicate {A = ℕ} r.0 r.1))

-- the runs of equal shares have one chunk for each share
pub chunks-told : (xs places : List ℕ) → length places ≡ length xs → chunks (map chunk_run (chunk_runs 1 (runs_of xs))) places ≡ chunks_at places xs
chunks-told xs places many =
    let rs = runs_of xs in
    all-chunks rs (map chunk_run (chunk_runs 1 rs)) no_run 1 places (λ k le. refl) (omega (arith, many, ap length (spread-runs xs))) ∙ ap (chunks_at places) (spread-runs xs)

-- they hold all shares
pub held-told : (places ns : List ℕ) → length places ≡ length ns → held_by (chunks_at places ns) ≡ sum_by (λ (n : ℕ). n) ns
held-told [] [] many = refl
held-told [] (n ∷ ns) many = absurd (omega (arith, many))
held-told (place ∷ places) [] many = absurd (omega (arith, many))
held-told (place ∷ places) (n ∷ ns) many =
    let c : Chunk = record { at = place; samples = n; description = 1 } in
    omega (arith, sum_by-cons (λ (q : Chunk). q.samples) c (chunks_at places ns), sum_by-cons (λ (k : ℕ). k) n ns, held-told places ns (omega (arith, many)))
