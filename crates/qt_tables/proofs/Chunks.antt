-- The run of a chunk, and the number of samples in chunks.
use Rattle.std.proofs.Common.{◌≡◌, ℕ, zero, suc, ◌-◌, ◌+◌, ◌*◌, ◌≤◌, ◌<◌, Bool, true, false, nat_le, nat_lt, ◌&&◌, List, [], ◌∷◌, Option, Some, None, length, take, min, ◌/◌, ◌%◌, refl, sym, ap, ◌∙◌, arith, get_or, mod-lt}
use Rattle.std.specs.Prelude.{slice_get, IfSome}
use Rattle.std.specs.List.{All}
use Rattle.std.proofs.lemmas.Bool.Decides.{nat_tests}
use Rattle.std.proofs.lemmas.List.{take_all}
use Rattle.std.proofs.lemmas.List.Elements.{All-cons, All-nil}
use Rattle.std.proofs.lemmas.List.Sums.{sum_by_more}
use Rattle.std.proofs.Math.Nat.{suc-mul, div-lt_iff_lt-mul}
use Rattle.std.proofs.lemmas.Nat.{div-add-mod'}
use Rattle.std.proofs.lemmas.Option.{get_or_from_slice_get, slice_get-get_or, slice_get_within, slice_get_past}
use Rattle.qt_tables.specs.declared.runs.ChunkRun.{ChunkRun}
use Rattle.qt_tables.specs.Samples.{Chunk, chunk_of, run_from, run_of, no_run, chunks_from, chunks, held_by}
use Rattle.qt_tables.specs.Sums.{chunks_before, held_before, InRun}
use Rattle.qt_tables.specs.Tables.{begins_at_1, is_in_order, AreRuns}

-- ---- runs in order

pub and-left : (a b : Bool) → (a && b) ≡ true → a ≡ true
and-left true b h = refl
and-left false b h = absurd cc

pub and-right : (a b : Bool) → (a && b) ≡ true → b ≡ true
and-right true b h = h
and-right false b h = absurd cc

pub record Head (descriptions from : ℕ) (run : ChunkRun) (runs : List ChunkRun) : Type 0 where
  pub rises : from < run.first
  pub filled : 0 < run.samples
  pub rest : is_in_order descriptions run.first runs ≡ true

head-of : (descriptions from : ℕ) (run : ChunkRun) (runs : List ChunkRun) → is_in_order descriptions from (run ∷ runs) ≡ true → Head descriptions from run runs
head-of descriptions from run runs h =
    let a = nat_lt from run.first in
    let b = nat_lt 0 run.samples in
    let c = nat_lt 0 run.description in
    let d = nat_le run.description descriptions in
    let e = is_in_order descriptions run.first runs in
    let abcd = and-left (a && b && c && d) e h in
    let abc = and-left (a && b && c) d abcd in
    let ab = and-left (a && b) c abc in
    record {
      rises = grind (arith, nat_tests, and-left a b ab);
      filled = grind (arith, nat_tests, and-right a b ab);
      rest = and-right (a && b && c && d) e h;
    }

rises-of : (descriptions from : ℕ) (runs : List ChunkRun) → is_in_order descriptions from runs ≡ true
    → (k : ℕ) (d : ChunkRun) → suc k < length runs → (get_or runs k d).first < (get_or runs (suc k) d).first
rises-of descriptions from [] h k d lt = absurd (omega arith)
rises-of descriptions from (run ∷ []) h k d lt = absurd (omega arith)
rises-of descriptions from (run ∷ next ∷ runs) h zero d lt = (head-of descriptions run.first next runs ((head-of descriptions from run (next ∷ runs) h).rest)).rises
rises-of descriptions from (run ∷ next ∷ runs) h (suc k) d lt = rises-of descriptions run.first (next ∷ runs) ((head-of descriptions from run (next ∷ runs) h).rest) k d (omega arith)

filled-of : (descriptions from : ℕ) (runs : List ChunkRun) → is_in_order descriptions from runs ≡ true → All (λ run. 0 < run.samples) runs
filled-of descriptions from [] h = All-nil (λ run. 0 < run.samples)
filled-of descriptions from (run ∷ runs) h =
    let head = head-of descriptions from run runs h in
    All-cons (λ (r : ChunkRun). 0 < r.samples) run runs head.filled (filled-of descriptions run.first runs head.rest)

pub runs-of : (descriptions : ℕ) (runs : List ChunkRun) → (begins_at_1 runs && is_in_order descriptions 0 runs) ≡ true → AreRuns runs
runs-of descriptions runs h =
    let order = and-right (begins_at_1 runs) (is_in_order descriptions 0 runs) h in
    record {
      begins = and-left (begins_at_1 runs) (is_in_order descriptions 0 runs) h;
      rises = λ k d h. (let e : suc k ≡ k + 1 = omega arith in rw (← e) (rises-of descriptions 0 runs order k d (omega arith)));
      filled = filled-of descriptions 0 runs order;
    }

-- ---- the run of a chunk

at-least-first : (runs : List ChunkRun) → ((k : ℕ) (d : ChunkRun) → suc k < length runs → (get_or runs k d).first < (get_or runs (suc k) d).first)
    → (j : ℕ) (d : ChunkRun) → j < length runs → (get_or runs 0 d).first ≤ (get_or runs j d).first
at-least-first runs rises zero d lt = omega arith
at-least-first runs rises (suc j) d lt = omega (arith, rises j d (omega arith), at-least-first runs rises j d (omega arith))

run-from-at : (runs : List ChunkRun) (run : ChunkRun) (j number : ℕ) (d : ChunkRun) → ((k : ℕ) (e : ChunkRun) → suc k < length runs → (get_or runs k e).first < (get_or runs (suc k) e).first)
    → j < length runs → (get_or runs j d).first ≤ number → IfSome (slice_get runs (suc j)) (λ next. number < next.first) → run_from run runs number ≡ get_or runs j d
run-from-at [] run j number d rises lt begun ends = absurd (omega arith)
run-from-at (next ∷ []) run zero number d rises lt begun ends =
    let e : nat_le next.first number ≡ true = grind (arith, nat_tests) in
    rw e refl
run-from-at (next ∷ other ∷ runs) run zero number d rises lt begun ends =
    let e : nat_le next.first number ≡ true = grind (arith, nat_tests) in
    let f : nat_le other.first number ≡ false = grind (arith, nat_tests, ends) in
    rw (e, f) refl
run-from-at (next ∷ runs) run (suc j) number d rises lt begun ends =
    let first = at-least-first (next ∷ runs) rises (suc j) d lt in
    let e : nat_le next.first number ≡ true = grind (arith, nat_tests, first) in
    rw e (run-from-at runs next j number d (λ k f h. rises (suc k) f (omega arith)) (omega arith) begun ends)

rises-suc : (runs : List ChunkRun) → AreRuns runs → (k : ℕ) (d : ChunkRun) → suc k < length runs → (get_or runs k d).first < (get_or runs (suc k) d).first
rises-suc runs are k d h = let e : k + 1 ≡ suc k = omega arith in rw (← e) (are.rises k d (omega arith))

pub run-at : (runs : List ChunkRun) (j number : ℕ) (d : ChunkRun) → AreRuns runs → j < length runs → (get_or runs j d).first ≤ number
    → IfSome (slice_get runs (j + 1)) (λ next. number < next.first) → run_of runs number ≡ get_or runs j d
run-at runs j number d are lt begun ends =
    let e : j + 1 ≡ suc j = omega arith in
    run-from-at runs no_run j number d (rises-suc runs are) lt begun (let f : IfSome (slice_get runs (suc j)) (λ next. number < next.first) = rw (← e) ends in f)

-- ---- the chunk at an index

pub length-chunks_from : (runs : List ChunkRun) (number : ℕ) (offsets : List ℕ) → length (chunks_from runs number offsets) ≡ length offsets
length-chunks_from runs number [] = refl
length-chunks_from runs number (offset ∷ offsets) = ap suc (length-chunks_from runs (number + 1) offsets)

pub chunk-from-at : (runs : List ChunkRun) (number : ℕ) (offsets : List ℕ) (c : ℕ) (d : Chunk) → c < length offsets → get_or (chunks_from runs number offsets) c d ≡ chunk_of (get_or offsets c 0) (run_of runs (number + c))
chunk-from-at runs number [] c d lt = absurd (omega arith)
chunk-from-at runs number (offset ∷ offsets) zero d lt = ap (λ n. chunk_of offset (run_of runs n)) (let e : number ≡ number + 0 = omega arith in e)
chunk-from-at runs number (offset ∷ offsets) (suc c) d lt =
    chunk-from-at runs (number + 1) offsets c d (omega arith) ∙ ap (λ n. chunk_of (get_or offsets c 0) (run_of runs n)) (let e : (number + 1) + c ≡ number + suc c = omega arith in e)

-- ---- samples of these chunks

-- chunks that hold the same number of samples each
pub held-more : (cs : List Chunk) (a m samples : ℕ) (d : Chunk) → a + m ≤ length cs → ((k : ℕ) → a ≤ k → k < a + m → (get_or cs k d).samples ≡ samples)
    → held_by (take (a + m) cs) ≡ held_by (take a cs) + m * samples
held-more cs a zero samples d fits same =
    let e : a + 0 ≡ a = omega arith in
    let z : 0 * samples ≡ 0 = omega arith in
    ap (λ n. held_by (take n cs)) e ∙ (let f : held_by (take a cs) ≡ held_by (take a cs) + 0 * samples = omega (arith, z) in f)
held-more cs a (suc m) samples d fits same =
    let e : a + suc m ≡ (a + m) + 1 = omega arith in
    let one : held_by (take ((a + m) + 1) cs) ≡ held_by (take (a + m) cs) + (get_or cs (a + m) d).samples = sum_by_more (λ (c : Chunk). c.samples) cs (a + m) d (omega arith) in
    let before = held-more cs a m samples d (omega arith) (λ k le lt. same k le (omega arith)) in
    let last = same (a + m) (omega arith) (omega arith) in
    let product : suc m * samples ≡ m * samples + samples = suc-mul m samples in
    ap (λ n. held_by (take n cs)) e ∙ one ∙ (let f : held_by (take (a + m) cs) + (get_or cs (a + m) d).samples ≡ held_by (take a cs) + suc m * samples = omega (arith, before, last, product) in f)

-- ---- chunks before runs

front-of : (n : ℕ) (runs : List ChunkRun) (j : ℕ) (d : ChunkRun) → j < length runs → chunks_before n (slice_get runs j) ≡ min ((get_or runs j d).first - 1) n
front-of n runs j d lt = ap (chunks_before n) (slice_get-get_or runs j d lt)

first-rises : (runs : List ChunkRun) (j : ℕ) (d next : ChunkRun) → AreRuns runs → slice_get runs (j + 1) ≡ Some next → (get_or runs j d).first < next.first
first-rises runs j d next are e =
    let rise = are.rises j d (slice_get_within runs (j + 1) next e) in
    let same = ap (λ (r : ChunkRun). r.first) (get_or_from_slice_get runs (j + 1) next d e) in
    (let f : (get_or runs j d).first < next.first = rw (← same) rise in f)

front-rises : (n j : ℕ) (runs : List ChunkRun) (d : ChunkRun) (next : Option ChunkRun) → AreRuns runs → slice_get runs (j + 1) ≡ next
    → min ((get_or runs j d).first - 1) n ≤ chunks_before n next
front-rises n j runs d None are e = omega arith
front-rises n j runs d (Some next) are e = let rise = first-rises runs j d next are e in omega (arith, rise)

pub fronts-rise : (n j : ℕ) (runs : List ChunkRun) → AreRuns runs → j < length runs → chunks_before n (slice_get runs j) ≤ chunks_before n (slice_get runs (j + 1))
fronts-rise n j runs are lt = rw (front-of n runs j no_run lt) (front-rises n j runs no_run (slice_get runs (j + 1)) are refl)

front-few : (n : ℕ) (next : Option ChunkRun) → chunks_before n next ≤ n
front-few n None = omega arith
front-few n (Some next) = omega arith

ends-before : (n c : ℕ) (next : Option ChunkRun) → c < chunks_before n next → IfSome next (λ run. 1 + c < run.first)
ends-before n c None lt = tt
ends-before n c (Some next) lt = omega arith

-- a chunk before the next run, and not before this one, belongs to this run
pub chunk-of-run : (runs : List ChunkRun) (offsets : List ℕ) (j c : ℕ) (d : ChunkRun) (e : Chunk) → AreRuns runs → j < length runs
    → chunks_before (length offsets) (slice_get runs j) ≤ c → c < chunks_before (length offsets) (slice_get runs (j + 1))
    → get_or (chunks runs offsets) c e ≡ chunk_of (get_or offsets c 0) (get_or runs j d)
chunk-of-run runs offsets j c d e are lt from to =
    let few = front-few (length offsets) (slice_get runs (j + 1)) in
    let front = front-of (length offsets) runs j d lt in
    let begun : (get_or runs j d).first ≤ 1 + c = omega (arith, few, from, to, front) in
    chunk-from-at runs 1 offsets c e (omega (arith, few, to))
    ∙ ap (chunk_of (get_or offsets c 0)) (run-at runs j (1 + c) d are lt begun (ends-before (length offsets) c (slice_get runs (j + 1)) to))

-- the samples before a chunk of a run
pub held-in-run : (runs : List ChunkRun) (offsets : List ℕ) (j m : ℕ) (d : ChunkRun) → AreRuns runs → j < length runs
    → chunks_before (length offsets) (slice_get runs j) + m ≤ chunks_before (length offsets) (slice_get runs (j + 1))
    → held_by (take (chunks_before (length offsets) (slice_get runs j) + m) (chunks runs offsets)) ≡ held_before runs offsets j + m * (get_or runs j d).samples
held-in-run runs offsets j m d are lt fits =
    let e : Chunk = chunk_of 0 no_run in
    let few = front-few (length offsets) (slice_get runs (j + 1)) in
    let len = length-chunks_from runs 1 offsets in
    held-more (chunks runs offsets) (chunks_before (length offsets) (slice_get runs j)) m (get_or runs j d).samples e (omega (arith, few, fits, len))
    (λ k le less. ap (λ (c : Chunk). c.samples) (chunk-of-run runs offsets j k d e are lt le (omega (arith, less, fits))))

-- the samples before the next run
pub held-next : (runs : List ChunkRun) (offsets : List ℕ) (j a b : ℕ) (d : ChunkRun) → AreRuns runs → j < length runs
    → a ≡ chunks_before (length offsets) (slice_get runs j) → b ≡ chunks_before (length offsets) (slice_get runs (j + 1))
    → held_before runs offsets (j + 1) ≡ held_before runs offsets j + (b - a) * (get_or runs j d).samples
held-next runs offsets j a b d are lt ea eb =
    let rise = fronts-rise (length offsets) j runs are lt in
    let sum : chunks_before (length offsets) (slice_get runs j) + (b - a) ≡ chunks_before (length offsets) (slice_get runs (j + 1)) = omega (arith, rise, ea, eb) in
    ap (λ n. held_by (take n (chunks runs offsets))) (sym sum) ∙ held-in-run runs offsets j (b - a) d are lt (omega (arith, sum))

-- no samples lie before the first run
pub held-first : (runs : List ChunkRun) (offsets : List ℕ) → AreRuns runs → 0 ≡ held_before runs offsets 0
held-first [] offsets are =
    let e : Chunk = chunk_of 0 no_run in
    let len = length-chunks_from [] 1 offsets in
    let all = held-more (chunks [] offsets) 0 (length offsets) 0 e (omega (arith, len)) (λ k le less. ap (λ (c : Chunk). c.samples) (chunk-from-at [] 1 offsets k e (omega (arith, less)))) in
    let n : 0 + length offsets ≡ length offsets = omega arith in
    let z : length offsets * 0 ≡ 0 = omega arith in
    let s : 0 + length offsets * 0 ≡ 0 = omega (arith, z) in
    sym (ap (λ n. held_by (take n (chunks [] offsets))) (sym n) ∙ all ∙ s)
held-first (run ∷ runs) offsets are =
    let one : run.first ≡ 1 = grind (arith, nat_tests, are.begins) in
    let e : min (run.first - 1) (length offsets) ≡ 0 = omega (arith, one) in
    sym (ap (λ n. held_by (take n (chunks (run ∷ runs) offsets))) e)

-- ---- the chunk of a sample

pub in-run : (runs : List ChunkRun) (offsets : List ℕ) (j i : ℕ) (d : ChunkRun) → AreRuns runs → j < length runs → held_before runs offsets j ≤ i → i < held_before runs offsets (j + 1)
    → InRun runs offsets i (((get_or runs j d).first - 1) + (i - held_before runs offsets j) / (get_or runs j d).samples) (i - (i - held_before runs offsets j) % (get_or runs j d).samples) (get_or runs j d)
in-run runs offsets j i d are lt begun ends =
    let run = get_or runs j d in
    let s = run.samples in
    let n = length offsets in
    let a = chunks_before n (slice_get runs j) in
    let b = chunks_before n (slice_get runs (j + 1)) in
    let h = held_before runs offsets j in
    let q = (i - h) / s in
    let e : Chunk = chunk_of 0 no_run in
    let some : 0 < s = are.filled j d lt in
    let rise = fronts-rise n j runs are lt in
    let next = held-next runs offsets j a b d are lt refl refl in
    let within : i - h < (b - a) * s = omega (arith, begun, ends, next) in
    let fewer : q < b - a = (div-lt_iff_lt-mul some).1 within in
    let few = front-few n (slice_get runs (j + 1)) in
    let front = front-of n runs j d lt in
    let place : (run.first - 1) + q ≡ a + q = omega (arith, front, few, fewer) in
    let held = held-in-run runs offsets j q d are lt (omega (arith, fewer)) in
    let parts = div-add-mod' (i - h) s in
    let below : (i - h) % s < s = mod-lt (i - h) some in
    let len = length-chunks_from runs 1 offsets in
    let in_chunks : (run.first - 1) + q < length (chunks runs offsets) = omega (arith, place, fewer, few, len) in
    record {
      in_range = omega (arith, place, fewer, few);
      chunk = slice_get-get_or (chunks runs offsets) ((run.first - 1) + q) e in_chunks ∙ ap Some (chunk-of-run runs offsets j ((run.first - 1) + q) d e are lt (omega (arith, place)) (omega (arith, place, fewer)));
      first = (let f : i - (i - h) % s ≡ held_by (take (a + q) (chunks runs offsets)) = omega (arith, held, parts, begun) in f) ∙ ap (λ m. held_by (take m (chunks runs offsets))) (sym place);
      begun = omega arith;
      ends = omega (arith, below, parts, begun);
    }

-- the prefix sum after the last run counts all samples
pub held-all : (runs : List ChunkRun) (offsets : List ℕ) → held_before runs offsets (length runs) ≡ held_by (chunks runs offsets)
held-all runs offsets =
    let past : slice_get runs (length runs) ≡ None = slice_get_past runs (length runs) (omega arith) in
    let len = length-chunks_from runs 1 offsets in
    ap (λ o. held_by (take (chunks_before (length offsets) o) (chunks runs offsets))) past ∙ ap held_by (take_all (length offsets) (chunks runs offsets) (omega (arith, len)))

-- if there are samples, there is a run
pub some-run : (runs : List ChunkRun) (offsets : List ℕ) (i : ℕ) → AreRuns runs → i < held_by (chunks runs offsets) → 1 ≤ length runs
some-run [] offsets i are lt = absurd (omega (arith, held-first [] offsets are, held-all [] offsets, lt))
some-run (run ∷ runs) offsets i are lt = omega arith

first-is : (runs : List ChunkRun) (d : ChunkRun) → AreRuns runs → 0 < length runs → (get_or runs 0 d).first ≡ 1
first-is [] d are lt = absurd (omega arith)
first-is (run ∷ runs) d are lt = grind (arith, nat_tests, are.begins)

pub first-of : (runs : List ChunkRun) (k : ℕ) (d : ChunkRun) → AreRuns runs → k < length runs → 1 ≤ (get_or runs k d).first
first-of runs k d are lt = omega (arith, at-least-first runs (rises-suc runs are) k d lt, first-is runs d are (omega arith))
