-- Written tables are read back, and their samples are those that were written.
use Rattle.std.proofs.Common.{◌≡◌, ℕ, ◌+◌, ◌≤◌, true, nat_le, List, [], ◌∷◌, length, take, drop, replicate, refl, ap, ◌∙◌, arith, length-append}
use Rattle.std.proofs.lemmas.Bool.Decides.{nat_tests}
use Rattle.std.proofs.lemmas.List.{append-nil, length-take-le, length-drop}
use Rattle.std.proofs.lemmas.List.Sums.{sum_by-cons}
use Rattle.qt_tables.specs.declared.runs.ChunkRun.{ChunkRun}
use Rattle.qt_tables.specs.declared.runs.Sample.{Sample}
use Rattle.qt_tables.specs.declared.writer.Extent.{Extent}
use Rattle.qt_tables.specs.Samples.{Tables, Chunk, samples, durations, run_of, chunk_of, chunks_from, chunks, held_by, samples_at, samples_in}
use Rattle.qt_tables.specs.Tables.{AreTables}
use Rattle.qt_tables.specs.Writing.{sizes_of, places_of, written_tables, written_samples}
use Rattle.qt_tables.proofs.Places.{length-samples_at, length-durations}

-- ---- as many samples as sizes

length-in : (cs : List Chunk) (sizes times : List ℕ) → held_by cs ≡ length sizes → length times ≡ length sizes → length (samples_in cs sizes times) ≡ length sizes
length-in [] sizes times h e = h
length-in (c ∷ cs) sizes times h e =
    let n = c.samples in
    let one = sum_by-cons (λ (q : Chunk). q.samples) c cs in
    let k : length (take n sizes) ≡ n = length-take-le n sizes (omega (arith, one, h)) in
    let front = length-samples_at c.description c.at (take n sizes) times (omega (arith, k, e, one, h)) in
    let rest = length-in cs (drop n sizes) (drop n times) (omega (arith, one, h, length-drop n sizes)) (omega (arith, e, length-drop n sizes, length-drop n times)) in
    omega (arith, length-append (samples_at c.description c.at (take n sizes) times) (samples_in cs (drop n sizes) (drop n times)), front, k, rest, length-drop n sizes, one, h)

pub samples_counted : (t : Tables) → AreTables t → length (samples t) ≡ length t.sizes
samples_counted t are = length-in (chunks t.runs t.offsets) t.sizes (durations t.times) are.chunked (length-durations t.times ∙ are.timed)

-- ---- one sample in each chunk

abbrev pub one_each : List ChunkRun
one_each = record { first = 1; samples = 1; description = 1 } ∷ []

run-one : (number : ℕ) → 1 ≤ number → run_of one_each number ≡ record { first = 1; samples = 1; description = 1 }
run-one number h = let e : nat_le 1 number ≡ true = grind (arith, nat_tests) in rw e refl

given-from : (es : List Extent) (number duration : ℕ) → 1 ≤ number → samples_in (chunks_from one_each number (places_of es)) (sizes_of es) (replicate (length es) duration) ≡ written_samples es duration
given-from [] number duration h = refl
given-from (e ∷ es) number duration h =
    rw (run-one number h) (ap (λ l. (let s : Sample = record { at = e.at; size = e.size; duration = duration; description = 1 } in s) ∷ l) (given-from es (number + 1) duration (omega arith)))

pub held-ones : (offsets : List ℕ) (number : ℕ) → 1 ≤ number → held_by (chunks_from one_each number offsets) ≡ length offsets
held-ones [] number h = refl
held-ones (offset ∷ offsets) number h =
    let one = sum_by-cons (λ (q : Chunk). q.samples) (chunk_of offset (run_of one_each number)) (chunks_from one_each (number + 1) offsets) in
    let e : (run_of one_each number).samples ≡ 1 = ap (λ (r : ChunkRun). r.samples) (run-one number h) in
    omega (arith, one, e, held-ones offsets (number + 1) (omega arith))

pub written_given : (es : List Extent) (duration timescale : ℕ) → samples (written_tables es duration timescale) ≡ written_samples es duration
written_given [] duration timescale = refl
written_given (e ∷ es) duration timescale =
    ap (samples_in (chunks_from one_each 1 (places_of (e ∷ es))) (sizes_of (e ∷ es))) (append-nil (replicate (length (e ∷ es)) duration)) ∙ given-from (e ∷ es) 1 duration (omega arith)
