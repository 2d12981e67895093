-- The samples of tables with one sample in each chunk.
use Rattle.std.proofs.Common.{◌≡◌, ℕ, ◌+◌, ◌≤◌, ◌<◌, ◌^◌, true, nat_le, List, [], ◌∷◌, length, map, refl, sym, ap, subst, ◌∙◌, arith}
use Rattle.std.specs.List.{All, AllByRecursion}
use Rattle.std.proofs.lemmas.Bool.Decides.{nat_tests}
use Rattle.std.proofs.lemmas.List.{length-map}
use Rattle.std.proofs.lemmas.List.Elements.{All-from_recursion, recursion_from_All}
use Rattle.qt_tables.specs.declared.runs.TimeRun.{TimeRun}
use Rattle.qt_tables.specs.declared.runs.ChunkRun.{ChunkRun}
use Rattle.qt_tables.specs.declared.runs.Sample.{Sample}
use Rattle.qt_tables.specs.Samples.{Tables, run_of, chunks_from, chunks, held_by, durations, samples_in, samples}
use Rattle.qt_tables.specs.Tables.{is_in_order, AreRuns, AreTables}
use Rattle.qt_tables.proofs.Again.{held-ones}
use Rattle.qt_tables.proofs.Places.{length-durations}
use Rattle.qt_movie.specs.Trak.{TrakValues}
use Rattle.qt_movie.specs.Laws.{tables_of, one_each, HasSamples, LoneSamplesAreTold}
use Rattle.qt_movie.proofs.WrittenTables.{time_run, chunk_run}
use Rattle.qt_tables.specs.declared.tables.TheConstants.{MAX_SAMPLES}

abbrev one_run : ChunkRun
one_run = record { first = 1; samples = 1; description = 1 }

run-one : (number : ℕ) → 1 ≤ number → run_of (one_run ∷ []) number ≡ one_run
run-one number h = let e : nat_le 1 number ≡ true = grind (arith, nat_tests) in rw e refl

by-the-first : (s : Sample) → s.description ≡ 1 → (let q : Sample = record { at = s.at; size = s.size; duration = s.duration; description = 1 } in q) ≡ s
by-the-first s e = rw (← e) refl

given-from : (ss : List Sample) (number : ℕ) → 1 ≤ number → AllByRecursion (λ (s : Sample). s.description ≡ 1) ss
    → samples_in (chunks_from (one_run ∷ []) number (map (λ (s : Sample). s.at) ss)) (map (λ (s : Sample). s.size) ss) (map (λ (s : Sample). s.duration) ss) ≡ ss
given-from [] number h first = refl
given-from (s ∷ ss) number h first =
    rw (run-one number h) (ap (λ (q : Sample). q ∷ samples_in (chunks_from (one_run ∷ []) (number + 1) (map (λ (s : Sample). s.at) ss)) (map (λ (s : Sample). s.size) ss) (map (λ (s : Sample). s.duration) ss)) (by-the-first s first.0)
    ∙ ap (λ l. s ∷ l) (given-from ss (number + 1) (omega arith) first.1))

-- the tables of such a track
abbrev lone : (timescale : ℕ) → List TimeRun → List Sample → Tables
lone timescale times ss = record {
  timescale = timescale;
  sizes = map (λ s. s.size) ss;
  times = times;
  runs = map chunk_run (one_each ss);
  offsets = map (λ s. s.at) ss;
}

are-lone : (t : TrakValues) (ss : List Sample) → HasSamples t ss → tables_of t ≡ lone t.timescale (map time_run t.stts) ss
are-lone t ss h = rw (h.common, h.sizes, h.runs, h.places) refl

near : (ss : List Sample) → AllByRecursion (λ (s : Sample). s.at < 2 ^ 62) ss → AllByRecursion (λ offset. offset < 2 ^ 62) (map (λ (s : Sample). s.at) ss)
near [] h = tt
near (s ∷ ss) h = (h.0, near ss h.1)

few-runs : (ss : List Sample) → length (map chunk_run (one_each ss)) ≤ 1
few-runs [] = omega arith
few-runs (s ∷ ss) = omega arith

are-runs : (ss : List Sample) → AreRuns (map chunk_run (one_each ss))
are-runs [] = record { begins = refl; rises = λ k d lt. absurd (omega (arith, lt)); filled = All-from_recursion (λ (r : ChunkRun). 0 < r.samples) [] tt }
are-runs (s ∷ ss) = record {
  begins = refl;
  rises = λ k d lt. absurd (omega (arith, lt));
  filled = All-from_recursion (λ (r : ChunkRun). 0 < r.samples) (one_run ∷ []) (omega arith, tt);
}

lone-in_order : (ss : List Sample) → is_in_order 1 0 (map chunk_run (one_each ss)) ≡ true
lone-in_order [] = refl
lone-in_order (s ∷ ss) = refl

held : (ss : List Sample) → held_by (chunks (map chunk_run (one_each ss)) (map (λ (s : Sample). s.at) ss)) ≡ length ss
held [] = refl
held (s ∷ ss) = held-ones (map (λ (s : Sample). s.at) (s ∷ ss)) 1 (omega arith) ∙ length-map (s ∷ ss) (λ (s : Sample). s.at)

given : (ss : List Sample) → AllByRecursion (λ (s : Sample). s.description ≡ 1) ss
    → samples_in (chunks (map chunk_run (one_each ss)) (map (λ (s : Sample). s.at) ss)) (map (λ (s : Sample). s.size) ss) (map (λ (s : Sample). s.duration) ss) ≡ ss
given [] first = refl
given (s ∷ ss) first = given-from (s ∷ ss) 1 (omega arith) first

are-tables : (timescale : ℕ) (times : List TimeRun) (ss : List Sample) → 1 ≤ timescale → length ss ≤ MAX_SAMPLES → length times ≤ MAX_SAMPLES → All (λ s. s.at < 2 ^ 62) ss → durations times ≡ map (λ s. s.duration) ss
    → AreTables (lone timescale times ss)
are-tables timescale times ss some few few_times close lasts =
    let sizes = length-map ss (λ (s : Sample). s.size) in
    record {
      timescale = some;
      few_samples = omega (arith, sizes, few);
      few_times = few_times;
      few_runs = omega (arith, few-runs ss);
      few_chunks = omega (arith, length-map ss (λ (s : Sample). s.at), few);
      near = All-from_recursion (λ offset. offset < 2 ^ 62) (map (λ (s : Sample). s.at) ss) (near ss (recursion_from_All (λ (s : Sample). s.at < 2 ^ 62) ss close));
      runs = are-runs ss;
      timed = sym (length-durations times) ∙ ap length lasts ∙ length-map ss (λ (s : Sample). s.duration) ∙ sym sizes;
      chunked = held ss ∙ sym sizes;
    }

pub lone_told : LoneSamplesAreTold
lone_told t ss h some few few_times close =
    let T = lone t.timescale (map time_run t.stts) ss in
    let e = are-lone t ss h in
    let times : length (map time_run t.stts) ≤ MAX_SAMPLES = omega (arith, length-map t.stts time_run, few_times) in
    let told : samples T ≡ ss = ap (samples_in (chunks T.runs T.offsets) T.sizes) h.durations ∙ given ss (recursion_from_All (λ (s : Sample). s.description ≡ 1) ss h.described) in
    record {
      tables = subst AreTables (sym e) (are-tables t.timescale (map time_run t.stts) ss some few times close h.durations);
      in_order = ap (λ (T : Tables). is_in_order 1 0 T.runs) e ∙ lone-in_order ss;
      samples = ap (λ (T : Tables). samples T) e ∙ told;
    }
