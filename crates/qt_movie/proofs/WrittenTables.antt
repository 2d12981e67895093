-- The sample tables of a written track are read.
use Rattle.std.proofs.Common.{◌≡◌, ℕ, ◌+◌, ◌*◌, ◌≤◌, ◌<◌, ◌^◌, Bool, true, false, nat_lt, List, [], ◌∷◌, ◌++◌, length, take, drop, map, replicate, Ok, refl, sym, ap, ◌∙◌, arith}
use Rattle.std.specs.Prelude.{codes, ◌&&◌, ◌==◌, if◌then◌else◌}
use Rattle.std.specs.List.{flat_map, AllByRecursion}
use Rattle.std.specs.Int.{w32, from_be_bytes}
use Rattle.std.proofs.lemmas.Bool.Decides.{nat_tests}
use Rattle.std.proofs.lemmas.Nat.{from_be_bytes-to_be_bytes_4}
use Rattle.pw_outside.specs.Reading.{bind}
use Rattle.qt_atoms.specs.declared.atom.Atom.{Atom}
use Rattle.qt_atoms.specs.Atoms.{number_in}
use Rattle.qt_atoms.specs.Written.{Node, rows}
use Rattle.qt_tables.specs.declared.runs.TimeRun.{TimeRun}
use Rattle.qt_tables.specs.declared.runs.ChunkRun.{ChunkRun}
use Rattle.qt_tables.specs.Tables.{body_length, sizes_in, times_in, time_run_at, runs_in, chunk_run_at, begins_at_1, is_in_order, offsets_in}
use Rattle.qt_atoms.proofs.WrittenAtoms.{rows-at, numbers-from, longs-from}
use Rattle.qt_tables.proofs.Assembled.{wider}
use Rattle.qt_tables.proofs.Reread.{counted, sizes-given, near-given, far-given}
use Rattle.qt_movie.specs.Bodies.{node, be32}
use Rattle.qt_movie.specs.Trak.{time_bytes, run_bytes, stts_body, stsc_body, stsz_body, are_near, stco_body, co64_body}
use Rattle.qt_movie.proofs.Lengths.{length-stts, length-stsc, length-stsz, length-stco, length-co64}
use Rattle.qt_movie.proofs.Stands.{Stands, atom_here, body_here, field_here}
use Rattle.qt_movie.proofs.WrittenFields.{further, body-of}
use Rattle.qt_tables.specs.declared.tables.TheConstants.{MAX_SAMPLES}

-- ---- rows

-- a 32-bit field
pub number_here : (file rest : List ℕ) (place j n : ℕ) → drop place file ≡ rest → take 4 (drop j rest) ≡ be32 n → n < 2 ^ 32 → number_in w32 file (place + j) ≡ n
number_here file rest place j n there is fits = ap (from_be_bytes w32) (field_here file rest place 4 j there ∙ is) ∙ from_be_bytes-to_be_bytes_4 n fits

first_here : (file rest : List ℕ) (place n : ℕ) → drop place file ≡ rest → take 4 rest ≡ be32 n → n < 2 ^ 32 → number_in w32 file place ≡ n
first_here file rest place n there is fits = ap (λ l. from_be_bytes w32 (take 4 l)) there ∙ ap (from_be_bytes w32) is ∙ from_be_bytes-to_be_bytes_4 n fits

-- ---- durations

abbrev pub time_run : ℕ × ℕ → TimeRun
time_run r = record { count = r.0; duration = r.1 }

time-equal : (count count' duration duration' : ℕ) → count ≡ count' → duration ≡ duration' → (let r : TimeRun = record { count = count; duration = duration } in r) ≡ record { count = count'; duration = duration' }
time-equal count count' duration duration' e f = rw (e, f) refl

times-at : (file : List ℕ) (place : ℕ) (runs : List (ℕ × ℕ)) (behind : List ℕ) → drop place file ≡ flat_map time_bytes runs ++ behind → AllByRecursion (λ r. (r.0 < 2 ^ 32) × (r.1 < 2 ^ 32)) runs
    → rows (time_run_at file) place 8 (length runs) ≡ map time_run runs
times-at file place runs behind there h =
    rows-at (time_run_at file) time_bytes time_run 8 (λ r. (r.0 < 2 ^ 32) × (r.1 < 2 ^ 32)) file
    (λ place r rest e fits. time-equal (number_in w32 file place) r.0 (number_in w32 file (place + 4)) r.1
    (first_here file (time_bytes r ++ rest) place r.0 e refl fits.0) (number_here file (time_bytes r ++ rest) place 4 r.1 e refl fits.1))
    (λ r. refl) place runs behind there h

times-given : (file : List ℕ) (stts : Atom) (count : ℕ) (times : List TimeRun) (len : ℕ) → body_length stts ≡ len → number_in w32 file (stts.body + 4) ≡ count → count ≤ MAX_SAMPLES → len ≡ 8 + 8 * count
    → rows (time_run_at file) (stts.body + 8) 8 count ≡ times → times_in file stts ≡ Ok times
unfolding times_in bind
times-given file stts count times len l n few e all = rw (counted file stts 4 8 len count l n (omega (arith, e)) few (omega (arith, e)), all) refl

pub times-written : (file : List ℕ) (at : ℕ) (runs : List (ℕ × ℕ)) → Stands file at (node (codes "stts") (stts_body runs)) → length runs ≤ MAX_SAMPLES → AllByRecursion (λ r. (r.0 < 2 ^ 32) × (r.1 < 2 ^ 32)) runs
    → times_in file (atom_here at (node (codes "stts") (stts_body runs))) ≡ Ok (map time_run runs)
times-written file at runs s few fits =
    let body = stts_body runs in
    let n = node (codes "stts") body in
    let there = body_here file at n refl s in
    times-given file (atom_here at n) (length runs) (map time_run runs) (length body) (body-of at (length body))
    (number_here file (body ++ s.behind) (at + 8) 4 (length runs) there refl (omega (arith, few))) few (length-stts runs)
    (times-at file ((at + 8) + 8) runs s.behind (further file (body ++ s.behind) (at + 8) 8 there) fits)

-- ---- runs of chunks

abbrev pub chunk_run : ℕ × ℕ × ℕ → ChunkRun
chunk_run r = record { first = r.0; samples = r.1; description = r.2 }

run-equal : (first first' samples samples' description description' : ℕ) → first ≡ first' → samples ≡ samples' → description ≡ description'
    → (let r : ChunkRun = record { first = first; samples = samples; description = description } in r) ≡ record { first = first'; samples = samples'; description = description' }
run-equal first first' samples samples' description description' e f g = rw (e, f, g) refl

abbrev pub RunFits : ℕ × ℕ × ℕ → Type 0
RunFits r = (r.0 < 2 ^ 32) × (r.1 < 2 ^ 32) × (r.2 < 2 ^ 32)

runs-at : (file : List ℕ) (place : ℕ) (runs : List (ℕ × ℕ × ℕ)) (behind : List ℕ) → drop place file ≡ flat_map run_bytes runs ++ behind → AllByRecursion RunFits runs
    → rows (chunk_run_at file) place 12 (length runs) ≡ map chunk_run runs
runs-at file place runs behind there h =
    rows-at (chunk_run_at file) run_bytes chunk_run 12 RunFits file
    (λ place r rest e fits. run-equal (number_in w32 file place) r.0 (number_in w32 file (place + 4)) r.1 (number_in w32 file (place + 8)) r.2
    (first_here file (run_bytes r ++ rest) place r.0 e refl fits.0) (number_here file (run_bytes r ++ rest) place 4 r.1 e refl fits.1) (number_here file (run_bytes r ++ rest) place 8 r.2 e refl fits.2))
    (λ r. refl) place runs behind there h

runs-given : (file : List ℕ) (stsc : Atom) (descriptions count : ℕ) (runs : List ChunkRun) (len : ℕ) → body_length stsc ≡ len → number_in w32 file (stsc.body + 4) ≡ count → count ≤ MAX_SAMPLES → len ≡ 8 + 12 * count
    → rows (chunk_run_at file) (stsc.body + 8) 12 count ≡ runs → begins_at_1 runs ≡ true → is_in_order descriptions 0 runs ≡ true → runs_in file stsc descriptions ≡ Ok runs
unfolding runs_in bind
runs-given file stsc descriptions count runs len l n few e all begins order = rw (counted file stsc 4 12 len count l n (omega (arith, e)) few (omega (arith, e)), all, begins, order) refl

pub runs-written : (file : List ℕ) (at descriptions : ℕ) (runs : List (ℕ × ℕ × ℕ)) → Stands file at (node (codes "stsc") (stsc_body runs)) → length runs ≤ MAX_SAMPLES → AllByRecursion RunFits runs
    → begins_at_1 (map chunk_run runs) ≡ true → is_in_order descriptions 0 (map chunk_run runs) ≡ true
    → runs_in file (atom_here at (node (codes "stsc") (stsc_body runs))) descriptions ≡ Ok (map chunk_run runs)
runs-written file at descriptions runs s few fits begins order =
    let body = stsc_body runs in
    let n = node (codes "stsc") body in
    let there = body_here file at n refl s in
    runs-given file (atom_here at n) descriptions (length runs) (map chunk_run runs) (length body) (body-of at (length body))
    (number_here file (body ++ s.behind) (at + 8) 4 (length runs) there refl (omega (arith, few))) few (length-stsc runs)
    (runs-at file ((at + 8) + 8) runs s.behind (further file (body ++ s.behind) (at + 8) 8 there) fits) begins order

-- ---- sizes

common-given : (file : List ℕ) (stsz : Atom) (common count len : ℕ) → body_length stsz ≡ len → number_in w32 file (stsz.body + 4) ≡ common → (common == 0) ≡ false → number_in w32 file (stsz.body + 8) ≡ count → count ≤ MAX_SAMPLES → 12 ≤ len
    → sizes_in file stsz ≡ Ok (replicate count common)
unfolding sizes_in bind
common-given file stsz common count len l c some n few e = rw (c, some, counted file stsz 8 0 len count l n (omega (arith, e)) few (omega (arith, e))) refl

-- the sizes of `count` samples: the common size, or each its own
abbrev pub sizes_by : Bool → (common count : ℕ) → List ℕ → List ℕ
sizes_by b common count sizes = if b then sizes else replicate count common

pub sizes-written : (b : Bool) (file : List ℕ) (at common count : ℕ) (sizes : List ℕ) → (common == 0) ≡ b → Stands file at (node (codes "stsz") (stsz_body common count sizes)) → length sizes ≡ (if b then count else 0)
    → count ≤ MAX_SAMPLES → common < 2 ^ 32 → AllByRecursion (λ size. size < 2 ^ 32) sizes
    → sizes_in file (atom_here at (node (codes "stsz") (stsz_body common count sizes))) ≡ Ok (sizes_by b common count sizes)
sizes-written true file at common count sizes none s sized few small fits =
    let body = stsz_body common count sizes in
    let n = node (codes "stsz") body in
    let there = body_here file at n refl s in
    let zero : common ≡ 0 = grind (arith, nat_tests, none) in
    let all = numbers-from file ((at + 8) + 12) sizes s.behind (further file (body ++ s.behind) (at + 8) 12 there) fits in
    sizes-given file (atom_here at n) count sizes (length body) (body-of at (length body))
    (number_here file (body ++ s.behind) (at + 8) 4 common there refl small ∙ zero)
    (number_here file (body ++ s.behind) (at + 8) 8 count there refl (omega (arith, few))) few (omega (arith, length-stsz common count sizes, sized))
    (ap (λ k. rows (number_in w32 file) ((at + 8) + 12) 4 k) (sym sized) ∙ all)
sizes-written false file at common count sizes some s sized few small fits =
    let body = stsz_body common count sizes in
    let n = node (codes "stsz") body in
    let there = body_here file at n refl s in
    common-given file (atom_here at n) common count (length body) (body-of at (length body))
    (number_here file (body ++ s.behind) (at + 8) 4 common there refl small) some
    (number_here file (body ++ s.behind) (at + 8) 8 count there refl (omega (arith, few))) few (omega (arith, length-stsz common count sizes))

-- ---- offsets

pub both : (a b : Bool) → (a && b) ≡ true → (a ≡ true) × (b ≡ true)
both true b h = (refl, h)
both false b h = absurd cc

near-fit : (offsets : List ℕ) → are_near offsets ≡ true → AllByRecursion (λ n. n < 2 ^ 32) offsets
near-fit [] h = tt
near-fit (offset ∷ offsets) h = let p = both (nat_lt offset (2 ^ 32)) (are_near offsets) h in (grind (arith, nat_tests, p.0), near-fit offsets p.1)

-- the table of offsets, `stco` or `co64`
abbrev pub places_by : Bool → List ℕ → Node
places_by b offsets = if b then node (codes "stco") (stco_body offsets) else node (codes "co64") (co64_body offsets)

pub places-written : (b : Bool) (file : List ℕ) (at : ℕ) (offsets : List ℕ) → are_near offsets ≡ b → Stands file at (places_by b offsets) → length offsets ≤ MAX_SAMPLES → AllByRecursion (λ offset. offset < 2 ^ 62) offsets
    → offsets_in file (atom_here at (places_by b offsets)) ≡ Ok offsets
places-written true file at offsets near s few fits =
    let body = stco_body offsets in
    let n = node (codes "stco") body in
    let there = body_here file at n refl s in
    near-given file at (length body) (length offsets) offsets
    (number_here file (body ++ s.behind) (at + 8) 4 (length offsets) there refl (omega (arith, few))) few (length-stco offsets)
    (numbers-from file ((at + 8) + 8) offsets s.behind (further file (body ++ s.behind) (at + 8) 8 there) (near-fit offsets near))
places-written false file at offsets far s few fits =
    let body = co64_body offsets in
    let n = node (codes "co64") body in
    let there = body_here file at n refl s in
    far-given file at (length body) (length offsets) offsets
    (number_here file (body ++ s.behind) (at + 8) 4 (length offsets) there refl (omega (arith, few))) few (length-co64 offsets)
    (longs-from file ((at + 8) + 8) offsets s.behind (further file (body ++ s.behind) (at + 8) 8 there) (wider offsets fits)) fits
