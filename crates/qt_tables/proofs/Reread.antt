-- Written tables are read back.
use Rattle.std.proofs.Common.{◌≡◌, ℕ, zero, suc, ◌+◌, ◌*◌, ◌≤◌, ◌<◌, ◌^◌, true, false, nat_le, nat_lt, List, [], ◌∷◌, ◌++◌, Some, Ok, length, take, drop, sum_by, refl, sym, ap, ◌∙◌, arith, append_assoc, length-append, get_or}
use Rattle.std.specs.Prelude.{codes, ◌==◌}
use Rattle.std.specs.List.{flat_map, AllByRecursion}
use Rattle.std.specs.Int.{w32, w64, to_be_bytes, from_be_bytes}
use Rattle.std.proofs.Math.Nat.{mul-suc}
use Rattle.std.proofs.lemmas.Bool.Decides.{nat_tests}
use Rattle.std.proofs.lemmas.List.{take-append-le, drop-append-le, length-drop}
use Rattle.std.proofs.Math.Seq.{drop-append-add}
use Rattle.pw_outside.specs.Reading.{bind}
use Rattle.qt_atoms.specs.declared.atom.Atom.{Atom}
use Rattle.qt_atoms.specs.Atoms.{number_in, child, child_of}
use Rattle.qt_atoms.specs.Written.{atom, rows}
use Rattle.qt_atoms.proofs.WrittenAtoms.{rows_written, rows_written_long}
use Rattle.qt_tables.specs.declared.runs.TimeRun.{TimeRun}
use Rattle.qt_tables.specs.declared.runs.ChunkRun.{ChunkRun}
use Rattle.qt_tables.specs.Samples.{chunks, held_by}
use Rattle.qt_tables.specs.Tables.{body_length, table_in, count_in, timescale_in, sizes_in, times_in, runs_in, descriptions_of, offsets_in, tables_in}
use Rattle.qt_tables.specs.Writing.{numbers_bytes}
use Rattle.qt_tables.proofs.Near.{none-far}
use Rattle.qt_tables.specs.declared.tables.TheConstants.{MAX_SAMPLES}

-- ---- rows

pub rows-get : {X : Type 0} (row : ℕ → X) (xs : List X) (place step : ℕ) (d : X) → rows row place step (length xs) ≡ xs → (k : ℕ) → k < length xs → row (place + step * k) ≡ get_or xs k d
rows-get row [] place step d h k lt = absurd (omega arith)
rows-get row (x ∷ xs) place step d h zero lt =
    let e : place + step * 0 ≡ place = omega arith in
    ap row e ∙ ap (λ l. get_or l 0 d) h
rows-get row (x ∷ xs) place step d h (suc k) lt =
    let e : place + step * suc k ≡ (place + step) + step * k = omega (arith, mul-suc step k) in
    ap row e ∙ rows-get row xs (place + step) step d (ap (drop 1) h) k (omega arith)

-- the head of an atom
abbrev head : (kind body : List ℕ) → List ℕ
head kind body = to_be_bytes w32 (length body + 8) ++ kind

-- the numbers at the start of a body
pub numbers-at : (file G kind ns more rest : List ℕ) (p : ℕ) → file ≡ G ++ (atom kind (numbers_bytes ns ++ more) ++ rest) → length kind ≡ 4 → p ≡ length G → AllByRecursion (λ n. n < 2 ^ 32) ns
    → rows (number_in w32 file) (p + 8) 4 (length ns) ≡ ns
numbers-at file G kind ns more rest p f four pe fits =
    let body = numbers_bytes ns ++ more in
    let H = head kind body in
    let inner : atom kind body ++ rest ≡ H ++ (numbers_bytes ns ++ (more ++ rest)) = append_assoc H body rest ∙ ap (λ l. H ++ l) (append_assoc (numbers_bytes ns) more rest) in
    let whole : file ≡ (G ++ H) ++ (numbers_bytes ns ++ (more ++ rest)) = f ∙ ap (λ l. G ++ l) inner ∙ sym (append_assoc G H (numbers_bytes ns ++ (more ++ rest))) in
    let place : p + 8 ≡ length (G ++ H) = omega (arith, pe, four, length-append G H) in
    ap (λ l. rows (number_in w32 l) (p + 8) 4 (length ns)) whole
    ∙ ap (λ q. rows (number_in w32 ((G ++ H) ++ (numbers_bytes ns ++ (more ++ rest)))) q 4 (length ns)) place
    ∙ rows_written ns (G ++ H) (more ++ rest) fits

-- the 64-bit numbers after two 32-bit numbers at the start of a body
pub longs-at : (file G kind : List ℕ) (a b : ℕ) (ls rest : List ℕ) (p : ℕ) → file ≡ G ++ (atom kind (numbers_bytes (a ∷ b ∷ []) ++ flat_map (to_be_bytes w64) ls) ++ rest) → length kind ≡ 4 → p ≡ length G → AllByRecursion (λ n. n < 2 ^ 64) ls
    → rows (number_in w64 file) ((p + 8) + 8) 8 (length ls) ≡ ls
longs-at file G kind a b ls rest p f four pe fits =
    let front = numbers_bytes (a ∷ b ∷ []) in
    let longs = flat_map (to_be_bytes w64) ls in
    let body = front ++ longs in
    let H = head kind body in
    let F = (G ++ H) ++ front in
    let inner : atom kind body ++ rest ≡ H ++ (front ++ (longs ++ rest)) = append_assoc H body rest ∙ ap (λ l. H ++ l) (append_assoc front longs rest) in
    let whole : file ≡ F ++ (longs ++ rest) = f ∙ ap (λ l. G ++ l) inner ∙ sym (append_assoc G H (front ++ (longs ++ rest))) ∙ sym (append_assoc (G ++ H) front (longs ++ rest)) in
    let place : (p + 8) + 8 ≡ length F = omega (arith, pe, four, length-append G H, length-append (G ++ H) front) in
    ap (λ l. rows (number_in w64 l) ((p + 8) + 8) 8 (length ls)) whole
    ∙ ap (λ q. rows (number_in w64 (F ++ (longs ++ rest))) q 8 (length ls)) place
    ∙ rows_written_long ls F rest fits

-- ---- counts

pub counted : (file : List ℕ) (table : Atom) (before step len count : ℕ) → body_length table ≡ len → number_in w32 file (table.body + before) ≡ count → before + 4 ≤ len → count ≤ MAX_SAMPLES → before + 4 + step * count ≤ len
    → count_in file table before step ≡ Ok count
unfolding count_in bind
counted file table before step len count l n le few fits =
    let a : nat_lt (body_length table) (before + 4) ≡ false = grind (arith, nat_tests, l) in
    let b : nat_lt MAX_SAMPLES count ≡ false = grind (arith, nat_tests) in
    let c : nat_lt (body_length table) (before + 4 + step * count) ≡ false = grind (arith, nat_tests, l) in
    rw (a, n, b, c) refl

-- an atom at an offset with a body of `len` bytes
abbrev pub placed_at : (kind : List ℕ) → (p len : ℕ) → Atom
placed_at kind p len = record { kind = kind; at = p; body = p + 8; end = p + (len + 8) }

body-is : (kind : List ℕ) (p len : ℕ) → body_length (placed_at kind p len) ≡ len
body-is kind p len = omega arith

-- ---- each table

pub times-read : (file : List ℕ) (kind : List ℕ) (p len count duration : ℕ) → len ≡ 16 → rows (number_in w32 file) (p + 8) 4 4 ≡ 0 ∷ 1 ∷ count ∷ duration ∷ []
    → times_in file (placed_at kind p len) ≡ Ok (record { count = count; duration = duration } ∷ [])
unfolding times_in bind
times-read file kind p len count duration e ns =
    let one = rows-get (number_in w32 file) (0 ∷ 1 ∷ count ∷ duration ∷ []) (p + 8) 4 0 ns 1 (omega arith) in
    let two = rows-get (number_in w32 file) (0 ∷ 1 ∷ count ∷ duration ∷ []) (p + 8) 4 0 ns 2 (omega arith) in
    let three = ap (number_in w32 file) (let q : (p + 8) + 8 + 4 ≡ (p + 8) + 12 = omega arith in q) ∙ rows-get (number_in w32 file) (0 ∷ 1 ∷ count ∷ duration ∷ []) (p + 8) 4 0 ns 3 (omega arith) in
    let c = counted file (placed_at kind p len) 4 8 len 1 (body-is kind p len) one (omega (arith, e)) (omega arith) (omega (arith, e)) in
    rw (c, two, three) refl

pub times-read-none : (file : List ℕ) (kind : List ℕ) (p len : ℕ) → len ≡ 8 → rows (number_in w32 file) (p + 8) 4 2 ≡ 0 ∷ 0 ∷ []
    → times_in file (placed_at kind p len) ≡ Ok []
unfolding times_in bind
times-read-none file kind p len e ns =
    let one = rows-get (number_in w32 file) (0 ∷ 0 ∷ []) (p + 8) 4 0 ns 1 (omega arith) in
    let c = counted file (placed_at kind p len) 4 8 len 0 (body-is kind p len) one (omega (arith, e)) (omega arith) (omega (arith, e)) in
    rw c refl

pub runs-read : (file : List ℕ) (kind : List ℕ) (p len descriptions : ℕ) → 1 ≤ descriptions → len ≡ 20 → rows (number_in w32 file) (p + 8) 4 5 ≡ 0 ∷ 1 ∷ 1 ∷ 1 ∷ 1 ∷ []
    → runs_in file (placed_at kind p len) descriptions ≡ Ok (record { first = 1; samples = 1; description = 1 } ∷ [])
unfolding runs_in bind
runs-read file kind p len descriptions some e ns =
    let all = 0 ∷ 1 ∷ 1 ∷ 1 ∷ 1 ∷ [] in
    let one = rows-get (number_in w32 file) all (p + 8) 4 0 ns 1 (omega arith) in
    let two = rows-get (number_in w32 file) all (p + 8) 4 0 ns 2 (omega arith) in
    let three = ap (number_in w32 file) (let q : (p + 8) + 8 + 4 ≡ (p + 8) + 12 = omega arith in q) ∙ rows-get (number_in w32 file) all (p + 8) 4 0 ns 3 (omega arith) in
    let four = ap (number_in w32 file) (let q : (p + 8) + 8 + 8 ≡ (p + 8) + 16 = omega arith in q) ∙ rows-get (number_in w32 file) all (p + 8) 4 0 ns 4 (omega arith) in
    let c = counted file (placed_at kind p len) 4 12 len 1 (body-is kind p len) one (omega (arith, e)) (omega arith) (omega (arith, e)) in
    let d : nat_le 1 descriptions ≡ true = grind (arith, nat_tests) in
    rw (c, two, three, four, d) refl

pub runs-read-none : (file : List ℕ) (kind : List ℕ) (p len descriptions : ℕ) → len ≡ 8 → rows (number_in w32 file) (p + 8) 4 2 ≡ 0 ∷ 0 ∷ []
    → runs_in file (placed_at kind p len) descriptions ≡ Ok []
unfolding runs_in bind
runs-read-none file kind p len descriptions e ns =
    let one = rows-get (number_in w32 file) (0 ∷ 0 ∷ []) (p + 8) 4 0 ns 1 (omega arith) in
    let c = counted file (placed_at kind p len) 4 12 len 0 (body-is kind p len) one (omega (arith, e)) (omega arith) (omega (arith, e)) in
    rw c refl

pub sizes-given : (file : List ℕ) (stsz : Atom) (count : ℕ) (sizes : List ℕ) (len : ℕ) → body_length stsz ≡ len → number_in w32 file (stsz.body + 4) ≡ 0
    → number_in w32 file (stsz.body + 8) ≡ count → count ≤ MAX_SAMPLES → len ≡ 12 + 4 * count
    → rows (number_in w32 file) (stsz.body + 12) 4 count ≡ sizes → sizes_in file stsz ≡ Ok sizes
unfolding sizes_in bind
sizes-given file stsz count sizes len l c n few e all =
    rw (c, counted file stsz 8 4 len count l n (omega (arith, e)) few (omega (arith, e)), all) refl

pub sizes-read : (file : List ℕ) (kind : List ℕ) (p len count : ℕ) (sizes : List ℕ) → length sizes ≡ count → count ≤ MAX_SAMPLES → len ≡ 12 + 4 * count → rows (number_in w32 file) (p + 8) 4 (length (0 ∷ 0 ∷ count ∷ sizes)) ≡ 0 ∷ 0 ∷ count ∷ sizes
    → sizes_in file (placed_at kind p len) ≡ Ok sizes
sizes-read file kind p len count sizes n few e ns =
    let all = 0 ∷ 0 ∷ count ∷ sizes in
    let one = rows-get (number_in w32 file) all (p + 8) 4 0 ns 1 (omega arith) in
    let two = rows-get (number_in w32 file) all (p + 8) 4 0 ns 2 (omega arith) in
    let q : (p + 8) + 12 ≡ (((p + 8) + 4) + 4) + 4 = omega arith in
    let rest : rows (number_in w32 file) ((p + 8) + 12) 4 count ≡ sizes = ap (λ m. rows (number_in w32 file) ((p + 8) + 12) 4 m) (sym n) ∙ ap (λ m. rows (number_in w32 file) m 4 (length sizes)) q ∙ ap (drop 3) ns in
    sizes-given file (placed_at kind p len) count sizes len (body-is kind p len) one two few e rest

pub near-given : (file : List ℕ) (p len count : ℕ) (offsets : List ℕ) → number_in w32 file ((p + 8) + 4) ≡ count → count ≤ MAX_SAMPLES → len ≡ 8 + 4 * count
    → rows (number_in w32 file) ((p + 8) + 8) 4 count ≡ offsets → offsets_in file (placed_at (codes "stco") p len) ≡ Ok offsets
unfolding offsets_in bind
near-given file p len count offsets n few e all =
    let table = placed_at (codes "stco") p len in
    rw (counted file table 4 4 len count (body-is (codes "stco") p len) n (omega (arith, e)) few (omega (arith, e)), all) refl

pub near-read : (file : List ℕ) (p len count : ℕ) (places : List ℕ) → length places ≡ count → count ≤ MAX_SAMPLES → len ≡ 8 + 4 * count → rows (number_in w32 file) (p + 8) 4 (length (0 ∷ count ∷ places)) ≡ 0 ∷ count ∷ places
    → offsets_in file (placed_at (codes "stco") p len) ≡ Ok places
near-read file p len count places n few e ns =
    let all = 0 ∷ count ∷ places in
    let one = rows-get (number_in w32 file) all (p + 8) 4 0 ns 1 (omega arith) in
    let q : (p + 8) + 8 ≡ ((p + 8) + 4) + 4 = omega arith in
    let rest : rows (number_in w32 file) ((p + 8) + 8) 4 count ≡ places = ap (λ m. rows (number_in w32 file) ((p + 8) + 8) 4 m) (sym n) ∙ ap (λ m. rows (number_in w32 file) m 4 (length places)) q ∙ ap (drop 2) ns in
    near-given file p len count places one few e rest

pub far-given : (file : List ℕ) (p len count : ℕ) (offsets : List ℕ) → number_in w32 file ((p + 8) + 4) ≡ count → count ≤ MAX_SAMPLES → len ≡ 8 + 8 * count
    → rows (number_in w64 file) ((p + 8) + 8) 8 count ≡ offsets → AllByRecursion (λ offset. offset < 2 ^ 62) offsets
    → offsets_in file (placed_at (codes "co64") p len) ≡ Ok offsets
unfolding offsets_in bind
far-given file p len count offsets n few e all near =
    let table = placed_at (codes "co64") p len in
    rw (counted file table 4 8 len count (body-is (codes "co64") p len) n (omega (arith, e)) few (omega (arith, e)), all, none-far offsets near) refl

pub far-read : (file : List ℕ) (p len count : ℕ) (places : List ℕ) → length places ≡ count → count ≤ MAX_SAMPLES → len ≡ 8 + 8 * count → AllByRecursion (λ place. place < 2 ^ 62) places → rows (number_in w32 file) (p + 8) 4 2 ≡ 0 ∷ count ∷ []
    → rows (number_in w64 file) ((p + 8) + 8) 8 (length places) ≡ places → offsets_in file (placed_at (codes "co64") p len) ≡ Ok places
far-read file p len count places n few e near ns ls =
    let one = rows-get (number_in w32 file) (0 ∷ count ∷ []) (p + 8) 4 0 ns 1 (omega arith) in
    let rest : rows (number_in w64 file) ((p + 8) + 8) 8 count ≡ places = ap (λ m. rows (number_in w64 file) ((p + 8) + 8) 8 m) (sym n) ∙ ls in
    far-given file p len count places one few e rest near

-- the number of descriptions by an `stsd`
pub descriptions-read : (file G described rest : List ℕ) (p : ℕ) → file ≡ G ++ (atom (codes "stsd") described ++ rest) → p ≡ length G → 8 ≤ length described
    → descriptions_of file (Some (placed_at (codes "stsd") p (length described))) ≡ number_in w32 described 4
descriptions-read file G described rest p f pe le =
    let H = head (codes "stsd") described in
    let whole : file ≡ (G ++ H) ++ (described ++ rest) = f ∙ ap (λ l. G ++ l) (append_assoc H described rest) ∙ sym (append_assoc G H (described ++ rest)) in
    let place : (p + 8) + 4 ≡ length (G ++ H) + 4 = omega (arith, pe, length-append G H) in
    let here : number_in w32 file ((p + 8) + 4) ≡ number_in w32 described 4 =
    ap (λ l. number_in w32 l ((p + 8) + 4)) whole
    ∙ ap (λ q. number_in w32 ((G ++ H) ++ (described ++ rest)) q) place
    ∙ ap (λ l. from_be_bytes w32 (take 4 l)) (drop-append-add (G ++ H) (described ++ rest) 4 ∙ drop-append-le 4 described rest (omega arith))
    ∙ ap (from_be_bytes w32) (take-append-le 4 (drop 4 described) rest (omega (arith, length-drop 4 described))) in
    let e : nat_lt (body_length (placed_at (codes "stsd") p (length described))) 8 ≡ false = grind (arith, nat_tests, body-is (codes "stsd") p (length described)) in
    rw e here

-- ---- all tables

-- a child of this kind is the table
pub table-there : (file kind : List ℕ) (parent table : Atom) → child file parent kind ≡ Ok (Some table) → table_in file parent kind ≡ Ok table
unfolding bind
table-there file kind parent table h = rw h refl

pub tables-read : (file : List ℕ) (stbl mdia mdhd stsd stts stsc stsz table : Atom) (timescale : ℕ) (sizes : List ℕ) (times : List TimeRun) (runs : List ChunkRun) (offsets : List ℕ)
    → table_in file mdia (codes "mdhd") ≡ Ok mdhd → timescale_in file mdhd ≡ Ok timescale
    → child file stbl (codes "stsz") ≡ Ok (Some stsz) → sizes_in file stsz ≡ Ok sizes
    → child file stbl (codes "stts") ≡ Ok (Some stts) → times_in file stts ≡ Ok times
    → child file stbl (codes "stsc") ≡ Ok (Some stsc) → child file stbl (codes "stsd") ≡ Ok (Some stsd) → runs_in file stsc (descriptions_of file (Some stsd)) ≡ Ok runs
    → child_of file stbl (codes "stco" ∷ codes "co64" ∷ []) ≡ Ok (Some table) → offsets_in file table ≡ Ok offsets
    → sum_by (λ r. r.count) times ≡ length sizes → held_by (chunks runs offsets) ≡ length sizes
    → tables_in file stbl mdia ≡ Ok (record { timescale = timescale; sizes = sizes; times = times; runs = runs; offsets = offsets })
unfolding tables_in bind
tables-read file stbl mdia mdhd stsd stts stsc stsz table timescale sizes times runs offsets a b c d e f g h i j k m n =
    let p : (sum_by (λ (r : TimeRun). r.count) times == length sizes) ≡ true = grind (arith, nat_tests, m) in
    let q : (held_by (chunks runs offsets) == length sizes) ≡ true = grind (arith, nat_tests, n) in
    rw (a, b, c, d, e, f, g, h, i, j, k, p, q) refl

-- ---- the walk over the tables

pub is-not-none : (n : ℕ) → (suc n == 0) ≡ false
is-not-none n = grind (arith, nat_tests)
