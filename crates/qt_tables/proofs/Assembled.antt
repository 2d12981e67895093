-- All written tables, read together.
use Rattle.std.proofs.Common.{◌≡◌, ℕ, suc, ◌+◌, ◌≤◌, ◌<◌, ◌^◌, Bool, true, false, nat_lt, List, [], ◌∷◌, ◌++◌, Some, None, Ok, length, sum_by, refl, sym, ap, ◌∙◌, arith, append_assoc, length-append}
use Rattle.std.specs.Prelude.{codes, if◌then◌else◌}
use Rattle.std.specs.List.{flat_map, AllByRecursion}
use Rattle.std.specs.Int.{w32, w64, to_be_bytes}
use Rattle.std.proofs.lemmas.Bool.Decides.{nat_tests}
use Rattle.std.proofs.lemmas.List.{append-nil, length-map}
use Rattle.std.proofs.lemmas.List.Elements.{recursion_from_All}
use Rattle.qt_atoms.specs.declared.atom.Atom.{Atom}
use Rattle.qt_atoms.specs.Atoms.{number_in, Walk, walk, children, child_of, first_in, is_one_of}
use Rattle.qt_atoms.specs.Written.{atom, rows, Node, atom_of, IsNode, placed}
use Rattle.qt_atoms.proofs.WrittenAtoms.{walk_written}
use Rattle.qt_tables.specs.declared.runs.TimeRun.{TimeRun}
use Rattle.qt_tables.specs.declared.writer.Extent.{Extent}
use Rattle.qt_tables.specs.Laws.{AreExtents}
use Rattle.qt_tables.specs.Samples.{chunks, held_by}
use Rattle.qt_tables.specs.Tables.{table_in, timescale_in, sizes_in, times_in, runs_in, descriptions_of, offsets_in, tables_in}
use Rattle.qt_tables.specs.Writing.{numbers_bytes, times_body, runs_body, sizes_of, sizes_body, places_of, are_near, near_body, far_body, places_node, tables_bytes, one_run, written_tables}
use Rattle.qt_tables.proofs.Again.{held-ones}
use Rattle.qt_tables.proofs.Reread.{placed_at, numbers-at, longs-at, times-read, times-read-none, runs-read, runs-read-none, sizes-read, near-read, far-read, descriptions-read, tables-read, is-not-none}
use Rattle.qt_tables.proofs.Chunks.{and-left, and-right}
use Rattle.qt_tables.proofs.Wrapping.{length-times_body, length-runs_body, length-sizes_body, length-near_body, length-far_body}
use Rattle.qt_tables.specs.declared.tables.TheConstants.{MAX_SAMPLES}

-- ---- an atom at an offset

pub record Stands (file : List ℕ) (p : ℕ) (kind body : List ℕ) : Type 0 where
  pub front : List ℕ
  pub rest : List ℕ
  pub here : file ≡ front ++ (atom kind body ++ rest)
  pub place : p ≡ length front

pub stands-first : (file front kind body others behind : List ℕ) (p : ℕ) → p ≡ length front → file ≡ front ++ ((atom kind body ++ others) ++ behind) → Stands file p kind body
stands-first file front kind body others behind p e f =
    record { front = front; rest = others ++ behind; here = f ∙ ap (λ l. front ++ l) (append_assoc (atom kind body) others behind); place = e }

behind-first : (file front kind body others behind : List ℕ) → file ≡ front ++ ((atom kind body ++ others) ++ behind) → file ≡ (front ++ atom kind body) ++ (others ++ behind)
behind-first file front kind body others behind f = f ∙ ap (λ l. front ++ l) (append_assoc (atom kind body) others behind) ∙ sym (append_assoc front (atom kind body) (others ++ behind))

place-next : (front kind body : List ℕ) (p : ℕ) → length kind ≡ 4 → p ≡ length front → p + (length body + 8) ≡ length (front ++ atom kind body)
place-next front kind body p four e =
    let one = length-append front (atom kind body) in
    let two : length (atom kind body) ≡ length body + 8 = omega (arith, four, length-append kind body) in
    omega (arith, one, two, e)

numbers-in : (file : List ℕ) (p : ℕ) (kind body ns more : List ℕ) → Stands file p kind body → body ≡ numbers_bytes ns ++ more → length kind ≡ 4 → AllByRecursion (λ n. n < 2 ^ 32) ns
    → rows (number_in w32 file) (p + 8) 4 (length ns) ≡ ns
numbers-in file p kind body ns more s e four fits =
    numbers-at file s.front kind ns more s.rest p (s.here ∙ ap (λ b. s.front ++ (atom kind b ++ s.rest)) e) four s.place fits

-- ---- each table

times-all : (es : List Extent) (duration : ℕ) (file : List ℕ) (p : ℕ) → length es ≤ MAX_SAMPLES → duration < 2 ^ 32 → Stands file p (codes "stts") (times_body (length es) duration)
    → times_in file (placed_at (codes "stts") p (length (times_body (length es) duration))) ≡ Ok (one_run es (record { count = length es; duration = duration }))
times-all [] duration file p few fits s =
    times-read-none file (codes "stts") p (length (times_body 0 duration)) refl (numbers-in file p (codes "stts") (times_body 0 duration) (0 ∷ 0 ∷ []) [] s refl refl (omega arith, (omega arith, tt)))
times-all (e ∷ es) duration file p few fits s =
    let n = suc (length es) in
    let ns = 0 ∷ 1 ∷ n ∷ duration ∷ [] in
    let body : times_body n duration ≡ numbers_bytes ns ++ [] = ap (λ b. numbers_bytes (if b then 0 ∷ 0 ∷ [] else ns)) (is-not-none (length es)) in
    let small : n < 2 ^ 32 = omega (arith, few) in
    times-read file (codes "stts") p (length (times_body n duration)) n duration (ap length body) (numbers-in file p (codes "stts") (times_body n duration) ns [] s body refl (omega arith, (omega arith, (small, (fits, tt)))))

runs-all : (es : List Extent) (file : List ℕ) (p descriptions : ℕ) → 1 ≤ descriptions → Stands file p (codes "stsc") (runs_body (length es))
    → runs_in file (placed_at (codes "stsc") p (length (runs_body (length es)))) descriptions ≡ Ok (one_run es (record { first = 1; samples = 1; description = 1 }))
runs-all [] file p descriptions some s =
    runs-read-none file (codes "stsc") p (length (runs_body 0)) descriptions refl (numbers-in file p (codes "stsc") (runs_body 0) (0 ∷ 0 ∷ []) [] s refl refl (omega arith, (omega arith, tt)))
runs-all (e ∷ es) file p descriptions some s =
    let n = suc (length es) in
    let ns = 0 ∷ 1 ∷ 1 ∷ 1 ∷ 1 ∷ [] in
    let body : runs_body n ≡ numbers_bytes ns ++ [] = ap (λ b. numbers_bytes (if b then 0 ∷ 0 ∷ [] else ns)) (is-not-none (length es)) in
    runs-read file (codes "stsc") p (length (runs_body n)) descriptions some (ap length body) (numbers-in file p (codes "stsc") (runs_body n) ns [] s body refl (omega arith, (omega arith, (omega arith, (omega arith, (omega arith, tt))))))

sizes-fit : (es : List Extent) → AllByRecursion (λ e. e.size < 2 ^ 32) es → AllByRecursion (λ n. n < 2 ^ 32) (sizes_of es)
sizes-fit [] h = tt
sizes-fit (e ∷ es) h = (h.0, sizes-fit es h.1)

sizes-all : (es : List Extent) (file : List ℕ) (p : ℕ) → AreExtents es → Stands file p (codes "stsz") (sizes_body es)
    → sizes_in file (placed_at (codes "stsz") p (length (sizes_body es))) ≡ Ok (sizes_of es)
sizes-all es file p are s =
    let ns = 0 ∷ 0 ∷ length es ∷ sizes_of es in
    let fits = sizes-fit es (recursion_from_All (λ (e : Extent). e.size < 2 ^ 32) es are.sized) in
    let small : length es < 2 ^ 32 = omega (arith, are.few) in
    sizes-read file (codes "stsz") p (length (sizes_body es)) (length es) (sizes_of es) (length-map es (λ (e : Extent). e.size)) are.few (length-sizes_body es)
    (numbers-in file p (codes "stsz") (sizes_body es) ns [] s (sym (append-nil (numbers_bytes ns))) refl (omega arith, (omega arith, (small, fits))))

near-fit : (es : List Extent) → are_near es ≡ true → AllByRecursion (λ n. n < 2 ^ 32) (places_of es)
near-fit [] h = tt
near-fit (e ∷ es) h =
    let first = and-left (nat_lt e.at (2 ^ 32)) (are_near es) h in
    (grind (arith, nat_tests, first), near-fit es (and-right (nat_lt e.at (2 ^ 32)) (are_near es) h))

near-all : (es : List Extent) (file : List ℕ) (p : ℕ) → AreExtents es → are_near es ≡ true → Stands file p (codes "stco") (near_body es)
    → offsets_in file (placed_at (codes "stco") p (length (near_body es))) ≡ Ok (places_of es)
near-all es file p are near s =
    let ns = 0 ∷ length es ∷ places_of es in
    let small : length es < 2 ^ 32 = omega (arith, are.few) in
    near-read file p (length (near_body es)) (length es) (places_of es) (length-map es (λ (e : Extent). e.at)) are.few (length-near_body es)
    (numbers-in file p (codes "stco") (near_body es) ns [] s (sym (append-nil (numbers_bytes ns))) refl (omega arith, (small, near-fit es near)))

far-fit : (es : List Extent) → AllByRecursion (λ e. e.at < 2 ^ 62) es → AllByRecursion (λ n. n < 2 ^ 62) (places_of es)
far-fit [] h = tt
far-fit (e ∷ es) h = (h.0, far-fit es h.1)

pub wider : (ns : List ℕ) → AllByRecursion (λ n. n < 2 ^ 62) ns → AllByRecursion (λ n. n < 2 ^ 64) ns
wider [] h = tt
wider (n ∷ ns) h = (omega (arith, h.0), wider ns h.1)

far-all : (es : List Extent) (file : List ℕ) (p : ℕ) → AreExtents es → Stands file p (codes "co64") (far_body es)
    → offsets_in file (placed_at (codes "co64") p (length (far_body es))) ≡ Ok (places_of es)
far-all es file p are s =
    let fits = far-fit es (recursion_from_All (λ (e : Extent). e.at < 2 ^ 62) es are.near) in
    let small : length es < 2 ^ 32 = omega (arith, are.few) in
    far-read file p (length (far_body es)) (length es) (places_of es) (length-map es (λ (e : Extent). e.at)) are.few (length-far_body es) fits
    (numbers-in file p (codes "co64") (far_body es) (0 ∷ length es ∷ []) (flat_map (to_be_bytes w64) (places_of es)) s refl refl (omega arith, (small, tt)))
    (longs-at file s.front (codes "co64") 0 (length es) (places_of es) s.rest p s.here refl s.place (wider (places_of es) fits))

timed : (es : List Extent) (duration : ℕ) → sum_by (λ (r : TimeRun). r.count) (one_run es (record { count = length es; duration = duration })) ≡ length (sizes_of es)
timed [] duration = refl
timed (e ∷ es) duration = omega (arith, length-map es (λ (x : Extent). x.size))

held : (es : List Extent) → held_by (chunks (one_run es (record { first = 1; samples = 1; description = 1 })) (places_of es)) ≡ length (sizes_of es)
held [] = refl
held (e ∷ es) = held-ones (places_of (e ∷ es)) 1 (omega arith) ∙ length-map (e ∷ es) (λ (x : Extent). x.at) ∙ sym (length-map (e ∷ es) (λ (x : Extent). x.size))

-- ---- all tables

-- what must hold of the table of offsets
pub record IsPlaces (es : List Extent) (kind body : List ℕ) : Type 0 where
  pub node : places_node es ≡ record { kind = kind; body = body }
  pub four : length kind ≡ 4
  pub small : length body + 8 < 2 ^ 32
  pub found : (p len : ℕ) → is_one_of (codes "stco" ∷ codes "co64" ∷ []) (placed_at kind p len) ≡ true
  pub offsets : (file : List ℕ) (p : ℕ) → Stands file p kind body → offsets_in file (placed_at kind p (length body)) ≡ Ok (places_of es)

near-places : (es : List Extent) → AreExtents es → are_near es ≡ true → IsPlaces es (codes "stco") (near_body es)
near-places es are near = record {
  node = rw near refl;
  four = refl;
  small = omega (arith, length-near_body es, are.few);
  found = λ p len. refl;
  offsets = λ file p s. near-all es file p are near s;
}

far-places : (es : List Extent) → AreExtents es → are_near es ≡ false → IsPlaces es (codes "co64") (far_body es)
far-places es are near = record {
  node = rw near refl;
  four = refl;
  small = omega (arith, length-far_body es, are.few);
  found = λ p len. refl;
  offsets = λ file p s. far-all es file p are s;
}

assembled : (front described behind : List ℕ) (es : List Extent) (duration timescale : ℕ) (stbl mdia mdhd : Atom) (file kind body : List ℕ)
    → 8 ≤ length described → length described + 8 < 2 ^ 32 → 1 ≤ number_in w32 described 4 → AreExtents es → duration < 2 ^ 32 → IsPlaces es kind body
    → stbl.body ≡ length front → stbl.end ≡ length front + length (atom (codes "stsd") described ++ tables_bytes es duration)
    → file ≡ front ++ ((atom (codes "stsd") described ++ tables_bytes es duration) ++ behind)
    → table_in file mdia (codes "mdhd") ≡ Ok mdhd → timescale_in file mdhd ≡ Ok timescale
    → tables_in file stbl mdia ≡ Ok (written_tables es duration timescale)
unfolding tables_bytes stands-first
assembled front described behind es duration timescale stbl mdia mdhd file kind body le small some are fits is begins ends f h t =
    let n = length es in
    let B1 = times_body n duration in
    let B2 = runs_body n in
    let B3 = sizes_body es in
    let T4 = atom kind body ++ [] in
    let T3 = atom (codes "stsz") B3 ++ T4 in
    let T2 = atom (codes "stsc") B2 ++ T3 in
    let T1 = atom (codes "stts") B1 ++ T2 in
    let nodes : List Node = record { kind = codes "stsd"; body = described } ∷ record { kind = codes "stts"; body = B1 } ∷ record { kind = codes "stsc"; body = B2 } ∷ record { kind = codes "stsz"; body = B3 } ∷ record { kind = kind; body = body } ∷ [] in
    let p0 = length front in
    let p1 = p0 + (length described + 8) in
    let p2 = p1 + (length B1 + 8) in
    let p3 = p2 + (length B2 + 8) in
    let p4 = p3 + (length B3 + 8) in
    let same : tables_bytes es duration ≡ T1 = ap (λ (q : Node). atom (codes "stts") B1 ++ (atom (codes "stsc") B2 ++ (atom (codes "stsz") B3 ++ (atom_of q ++ [])))) is.node in
    let f0 : file ≡ front ++ ((atom (codes "stsd") described ++ T1) ++ behind) = f ∙ ap (λ l. front ++ ((atom (codes "stsd") described ++ l) ++ behind)) same in
    let e0 : stbl.end ≡ length front + length (flat_map atom_of nodes) = ends ∙ ap (λ l. length front + length (atom (codes "stsd") described ++ l)) same in
    let g1 = front ++ atom (codes "stsd") described in
    let g2 = g1 ++ atom (codes "stts") B1 in
    let g3 = g2 ++ atom (codes "stsc") B2 in
    let g4 = g3 ++ atom (codes "stsz") B3 in
    let f1 = behind-first file front (codes "stsd") described T1 behind f0 in
    let f2 = behind-first file g1 (codes "stts") B1 T2 behind f1 in
    let f3 = behind-first file g2 (codes "stsc") B2 T3 behind f2 in
    let f4 = behind-first file g3 (codes "stsz") B3 T4 behind f3 in
    let q1 = place-next front (codes "stsd") described p0 refl refl in
    let q2 = place-next g1 (codes "stts") B1 p1 refl q1 in
    let q3 = place-next g2 (codes "stsc") B2 p2 refl q2 in
    let q4 = place-next g3 (codes "stsz") B3 p3 refl q3 in
    let s0 = stands-first file front (codes "stsd") described T1 behind p0 refl f0 in
    let s1 = stands-first file g1 (codes "stts") B1 T2 behind p1 q1 f1 in
    let s2 = stands-first file g2 (codes "stsc") B2 T3 behind p2 q2 f2 in
    let s3 = stands-first file g3 (codes "stsz") B3 T4 behind p3 q3 f3 in
    let s4 = stands-first file g4 kind body [] behind p4 q4 f4 in
    let b1 : length B1 + 8 < 2 ^ 32 = omega (arith, length-times_body n duration) in
    let b2 : length B2 + 8 < 2 ^ 32 = omega (arith, length-runs_body n) in
    let b3 : length B3 + 8 < 2 ^ 32 = omega (arith, length-sizes_body es, are.few) in
    let good : AllByRecursion IsNode nodes = (record { kind = refl; size = small }, (record { kind = refl; size = b1 }, (record { kind = refl; size = b2 }, (record { kind = refl; size = b3 }, (record { kind = is.four; size = is.small }, tt))))) in
    let met : Walk = record { atoms = placed p0 nodes; bad = None } in
    let walked : children file stbl ≡ met =
    ap (λ q. walk file q stbl.end false) begins ∙ ap (λ l. walk l p0 stbl.end false) f0 ∙ walk_written nodes front behind stbl.end false good e0 in
    let descriptions = descriptions-read file front described (T1 ++ behind) p0 s0.here refl le in
    let enough : 1 ≤ descriptions_of file (Some (placed_at (codes "stsd") p0 (length described))) = rw descriptions some in
    let last : child_of file stbl (codes "stco" ∷ codes "co64" ∷ []) ≡ Ok (Some (placed_at kind p4 (length body))) =
    ap (first_in (is_one_of (codes "stco" ∷ codes "co64" ∷ []))) walked ∙ rw (is.found p4 (length body)) refl in
    tables-read file stbl mdia mdhd (placed_at (codes "stsd") p0 (length described)) (placed_at (codes "stts") p1 (length B1)) (placed_at (codes "stsc") p2 (length B2)) (placed_at (codes "stsz") p3 (length B3)) (placed_at kind p4 (length body))
    timescale (sizes_of es) (one_run es (record { count = n; duration = duration })) (one_run es (record { first = 1; samples = 1; description = 1 })) (places_of es)
    h t
    (ap (first_in (is_one_of (codes "stsz" ∷ []))) walked) (sizes-all es file p3 are s3)
    (ap (first_in (is_one_of (codes "stts" ∷ []))) walked) (times-all es duration file p1 are.few fits s1)
    (ap (first_in (is_one_of (codes "stsc" ∷ []))) walked) (ap (first_in (is_one_of (codes "stsd" ∷ []))) walked) (runs-all es file p2 (descriptions_of file (Some (placed_at (codes "stsd") p0 (length described)))) enough s2)
    last (is.offsets file p4 s4) (timed es duration) (held es)

by-nearness : (b : Bool) (front described behind : List ℕ) (es : List Extent) (duration timescale : ℕ) (stbl mdia mdhd : Atom) (file : List ℕ)
    → are_near es ≡ b → 8 ≤ length described → length described + 8 < 2 ^ 32 → 1 ≤ number_in w32 described 4 → AreExtents es → duration < 2 ^ 32
    → stbl.body ≡ length front → stbl.end ≡ length front + length (atom (codes "stsd") described ++ tables_bytes es duration)
    → file ≡ front ++ ((atom (codes "stsd") described ++ tables_bytes es duration) ++ behind)
    → table_in file mdia (codes "mdhd") ≡ Ok mdhd → timescale_in file mdhd ≡ Ok timescale
    → tables_in file stbl mdia ≡ Ok (written_tables es duration timescale)
by-nearness true front described behind es duration timescale stbl mdia mdhd file near le small some are fits begins ends f h t =
    assembled front described behind es duration timescale stbl mdia mdhd file (codes "stco") (near_body es) le small some are fits (near-places es are near) begins ends f h t
by-nearness false front described behind es duration timescale stbl mdia mdhd file near le small some are fits begins ends f h t =
    assembled front described behind es duration timescale stbl mdia mdhd file (codes "co64") (far_body es) le small some are fits (far-places es are near) begins ends f h t

pub written_read : (front described behind : List ℕ) (es : List Extent) (duration timescale : ℕ) (stbl mdia mdhd : Atom) (file : List ℕ)
    → 8 ≤ length described → length described + 8 < 2 ^ 32 → 1 ≤ number_in w32 described 4 → AreExtents es → duration < 2 ^ 32
    → stbl.body ≡ length front → stbl.end ≡ length front + length (atom (codes "stsd") described ++ tables_bytes es duration)
    → file ≡ front ++ ((atom (codes "stsd") described ++ tables_bytes es duration) ++ behind)
    → table_in file mdia (codes "mdhd") ≡ Ok mdhd → timescale_in file mdhd ≡ Ok timescale
    → tables_in file stbl mdia ≡ Ok (written_tables es duration timescale)
written_read front described behind es duration timescale stbl mdia mdhd file le small some are fits begins ends f h t =
    by-nearness (are_near es) front described behind es duration timescale stbl mdia mdhd file refl le small some are fits begins ends f h t
