-- The lengths of numbers, atoms and sample tables in bytes.
use Rattle.std.proofs.Common.{◌≡◌, ℕ, ◌+◌, ◌*◌, List, [], ◌∷◌, length, refl, arith, length-append}
use Rattle.std.specs.List.{flat_map}
use Rattle.std.specs.Int.{w64, to_be_bytes}
use Rattle.qt_atoms.specs.Written.{Node, atom}
use Rattle.qt_tables.specs.Writing.{numbers_bytes}
use Rattle.qt_tables.proofs.Wrapping.{length-numbers, length-longs}
use Rattle.qt_movie.specs.Bodies.{nodes_bytes}
use Rattle.qt_movie.specs.Trak.{time_bytes, run_bytes, stts_body, stsc_body, stsz_body, stco_body, co64_body}

length-times : (runs : List (ℕ × ℕ)) → length (flat_map time_bytes runs) ≡ 8 * length runs
length-times [] = refl
length-times (r ∷ runs) = omega (arith, length-append (time_bytes r) (flat_map time_bytes runs), length-times runs)

length-runs : (runs : List (ℕ × ℕ × ℕ)) → length (flat_map run_bytes runs) ≡ 12 * length runs
length-runs [] = refl
length-runs (r ∷ runs) = omega (arith, length-append (run_bytes r) (flat_map run_bytes runs), length-runs runs)

-- ---- tables

pub length-stts : (runs : List (ℕ × ℕ)) → length (stts_body runs) ≡ 8 + 8 * length runs
length-stts runs = omega (arith, length-append (numbers_bytes (0 ∷ length runs ∷ [])) (flat_map time_bytes runs), length-times runs)

pub length-stsc : (runs : List (ℕ × ℕ × ℕ)) → length (stsc_body runs) ≡ 8 + 12 * length runs
length-stsc runs = omega (arith, length-append (numbers_bytes (0 ∷ length runs ∷ [])) (flat_map run_bytes runs), length-runs runs)

pub length-stsz : (common count : ℕ) (sizes : List ℕ) → length (stsz_body common count sizes) ≡ 12 + 4 * length sizes
length-stsz common count sizes = omega (arith, length-append (numbers_bytes (0 ∷ common ∷ count ∷ [])) (numbers_bytes sizes), length-numbers sizes)

pub length-stco : (offsets : List ℕ) → length (stco_body offsets) ≡ 8 + 4 * length offsets
length-stco offsets = omega (arith, length-append (numbers_bytes (0 ∷ length offsets ∷ [])) (numbers_bytes offsets), length-numbers offsets)

pub length-co64 : (offsets : List ℕ) → length (co64_body offsets) ≡ 8 + 8 * length offsets
length-co64 offsets = omega (arith, length-append (numbers_bytes (0 ∷ length offsets ∷ [])) (flat_map (to_be_bytes w64) offsets), length-longs offsets)

-- ---- atoms

pub length-atom : (kind body : List ℕ) → length kind ≡ 4 → length (atom kind body) ≡ 8 + length body
length-atom kind body four = omega (arith, four, length-append kind body)

pub length-nodes : (n : Node) (nodes : List Node) → length n.kind ≡ 4 → length (nodes_bytes (n ∷ nodes)) ≡ length n.body + 8 + length (nodes_bytes nodes)
length-nodes n nodes four = omega (arith, length-append (atom n.kind n.body) (nodes_bytes nodes), length-atom n.kind n.body four)
