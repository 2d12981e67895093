-- Atoms written around bodies.
use Rattle.std.proofs.Common.{◌≡◌, ℕ, ◌+◌, ◌-◌, ◌*◌, ◌≤◌, ◌<◌, ◌^◌, Bool, true, false, List, [], ◌∷◌, ◌++◌, length, refl, sym, ap, ◌∙◌, arith, append_assoc, length-append}
use Rattle.std.specs.Prelude.{codes, ◌==◌, if◌then◌else◌}
use Rattle.std.specs.List.{flat_map}
use Rattle.std.specs.Int.{w64, to_be_bytes}
use Rattle.std.proofs.lemmas.List.{append-nil, length-map}
use Rattle.qt_atoms.specs.Written.{atom, begun_atom, ended, atom_of}
use Rattle.qt_atoms.proofs.WrittenAtoms.{ended_atom}
use Rattle.qt_tables.specs.declared.writer.Extent.{Extent}
use Rattle.qt_tables.specs.Writing.{numbers_bytes, sizes_of, places_of, times_body, runs_body, sizes_body, near_body, far_body, places_node, tables_bytes}

-- ---- lengths

pub length-numbers : (ns : List ℕ) → length (numbers_bytes ns) ≡ 4 * length ns
length-numbers [] = refl
length-numbers (n ∷ ns) = omega (arith, length-numbers ns)

pub length-longs : (ns : List ℕ) → length (flat_map (to_be_bytes w64) ns) ≡ 8 * length ns
length-longs [] = refl
length-longs (n ∷ ns) = omega (arith, length-longs ns)

times-by : (b : Bool) (count duration : ℕ) → length (numbers_bytes (if b then 0 ∷ 0 ∷ [] else 0 ∷ 1 ∷ count ∷ duration ∷ [])) ≤ 16
times-by true count duration = omega arith
times-by false count duration = omega arith

pub length-times_body : (count duration : ℕ) → length (times_body count duration) ≤ 16
length-times_body count duration = times-by (count == 0) count duration

runs-by : (b : Bool) → length (numbers_bytes (if b then 0 ∷ 0 ∷ [] else 0 ∷ 1 ∷ 1 ∷ 1 ∷ 1 ∷ [])) ≤ 20
runs-by true = omega arith
runs-by false = omega arith

pub length-runs_body : (count : ℕ) → length (runs_body count) ≤ 20
length-runs_body count = runs-by (count == 0)

pub length-sizes_body : (es : List Extent) → length (sizes_body es) ≡ 12 + 4 * length es
length-sizes_body es = omega (arith, length-numbers (0 ∷ 0 ∷ length es ∷ sizes_of es), length-map es (λ (e : Extent). e.size))

pub length-near_body : (es : List Extent) → length (near_body es) ≡ 8 + 4 * length es
length-near_body es = omega (arith, length-numbers (0 ∷ length es ∷ places_of es), length-map es (λ (e : Extent). e.at))

pub length-far_body : (es : List Extent) → length (far_body es) ≡ 8 + 8 * length es
length-far_body es = omega (arith, length-longs (places_of es), length-map es (λ (e : Extent). e.at))

-- ---- an atom that was begun, filled with a body and ended

pub small : (old kind body begin put : List ℕ) (begun : ℕ) → length kind ≡ 4 → begin ≡ begun_atom old kind → put ≡ begin ++ body → begun ≡ length old → length body ≤ 8000016 → length put - begun < 2 ^ 32
small old kind body begin put begun four b p n few =
    let one : length put ≡ length begin + length body = ap length p ∙ length-append begin body in
    let two : length begin ≡ length old + length (0 ∷ 0 ∷ 0 ∷ 0 ∷ kind) = ap length b ∙ length-append old (0 ∷ 0 ∷ 0 ∷ 0 ∷ kind) in
    omega (arith, one, two, n, four, few)

pub wrapped : (old kind body begin put new : List ℕ) (begun : ℕ) → length kind ≡ 4 → begin ≡ begun_atom old kind → put ≡ begin ++ body → begun ≡ length old → new ≡ ended put begun → new ≡ old ++ atom kind body
wrapped old kind body begin put new begun four b p n e =
    e ∙ ap (λ l. ended l begun) (p ∙ ap (λ l. l ++ body) b) ∙ ap (ended (begun_atom old kind ++ body)) n ∙ ended_atom old kind body four

four-pieces : (old a b c d one two three new : List ℕ) → one ≡ old ++ a → two ≡ one ++ b → three ≡ two ++ c → new ≡ three ++ d → new ≡ old ++ (a ++ (b ++ (c ++ (d ++ []))))
four-pieces old a b c d one two three new e f g h =
    h ∙ ap (λ l. l ++ d) (g ∙ ap (λ l. l ++ c) (f ∙ ap (λ l. l ++ b) e))
    ∙ append_assoc ((old ++ a) ++ b) c d ∙ append_assoc (old ++ a) b (c ++ d) ∙ append_assoc old a (b ++ (c ++ d))
    ∙ ap (λ l. old ++ (a ++ (b ++ (c ++ l)))) (sym (append-nil d))

-- the four tables
pub four-tables : (es : List Extent) (duration : ℕ) (old one two three new : List ℕ) → one ≡ old ++ atom (codes "stts") (times_body (length es) duration) → two ≡ one ++ atom (codes "stsc") (runs_body (length es))
    → three ≡ two ++ atom (codes "stsz") (sizes_body es) → new ≡ three ++ atom_of (places_node es) → new ≡ old ++ tables_bytes es duration
unfolding tables_bytes
four-tables es duration old one two three new e f g h =
    four-pieces old (atom (codes "stts") (times_body (length es) duration)) (atom (codes "stsc") (runs_body (length es))) (atom (codes "stsz") (sizes_body es)) (atom_of (places_node es)) one two three new e f g h
