-- Written atoms and numbers are read back.
use Rattle.std.proofs.Common.{◌≡◌, ℕ, ◌+◌, ◌-◌, ◌≤◌, ◌<◌, ◌^◌, Bool, false, nat_lt, nat_eq, List, [], ◌∷◌, ◌++◌, length, take, drop, map, Ok, refl, sym, ap, ◌∙◌, arith, append_assoc}
use Rattle.std.specs.Int.{w32, w64, to_be_bytes, from_be_bytes}
use Rattle.std.proofs.lemmas.Bool.Decides.{nat_tests}
use Rattle.std.proofs.lemmas.List.{take_at, drop_at, drop-drop, map-id}
use Rattle.std.proofs.lemmas.Nat.{from_be_bytes-to_be_bytes_4, from_be_bytes-to_be_bytes_8}
use Rattle.qt_atoms.specs.declared.atom.Step.TheVariants as steps
use Rattle.qt_atoms.specs.Atoms.{number_in, kind_in, framed, atom_at}
use Rattle.qt_atoms.specs.Written.{atom, ended, begun_atom, Node, atom_of, IsNode, placed, rows}
use Rattle.std.proofs.Common.{None}
use Rattle.std.specs.List.{flat_map, AllByRecursion}
use Rattle.qt_atoms.specs.declared.atom.Atom.{Atom}
use Rattle.qt_atoms.specs.Atoms.{Walk, and_then, walk, walk_over, StartsAt, LiesIn}
use Rattle.qt_atoms.proofs.Walks.{walk-none, walk-step, walk-on}
use Rattle.std.proofs.Common.{length-append}

framed-fits : (kind : List ℕ) (at end size : ℕ) → 8 ≤ size → size ≤ end - at → framed kind at end 8 size ≡ Ok (steps.Atom (record { kind = kind; at = at; body = at + 8; end = at + size }))
framed-fits kind at end size le fits =
    let a : nat_lt size 8 ≡ false = grind (arith, nat_tests) in
    let b : nat_lt (end - at) size ≡ false = grind (arith, nat_tests) in
    rw (a, b) refl

of-size : (file : List ℕ) (at end : ℕ) (top : Bool) (size : ℕ) → number_in w32 file at ≡ size → 8 ≤ size → size ≤ end - at → atom_at file at end top ≡ framed (kind_in file at) at end 8 size
unfolding atom_at
of-size file at end top size e le fits =
    let a : nat_lt (end - at) 8 ≡ false = grind (arith, nat_tests) in
    let b : nat_eq size 0 ≡ false = grind (arith, nat_tests) in
    let c : nat_eq size 1 ≡ false = grind (arith, nat_tests) in
    rw (e, a, b, c) refl

-- a written atom is read
pub atom_stands : (front kind body behind : List ℕ) (end : ℕ) (top : Bool) → length kind ≡ 4 → length body + 8 < 2 ^ 32 → length front + (length body + 8) ≤ end
    → atom_at (front ++ (atom kind body ++ behind)) (length front) end top
    ≡ Ok (steps.Atom (record { kind = kind; at = length front; body = length front + 8; end = length front + (length body + 8) }))
atom_stands front kind body behind end top four small fits =
    let file = front ++ (atom kind body ++ behind) in
    let here : drop (length front) file ≡ atom kind body ++ behind = drop_at front (atom kind body ++ behind) (length front) refl in
    let size : number_in w32 file (length front) ≡ length body + 8 = ap (λ l. from_be_bytes w32 (take 4 l)) here ∙ from_be_bytes-to_be_bytes_4 (length body + 8) small in
    let kind_is : kind_in file (length front) ≡ kind =
    ap (take 4) (sym (drop-drop 4 (length front) file) ∙ ap (drop 4) here) ∙ ap (take 4) (append_assoc kind body behind) ∙ take_at kind (body ++ behind) 4 four in
    of-size file (length front) end top (length body + 8) size (omega arith) (omega arith)
    ∙ framed-fits (kind_in file (length front)) (length front) end (length body + 8) (omega arith) (omega arith)
    ∙ ap (λ k. Ok (steps.Atom (record { kind = k; at = length front; body = length front + 8; end = length front + (length body + 8) }))) kind_is

-- an atom that was begun, filled and ended
pub ended_atom : (front kind body : List ℕ) → length kind ≡ 4 → ended (begun_atom front kind ++ body) (length front) ≡ front ++ atom kind body
ended_atom front kind body four =
    let rest = 0 ∷ 0 ∷ 0 ∷ 0 ∷ (kind ++ body) in
    let whole : begun_atom front kind ++ body ≡ front ++ rest = append_assoc front (0 ∷ 0 ∷ 0 ∷ 0 ∷ kind) body in
    let len : length (front ++ rest) - length front ≡ length body + 8 = omega (arith, length-append front rest, length-append kind body) in
    let behind : drop (length front + 4) (front ++ rest) ≡ kind ++ body = sym (drop-drop 4 (length front) (front ++ rest)) ∙ ap (drop 4) (drop_at front rest (length front) refl) in
    ap (λ l. ended l (length front)) whole ∙ rw (len, behind, take_at front rest (length front) refl) refl

-- a walk over consecutive written atoms meets exactly these
pub walk_written : (nodes : List Node) (front behind : List ℕ) (end : ℕ) (top : Bool) → AllByRecursion IsNode nodes → end ≡ length front + length (flat_map atom_of nodes)
    → walk (front ++ (flat_map atom_of nodes ++ behind)) (length front) end top ≡ record { atoms = placed (length front) nodes; bad = None }
walk_written [] front behind end top h e = walk-none (front ++ behind) (length front) end top (omega (arith, e))
walk_written (n ∷ nodes) front behind end top h e =
    let A = atom_of n in
    let rest = flat_map atom_of nodes in
    let F = front ++ (A ++ (rest ++ behind)) in
    let G = (front ++ A) ++ (rest ++ behind) in
    let at = length front in
    let a : Atom = record { kind = n.kind; at = at; body = at + 8; end = at + (length n.body + 8) } in
    let lenA : length A ≡ length n.body + 8 = omega (arith, length-append n.kind n.body, h.0.kind) in
    let len : length (front ++ A) ≡ at + (length n.body + 8) = omega (arith, length-append front A, lenA) in
    let all : length (A ++ rest) ≡ length A + length rest = length-append A rest in
    let inside : at + (length n.body + 8) ≤ end = omega (arith, e, all, lenA) in
    let e0 : front ++ ((A ++ rest) ++ behind) ≡ F = ap (λ l. front ++ l) (append_assoc A rest behind) in
    let e1 : F ≡ G = sym (append_assoc front A (rest ++ behind)) in
    let there = atom_stands front n.kind n.body (rest ++ behind) end top h.0.kind h.0.size inside in
    let first = walk-step F at end top (omega (arith, inside)) ∙ ap (λ r. and_then r (λ b. walk_over F end top ((end - at) - 1) ((b.end - b.at) - 1))) there in
    let lies : LiesIn at end a = record { begins = omega arith; head = omega arith; within = omega arith; ends = inside } in
    let starts : StartsAt at end (steps.Atom a) = (refl, lies) in
    let on = walk-on F at end top a (omega (arith, inside)) starts in
    let ih = walk_written nodes (front ++ A) behind end top h.1 (omega (arith, e, all, lenA, len)) in
    let others : walk F (at + (length n.body + 8)) end top ≡ record { atoms = placed (at + (length n.body + 8)) nodes; bad = None } =
    ap (λ f. walk f (at + (length n.body + 8)) end top) e1
    ∙ ap (λ p. walk G p end top) (sym len) ∙ ih
    ∙ ap (λ p. (let w : Walk = record { atoms = placed p nodes; bad = None } in w)) len in
    ap (λ f. walk f at end top) e0 ∙ first ∙ ap (λ (w : Walk). (let v : Walk = record { atoms = a ∷ w.atoms; bad = w.bad } in v)) (on ∙ others)

-- consecutive written rows are read back, if one row is
pub rows-at : {X Y : Type 0} (row : ℕ → X) (bytes : Y → List ℕ) (value : Y → X) (step : ℕ) (Fits : Y → Type 0) (file : List ℕ)
    → ((place : ℕ) (y : Y) (behind : List ℕ) → drop place file ≡ bytes y ++ behind → Fits y → row place ≡ value y) → ((y : Y) → length (bytes y) ≡ step)
    → (place : ℕ) (ys : List Y) (behind : List ℕ) → drop place file ≡ flat_map bytes ys ++ behind → AllByRecursion Fits ys → rows row place step (length ys) ≡ map value ys
rows-at row bytes value step Fits file is-read width place [] behind there h = refl
rows-at row bytes value step Fits file is-read width place (y ∷ ys) behind there h =
    let rest = flat_map bytes ys ++ behind in
    let here : drop place file ≡ bytes y ++ rest = there ∙ append_assoc (bytes y) (flat_map bytes ys) behind in
    let next : drop (place + step) file ≡ rest = sym (drop-drop step place file) ∙ ap (drop step) here ∙ drop_at (bytes y) rest step (width y) in
    ap (λ x. x ∷ rows row (place + step) step (length ys)) (is-read place y rest here h.0)
    ∙ ap (λ l. value y ∷ l) (rows-at row bytes value step Fits file is-read width (place + step) ys behind next h.1)

-- consecutive written numbers are read back from an offset
pub numbers-from : (file : List ℕ) (place : ℕ) (ns behind : List ℕ) → drop place file ≡ flat_map (to_be_bytes w32) ns ++ behind → AllByRecursion (λ n. n < 2 ^ 32) ns
    → rows (number_in w32 file) place 4 (length ns) ≡ ns
numbers-from file place ns behind there h =
    rows-at (number_in w32 file) (to_be_bytes w32) (λ n. n) 4 (λ n. n < 2 ^ 32) file
    (λ place n rest e fits. ap (λ l. from_be_bytes w32 (take 4 l)) e ∙ from_be_bytes-to_be_bytes_4 n fits) (λ n. refl) place ns behind there h ∙ map-id ns

pub longs-from : (file : List ℕ) (place : ℕ) (ns behind : List ℕ) → drop place file ≡ flat_map (to_be_bytes w64) ns ++ behind → AllByRecursion (λ n. n < 2 ^ 64) ns
    → rows (number_in w64 file) place 8 (length ns) ≡ ns
longs-from file place ns behind there h =
    rows-at (number_in w64 file) (to_be_bytes w64) (λ n. n) 8 (λ n. n < 2 ^ 64) file
    (λ place n rest e fits. ap (λ l. from_be_bytes w64 (take 8 l)) e ∙ from_be_bytes-to_be_bytes_8 n fits) (λ n. refl) place ns behind there h ∙ map-id ns

-- consecutive 32-bit numbers that were written are read back
pub rows_written : (numbers front behind : List ℕ) → AllByRecursion (λ n. n < 2 ^ 32) numbers
    → rows (number_in w32 (front ++ (flat_map (to_be_bytes w32) numbers ++ behind))) (length front) 4 (length numbers) ≡ numbers
rows_written numbers front behind h =
    let text = flat_map (to_be_bytes w32) numbers ++ behind in
    numbers-from (front ++ text) (length front) numbers behind (drop_at front text (length front) refl) h

-- consecutive 64-bit numbers that were written are read back
pub rows_written_long : (numbers front behind : List ℕ) → AllByRecursion (λ n. n < 2 ^ 64) numbers
    → rows (number_in w64 (front ++ (flat_map (to_be_bytes w64) numbers ++ behind))) (length front) 8 (length numbers) ≡ numbers
rows_written_long numbers front behind h =
    let text = flat_map (to_be_bytes w64) numbers ++ behind in
    longs-from (front ++ text) (length front) numbers behind (drop_at front text (length front) refl) h
