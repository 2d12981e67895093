-- A walk from atom to atom.
use Rattle.std.proofs.Common.{◌≡◌, ℕ, zero, suc, ◌-◌, ◌≤◌, ◌<◌, Bool, true, false, List, [], ◌∷◌, Option, Some, None, Ok, refl, sym, ap, ◌∙◌, arith}
use Rattle.std.specs.List.{find}
use Rattle.qt_atoms.specs.declared.atom.Atom.{Atom}
use Rattle.qt_atoms.specs.declared.atom.Step.{Step}
use Rattle.qt_atoms.specs.declared.atom.Step.TheVariants as steps
use Rattle.qt_atoms.specs.declared.atom.AtomFault.{AtomFault}
use Rattle.qt_atoms.specs.declared.atom.AtomFault.TheVariants as faults
use Rattle.pw_outside.specs.Reading.{Fails}
use Rattle.qt_atoms.specs.Atoms.{Walk, Sized, bad_size, told_fault, and_then, atom_at, walk_over, walk, first_in, found_or, none_or_bad, StartsAt}

-- the bytes of an atom are skipped
pub passed : (file : List ℕ) (end : ℕ) (top : Bool) (left inside : ℕ) → inside ≤ left → walk_over file end top left inside ≡ walk_over file end top (left - inside) 0
unfolding walk_over
passed file end top zero zero h = ap (λ m. walk_over file end top m 0) (let e : 0 ≡ 0 - 0 = omega arith in e)
passed file end top zero (suc k) h = absurd (omega arith)
passed file end top (suc n) zero h =
    let e : suc n ≡ suc n - 0 = omega arith in
    ap (λ m. walk_over file end top m 0) e
passed file end top (suc n) (suc k) h =
    let e : suc n - suc k ≡ n - k = omega arith in
    passed file end top n k (omega arith) ∙ ap (λ m. walk_over file end top m 0) (sym e)

pub walk-none : (file : List ℕ) (at end : ℕ) (top : Bool) → end ≤ at → walk file at end top ≡ record { atoms = []; bad = None }
unfolding walk_over
walk-none file at end top h =
    let e : end - at ≡ 0 = omega arith in
    rw e refl

-- one step of a walk
step-of : (file : List ℕ) (at end : ℕ) (top : Bool) (left n : ℕ) → left ≡ suc n → end - suc n ≡ at
    → walk_over file end top left 0 ≡ and_then (atom_at file at end top) (λ a. walk_over file end top n ((a.end - a.at) - 1))
unfolding walk_over
step-of file at end top left n e p = rw (e, p) refl

pub walk-step : (file : List ℕ) (at end : ℕ) (top : Bool) → at < end → walk file at end top ≡ and_then (atom_at file at end top) (λ a. walk_over file end top ((end - at) - 1) ((a.end - a.at) - 1))
walk-step file at end top lt = step-of file at end top (end - at) ((end - at) - 1) (omega arith) (omega arith)

-- the walk continues after an atom
pub walk-on : (file : List ℕ) (at end : ℕ) (top : Bool) (a : Atom) → at < end → StartsAt at end (steps.Atom a)
    → walk_over file end top ((end - at) - 1) ((a.end - a.at) - 1) ≡ walk file a.end end top
walk-on file at end top a lt s =
    let lies = s.1 in
    let e : ((end - at) - 1) - ((a.end - a.at) - 1) ≡ end - a.end = omega (arith, s.0, lies.begins, lies.head, lies.within, lies.ends) in
    passed file end top ((end - at) - 1) ((a.end - a.at) - 1) (omega (arith, s.0, lies.begins, lies.head, lies.within, lies.ends)) ∙ ap (λ m. walk_over file end top m 0) e

none-whole : (found : Option Atom) (bad : Option ℕ) → found_or found (none_or_bad bad) ≡ Ok None → bad ≡ None
none-whole None None h = refl
none-whole None (Some place) h = grind arith
none-whole (Some a) bad h = grind arith

-- the walk from an atom on, the walk that ends here, and the walk ended by a bad size
pub walk_atom : (file : List ℕ) (at end : ℕ) (top : Bool) (a : Atom) → at < end → atom_at file at end top ≡ Ok (steps.Atom a) → StartsAt at end (steps.Atom a)
    → walk file at end top ≡ record { atoms = a ∷ (walk file a.end end top).atoms; bad = (walk file a.end end top).bad }
walk_atom file at end top a lt h s =
    walk-step file at end top lt ∙ ap (λ r. and_then r (λ b. walk_over file end top ((end - at) - 1) ((b.end - b.at) - 1))) h
    ∙ ap (λ (w : Walk). (let v : Walk = record { atoms = a ∷ w.atoms; bad = w.bad } in v)) (walk-on file at end top a lt s)

pub walk_end : (file : List ℕ) (at end : ℕ) (top : Bool) → at < end → atom_at file at end top ≡ Ok steps.End → walk file at end top ≡ record { atoms = []; bad = None }
walk_end file at end top lt h = walk-step file at end top lt ∙ ap (λ r. and_then r (λ b. walk_over file end top ((end - at) - 1) ((b.end - b.at) - 1))) h

pub walk_bad : (file : List ℕ) (at end : ℕ) (top : Bool) (place : ℕ) → at < end → atom_at file at end top ≡ bad_size place → walk file at end top ≡ record { atoms = []; bad = Some place }
walk_bad file at end top place lt h = walk-step file at end top lt ∙ ap (λ r. and_then r (λ b. walk_over file end top ((end - at) - 1) ((b.end - b.at) - 1))) h

-- if `first_in` returns nothing, no atom passes the test and the walk has no bad size
pub none_is_whole : (test : Atom → Bool) (w : Walk) → first_in test w ≡ Ok None → w.bad ≡ None
none_is_whole test w h = none-whole (find test w.atoms) w.bad h

-- ---- the first of a walk

first-step : (test : Atom → Bool) (file : List ℕ) (at end : ℕ) (top : Bool) (r : Sized Step) → at < end → atom_at file at end top ≡ r
    → first_in test (walk file at end top) ≡ first_in test (and_then r (λ a. walk_over file end top ((end - at) - 1) ((a.end - a.at) - 1)))
first-step test file at end top r lt h =
    ap (first_in test) (walk-step file at end top lt ∙ ap (λ r. and_then r (λ a. walk_over file end top ((end - at) - 1) ((a.end - a.at) - 1))) h)

pub first-none : (test : Atom → Bool) (file : List ℕ) (at end : ℕ) (top : Bool) (total : Sized (Option Atom)) → end ≤ at
    → first_in test (walk file at end top) ≡ total → total ≡ Ok None
first-none test file at end top total h so_far = sym so_far ∙ ap (first_in test) (walk-none file at end top h)

pub first-end : (test : Atom → Bool) (file : List ℕ) (at end : ℕ) (top : Bool) (total : Sized (Option Atom)) → at < end → atom_at file at end top ≡ Ok steps.End
    → first_in test (walk file at end top) ≡ total → total ≡ Ok None
first-end test file at end top total lt h so_far = sym so_far ∙ first-step test file at end top (Ok steps.End) lt h

pub first-fails : (e : AtomFault) (test : Atom → Bool) (file : List ℕ) (at end : ℕ) (top : Bool) (total : Sized (Option Atom)) → at < end → Fails told_fault e (atom_at file at end top)
    → first_in test (walk file at end top) ≡ total → Fails told_fault e total
first-fails (faults.Size place) test file at end top total lt h so_far = sym so_far ∙ first-step test file at end top (bad_size place) lt h
first-fails faults.Failed test file at end top total lt h so_far = tt

pub first-hit : (test : Atom → Bool) (file : List ℕ) (at end : ℕ) (top : Bool) (a : Atom) (total : Sized (Option Atom)) → at < end → atom_at file at end top ≡ Ok (steps.Atom a) → test a ≡ true
    → first_in test (walk file at end top) ≡ total → total ≡ Ok (Some a)
first-hit test file at end top a total lt h t so_far = sym so_far ∙ first-step test file at end top (Ok (steps.Atom a)) lt h ∙ rw t refl

pub first-miss : (test : Atom → Bool) (file : List ℕ) (at end : ℕ) (top : Bool) (a : Atom) (total : Sized (Option Atom)) → at < end → atom_at file at end top ≡ Ok (steps.Atom a)
    → StartsAt at end (steps.Atom a) → test a ≡ false
    → first_in test (walk file at end top) ≡ total → first_in test (walk file a.end end top) ≡ total
first-miss test file at end top a total lt h s t so_far =
    let on = walk-on file at end top a lt s in
    let one : first_in test (walk file at end top) ≡ first_in test (walk file a.end end top) = first-step test file at end top (Ok (steps.Atom a)) lt h ∙ rw (t, on) refl in
    sym one ∙ so_far
