-- Tracks, descriptions and chunks, one after the other, as a loop reads them.
use Rattle.std.proofs.Common.{◌≡◌, ℕ, suc, ◌-◌, ◌+◌, ◌≤◌, ◌<◌, Bool, true, false, List, Option, None, Some, Ok, refl, sym, ap, ◌∙◌, arith}
use Rattle.std.specs.List.{filter}
use Rattle.pw_outside.specs.Reading.{bind, ◌>>=◌, Fails}
use Rattle.pw_outside.proofs.Chains.{fails-whole}
use Rattle.qt_atoms.specs.declared.atom.Atom.{Atom}
use Rattle.qt_atoms.specs.declared.atom.Step.TheVariants as steps
use Rattle.qt_atoms.specs.declared.atom.AtomFault.{AtomFault}
use Rattle.qt_atoms.specs.declared.atom.AtomFault.TheVariants as atoms
use Rattle.qt_atoms.specs.Atoms.{walk, atom_at, StartsAt, told_fault as atoms_told}
use Rattle.qt_atoms.proofs.Walks.{walk-none, walk_atom, walk_end, walk_bad}
use Rattle.qt_tables.specs.declared.fault.MovieFault.{MovieFault}
use Rattle.qt_tables.specs.Faults.{Found, told_fault, lifted}
use Rattle.qt_movie.specs.declared.parts.Parts.{Parts}
use Rattle.qt_movie.specs.declared.description.Description.{Description}
use Rattle.qt_movie.specs.Movie.{is_trak, or_else, is_external, lies_here}
use Rattle.pcm_track.specs.Track.{sound_track_in, first_sound, readable_at, readable}

-- ---- tracks

-- the first sound track of a `moov` from an offset on
abbrev pub sound_from : List ℕ → (place end : ℕ) → Found (Option Parts)
sound_from file place end = first_sound file (filter is_trak (walk file place end false).atoms)

pub sounds-none : (file : List ℕ) (place end : ℕ) (total : Found (Option Parts)) → end ≤ place → sound_from file place end ≡ total → total ≡ Ok None
unfolding first_sound
sounds-none file place end total le so_far = sym so_far ∙ ap (λ w. first_sound file (filter is_trak w.atoms)) (walk-none file place end false le)

pub sounds-end : (file : List ℕ) (place end : ℕ) (total : Found (Option Parts)) → place < end → atom_at file place end false ≡ Ok steps.End → sound_from file place end ≡ total → total ≡ Ok None
unfolding first_sound
sounds-end file place end total lt h so_far = sym so_far ∙ ap (λ w. first_sound file (filter is_trak w.atoms)) (walk_end file place end false lt h)

some-not-none : (place : ℕ) → (let x : Option ℕ = Some place in x) ≡ None → ⊥
some-not-none place h = grind arith

-- a `moov` without a bad size has none at any offset
pub sounds-fail : (e : AtomFault) (file : List ℕ) (place end : ℕ) (total : Found (Option Parts)) → place < end → Fails atoms_told e (atom_at file place end false) → (walk file place end false).bad ≡ None
    → Fails told_fault (lifted e) total
sounds-fail (atoms.Size at) file place end total lt h whole = absurd (some-not-none at (sym (ap (λ w. w.bad) (walk_bad file place end false at lt h)) ∙ whole))
sounds-fail atoms.Failed file place end total lt h whole = tt

pub whole-on : (file : List ℕ) (place end : ℕ) (a : Atom) → place < end → atom_at file place end false ≡ Ok (steps.Atom a) → StartsAt place end (steps.Atom a) → (walk file place end false).bad ≡ None → (walk file a.end end false).bad ≡ None
whole-on file place end a lt h s whole = sym (ap (λ w. w.bad) (walk_atom file place end false a lt h s)) ∙ whole

-- an atom that is no track is skipped
pub sounds-passed : (file : List ℕ) (place end : ℕ) (a : Atom) (total : Found (Option Parts)) → place < end → atom_at file place end false ≡ Ok (steps.Atom a) → StartsAt place end (steps.Atom a) → is_trak a ≡ false
    → sound_from file place end ≡ total → sound_from file a.end end ≡ total
sounds-passed file place end a total lt h s t so_far =
    let one : sound_from file place end ≡ sound_from file a.end end = ap (λ w. first_sound file (filter is_trak w.atoms)) (walk_atom file place end false a lt h s) ∙ rw t refl in
    sym one ∙ so_far

sounds-here : (file : List ℕ) (place end : ℕ) (a : Atom) → place < end → atom_at file place end false ≡ Ok (steps.Atom a) → StartsAt place end (steps.Atom a) → is_trak a ≡ true
    → sound_from file place end ≡ (sound_track_in file a >>= λ here. or_else here (sound_from file a.end end))
unfolding first_sound
sounds-here file place end a lt h s t = ap (λ w. first_sound file (filter is_trak w.atoms)) (walk_atom file place end false a lt h s) ∙ rw t refl

pub sounds-here-fail : (fault : MovieFault) (file : List ℕ) (place end : ℕ) (a : Atom) (total : Found (Option Parts)) → place < end → atom_at file place end false ≡ Ok (steps.Atom a) → StartsAt place end (steps.Atom a) → is_trak a ≡ true
    → Fails told_fault fault (sound_track_in file a) → sound_from file place end ≡ total → Fails told_fault fault total
unfolding bind
sounds-here-fail fault file place end a total lt h s t fails so_far =
    fails-whole told_fault fault (sound_track_in file a) total (λ f e. sym so_far ∙ sounds-here file place end a lt h s t ∙ rw e refl) fails

pub sounds-taken : (file : List ℕ) (place end : ℕ) (a : Atom) (parts : Parts) (total : Found (Option Parts)) → place < end → atom_at file place end false ≡ Ok (steps.Atom a) → StartsAt place end (steps.Atom a) → is_trak a ≡ true
    → sound_track_in file a ≡ Ok (Some parts) → sound_from file place end ≡ total → total ≡ Ok (Some parts)
unfolding bind
sounds-taken file place end a parts total lt h s t e so_far = sym so_far ∙ sounds-here file place end a lt h s t ∙ rw e refl

pub sounds-not_taken : (file : List ℕ) (place end : ℕ) (a : Atom) (total : Found (Option Parts)) → place < end → atom_at file place end false ≡ Ok (steps.Atom a) → StartsAt place end (steps.Atom a) → is_trak a ≡ true
    → sound_track_in file a ≡ Ok None → sound_from file place end ≡ total → sound_from file a.end end ≡ total
unfolding bind
sounds-not_taken file place end a total lt h s t e so_far =
    let one : sound_from file place end ≡ sound_from file a.end end = sounds-here file place end a lt h s t ∙ rw e refl in
    sym one ∙ so_far

-- ---- descriptions

pub readable-end : (refs : List Bool) (file : List ℕ) (stsd : Atom) (count i place : ℕ) (total : Bool) → i < count → readable_at file stsd place ≡ None
    → is_external refs (readable file stsd (count - i) place) ≡ total → total ≡ false
readable-end refs file stsd count i place total lt h so_far =
    let k : count - i ≡ suc (count - (i + 1)) = omega arith in
    let one : is_external refs (readable file stsd (count - i) place) ≡ false = rw (k, h) refl in
    sym so_far ∙ one

pub readable-external : (refs : List Bool) (file : List ℕ) (stsd : Atom) (count i place : ℕ) (d : Description) (total : Bool) → i < count → readable_at file stsd place ≡ Some d → lies_here refs d.reference ≡ false
    → is_external refs (readable file stsd (count - i) place) ≡ total → total ≡ true
readable-external refs file stsd count i place d total lt h e so_far =
    let k : count - i ≡ suc (count - (i + 1)) = omega arith in
    let one : is_external refs (readable file stsd (count - i) place) ≡ true = rw (k, h, e) refl in
    sym so_far ∙ one

pub readable-more : (refs : List Bool) (file : List ℕ) (stsd : Atom) (count i place : ℕ) (d : Description) (total : Bool) → i < count → readable_at file stsd place ≡ Some d → lies_here refs d.reference ≡ true
    → is_external refs (readable file stsd (count - i) place) ≡ total → is_external refs (readable file stsd (count - (i + 1)) (place + d.size)) ≡ total
readable-more refs file stsd count i place d total lt h e so_far =
    let k : count - i ≡ suc (count - (i + 1)) = omega arith in
    let one : is_external refs (readable file stsd (count - i) place) ≡ is_external refs (readable file stsd (count - (i + 1)) (place + d.size)) = rw (k, h, e) refl in
    sym one ∙ so_far
