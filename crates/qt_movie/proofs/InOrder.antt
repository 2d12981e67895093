-- Reading descriptions, references and tracks in a loop.
use Rattle.std.proofs.Common.{◌≡◌, ℕ, suc, ◌-◌, ◌+◌, ◌≤◌, ◌<◌, Bool, true, false, List, [], ◌∷◌, ◌++◌, Option, None, Some, Ok, Err, refl, sym, ap, ◌∙◌, arith, append_assoc}
use Rattle.std.specs.List.{filter}
use Rattle.std.proofs.lemmas.List.{append-nil}
use Rattle.pw_outside.specs.Reading.{bind, ◌>>=◌, Fails}
use Rattle.pw_outside.proofs.Chains.{fails-whole}
use Rattle.qt_atoms.specs.declared.atom.Atom.{Atom}
use Rattle.qt_atoms.specs.declared.atom.Step.TheVariants as steps
use Rattle.qt_atoms.specs.declared.atom.AtomFault.{AtomFault}
use Rattle.qt_atoms.specs.declared.atom.AtomFault.TheVariants as atoms
use Rattle.qt_atoms.specs.Atoms.{walk, atom_at, StartsAt, told_fault as atoms_told}
use Rattle.qt_atoms.proofs.Walks.{walk-none, walk_atom, walk_end, walk_bad}
use Rattle.qt_tables.specs.declared.fault.MovieFault.{MovieFault}
use Rattle.qt_tables.specs.Faults.{Found, told_fault, lifted}
use Rattle.qt_movie.specs.declared.description.Description.{Description}
use Rattle.qt_movie.specs.declared.external.Reference.{Reference}
use Rattle.qt_movie.specs.Movie.{description_in, described, reference_at, references, VideoTrack, is_trak, track_in, first_track, or_else}

-- the items read so far, and then the items still to be read
abbrev pub after_front : {X : Type 0} → List X → Found (List X) → Found (List X)
after_front front found = found >>= λ others. Ok (front ++ others)

-- the next item moves to those read so far
after_front-more : {X : Type 0} (front : List X) (first : X) (found : Found (List X)) → after_front front (found >>= λ others. Ok (first ∷ others)) ≡ after_front (front ++ first ∷ []) found
unfolding bind
after_front-more front first (Ok others) = ap Ok (sym (append_assoc front (first ∷ []) others))
after_front-more front first (Err e) = refl

-- if nothing was read so far, all items are still to be read
pub after_front_nil : {X : Type 0} (found : Found (List X)) → after_front [] found ≡ found
unfolding bind
after_front_nil (Ok others) = refl
after_front_nil (Err e) = refl

-- ---- descriptions

pub described-more : (file : List ℕ) (stsd : Atom) (front : List Description) (count i place : ℕ) (d : Description) (total : Found (List Description)) → i < count → description_in file stsd place ≡ Ok d
    → after_front front (described file stsd (count - i) place) ≡ total → after_front (front ++ d ∷ []) (described file stsd (count - (i + 1)) (place + d.size)) ≡ total
unfolding described bind
described-more file stsd front count i place d total lt h so_far =
    let k : count - i ≡ suc (count - (i + 1)) = omega arith in
    let one : after_front front (described file stsd (count - i) place) ≡ after_front (front ++ d ∷ []) (described file stsd (count - (i + 1)) (place + d.size)) = rw (k, h) (after_front-more front d (described file stsd (count - (i + 1)) (place + d.size))) in
    sym one ∙ so_far

pub described-end : (fault : MovieFault) (file : List ℕ) (stsd : Atom) (front : List Description) (count i place : ℕ) (total : Found (List Description)) → i < count
    → Fails told_fault fault (description_in file stsd place) → after_front front (described file stsd (count - i) place) ≡ total → Fails told_fault fault total
unfolding described bind
described-end fault file stsd front count i place total lt h so_far =
    let k : count - i ≡ suc (count - (i + 1)) = omega arith in
    fails-whole told_fault fault (description_in file stsd place) total (λ f e. sym so_far ∙ rw (k, e) refl) h

pub described-all : (file : List ℕ) (stsd : Atom) (front : List Description) (count i place : ℕ) (total : Found (List Description)) → count ≤ i
    → after_front front (described file stsd (count - i) place) ≡ total → total ≡ Ok front
unfolding described bind
described-all file stsd front count i place total le so_far =
    let k : count - i ≡ 0 = omega arith in
    let one : after_front front (described file stsd (count - i) place) ≡ Ok front = rw k (ap Ok (append-nil front)) in
    sym so_far ∙ one

-- ---- references

pub references-more : (file : List ℕ) (end : ℕ) (front : List Bool) (count i place : ℕ) (r : Reference) (total : List Bool) → i < count → reference_at file place end ≡ Some r
    → front ++ references file end (count - i) place ≡ total → (front ++ r.here ∷ []) ++ references file end (count - (i + 1)) (place + r.size) ≡ total
references-more file end front count i place r total lt h so_far =
    let k : count - i ≡ suc (count - (i + 1)) = omega arith in
    let one : front ++ references file end (count - i) place ≡ (front ++ r.here ∷ []) ++ references file end (count - (i + 1)) (place + r.size) = rw (k, h) (sym (append_assoc front (r.here ∷ []) (references file end (count - (i + 1)) (place + r.size)))) in
    sym one ∙ so_far

pub references-end : (file : List ℕ) (end : ℕ) (front : List Bool) (count i place : ℕ) (total : List Bool) → i < count → reference_at file place end ≡ None
    → front ++ references file end (count - i) place ≡ total → total ≡ front
references-end file end front count i place total lt h so_far =
    let k : count - i ≡ suc (count - (i + 1)) = omega arith in
    let one : front ++ references file end (count - i) place ≡ front = rw (k, h) (append-nil front) in
    sym so_far ∙ one

-- ---- tracks

-- the first track of a `moov` from an offset on, with the number of the next
abbrev pub track_from : List ℕ → (place end number : ℕ) → Found (Option VideoTrack)
track_from file place end number = first_track file (filter is_trak (walk file place end false).atoms) number

pub tracks-none : (file : List ℕ) (place end number : ℕ) (total : Found (Option VideoTrack)) → end ≤ place → track_from file place end number ≡ total → total ≡ Ok None
unfolding first_track
tracks-none file place end number total le so_far = sym so_far ∙ ap (λ w. first_track file (filter is_trak w.atoms) number) (walk-none file place end false le)

pub tracks-end : (file : List ℕ) (place end number : ℕ) (total : Found (Option VideoTrack)) → place < end → atom_at file place end false ≡ Ok steps.End → track_from file place end number ≡ total → total ≡ Ok None
unfolding first_track
tracks-end file place end number total lt h so_far = sym so_far ∙ ap (λ w. first_track file (filter is_trak w.atoms) number) (walk_end file place end false lt h)

pub some-not-none : (place : ℕ) → (let x : Option ℕ = Some place in x) ≡ None → ⊥
some-not-none place h = grind arith

-- a `moov` without a bad size has none at any atom
pub tracks-fail : (e : AtomFault) (file : List ℕ) (place end : ℕ) (total : Found (Option VideoTrack)) → place < end → Fails atoms_told e (atom_at file place end false) → (walk file place end false).bad ≡ None
    → Fails told_fault (lifted e) total
tracks-fail (atoms.Size at) file place end total lt h whole = absurd (some-not-none at (sym (ap (λ w. w.bad) (walk_bad file place end false at lt h)) ∙ whole))
tracks-fail atoms.Failed file place end total lt h whole = tt

pub whole-on : (file : List ℕ) (place end : ℕ) (a : Atom) → place < end → atom_at file place end false ≡ Ok (steps.Atom a) → StartsAt place end (steps.Atom a) → (walk file place end false).bad ≡ None → (walk file a.end end false).bad ≡ None
whole-on file place end a lt h s whole = sym (ap (λ w. w.bad) (walk_atom file place end false a lt h s)) ∙ whole

-- an atom that is no track is skipped
pub tracks-passed : (file : List ℕ) (place end number : ℕ) (a : Atom) (total : Found (Option VideoTrack)) → place < end → atom_at file place end false ≡ Ok (steps.Atom a) → StartsAt place end (steps.Atom a) → is_trak a ≡ false
    → track_from file place end number ≡ total → track_from file a.end end number ≡ total
tracks-passed file place end number a total lt h s t so_far =
    let one : track_from file place end number ≡ track_from file a.end end number = ap (λ w. first_track file (filter is_trak w.atoms) number) (walk_atom file place end false a lt h s) ∙ rw t refl in
    sym one ∙ so_far

tracks-here : (file : List ℕ) (place end number : ℕ) (a : Atom) → place < end → atom_at file place end false ≡ Ok (steps.Atom a) → StartsAt place end (steps.Atom a) → is_trak a ≡ true
    → track_from file place end number ≡ (track_in file number a >>= λ here. or_else here (track_from file a.end end (number + 1)))
unfolding first_track
tracks-here file place end number a lt h s t = ap (λ w. first_track file (filter is_trak w.atoms) number) (walk_atom file place end false a lt h s) ∙ rw t refl

pub tracks-here-fail : (fault : MovieFault) (file : List ℕ) (place end number : ℕ) (a : Atom) (total : Found (Option VideoTrack)) → place < end → atom_at file place end false ≡ Ok (steps.Atom a) → StartsAt place end (steps.Atom a) → is_trak a ≡ true
    → Fails told_fault fault (track_in file number a) → track_from file place end number ≡ total → Fails told_fault fault total
unfolding bind
tracks-here-fail fault file place end number a total lt h s t fails so_far =
    fails-whole told_fault fault (track_in file number a) total (λ f e. sym so_far ∙ tracks-here file place end number a lt h s t ∙ rw e refl) fails

pub tracks-taken : (file : List ℕ) (place end number : ℕ) (a : Atom) (track : VideoTrack) (total : Found (Option VideoTrack)) → place < end → atom_at file place end false ≡ Ok (steps.Atom a) → StartsAt place end (steps.Atom a) → is_trak a ≡ true
    → track_in file number a ≡ Ok (Some track) → track_from file place end number ≡ total → total ≡ Ok (Some track)
unfolding bind
tracks-taken file place end number a track total lt h s t e so_far = sym so_far ∙ tracks-here file place end number a lt h s t ∙ rw e refl

pub tracks-not_taken : (file : List ℕ) (place end number : ℕ) (a : Atom) (total : Found (Option VideoTrack)) → place < end → atom_at file place end false ≡ Ok (steps.Atom a) → StartsAt place end (steps.Atom a) → is_trak a ≡ true
    → track_in file number a ≡ Ok None → track_from file place end number ≡ total → track_from file a.end end (number + 1) ≡ total
unfolding bind
tracks-not_taken file place end number a total lt h s t e so_far =
    let one : track_from file place end number ≡ track_from file a.end end (number + 1) = tracks-here file place end number a lt h s t ∙ rw e refl in
    sym one ∙ so_far
