-- The first `moov` of a file, found in one walk over its top level.
use Rattle.std.proofs.Common.{◌≡◌, ℕ, ◌≤◌, ◌<◌, Bool, true, false, List, [], ◌∷◌, Option, Some, None, Ok, refl, sym, ap, subst, ◌∙◌, arith, length}
use Rattle.std.specs.Prelude.{codes, Result, Err, IfOk, IfSome, if◌then◌else◌}
use Rattle.pw_outside.specs.Reading.{bind, ◌>>=◌, Fails, bad}
use Rattle.qt_atoms.specs.declared.atom.Atom.{Atom}
use Rattle.qt_atoms.specs.declared.atom.Step.TheVariants as steps
use Rattle.qt_atoms.specs.declared.atom.AtomFault.{AtomFault}
use Rattle.qt_atoms.specs.declared.atom.AtomFault.TheVariants as atoms
use Rattle.qt_atoms.specs.Atoms.{Walk, walk, atom_at, first_in, found_or, is_kind, is_one_of, StartsAt, LiesIn, told_fault as atoms_told}
use Rattle.qt_atoms.proofs.Walks.{walk-none, walk_atom, walk_end, walk_bad}
use Rattle.qt_tables.specs.declared.fault.MovieKind.TheVariants as kinds
use Rattle.qt_tables.specs.declared.fault.MovieFault.{MovieFault}
use Rattle.qt_tables.specs.Faults.{Found, told_fault, lifted, sized, some_or}
use Rattle.qt_movie.specs.Movie.{moov_in, moov_or, refuse_at}

-- the result of the rest of a walk, after this `moov` was met
unfoldable pub moov_from : Option Atom → Walk → Found Atom
moov_from met w = do
  fragment ← sized (first_in (is_one_of (codes "moof" ∷ [])) w)
  _ ← refuse_at fragment (λ _. kinds.Fragmented)
  moov ← sized (found_or met (first_in (is_one_of (codes "moov" ∷ [])) w))
  some_or moov kinds.NoMoov 0

pub moov-begin : (file : List ℕ) (end : ℕ) → end ≡ length file → moov_from None (walk file 0 end true) ≡ moov_in file
unfolding moov_from moov_in bind
moov-begin file end e = rw e refl

-- the walk ends
over : (met : Option Atom) → moov_from met (record { atoms = []; bad = None }) ≡ some_or met kinds.NoMoov 0
unfolding moov_from bind
over None = refl
over (Some m) = refl

pub moov-none : (file : List ℕ) (place end : ℕ) (met : Option Atom) (total : Found Atom) → end ≤ place → moov_from met (walk file place end true) ≡ total → total ≡ some_or met kinds.NoMoov 0
moov-none file place end met total le so_far = sym so_far ∙ ap (moov_from met) (walk-none file place end true le) ∙ over met

pub moov-end : (file : List ℕ) (place end : ℕ) (met : Option Atom) (total : Found Atom) → place < end → atom_at file place end true ≡ Ok steps.End → moov_from met (walk file place end true) ≡ total → total ≡ some_or met kinds.NoMoov 0
moov-end file place end met total lt h so_far = sym so_far ∙ ap (moov_from met) (walk_end file place end true lt h) ∙ over met

-- the walk meets a bad size
unsized : (met : Option Atom) (at : ℕ) → moov_from met (record { atoms = []; bad = Some at }) ≡ bad kinds.AtomSize at
unfolding moov_from bind
unsized met at = refl

pub moov-fail : (e : AtomFault) (file : List ℕ) (place end : ℕ) (met : Option Atom) (total : Found Atom) → place < end → Fails atoms_told e (atom_at file place end true) → moov_from met (walk file place end true) ≡ total
    → Fails told_fault (lifted e) total
moov-fail (atoms.Size at) file place end met total lt h so_far = sym so_far ∙ ap (moov_from met) (walk_bad file place end true at lt h) ∙ unsized met at
moov-fail atoms.Failed file place end met total lt h so_far = tt

-- the walk meets a fragment
fragment : (met : Option Atom) (a : Atom) (w : Walk) → is_kind (codes "moof") a ≡ true → moov_from met (record { atoms = a ∷ w.atoms; bad = w.bad }) ≡ bad kinds.Fragmented a.at
unfolding moov_from bind
fragment met a w t = rw t refl

pub moov-fragment : (file : List ℕ) (place end : ℕ) (met : Option Atom) (a : Atom) (total : Found Atom) → place < end → atom_at file place end true ≡ Ok (steps.Atom a) → StartsAt place end (steps.Atom a) → is_kind (codes "moof") a ≡ true
    → moov_from met (walk file place end true) ≡ total → total ≡ bad kinds.Fragmented a.at
moov-fragment file place end met a total lt h s t so_far =
    sym so_far ∙ ap (moov_from met) (walk_atom file place end true a lt h s) ∙ fragment met a (walk file a.end end true) t

-- the walk continues
goes-on-behind : (m a : Atom) (w : Walk) → is_kind (codes "moof") a ≡ false → moov_from (Some m) (record { atoms = a ∷ w.atoms; bad = w.bad }) ≡ moov_from (Some m) w
unfolding moov_from bind
goes-on-behind m a w t = rw t refl

goes-on-moov : (a : Atom) (w : Walk) → is_kind (codes "moof") a ≡ false → is_kind (codes "moov") a ≡ true → moov_from None (record { atoms = a ∷ w.atoms; bad = w.bad }) ≡ moov_from (Some a) w
unfolding moov_from bind
goes-on-moov a w t e = rw (t, e) refl

goes-on-other : (a : Atom) (w : Walk) → is_kind (codes "moof") a ≡ false → is_kind (codes "moov") a ≡ false → moov_from None (record { atoms = a ∷ w.atoms; bad = w.bad }) ≡ moov_from None w
unfolding moov_from bind
goes-on-other a w t e = rw (t, e) refl

goes-on : (met : Option Atom) (a : Atom) (w : Walk) → is_kind (codes "moof") a ≡ false → moov_from met (record { atoms = a ∷ w.atoms; bad = w.bad }) ≡ moov_from (moov_or met a) w
goes-on (Some m) a w t = goes-on-behind m a w t
goes-on None a w t = by-kind (is_kind (codes "moov") a) refl
  where
    by-kind : (b : Bool) → is_kind (codes "moov") a ≡ b → moov_from None (record { atoms = a ∷ w.atoms; bad = w.bad }) ≡ moov_from (moov_or None a) w
    by-kind true e = goes-on-moov a w t e ∙ ap (λ (b : Bool). moov_from (if b then Some a else None) w) (sym e)
    by-kind false e = goes-on-other a w t e ∙ ap (λ (b : Bool). moov_from (if b then Some a else None) w) (sym e)

pub moov-on : (file : List ℕ) (place end : ℕ) (met : Option Atom) (a : Atom) (total : Found Atom) → place < end → atom_at file place end true ≡ Ok (steps.Atom a) → StartsAt place end (steps.Atom a) → is_kind (codes "moof") a ≡ false
    → moov_from met (walk file place end true) ≡ total → moov_from (moov_or met a) (walk file a.end end true) ≡ total
moov-on file place end met a total lt h s t so_far =
    sym (ap (moov_from met) (walk_atom file place end true a lt h s) ∙ goes-on met a (walk file a.end end true) t) ∙ so_far

-- the `moov` that was met lies in the file
pub moov-lies : (place end : ℕ) (met : Option Atom) (a : Atom) → IfSome met (LiesIn 0 end) → LiesIn place end a → IfSome (moov_or met a) (LiesIn 0 end)
moov-lies place end (Some m) a before here = before
moov-lies place end None a before here = lies (is_kind (codes "moov") a)
  where
    lies : (b : Bool) → IfSome (if b then Some a else None) (LiesIn 0 end)
    lies true = record { begins = omega arith; head = here.head; within = here.within; ends = here.ends }
    lies false = tt

pub met-lies : (end : ℕ) (moov : Option Atom) (r : Result Atom MovieFault) → IfOk r (λ m. moov ≡ Some m) → IfSome moov (LiesIn 0 end) → IfOk r (LiesIn 0 end)
met-lies end moov (Ok m) is lies = subst (λ o. IfSome o (LiesIn 0 end)) is lies
met-lies end moov (Err e) is lies = tt
