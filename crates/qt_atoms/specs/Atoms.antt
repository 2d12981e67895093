-- Atoms of a QuickTime file: the entry at an offset, the entries of a walk, and the first atom of a walk with one
-- of some kinds. QuickTime File Format, "Atoms". Which sizes are refused, and that a size 0 inside a parent ends
-- its walk, are our own.
use Rattle.std.specs.Prelude.{◌≡◌, ℕ, zero, suc, ◌+◌, ◌-◌, ◌≤◌, Bool, true, false, List, [], ◌∷◌, length, take, drop, Option, Some, None, Result, Ok, Err, nat_lt, ◌==◌, if◌then◌else◌, ◌||◌}
use Rattle.std.specs.List.{find, list_any}
use Rattle.std.specs.Str.{bytes_eq}
use Rattle.std.specs.Int.{Width, w32, w64, byte_len, from_be_bytes}
use Rattle.pw_outside.specs.Reading.{Fault, bad}
use Rattle.qt_atoms.specs.declared.atom.Atom.{Atom}
use Rattle.qt_atoms.specs.declared.atom.Step.{Step}
use Rattle.qt_atoms.specs.declared.atom.Step.TheVariants as steps
use Rattle.qt_atoms.specs.declared.atom.AtomFault.{AtomFault}
use Rattle.qt_atoms.specs.declared.atom.AtomFault.TheVariants as faults

-- `n` bytes of the file from an offset
abbrev pub bytes_in : ℕ → List ℕ → ℕ → List ℕ
bytes_in n file place = take n (drop place file)

-- the number at an offset of the file
abbrev pub number_in : Width → List ℕ → ℕ → ℕ
number_in w file place = from_be_bytes w (bytes_in (byte_len w) file place)

-- the kind of the atom at an offset
abbrev pub kind_in : List ℕ → ℕ → List ℕ
kind_in file at = bytes_in 4 file (at + 4)

-- a value, or the offset of an atom with a bad size
abbrev pub Sized : Type 0 → Type 0
Sized A = Result A (Fault (Unit {0}))

abbrev pub bad_size : {A : Type 0} → ℕ → Sized A
bad_size at = bad tt at

-- the atom at an offset with this head length and total size; a bad size if it is smaller than its head or passes
-- the end
abbrev pub framed : (kind : List ℕ) → (at end head size : ℕ) → Sized Step
framed kind at end head size =
    if nat_lt size head || nat_lt (end - at) size then bad_size at
    else Ok (steps.Atom (record { kind = kind; at = at; body = at + head; end = at + size }))

-- The entry at an offset before an end: an atom, or the end of the walk.
unfoldable pub atom_at : List ℕ → (at end : ℕ) → (top : Bool) → Sized Step
atom_at file at end top =
    let size = number_in w32 file at in
    if nat_lt (end - at) 8 then Ok steps.End
    else (if size == 0 then (if top then framed (kind_in file at) at end 8 (end - at) else Ok steps.End)
    else (if size == 1 then (if nat_lt (end - at) 16 then bad_size at else framed (kind_in file at) at end 16 (number_in w64 file (at + 8)))
    else framed (kind_in file at) at end 8 size))

-- ---- walks from atom to atom

-- the atoms of a walk, and the offset of the bad size that ends it, if there is one
pub record Walk : Type 0 where
  pub atoms : List Atom
  pub bad : Option ℕ

-- prepends an atom to a walk
abbrev pub and_then : Sized Step → (Atom → Walk) → Walk
and_then (Err e) rest = record { atoms = []; bad = Some e.place }
and_then (Ok steps.End) rest = record { atoms = []; bad = None }
and_then (Ok (steps.Atom a)) rest = record { atoms = a ∷ (rest a).atoms; bad = (rest a).bad }

-- Byte by byte, with fuel: the first number counts the bytes that remain before the end, the second those that
-- still belong to the last atom.
unfoldable pub walk_over : List ℕ → (end : ℕ) → (top : Bool) → (left inside : ℕ) → Walk
walk_over file end top zero inside = record { atoms = []; bad = None }
walk_over file end top (suc left) (suc inside) = walk_over file end top left inside
walk_over file end top (suc left) zero = and_then (atom_at file (end - suc left) end top) (λ a. walk_over file end top left ((a.end - a.at) - 1))

-- the walk from an offset to an end
abbrev pub walk : List ℕ → (at end : ℕ) → (top : Bool) → Walk
walk file at end top = walk_over file end top (end - at) 0

-- the walk over the whole file
abbrev pub top_level : List ℕ → Walk
top_level file = walk file 0 (length file) true

-- the walk inside a parent
abbrev pub children : List ℕ → Atom → Walk
children file parent = walk file parent.body parent.end false

abbrev pub is_kind : List ℕ → Atom → Bool
is_kind kind a = bytes_eq a.kind kind

abbrev pub is_one_of : List (List ℕ) → Atom → Bool
is_one_of kinds a = list_any (λ kind. is_kind kind a) kinds

abbrev pub none_or_bad : Option ℕ → Sized (Option Atom)
none_or_bad None = Ok None
none_or_bad (Some place) = bad_size place

abbrev pub found_or : Option Atom → Sized (Option Atom) → Sized (Option Atom)
found_or (Some a) other = Ok (Some a)
found_or None other = other

-- the first atom of a walk that passes a test, or the bad size met before one
abbrev pub first_in : (Atom → Bool) → Walk → Sized (Option Atom)
first_in test w = found_or (find test w.atoms) (none_or_bad w.bad)

-- the first atom at the top level with one of these kinds
abbrev pub first_at_top : List ℕ → (kinds : List (List ℕ)) → Sized (Option Atom)
first_at_top file kinds = first_in (is_one_of kinds) (top_level file)

-- the first child with one of these kinds
abbrev pub child_of : List ℕ → Atom → (kinds : List (List ℕ)) → Sized (Option Atom)
child_of file parent kinds = first_in (is_one_of kinds) (children file parent)

-- the first child of this kind
abbrev pub child : List ℕ → Atom → (kind : List ℕ) → Sized (Option Atom)
child file parent kind = child_of file parent (kind ∷ [])

-- ---- results of calls over a store

-- the bad size that an error reports
abbrev pub told_fault : AtomFault → Option (Fault (Unit {0}))
told_fault (faults.Size place) = Some (record { kind = tt; place = place })
told_fault faults.Failed = None

abbrev pub is_failed : {X : Type 0} → Result X AtomFault → Bool
is_failed (Err faults.Failed) = true
is_failed _ = false

-- an atom lies between these offsets
pub record LiesIn (at end : ℕ) (a : Atom) : Type 0 where
  pub begins : at ≤ a.at
  pub head : a.at + 8 ≤ a.body
  pub within : a.body ≤ a.end
  pub ends : a.end ≤ end

-- an atom begins at this offset and lies before the end
abbrev pub StartsAt : (at end : ℕ) → Step → Type 0
StartsAt at end (steps.Atom a) = (a.at ≡ at) × LiesIn at end a
StartsAt at end steps.End = Unit {0}
