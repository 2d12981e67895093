-- Faults of a movie, and the errors of calls that report them.
use Rattle.std.specs.Prelude.{ℕ, Option, None, Some, Bool, true, false, Result, Ok, Err}
use Rattle.pw_outside.specs.Reading.{Fault, bad}
use Rattle.qt_atoms.specs.Atoms.{Sized}
use Rattle.qt_atoms.specs.declared.atom.AtomFault.{AtomFault}
use Rattle.qt_atoms.specs.declared.atom.AtomFault.TheVariants as atoms
use Rattle.qt_tables.specs.declared.fault.MovieKind.{MovieKind}
use Rattle.qt_tables.specs.declared.fault.MovieKind.TheVariants.{AtomSize}
use Rattle.qt_tables.specs.declared.fault.MovieFault.{MovieFault}
use Rattle.qt_tables.specs.declared.fault.MovieFault.TheVariants as faults

-- a value, or the first fault of a movie
abbrev pub Found : Type 0 → Type 0
Found A = Result A (Fault MovieKind)

-- the value of an option; a fault of this kind at this offset if there is none
abbrev pub some_or : {A : Type 0} → Option A → MovieKind → ℕ → Found A
some_or (Some x) kind place = Ok x
some_or None kind place = bad kind place

-- a bad size in a walk over atoms is a fault at its atom
abbrev pub sized : {A : Type 0} → Sized A → Found A
sized (Ok x) = Ok x
sized (Err e) = bad AtomSize e.place

-- an atom error as a movie error
abbrev pub lifted : AtomFault → MovieFault
lifted (atoms.Size place) = faults.Bad AtomSize place
lifted atoms.Failed = faults.Failed

-- the fault that an error reports
abbrev pub told_fault : MovieFault → Option (Fault MovieKind)
told_fault (faults.Bad kind place) = Some (record { kind = kind; place = place })
told_fault faults.Failed = None
told_fault faults.NoMemory = None

abbrev pub is_failed : {X : Type 0} → Result X MovieFault → Bool
is_failed (Err faults.Failed) = true
is_failed _ = false

-- whether memory ran out
abbrev pub is_out_of_memory : {X : Type 0} → Result X MovieFault → Bool
is_out_of_memory (Err faults.NoMemory) = true
is_out_of_memory _ = false
