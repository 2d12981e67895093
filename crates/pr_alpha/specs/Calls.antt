-- What the calls that read return (our own).
use Rattle.std.specs.Prelude.{◌≡◌, Bool, true, false, List, [], Result, Ok, Err}
use Rattle.pr_alpha.specs.Reading.{Fault, wanting, past}
use Rattle.pr_alpha.specs.declared.read.AlphaFault.{AlphaFault}
use Rattle.pr_alpha.specs.declared.read.AlphaFault.TheVariants as faults

-- The error is the fault that reading the bits finds; a source's failure says nothing about them.
abbrev pub IsFault : {A : Type 0} → AlphaFault → Result A Fault → Type 0
IsFault faults.AlphaShort found = found ≡ Err wanting
IsFault faults.AlphaPast found = found ≡ Err past
IsFault faults.Failed found = Unit {0}

-- whether the source failed
abbrev pub is_failed : {T : Type 0} → Result T AlphaFault → Bool
is_failed (Ok _) = false
is_failed (Err faults.AlphaShort) = false
is_failed (Err faults.AlphaPast) = false
is_failed (Err faults.Failed) = true

-- The error is a missing bit; a source's failure says nothing about the bits.
abbrev pub IsEnd : AlphaFault → List Bool → Type 0
IsEnd faults.AlphaShort l = l ≡ []
IsEnd faults.AlphaPast l = ⊥
IsEnd faults.Failed l = Unit {0}
