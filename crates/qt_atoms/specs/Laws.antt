-- Laws of written atoms.
use Rattle.std.specs.Prelude.{◌≡◌, ℕ, ◌+◌, ◌<◌, ◌≤◌, ◌^◌, Bool, List, ◌++◌, length, None, Ok}
use Rattle.std.specs.List.{flat_map, AllByRecursion}
use Rattle.std.specs.Int.{w32, w64, to_be_bytes}
use Rattle.qt_atoms.specs.declared.atom.Step.TheVariants as steps
use Rattle.qt_atoms.specs.Atoms.{number_in, atom_at, walk}
use Rattle.qt_atoms.specs.Written.{atom, ended, begun_atom, Node, atom_of, IsNode, placed, rows}

-- an atom is read at the offset at which it was written
abbrev pub WrittenAtomStands : Type 0
WrittenAtomStands = (front kind body behind : List ℕ) (end : ℕ) (top : Bool) → length kind ≡ 4 → length body + 8 < 2 ^ 32 → length front + (length body + 8) ≤ end
    → atom_at (front ++ (atom kind body ++ behind)) (length front) end top
    ≡ Ok (steps.Atom (record { kind = kind; at = length front; body = length front + 8; end = length front + (length body + 8) }))

-- a walk over consecutive written atoms meets exactly these
abbrev pub WalkMeetsWritten : Type 0
WalkMeetsWritten = (nodes : List Node) (front behind : List ℕ) (end : ℕ) (top : Bool) → AllByRecursion IsNode nodes → end ≡ length front + length (flat_map atom_of nodes)
    → walk (front ++ (flat_map atom_of nodes ++ behind)) (length front) end top ≡ record { atoms = placed (length front) nodes; bad = None }

-- an atom that was begun, filled and ended is a well-formed atom
abbrev pub EndedIsAtom : Type 0
EndedIsAtom = (front kind body : List ℕ) → length kind ≡ 4 → ended (begun_atom front kind ++ body) (length front) ≡ front ++ atom kind body

-- consecutive 32-bit numbers that were written are read back
abbrev pub WrittenNumbersAreRead : Type 0
WrittenNumbersAreRead = (numbers front behind : List ℕ) → AllByRecursion (λ n. n < 2 ^ 32) numbers
    → rows (number_in w32 (front ++ (flat_map (to_be_bytes w32) numbers ++ behind))) (length front) 4 (length numbers) ≡ numbers

-- consecutive 64-bit numbers that were written are read back
abbrev pub WrittenLongNumbersAreRead : Type 0
WrittenLongNumbersAreRead = (numbers front behind : List ℕ) → AllByRecursion (λ n. n < 2 ^ 64) numbers
    → rows (number_in w64 (front ++ (flat_map (to_be_bytes w64) numbers ++ behind))) (length front) 8 (length numbers) ≡ numbers
