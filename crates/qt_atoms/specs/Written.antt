-- Atoms as bytes. QuickTime File Format, "Atoms", 32-bit sizes.
use Rattle.std.specs.Prelude.{◌≡◌, ℕ, zero, suc, ◌+◌, ◌-◌, ◌<◌, ◌≤◌, ◌^◌, List, [], ◌∷◌, ◌++◌, length, take, drop}
use Rattle.std.specs.Int.{w32, to_be_bytes}
use Rattle.qt_atoms.specs.declared.atom.Atom.{Atom}

-- an atom: its size, its kind and its body
abbrev pub atom : (kind body : List ℕ) → List ℕ
atom kind body = to_be_bytes w32 (length body + 8) ++ kind ++ body

-- ---- beginning and ending atoms

-- the bytes with this number put at an offset
abbrev pub with_number : (bytes : List ℕ) → (at number : ℕ) → List ℕ
with_number bytes at number = take at bytes ++ (to_be_bytes w32 number ++ drop (at + 4) bytes)

-- an atom that is begun: size 0 for now, and its kind
abbrev pub begun_atom : (held kind : List ℕ) → List ℕ
begun_atom held kind = held ++ (0 ∷ 0 ∷ 0 ∷ 0 ∷ kind)

-- an atom was begun at this offset
abbrev pub IsBegun : (held : List ℕ) → (begun : ℕ) → Type 0
IsBegun held begun = begun + 8 ≤ length held

-- the bytes after the atom that was begun at an offset is ended: its size is filled in
abbrev pub ended : (held : List ℕ) → (begun : ℕ) → List ℕ
ended held begun = with_number held begun (length held - begun)

-- ---- consecutive atoms

pub record Node : Type 0 where
  pub kind : List ℕ
  pub body : List ℕ

abbrev pub atom_of : Node → List ℕ
atom_of n = atom n.kind n.body

pub record IsNode (n : Node) : Type 0 where
  pub kind : length n.kind ≡ 4
  pub size : length n.body + 8 < 2 ^ 32

-- the atoms at their offsets, the first at this one
abbrev pub placed : ℕ → List Node → List Atom
placed at [] = []
placed at (n ∷ nodes) = record { kind = n.kind; at = at; body = at + 8; end = at + (length n.body + 8) } ∷ placed (at + (length n.body + 8)) nodes

-- ---- consecutive numbers

-- `n` rows, each `step` bytes after the one before
abbrev pub rows : {X : Type 0} → (ℕ → X) → (place step : ℕ) → ℕ → List X
rows row place step zero = []
rows row place step (suc n) = row place ∷ rows row (place + step) step n
