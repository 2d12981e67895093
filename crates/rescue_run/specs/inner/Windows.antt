-- The bytes in a window of a file, and the frame marks in them.
use Rattle.std.specs.Prelude.{◌≡◌, ℕ, ◌+◌, ◌-◌, ◌≤◌, ◌<◌, List, length, take, drop, Option, None, Some}
use Rattle.pw_outside.specs.Reading.{Told}
use Rattle.rescue_run.specs.declared.window.Window.{Window}
use Rattle.rescue_run.specs.Chain.{HasMark}

-- the bytes in the window are those of the file from its offset on
abbrev pub IsPart : List ℕ → Window → Type 0
IsPart file w = take w.held w.piece.items ≡ take w.held (drop w.from file)

-- A window with room for some bytes, which holds the file's bytes if they are visible.
pub record Shows (told : Option (List ℕ)) (total : ℕ) (w : Window) : Type 0 where
  pub room : 8 ≤ length w.piece.items
  pub held : w.held ≤ length w.piece.items
  pub within : w.from + w.held ≤ total
  pub same : Told told (λ file. IsPart file w)

-- no frame mark at any offset from `from` up to `to`
abbrev pub NoMark : List ℕ → (from to : ℕ) → Type 0
NoMark file from to = (place : ℕ) → from ≤ place → place < to → HasMark file place → ⊥

-- the first frame mark of a piece, or none
abbrev pub IsFirstMark : List ℕ → Option ℕ → Type 0
IsFirstMark piece None = (place : ℕ) → HasMark piece place → ⊥
IsFirstMark piece (Some found) = HasMark piece found × NoMark piece 0 found

-- the first frame mark from `from` on that lies whole before `end`, or none
abbrev pub MarkIn : List ℕ → (from end : ℕ) → Option ℕ → Type 0
MarkIn file from end None = NoMark file from (end - 7)
MarkIn file from end (Some found) = HasMark file found × NoMark file from found

-- the first frame mark of a file from `from` on, or none
abbrev pub FindsMark : List ℕ → (from : ℕ) → Option ℕ → Type 0
FindsMark file from None = NoMark file from (length file)
FindsMark file from (Some found) = HasMark file found × NoMark file from found
