-- The bytes that a window over a table holds.
use Rattle.std.specs.Prelude.{◌≡◌, ℕ, ◌≤◌, List, Option, take, drop}
use Rattle.pw_outside.specs.Reading.{Told}
use Rattle.qt_tables.specs.declared.window.Window.{Window}

-- They are the file's bytes from the window's offset on, if these are visible.
pub record Shows (told : Option (List ℕ)) (w : Window) : Type 0 where
  pub held : w.held ≤ 4096
  pub same : Told told (λ file. take w.held w.piece ≡ take w.held (drop w.from file))
