-- Laws: written tables are read back, and tables have as many samples as sizes.
use Rattle.std.specs.Prelude.{◌≡◌, ℕ, ◌+◌, ◌<◌, ◌≤◌, ◌^◌, List, ◌++◌, length, codes, Ok}
use Rattle.std.specs.List.{All}
use Rattle.std.specs.Int.{w32}
use Rattle.qt_atoms.specs.declared.atom.Atom.{Atom}
use Rattle.qt_atoms.specs.Atoms.{number_in}
use Rattle.qt_atoms.specs.Written.{atom}
use Rattle.qt_tables.specs.declared.writer.Extent.{Extent}
use Rattle.qt_tables.specs.Samples.{Tables, samples}
use Rattle.qt_tables.specs.Tables.{AreTables, table_in, timescale_in, tables_in}
use Rattle.qt_tables.specs.Writing.{tables_bytes, written_tables, written_samples}
use Rattle.qt_tables.specs.declared.tables.TheConstants.{MAX_SAMPLES}

-- tables that agree have as many samples as sizes
abbrev pub SamplesAreCounted : Type 0
SamplesAreCounted = (t : Tables) → AreTables t → length (samples t) ≡ length t.sizes

-- the samples of written tables are those that were given
abbrev pub WrittenSamplesAreGiven : Type 0
WrittenSamplesAreGiven = (es : List Extent) (duration timescale : ℕ) → samples (written_tables es duration timescale) ≡ written_samples es duration

-- samples that can be written and read back
pub record AreExtents (es : List Extent) : Type 0 where
  pub few : length es ≤ MAX_SAMPLES
  pub near : All (λ e. e.at < 2 ^ 62) es
  pub sized : All (λ e. e.size < 2 ^ 32) es

-- Tables that were written after an `stsd` with a description are read back, if the `mdhd` has a time scale.
abbrev pub WrittenTablesAreRead : Type 0
WrittenTablesAreRead = (front described behind : List ℕ) (es : List Extent) (duration timescale : ℕ) (stbl mdia mdhd : Atom) (file : List ℕ)
    → 8 ≤ length described → length described + 8 < 2 ^ 32 → 1 ≤ number_in w32 described 4 → AreExtents es → duration < 2 ^ 32
    → stbl.body ≡ length front → stbl.end ≡ length front + length (atom (codes "stsd") described ++ tables_bytes es duration)
    → file ≡ front ++ ((atom (codes "stsd") described ++ tables_bytes es duration) ++ behind)
    → table_in file mdia (codes "mdhd") ≡ Ok mdhd → timescale_in file mdhd ≡ Ok timescale
    → tables_in file stbl mdia ≡ Ok (written_tables es duration timescale)
