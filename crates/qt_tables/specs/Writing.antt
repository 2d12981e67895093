-- Written tables of samples in chunks of their own, each with the same duration (QuickTime File Format, sample
-- table atoms; one entry for all samples is our own).
use Rattle.std.specs.Prelude.{ℕ, ◌^◌, ◌==◌, nat_lt, Bool, List, [], ◌∷◌, ◌++◌, length, map, codes, if◌then◌else◌}
use Rattle.std.specs.List.{flat_map, list_all}
use Rattle.std.specs.Int.{w32, w64, to_be_bytes}
use Rattle.qt_atoms.specs.Written.{Node, atom_of}
use Rattle.qt_tables.specs.declared.runs.Sample.{Sample}
use Rattle.qt_tables.specs.declared.writer.Extent.{Extent}
use Rattle.qt_tables.specs.Samples.{Tables}

-- consecutive 32-bit numbers
abbrev pub numbers_bytes : List ℕ → List ℕ
numbers_bytes ns = flat_map (to_be_bytes w32) ns

abbrev pub sizes_of : List Extent → List ℕ
sizes_of es = map (λ e. e.size) es

abbrev pub places_of : List Extent → List ℕ
places_of es = map (λ e. e.at) es

-- `stts`: one run of all samples, if there are any
abbrev pub times_body : (count duration : ℕ) → List ℕ
times_body count duration = numbers_bytes (if count == 0 then 0 ∷ 0 ∷ [] else 0 ∷ 1 ∷ count ∷ duration ∷ [])

-- `stsc`: one sample in each chunk, with the first description
abbrev pub runs_body : (count : ℕ) → List ℕ
runs_body count = numbers_bytes (if count == 0 then 0 ∷ 0 ∷ [] else 0 ∷ 1 ∷ 1 ∷ 1 ∷ 1 ∷ [])

-- `stsz`: no common size, and the size of each sample
abbrev pub sizes_body : List Extent → List ℕ
sizes_body es = numbers_bytes (0 ∷ 0 ∷ length es ∷ sizes_of es)

-- whether each offset fits 32 bits
abbrev pub are_near : List Extent → Bool
are_near es = list_all (λ e. nat_lt e.at (2 ^ 32)) es

-- `stco`: 32-bit offsets
abbrev pub near_body : List Extent → List ℕ
near_body es = numbers_bytes (0 ∷ length es ∷ places_of es)

-- `co64`: 64-bit offsets
abbrev pub far_body : List Extent → List ℕ
far_body es = numbers_bytes (0 ∷ length es ∷ []) ++ flat_map (to_be_bytes w64) (places_of es)

-- the table of offsets
abbrev pub places_node : List Extent → Node
places_node es = if are_near es then record { kind = codes "stco"; body = near_body es } else record { kind = codes "co64"; body = far_body es }

-- the four tables
abbrev pub table_nodes : List Extent → (duration : ℕ) → List Node
table_nodes es duration =
    record { kind = codes "stts"; body = times_body (length es) duration }
    ∷ record { kind = codes "stsc"; body = runs_body (length es) }
    ∷ record { kind = codes "stsz"; body = sizes_body es }
    ∷ places_node es ∷ []

unfoldable pub tables_bytes : List Extent → (duration : ℕ) → List ℕ
tables_bytes es duration = flat_map atom_of (table_nodes es duration)

-- ---- their meaning

-- one run of all samples, if there are any
abbrev pub one_run : {Run : Type 0} → List Extent → Run → List Run
one_run [] run = []
one_run (e ∷ es) run = run ∷ []

-- the written tables
abbrev pub written_tables : List Extent → (duration timescale : ℕ) → Tables
written_tables es duration timescale = record {
  timescale = timescale;
  sizes = sizes_of es;
  times = one_run es (record { count = length es; duration = duration });
  runs = one_run es (record { first = 1; samples = 1; description = 1 });
  offsets = places_of es;
}

-- the written samples
abbrev pub written_samples : List Extent → (duration : ℕ) → List Sample
written_samples es duration = map (λ e. record { at = e.at; size = e.size; duration = duration; description = 1 }) es
