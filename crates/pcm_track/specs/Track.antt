-- The sound of a QuickTime file: the first plain PCM track, or the first fault in the order of reading. Atoms and
-- fields by the QuickTime File Format ("Sound Sample Description (Version 0)"); which track is taken, and the order
-- of faults, are our own.
use Rattle.std.specs.Prelude.{ℕ, zero, suc, ◌+◌, ◌-◌, Bool, not, List, [], ◌∷◌, Option, Some, None, Ok, nat_lt, nat_le, ◌==◌, ◌&&◌, ◌||◌, if◌then◌else◌, codes}
use Rattle.std.specs.Str.{bytes_eq}
use Rattle.std.specs.Int.{w16, w32}
use Rattle.pw_outside.specs.Reading.{◌>>=◌, refuse}
use Rattle.qt_atoms.specs.declared.atom.Atom.{Atom}
use Rattle.qt_atoms.specs.Atoms.{number_in, bytes_in, kind_in}
use Rattle.qt_tables.specs.declared.fault.MovieKind.TheVariants.{NoSound, SoundForm, SoundLong}
use Rattle.qt_tables.specs.Faults.{Found, some_or}
use Rattle.qt_tables.specs.Samples.{ChunkLists, Chunk, chunks, held_by}
use Rattle.qt_tables.specs.Tables.{body_length, table_in, chunk_tables_in}
use Rattle.qt_movie.specs.declared.parts.Parts.{Parts}
use Rattle.qt_movie.specs.declared.description.Description.{Description}
use Rattle.qt_movie.specs.Movie.{moov_in, whole_in, traks_of, parts_in, or_none, or_else, data_in}
use Rattle.pcm_track.specs.declared.form.Format.{Format}
use Rattle.pcm_track.specs.Wav.{sound_size}

-- ---- the track

-- whether the handler is that of sound: its subtype, at offset 8 of the body
abbrev pub is_sound : List ℕ → Atom → Bool
is_sound file hdlr = nat_le 12 (body_length hdlr) && bytes_eq (bytes_in 4 file (hdlr.body + 8)) (codes "soun")

-- whether the first description exists and is plain little-endian PCM
abbrev pub is_plain : List ℕ → Atom → Bool
is_plain file stsd = nat_le 16 (body_length stsd) && nat_lt 0 (number_in w32 file (stsd.body + 4)) && bytes_eq (kind_in file (stsd.body + 8)) (codes "sowt")

-- a track, if it is plain PCM sound
unfoldable pub sound_track_in : List ℕ → Atom → Found (Option Parts)
sound_track_in file trak = parts_in file trak >>= λ found. or_none found (λ parts.
    Ok (if is_sound file parts.hdlr && is_plain file parts.stsd then Some parts else None))

-- the first plain PCM sound track
unfoldable pub first_sound : List ℕ → (traks : List Atom) → Found (Option Parts)
first_sound file [] = Ok None
first_sound file (trak ∷ traks) = sound_track_in file trak >>= λ here. or_else here (first_sound file traks)

-- ---- its descriptions

-- the description at offset `place` of an `stsd`, if it has at least 16 bytes and lies within its atom
unfoldable pub readable_at : List ℕ → (stsd : Atom) → (place : ℕ) → Option Description
readable_at file stsd place =
    let size = number_in w32 file place in
    if nat_lt (stsd.end - place) 16 || nat_lt size 16 || nat_lt (stsd.end - place) size then None
    else Some (record { at = place; size = size; kind = kind_in file place; reference = number_in w16 file (place + 14) })

abbrev pub and_later : Option Description → (Description → List Description) → List Description
and_later None later = []
and_later (Some d) later = d ∷ later d

-- of `count` descriptions from `place` on, those before the first unreadable one
abbrev pub readable : List ℕ → (stsd : Atom) → (count place : ℕ) → List Description
readable file stsd zero place = []
readable file stsd (suc count) place = and_later (readable_at file stsd place) (λ d. readable file stsd count (place + d.size))

-- those of an `stsd`
abbrev pub readable_of : List ℕ → (stsd : Atom) → List Description
readable_of file stsd = readable file stsd (number_in w32 file (stsd.body + 4)) (stsd.body + 8)

-- the format in the first description, of at least 36 bytes: channels, bits per sample, and the rate, a number with
-- 16 fractional bits
unfoldable pub format_in : List ℕ → (stsd : Atom) → Found Format
format_in file stsd = do
  let at = stsd.body + 8
  let size = number_in w32 file at
  _ ← refuse (nat_lt size 36 || nat_lt (stsd.end - at) size) SoundForm stsd.at
  let channels = number_in w16 file (at + 24)
  let bits = number_in w16 file (at + 26)
  let rate = number_in w16 file (at + 32)
  _ ← refuse (not (channels == 1 || channels == 2) || not (bits == 16) || rate == 0) SoundForm stsd.at
  Ok (record { channels = channels; rate = rate })

-- ---- the sound

-- the format of a track's sound, and its chunks
pub record Sound : Type 0 where
  pub format : Format
  pub tables : ChunkLists

abbrev pub chunks_of : Sound → List Chunk
chunks_of s = chunks s.tables.runs s.tables.offsets

-- the number of frames of sound
abbrev pub frames_of : Sound → ℕ
frames_of s = held_by (chunks_of s)

-- The first plain PCM sound track, or the first fault, in this order: the top level, the children of the `moov`,
-- the tracks, where the data lies, the first description, the tables of chunks, and the total size.
unfoldable pub sound_in : List ℕ → Found Sound
sound_in file = do
  moov ← moov_in file
  _ ← whole_in file moov
  found ← first_sound file (traks_of file moov)
  parts ← some_or found NoSound moov.at
  _ ← data_in file parts.minf (readable_of file parts.stsd)
  format ← format_in file parts.stsd
  tables ← chunk_tables_in file parts.stbl
  stsc ← table_in file parts.stbl (codes "stsc")
  _ ← refuse (nat_lt 4294967250 (sound_size format.channels (held_by (chunks tables.runs tables.offsets)))) SoundLong stsc.at
  Ok (record { format = format; tables = tables })
