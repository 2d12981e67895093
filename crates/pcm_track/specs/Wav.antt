-- A WAV of plain PCM sound: its form and its sound, or the first fault in file order. Chunks and fields by
-- Microsoft's Multimedia Programming Interface and Data Specifications ("RIFF" and "Waveform Audio File Format");
-- all numbers are little-endian. Our own are: which sound is taken, that reading ends at the `data`, and the
-- offsets of faults.
use Rattle.std.specs.Prelude.{ℕ, zero, suc, ◌+◌, ◌-◌, ◌*◌, ◌/◌, ◌%◌, ◌≤◌, not, List, length, take, drop, Option, Some, None, Result, Ok, Err, nat_lt, ◌==◌, ◌||◌, if◌then◌else◌, codes}
use Rattle.std.specs.Str.{bytes_eq}
use Rattle.std.specs.Int.{Width, w16, w32, byte_len, from_le_bytes}
use Rattle.pw_outside.specs.Reading.{Fault, Rest, Read, ◌>>=◌, bad, refuse}
use Rattle.pcm_track.specs.declared.fault.SoundKind.{SoundKind}
use Rattle.pcm_track.specs.declared.fault.SoundKind.TheVariants.{Magic, Form, Truncated}
use Rattle.pcm_track.specs.declared.form.Format.{Format}
use Rattle.pcm_track.specs.declared.form.Pcm.{Pcm}
use Rattle.pcm_track.specs.declared.form.Met.{Met}
use Rattle.pcm_track.specs.declared.form.Met.TheVariants as met

-- ---- fields. A field is validated after it was read whole; one that is cut is Truncated, at the end of the input.

-- the next n bytes
abbrev pub next_bytes : ℕ → Rest → Read SoundKind (List ℕ)
next_bytes n s = if nat_lt (length s.bytes) n then bad Truncated (s.place + length s.bytes)
    else Ok (take n s.bytes, record { place = s.place + n; bytes = drop n s.bytes })

-- the next number of this width, little-endian
unfoldable pub next_number : Width → Rest → Read SoundKind ℕ
next_number w s = do
  bytes ← next_bytes (byte_len w) s
  Ok (from_le_bytes w bytes.0, bytes.1)

-- n bytes, whatever they are
unfoldable pub passed_over : ℕ → Rest → Read SoundKind (Unit {0})
passed_over n s = do
  bytes ← next_bytes n s
  Ok (tt, bytes.1)

-- the number of bytes of a body of `size` bytes with its padding: one more if the size is odd
abbrev pub padded_size : ℕ → ℕ
padded_size size = size + size % 2

-- ---- chunks

-- The body of a `fmt ` in the chunk at offset `chunk`: format 1, channels, frame rate, bytes per second, bytes per
-- frame, bits per sample. Bytes after these are skipped.
unfoldable pub format_at : (chunk size : ℕ) → Rest → Read SoundKind Format
format_at chunk size s = do
  _ ← refuse (nat_lt size 16) Form chunk
  kind ← next_number w16 s
  _ ← refuse (not (kind.0 == 1)) Form chunk
  channels ← next_number w16 kind.1
  _ ← refuse (not (channels.0 == 1 || channels.0 == 2)) Form chunk
  rate ← next_number w32 channels.1
  _ ← refuse (rate.0 == 0 || nat_lt 65535 rate.0) Form chunk
  second ← next_number w32 rate.1
  frame ← next_number w16 second.1
  _ ← refuse (not (frame.0 == 2 * channels.0)) Form chunk
  bits ← next_number w16 frame.1
  _ ← refuse (not (bits.0 == 16)) Form chunk
  rest ← passed_over (padded_size size - 16) bits.1
  Ok (record { channels = channels.0; rate = rate.0 }, rest.1)

-- the number of bytes of a frame: two per channel
abbrev pub frame_size : (channels : ℕ) → ℕ
frame_size channels = 2 * channels

-- a `fmt ` whose kind was read: the only one
unfoldable pub format_chunk_at : (chunk : ℕ) → Option Format → Rest → Read SoundKind Met
format_chunk_at chunk (Some f) s = bad Form chunk
format_chunk_at chunk None s = do
  size ← next_number w32 s
  format ← format_at chunk size.0 size.1
  Ok (met.Format format.0, format.1)

-- the header of a `data` whose kind was read: after a `fmt `, and of whole frames
unfoldable pub data_chunk_at : (chunk : ℕ) → Option Format → Rest → Read SoundKind Met
data_chunk_at chunk None s = bad Form chunk
data_chunk_at chunk (Some f) s = do
  size ← next_number w32 s
  _ ← refuse (not (size.0 % frame_size f.channels == 0) || nat_lt 4294967250 size.0) Form chunk
  Ok (met.Data (record { channels = f.channels; rate = f.rate; frames = size.0 / frame_size f.channels }), size.1)

-- any other chunk whose kind was read
unfoldable pub other_chunk_at : Rest → Read SoundKind Met
other_chunk_at s = do
  size ← next_number w32 s
  rest ← passed_over (padded_size size.0) size.1
  Ok (met.Other, rest.1)

-- a chunk of this kind, which was read; of the `data` only the header
abbrev pub kind_chunk_at : (kind : List ℕ) → (chunk : ℕ) → Option Format → Rest → Read SoundKind Met
kind_chunk_at kind chunk form s =
    if bytes_eq kind (codes "fmt ") then format_chunk_at chunk form s
    else (if bytes_eq kind (codes "data") then data_chunk_at chunk form s else other_chunk_at s)

-- the next chunk
unfoldable pub chunk_at : Option Format → Rest → Read SoundKind Met
chunk_at form s = do
  kind ← next_bytes 4 s
  kind_chunk_at kind.0 s.place form kind.1

-- continues after a chunk, up to the sound
abbrev pub going_on : Option Format → Met × Rest → (Option Format → Rest → Read SoundKind Pcm) → Read SoundKind Pcm
going_on form (met.Format f, rest) others = others (Some f) rest
going_on form (met.Other, rest) others = others form rest
going_on form (met.Data p, rest) others = Ok (p, rest)

-- The form in the chunks up to the sound. At most this number of further chunks may come before it; one more is a
-- fault. The option is the format read so far.
unfoldable pub form_from : ℕ → Option Format → Rest → Read SoundKind Pcm
form_from zero form s = do
  kind ← next_bytes 4 s
  bad Form s.place
form_from (suc more) form s = chunk_at form s >>= λ x. going_on form x (λ next rest. form_from more next rest)

-- ---- the whole WAV

-- the form, followed by the sound
unfoldable pub form_at : Rest → Read SoundKind Pcm
form_at s = do
  riff ← next_bytes 4 s
  _ ← refuse (not (bytes_eq riff.0 (codes "RIFF"))) Magic s.place
  size ← next_number w32 riff.1
  wave ← next_bytes 4 size.1
  _ ← refuse (not (bytes_eq wave.0 (codes "WAVE"))) Magic size.1.place
  form_from 1000 None wave.1

-- the number of bytes of `frames` frames
abbrev pub sound_size : (channels frames : ℕ) → ℕ
sound_size channels frames = frame_size channels * frames

pub record Wav : Type 0 where
  pub form : Pcm
  pub sound : List ℕ

-- the form and the sound of a file, or its first fault
unfoldable pub wav_in : List ℕ → Result Wav (Fault SoundKind)
wav_in bytes = do
  form ← form_at (record { place = 0; bytes = bytes })
  sound ← next_bytes (sound_size form.0.channels form.0.frames) form.1
  Ok (record { form = form.0; sound = sound.0 })

-- ---- what holds of a form

pub record IsFormat (f : Format) : Type 0 where
  pub channels : (1 ≤ f.channels) × (f.channels ≤ 2)
  pub rate : (1 ≤ f.rate) × (f.rate ≤ 65535)

pub record IsPcm (p : Pcm) : Type 0 where
  pub channels : (1 ≤ p.channels) × (p.channels ≤ 2)
  pub rate : (1 ≤ p.rate) × (p.rate ≤ 65535)
  pub size : sound_size p.channels p.frames ≤ 4294967250

-- the values of a chunk that was read are within these ranges
abbrev pub IsMet : Met → Type 0
IsMet (met.Format f) = IsFormat f
IsMet met.Other = Unit {0}
IsMet (met.Data p) = IsPcm p

-- ---- a WAV that is being read

-- its form, the number of frames not copied yet, and the offset of the next
pub record Reader : Type 0 where
  pub form : Pcm
  pub left : ℕ
  pub place : ℕ

-- the offset after what was read, if something was
abbrev pub place_of : {E : Type 0} → Result Reader E → ℕ
place_of (Ok r) = r.place
place_of (Err e) = 0
