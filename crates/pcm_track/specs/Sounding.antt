-- Extracting the sound of a movie: its outcome, and what is written. Our own definitions.
use Rattle.std.specs.Prelude.{ℕ, ◌+◌, List, [], ◌∷◌, ◌++◌, length, drop, nat_lt, if◌then◌else◌, Result, Ok, Err}
use Rattle.std.specs.List.{flat_map}
use Rattle.pw_outside.specs.Reading.{Fault}
use Rattle.qt_tables.specs.declared.fault.MovieKind.{MovieKind}
use Rattle.qt_tables.specs.declared.fault.MovieKind.TheVariants.{SampleOutside}
use Rattle.qt_tables.specs.Samples.{Chunk}
use Rattle.pcm_track.specs.declared.end.SoundEnd.{SoundEnd}
use Rattle.pcm_track.specs.declared.end.SoundEnd.TheVariants as ends
use Rattle.pcm_track.specs.Wav.{sound_size}
use Rattle.pcm_track.specs.Track.{Sound, sound_in, chunks_of, frames_of}
use Rattle.pcm_track.specs.Writing.{first_bytes, wav_head, sound_line}
use Rattle.pcm_track.specs.Ends.{Outcome}

-- the bytes of a chunk, with bytes missing from the file taken as 0
abbrev pub chunk_bytes : List ℕ → (channels : ℕ) → Chunk → List ℕ
chunk_bytes file channels c = first_bytes (sound_size channels c.samples) (drop c.at file)

-- the outcome at a chunk: BadMovie if it reaches past the end of the file, else Done
abbrev pub chunk_end : List ℕ → (channels : ℕ) → Chunk → SoundEnd
chunk_end file channels c = if nat_lt (length file) (c.at + sound_size channels c.samples) then ends.BadMovie SampleOutside c.at else ends.Done

-- the outcome at the first chunk that reaches past the end of the file, if there is one
abbrev pub chunks_end : List ℕ → (channels : ℕ) → List Chunk → SoundEnd
chunks_end file channels [] = ends.Done
chunks_end file channels (c ∷ cs) = if nat_lt (length file) (c.at + sound_size channels c.samples) then ends.BadMovie SampleOutside c.at else chunks_end file channels cs

abbrev pub sounded_by : List ℕ → Result Sound (Fault MovieKind) → Outcome
sounded_by file (Err f) = record { end = ends.BadMovie f.kind f.place; out = []; text = [] }
sounded_by file (Ok s) = record {
  end = chunks_end file s.format.channels (chunks_of s);
  out = wav_head s.format (frames_of s) ++ flat_map (chunk_bytes file s.format.channels) (chunks_of s);
  text = sound_line s.format (frames_of s);
}

-- Extracting the sound of the movie with these bytes: a WAV of one header and the bytes of the chunks, and a line.
unfoldable pub sounded : List ℕ → Outcome
sounded file = sounded_by file (sound_in file)
