-- What is written of sound: the header of a WAV, bytes of which some may be missing, and the lines of text. The
-- header by Microsoft's Multimedia Programming Interface and Data Specifications; the lines are our own.
use Rattle.std.specs.Prelude.{◌≡◌, ℕ, ◌+◌, ◌*◌, List, ◌++◌, take, drop, replicate, codes, Option, IfSome}
use Rattle.std.specs.Fmt.{decimal}
use Rattle.std.specs.Int.{w16, w32, to_le_bytes}
use Rattle.std.specs.Option.{option_map}
use Rattle.pw_outside.specs.Reading.{Told}
use Rattle.pw_outside.specs.Writing.{SinkState, Puts, PutsFront}
use Rattle.pcm_track.specs.declared.form.Format.{Format}
use Rattle.pcm_track.specs.Wav.{frame_size, sound_size}

-- n bytes: the first of these, and 0 for each missing one
abbrev pub first_bytes : ℕ → List ℕ → List ℕ
first_bytes n bytes = take n (bytes ++ replicate n 0)

-- ---- the header of a WAV

-- 44 bytes: `RIFF` over the whole file, `WAVE`, a `fmt ` of 16 bytes, and the header of the `data`
unfoldable pub wav_head : Format → (frames : ℕ) → List ℕ
wav_head f frames =
    codes "RIFF" ++ to_le_bytes w32 (36 + sound_size f.channels frames) ++ codes "WAVE"
    ++ codes "fmt " ++ to_le_bytes w32 16 ++ to_le_bytes w16 1 ++ to_le_bytes w16 f.channels ++ to_le_bytes w32 f.rate
    ++ to_le_bytes w32 (frame_size f.channels * f.rate) ++ to_le_bytes w16 (frame_size f.channels) ++ to_le_bytes w16 16
    ++ codes "data" ++ to_le_bytes w32 (sound_size f.channels frames)

-- ---- the lines

-- the number of frames of sound written, and their format
unfoldable pub sound_line : Format → (frames : ℕ) → List ℕ
sound_line f frames = codes "sound " ++ decimal frames ++ codes " channels " ++ decimal f.channels ++ codes " rate " ++ decimal f.rate ++ codes "\n"

-- ---- bytes that are copied

-- A sink took n bytes; if the port's bytes are visible, their first n.
pub record Copied (told : Option (List ℕ)) (n : ℕ) (before after : SinkState) : Type 0 where
  pub bytes : List ℕ
  pub same : IfSome told (λ there. bytes ≡ first_bytes n there)
  pub puts : Puts before after bytes

-- A sink took a prefix of such n bytes.
pub record CopiedFront (told : Option (List ℕ)) (n : ℕ) (before after : SinkState) : Type 0 where
  pub bytes : List ℕ
  pub same : IfSome told (λ there. bytes ≡ first_bytes n there)
  pub front : PutsFront before after bytes

-- the bytes of a store from an offset on, if they are visible
abbrev pub told_from : ℕ → Option (List ℕ) → Option (List ℕ)
told_from place bytes = option_map (λ xs. drop place xs) bytes

-- ---- bytes of two ports

-- if the bytes of two ports are visible, the fact holds of them
abbrev pub BothTold : Option (List ℕ) → Option (List ℕ) → (List ℕ → List ℕ → Type 0) → Type 0
BothTold one other fact = Told one (λ xs. Told other (λ ys. fact xs ys))

-- A sink took bytes that satisfy the fact.
pub record PutsSome (fact : List ℕ → Type 0) (before after : SinkState) : Type 0 where
  pub bytes : List ℕ
  pub is : fact bytes
  pub puts : Puts before after bytes

-- A sink took a prefix of such bytes.
pub record PutsSomeFront (fact : List ℕ → Type 0) (before after : SinkState) : Type 0 where
  pub bytes : List ℕ
  pub is : fact bytes
  pub front : PutsFront before after bytes
