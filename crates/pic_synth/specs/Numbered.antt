-- The samples of synthetic pictures by index over all planes and frames, and their bytes. Our own definitions.
use Rattle.std.specs.Prelude.{ℕ, ◌+◌, ◌-◌, ◌*◌, ◌/◌, ◌%◌, ◌==◌, nat_lt, if◌then◌else◌, Bool, List}
use Rattle.pic_raw.specs.Writing.{frames_bytes}
use Rattle.pic_synth.specs.declared.synthetic.Synthetic.{Synthetic}
use Rattle.pic_synth.specs.Pictures.{chroma_columns, luma_samples, chroma_samples, frame_samples, luma_level, chroma_level, noise_behind, synthetic_pictures}

-- all bytes of the pictures, as raw planes
abbrev pub synthetic_bytes : Synthetic → List ℕ
synthetic_bytes s = frames_bytes (synthetic_pictures s)

-- the number of samples
abbrev pub sample_count : Synthetic → ℕ
sample_count s = s.frames * frame_samples s

-- the level at index n of a chroma plane, in raster order
abbrev pub chroma_level_at : Synthetic → (frame n : ℕ) → ℕ
chroma_level_at s frame n = chroma_level frame (n % chroma_columns s) (n / chroma_columns s)

-- the level of sample n of a frame: luma precedes both chroma planes
abbrev pub level_within : Synthetic → (frame n : ℕ) → ℕ
level_within s frame n = if nat_lt n (luma_samples s) then luma_level frame (n % s.width) (n / s.width)
    else chroma_level_at s frame ((n - luma_samples s) % chroma_samples s)

-- the level of sample n
abbrev pub level_of : Synthetic → ℕ → ℕ
level_of s n = level_within s (n / frame_samples s) (n % frame_samples s)

-- sample n
abbrev pub sample_of : Synthetic → ℕ → ℕ
sample_of s n = level_of s n + noise_behind s.seed n

-- the low or the high byte of a sample
abbrev pub byte_of : Bool → ℕ → ℕ
byte_of low sample = if low then sample % 256 else sample / 256

-- byte p of all pictures
abbrev pub byte_at : Synthetic → ℕ → ℕ
byte_at s p = byte_of (p % 2 == 0) (sample_of s (p / 2))
