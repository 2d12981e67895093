-- Samples as bytes, plane by plane: in Y4M (yuv4mpeg(5), frames) and in raw planar pictures (our own).
use Rattle.std.specs.Prelude.{ℕ, ◌+◌, ◌*◌, ◌/◌, ◌%◌, ◌<◌, ◌==◌, Bool, nat_lt, nat_le, if◌then◌else◌, ⊤, List, [], ◌∷◌, length, take, drop, map, slice_index, Option, None, Some, Result, Ok}
use Rattle.std.specs.List.{position_or_len, range_with_len, flat_map, All}
use Rattle.pw_outside.specs.Reading.{Fault, Rest, Read, ◌>>=◌, bad, refuse}
use Rattle.pw_planes.specs.declared.kinds.Depth.{Depth}
use Rattle.pw_planes.specs.declared.kinds.Depth.TheVariants.{D8, D10, D12}
use Rattle.pic_y4m.specs.declared.fault.PictureKind.{PictureKind}
use Rattle.pic_y4m.specs.declared.fault.PictureKind.TheVariants as kinds
use Rattle.pic_y4m.specs.declared.samples.SampleSize.{SampleSize}
use Rattle.pic_y4m.specs.declared.samples.SampleSize.TheVariants.{Byte, Pair}

-- the size of a sample of this depth in Y4M
abbrev pub size_of : Depth → SampleSize
size_of D8 = Byte
size_of D10 = Pair
size_of D12 = Pair

-- the number of bytes of a sample
abbrev pub sample_bytes : SampleSize → ℕ
sample_bytes Byte = 1
sample_bytes Pair = 2

-- ---- samples from bytes

-- sample k of these bytes: one byte, or two bytes, little-endian
abbrev pub sample_in : SampleSize → List ℕ → ℕ → ℕ
sample_in Byte bytes k = slice_index bytes k
sample_in Pair bytes k = slice_index bytes (2 * k) + 256 * slice_index bytes (2 * k + 1)

-- the first `count` samples of these bytes
unfoldable pub samples_in : SampleSize → ℕ → List ℕ → List ℕ
samples_in size count bytes = map (sample_in size bytes) (range_with_len 0 count)

-- the next `count` samples; Truncated at the end of the input if there are fewer
unfoldable pub samples_at : SampleSize → ℕ → Rest → Read PictureKind (List ℕ)
samples_at size count s = if nat_lt (length s.bytes) (count * sample_bytes size) then bad kinds.Truncated (s.place + length s.bytes)
    else Ok (samples_in size count (take (count * sample_bytes size) s.bytes), record { place = s.place + count * sample_bytes size; bytes = drop (count * sample_bytes size) s.bytes })

-- the same, or `None` at the end of the input
unfoldable pub some_samples_at : SampleSize → ℕ → Rest → Read PictureKind (Option (List ℕ))
some_samples_at size count s = if length s.bytes == 0 then Ok (None, s) else do
  samples ← samples_at size count s
  Ok (Some samples.0, samples.1)

-- a sample isn't below the limit
abbrev pub is_past : ℕ → ℕ → Bool
is_past limit sample = nat_le limit sample

-- a fault at the first sample that isn't below the limit; the plane begins at this offset
unfoldable pub in_range : SampleSize → ℕ → List ℕ → ℕ → Result (Unit {0}) (Fault PictureKind)
in_range size limit samples place = refuse (nat_lt (position_or_len (is_past limit) samples) (length samples)) kinds.SampleRange
    (place + position_or_len (is_past limit) samples * sample_bytes size)

-- ---- bytes from samples

-- a sample: one byte, or two bytes, little-endian
abbrev pub sample_text : SampleSize → ℕ → List ℕ
sample_text Byte sample = sample ∷ []
sample_text Pair sample = sample % 256 ∷ sample / 256 ∷ []

-- the samples of a plane
abbrev pub plane_bytes : SampleSize → List ℕ → List ℕ
plane_bytes size samples = flat_map (sample_text size) samples

-- one-byte samples are below 256
abbrev pub Fit : SampleSize → List ℕ → Type 0
Fit Byte samples = All (λ s. s < 256) samples
Fit Pair samples = ⊤
