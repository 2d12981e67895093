-- Synthetic pictures: a staircase of levels that moves from frame to frame, plus three bits of noise. Our own
-- definitions.
use Rattle.std.specs.Prelude.{◌≡◌, ℕ, zero, suc, ◌+◌, ◌*◌, ◌/◌, ◌%◌, ◌≤◌, ◌^◌, List, map, None, Some, Ok}
use Rattle.std.specs.List.{range_with_len}
use Rattle.pw_planes.specs.declared.kinds.AlphaKind.TheVariants.{Absent}
use Rattle.pw_planes.specs.declared.kinds.Chroma.TheVariants.{C422}
use Rattle.pw_planes.specs.declared.kinds.Depth.TheVariants.{D10}
use Rattle.pw_planes.specs.declared.kinds.Interlace.TheVariants.{Progressive}
use Rattle.pw_planes.specs.declared.picture.Picture.{Picture}
use Rattle.pw_planes.specs.declared.plane.TheConstants.{MAX_WIDTH, MAX_HEIGHT}
use Rattle.pw_planes.specs.Plane.{Raster}
use Rattle.pw_planes.specs.Rows.{raster}
use Rattle.pic_y4m.specs.declared.head.Head.{Head}
use Rattle.pic_raw.specs.Any.{pictures_of}
use Rattle.pic_raw.specs.Writing.{frames_bytes}
use Rattle.pic_synth.specs.declared.synthetic.Synthetic.{Synthetic}

-- the sizes and numbers within the limits
pub record IsSynthetic (s : Synthetic) : Type 0 where
  pub some_columns : 1 ≤ s.width
  pub columns : s.width ≤ MAX_WIDTH
  pub some_rows : 1 ≤ s.height
  pub rows : s.height ≤ MAX_HEIGHT
  pub frames : s.frames ≤ 100

-- the form of the pictures: 10-bit 4:2:2, progressive, 25 frames per second
abbrev pub synthetic_head : Synthetic → Head
synthetic_head s = record { width = s.width; height = s.height; chroma = C422; depth = D10; alpha = Absent; interlace = Progressive; num = 25; den = 1 }

-- ---- the noise

-- the state after one step of the generator
abbrev pub next_state : ℕ → ℕ
next_state state = (state * 1664525 + 1013904223) % 2 ^ 32

-- the state after `n` steps
unfoldable pub state_after : ℕ → ℕ → ℕ
state_after seed zero = seed
state_after seed (suc n) = next_state (state_after seed n)

-- the three most significant bits of a state
abbrev pub noise_of : ℕ → ℕ
noise_of state = state / 2 ^ 29

-- The noise of the sample with this number of samples before it, in all planes and frames: each sample takes one
-- step.
abbrev pub noise_behind : (seed n : ℕ) → ℕ
noise_behind seed n = noise_of (state_after seed (n + 1))

-- ---- the levels

-- luma at a column and row of a frame: squares of 16 by 16
abbrev pub luma_level : (frame x y : ℕ) → ℕ
luma_level frame x y = 256 + 32 * ((x / 16 + 3 * (y / 16) + frame) % 16)

-- chroma at a column and row of its plane
abbrev pub chroma_level : (frame x y : ℕ) → ℕ
chroma_level frame x y = 448 + 16 * ((x / 8 + y / 16 + frame) % 8)

-- ---- the pictures

-- the samples of a plane with this width and height, after `before` other samples: at each position the level plus
-- the noise
abbrev pub noisy_samples : (seed before : ℕ) → (ℕ → ℕ → ℕ) → (width height : ℕ) → List ℕ
noisy_samples seed before level width height = raster width height (λ x y. level x y + noise_behind seed (before + (y * width + x)))

-- the same as a plane
abbrev pub noisy_plane : (seed before : ℕ) → (ℕ → ℕ → ℕ) → (width height : ℕ) → Raster
noisy_plane seed before level width height = record { width = width; height = height; samples = noisy_samples seed before level width height }

-- the width of the chroma planes
abbrev pub chroma_columns : Synthetic → ℕ
chroma_columns s = (s.width + 1) / 2

-- the number of samples of luma, of each chroma plane, and of a whole frame
abbrev pub luma_samples : Synthetic → ℕ
luma_samples s = s.height * s.width

abbrev pub chroma_samples : Synthetic → ℕ
chroma_samples s = s.height * chroma_columns s

abbrev pub frame_samples : Synthetic → ℕ
frame_samples s = luma_samples s + (chroma_samples s + chroma_samples s)

-- the picture of frame n
abbrev pub synthetic_picture : Synthetic → ℕ → Picture
synthetic_picture s frame = record {
  y = noisy_plane s.seed (frame * frame_samples s) (luma_level frame) s.width s.height;
  cb = noisy_plane s.seed (frame * frame_samples s + luma_samples s) (chroma_level frame) (chroma_columns s) s.height;
  cr = noisy_plane s.seed (frame * frame_samples s + luma_samples s + chroma_samples s) (chroma_level frame) (chroma_columns s) s.height;
  alpha = None;
  chroma = C422;
  depth = D10;
}

-- all pictures, in order
abbrev pub synthetic_pictures : Synthetic → List Picture
synthetic_pictures s = map (synthetic_picture s) (range_with_len 0 s.frames)

-- ---- laws

-- The raw planar bytes of these pictures mean exactly these pictures.
abbrev pub SyntheticIsMeant : Type 0
SyntheticIsMeant = (s : Synthetic) → IsSynthetic s
    → pictures_of (Some (synthetic_head s)) (frames_bytes (synthetic_pictures s)) ≡ Ok (synthetic_head s, record { pictures = synthetic_pictures s; fault = None })
