-- The conditions of each step of writing; a frame that can be written satisfies all of them (our own).
use Rattle.std.specs.Prelude.{◌≡◌, ℕ, ◌<◌, ◌≤◌, List, [], length}
use Rattle.std.specs.List.{All}
use Rattle.pw_planes.specs.declared.kinds.AlphaKind.{AlphaKind}
use Rattle.pw_planes.specs.declared.kinds.AlphaKind.TheVariants.{Absent, Eight, Sixteen}
use Rattle.pr_geom.specs.declared.places.TheConstants.{MAX_SLICES}
use Rattle.pr_alpha.specs.Alpha.{AreBelow}
use Rattle.pr_coeff.specs.Component.{Block}
use Rattle.pr_frame.specs.declared.coded.CodedSlice.{CodedSlice}
use Rattle.pr_frame.specs.declared.coded.CodedPicture.{CodedPicture}
use Rattle.pr_frame.specs.Coded.{IsWritableBlock}

-- from 1 to 32 blocks, with values that can be written
pub record IsReadyPart (blocks : List Block) : Type 0 where
  pub some : 0 < length blocks
  pub few : length blocks ≤ 32
  pub values : All IsWritableBlock blocks

-- from 1 to 2,048 alpha values of n bits
pub record AreReadyValues (n : ℕ) (l : List ℕ) : Type 0 where
  pub some : 0 < length l
  pub few : length l ≤ 2048
  pub below : AreBelow n l

-- the alpha values of a slice in a frame of this kind of alpha; none if the frame has no alpha
abbrev pub IsReadyAlpha : AlphaKind → List ℕ → Type 0
IsReadyAlpha Absent l = l ≡ []
IsReadyAlpha Eight l = AreReadyValues 8 l
IsReadyAlpha Sixteen l = AreReadyValues 16 l

pub record IsReady (alpha : AlphaKind) (s : CodedSlice) : Type 0 where
  pub y : IsReadyPart s.y
  pub cb : IsReadyPart s.cb
  pub cr : IsReadyPart s.cr
  pub alpha_values : IsReadyAlpha alpha s.alpha

pub record IsReadyPicture (alpha : AlphaKind) (x : CodedPicture) : Type 0 where
  pub few : length x.slices ≤ MAX_SLICES
  pub log2 : x.log2 ≤ 3
  pub slices : All (IsReady alpha) x.slices
