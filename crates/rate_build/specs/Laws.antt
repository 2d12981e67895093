-- Laws of coefficients, tables and coded frames, over the definitions alone.
use Rattle.std.specs.Prelude.{◌≡◌, ℕ, ◌+◌, ◌^◌, ◌<◌, ◌≤◌, List, length, Option, None, Some}
use Rattle.std.specs.List.{All}
use Rattle.pw_planes.specs.declared.kinds.AlphaKind.{AlphaKind}
use Rattle.pw_planes.specs.declared.kinds.AlphaKind.TheVariants.{Absent, Eight, Sixteen}
use Rattle.pw_planes.specs.declared.picture.Picture.{Picture}
use Rattle.pw_planes.specs.Plane.{Raster}
use Rattle.pr_geom.specs.declared.layout.Layout.{Layout}
use Rattle.pr_quant.specs.declared.weights.Weights.{Weights}
use Rattle.pr_head.specs.declared.frame.FrameHeader.{FrameHeader}
use Rattle.pr_frame.specs.declared.coded.CodedFrame.{CodedFrame}
use Rattle.pr_frame.specs.Coded.{IsCodedFrame, IsWritablePicture, IsWritableHeader, IsWritable, HasArrays, HasShape}
use Rattle.pr_frame.specs.Written.{frame_length_of}
use Rattle.rate_table.specs.declared.entry.Entry.{Entry}
use Rattle.rate_table.specs.Table.{IsChoice, IsTable, size_of, indices}
use Rattle.rate_build.specs.Coefficients.{FrameCoefficients, AreOfLayout, IsPictureOf, frame_coefficients}
use Rattle.rate_build.specs.Coding.{coded_frame, weights_in, IsHeaderOf, IsIndex}
use Rattle.rate_build.specs.Tables.{table_of, AreWeights}

-- a picture has an alpha plane exactly if there is alpha, with values of its bits
abbrev pub HasAlpha : AlphaKind → Option Raster → Type 0
HasAlpha Absent None = Unit {0}
HasAlpha Absent (Some plane) = ⊥
HasAlpha Eight None = ⊥
HasAlpha Eight (Some plane) = All (λ value. value < 2 ^ 8) plane.samples
HasAlpha Sixteen None = ⊥
HasAlpha Sixteen (Some plane) = All (λ value. value < 2 ^ 16) plane.samples

-- The coefficients of a picture have its layout, in every chroma format and interlace mode.
abbrev pub CoefficientsAreOfLayout : Type 0
CoefficientsAreOfLayout = (l : Layout) (p : Picture) (alpha : AlphaKind) → IsPictureOf l p → HasAlpha alpha p.alpha
    → AreOfLayout (record { layout = l; alpha = alpha; slices = frame_coefficients p l })

-- what the type of weights says: 64 of each
pub record AreMatrices (w : Weights) : Type 0 where
  pub luma : length w.luma ≡ 64
  pub chroma : length w.chroma ≡ 64

-- The table of coefficients is within the limits of tables.
abbrev pub TableIsTable : Type 0
TableIsTable = (c : FrameCoefficients) (w : Weights) (lo hi budget : ℕ) → AreOfLayout c → AreMatrices w → AreWeights w → 1 ≤ lo → lo ≤ hi → hi ≤ 224
    → 1 ≤ budget → budget < 2 ^ 31 → IsTable (table_of c w lo hi budget)

-- A frame has what the types say; it has the pictures, slices and blocks of its layout, and values that can be
-- written, and so can be written.
pub record IsReady (f : CodedFrame) : Type 0 where
  pub shape : HasShape f
  pub coded : IsCodedFrame f
  pub values : All IsWritablePicture f.pictures
  pub writable : IsWritable f

-- What is coded with one index for each slice can be written.
abbrev pub CodedIsReady : Type 0
CodedIsReady = (c : FrameCoefficients) (h : FrameHeader) (choice : List ℕ) → AreOfLayout c → IsHeaderOf c h → HasArrays h → IsWritableHeader h
    → length choice ≡ length c.slices → All IsIndex choice → IsReady (coded_frame c h choice)

-- The indices of a choice of a table are such indices.
abbrev pub ChoiceHasIndices : Type 0
ChoiceHasIndices = (c : FrameCoefficients) (w : Weights) (lo hi budget : ℕ) (choice : List Entry) → 1 ≤ lo → hi ≤ 224 → IsChoice (table_of c w lo hi budget).slices choice
    → (length (indices choice) ≡ length c.slices) × All IsIndex (indices choice)

-- A frame that is coded with a choice of a table has the table's fixed bytes and the sizes of the chosen entries.
abbrev pub FrameHasTableSize : Type 0
FrameHasTableSize = (c : FrameCoefficients) (h : FrameHeader) (lo hi budget : ℕ) (choice : List Entry) → AreOfLayout c → IsHeaderOf c h
    → IsChoice (table_of c (weights_in h) lo hi budget).slices choice
    → frame_length_of (coded_frame c h (indices choice)) ≡ (table_of c (weights_in h) lo hi budget).fixed + size_of choice
