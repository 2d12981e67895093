-- The table of a frame: the cost of each slice at each quantisation index (our own).
use Rattle.std.specs.Prelude.{ℕ, ◌+◌, ◌-◌, ◌*◌, ◌<◌, ◌≤◌, List, length, map, get_or}
use Rattle.std.specs.List.{All, range_with_len}
use Rattle.pw_planes.specs.declared.kinds.AlphaKind.{AlphaKind}
use Rattle.pw_planes.specs.declared.kinds.Interlace.{Interlace}
use Rattle.pr_geom.specs.declared.layout.Layout.{Layout}
use Rattle.pr_geom.specs.Layout.{slices_of}
use Rattle.pr_geom.specs.Slices.{pictures_of}
use Rattle.pr_quant.specs.declared.weights.Weights.{Weights}
use Rattle.pr_quant.specs.Matrices.{IsWeight}
use Rattle.pr_frame.specs.Written.{slice_length}
use Rattle.rate_table.specs.declared.entry.Entry.{Entry}
use Rattle.rate_table.specs.Table.{Table}
use Rattle.rate_build.specs.declared.slices.SliceCoefficients.{SliceCoefficients}
use Rattle.rate_build.specs.declared.costs.Measure.{Measure}
use Rattle.pr_quant.specs.Errors.{part_error}
use Rattle.rate_build.specs.Measures.{ArePart, no_measure}
use Rattle.rate_build.specs.Coefficients.{FrameCoefficients}
use Rattle.rate_build.specs.Coding.{coded_slice}

-- the bytes of a slice that is quantised at an index, including its header
abbrev pub slice_size : Interlace → AlphaKind → Weights → SliceCoefficients → ℕ → ℕ
slice_size mode alpha w s index = slice_length mode alpha (coded_slice w index s)

-- the sum of (c - q·m)² over all coefficients c of a slice, q being the quantised value and m the multiplier
abbrev pub slice_error : Weights → SliceCoefficients → ℕ → ℕ
slice_error w s index = part_error w.luma index s.y + part_error w.chroma index s.cb + part_error w.chroma index s.cr

-- the cost of a slice at an index
abbrev pub entry_of : Interlace → AlphaKind → Weights → SliceCoefficients → ℕ → Entry
entry_of mode alpha w s index = record { index = index; size = slice_size mode alpha w s index; error = slice_error w s index }

-- the cost of a slice at each index from `lo` to `hi`
unfoldable pub entries_of : Interlace → AlphaKind → Weights → ℕ → ℕ → SliceCoefficients → List Entry
entries_of mode alpha w lo hi s = map (entry_of mode alpha w s) (range_with_len lo (hi + 1 - lo))

-- the entry at an index, joined from the costs of its three parts there and the bytes apart from them
abbrev pub joined_entry : ℕ → List Measure → List Measure → List Measure → ℕ → ℕ → Entry
joined_entry beside y cb cr lo k = record {
  index = lo + k;
  size = beside + (get_or y k no_measure).bytes + (get_or cb k no_measure).bytes + (get_or cr k no_measure).bytes;
  error = (get_or y k no_measure).error + (get_or cb k no_measure).error + (get_or cr k no_measure).error;
}

-- the bytes of a frame that don't depend on its indices: the frame's header of 156 bytes, and for each picture a
-- header of 8 bytes and two bytes a slice
abbrev pub fixed_bytes : Layout → ℕ
fixed_bytes l = 156 + pictures_of l.interlace * (8 + 2 * length (slices_of l))

-- the table of a frame
abbrev pub table_of : FrameCoefficients → Weights → ℕ → ℕ → ℕ → Table
table_of c w lo hi budget = record {
  budget = budget;
  fixed = fixed_bytes c.layout;
  slices = map (entries_of c.layout.interlace c.alpha w lo hi) c.slices;
}

-- each part of a slice has blocks of coefficients, and there are at most 2,048 alpha values
pub record HasParts (s : SliceCoefficients) : Type 0 where
  pub y : ArePart s.y
  pub cb : ArePart s.cb
  pub cr : ArePart s.cr
  pub values : length s.alpha ≤ 2048

-- weights of written frames
pub record AreWeights (w : Weights) : Type 0 where
  pub luma : All IsWeight w.luma
  pub chroma : All IsWeight w.chroma

-- an entry of a slice that can be written: its size fits a table of sizes
abbrev pub IsShort : Entry → Type 0
IsShort e = e.size < 65535
