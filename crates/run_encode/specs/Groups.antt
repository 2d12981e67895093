-- The parameters of a run, and its groups of pictures under one budget. Our own definitions.
use Rattle.std.specs.Prelude.{◌≡◌, ℕ, ◌+◌, ◌-◌, ◌*◌, ◌/◌, ◌<◌, ◌≤◌, ◌^◌, Bool, ◌&&◌, nat_le, List, length, map, is_some, is_none, None, IfSome, if◌then◌else◌}
use Rattle.std.specs.List.{All}
use Rattle.pw_planes.specs.declared.picture.Picture.{Picture}
use Rattle.pr_geom.specs.Layout.{slices_of, IsLayoutOf}
use Rattle.pr_geom.specs.Slices.{pictures_of}
use Rattle.pr_geom.specs.Faults.{first_fault, slice_count}
use Rattle.pr_quant.specs.Matrices.{weights_of}
use Rattle.pr_head.specs.declared.frame.FrameHeader.{FrameHeader}
use Rattle.pr_head.specs.Own.{own_header_of}
use Rattle.pr_frame.specs.declared.coded.CodedFrame.{CodedFrame}
use Rattle.pic_y4m.specs.declared.head.Head.{Head}
use Rattle.pic_y4m.specs.declared.head.TheConstants.{MAX_FRAMES}
use Rattle.pic_y4m.specs.HeadLine.{IsHead}
use Rattle.pic_y4m.specs.Frames.{Pictures}
use Rattle.pic_raw.specs.Raw.{IsPicture}
use Rattle.rate_table.specs.declared.entry.Entry.{Entry}
use Rattle.rate_table.specs.declared.table.TheConstants.{MAX_TABLE_SLICES}
use Rattle.rate_table.specs.Table.{Table}
use Rattle.rate_build.specs.Coefficients.{FrameCoefficients, AreOfLayout, frame_coefficients}
use Rattle.rate_build.specs.Coding.{IsHeaderOf}
use Rattle.rate_build.specs.Tables.{entries_of, AreWeights}
use Rattle.rate_build.specs.Laws.{AreMatrices}
use Rattle.rate_build.specs.Groups.{table_of_frames, coded_frames}
use Rattle.rate_cert.specs.declared.settings.Settings.{Settings}
use Rattle.rate_cert.specs.Files.{IsFormat}
use Rattle.run_encode.specs.declared.job.Job.{Job}
use Rattle.run_encode.specs.declared.job.EncodeWords.{EncodeWords}

-- ---- the parameters that all frames of a run share

-- the values that the command line allows
pub record AreWords (w : EncodeWords) : Type 0 where
  pub some_budget : 1 ≤ w.budget
  pub least : 1 ≤ w.lo
  pub order : w.lo ≤ w.hi
  pub most : w.hi ≤ 224
  pub log2 : w.log2 ≤ 3
  pub raw : IfSome w.raw IsHead
  pub some_group : 1 ≤ w.group
  pub small_group : w.group ≤ 8
  pub budget : w.group * w.budget < 2 ^ 31
  pub format : IsFormat w.proof

-- the header of each frame
abbrev pub header_in : Job → FrameHeader
header_in j = own_header_of j.head.width j.head.height j.head.chroma j.head.interlace j.head.alpha j.weights

-- the number of slices in a frame, in all its pictures
abbrev pub frame_slices : Job → ℕ
frame_slices j = pictures_of j.layout.interlace * length (slices_of j.layout)

-- the settings that the proof states for all its records
abbrev pub settings_of : Job → Settings
settings_of j = record {
  form = if j.raw then 1 else 0;
  group = j.group;
  width = j.head.width;
  height = j.head.height;
  chroma = j.head.chroma;
  depth = j.head.depth;
  alpha = j.head.alpha;
  interlace = j.head.interlace;
  log2 = j.layout.log2;
  lo = j.lo;
  hi = j.hi;
  num = j.head.num;
  den = j.head.den;
  luma = j.weights.luma;
  chroma_weights = j.weights.chroma;
  budget = j.budget;
}

-- the invariant of a run's parameters
pub record IsJob (j : Job) : Type 0 where
  pub head : IsHead j.head
  pub layout : IsLayoutOf j.layout j.head.width j.head.height j.layout.log2 j.head.interlace j.head.chroma
  pub no_fault : first_fault j.head.width j.head.height j.layout.log2 j.head.interlace ≡ None
  pub log2 : j.layout.log2 ≤ 3
  pub matrices : AreMatrices j.weights
  pub weights : AreWeights j.weights
  pub least : 1 ≤ j.lo
  pub order : j.lo ≤ j.hi
  pub most : j.hi ≤ 224
  pub some_budget : 1 ≤ j.budget
  pub some_group : 1 ≤ j.group
  pub small_group : j.group ≤ 8
  pub budget : j.group * j.budget < 2 ^ 31
  pub slices : j.group * frame_slices j ≤ MAX_TABLE_SLICES
  pub format : IsFormat j.format

-- the parameters of these options and this head
pub record IsJobOf (w : EncodeWords) (h : Head) (j : Job) : Type 0 where
  pub head : j.head ≡ h
  pub layout : IsLayoutOf j.layout h.width h.height w.log2 h.interlace h.chroma
  pub luma : j.weights.luma ≡ weights_of w.matrix
  pub chroma : j.weights.chroma ≡ weights_of w.matrix
  pub lo : j.lo ≡ w.lo
  pub hi : j.hi ≡ w.hi
  pub budget : j.budget ≡ w.budget
  pub group : j.group ≡ w.group
  pub raw : j.raw ≡ is_some w.raw
  pub format : j.format ≡ w.proof

-- Pictures of this format have a layout, and the frames of a group have at most MAX_TABLE_SLICES slices together.
abbrev pub has_layout : EncodeWords → Head → Bool
has_layout w head = is_none (first_fault head.width head.height w.log2 head.interlace)
    && nat_le (w.group * (pictures_of head.interlace * slice_count head.width head.height w.log2 head.interlace)) MAX_TABLE_SLICES

-- ---- groups

-- pictures of this format, at most MAX_FRAMES
pub record ArePictures (h : Head) (ps : Pictures) : Type 0 where
  pub each : All (IsPicture h) ps.pictures
  pub few : length ps.pictures ≤ MAX_FRAMES

-- the number of groups; if an error ends the pictures, a group that it cuts isn't counted
abbrev pub group_count : ℕ → Pictures → ℕ
group_count size ps = if is_some ps.fault then length ps.pictures / size else (length ps.pictures + size - 1) / size

-- ---- the table of a group

abbrev pub coefficients_in : Job → Picture → FrameCoefficients
coefficients_in j p = record { layout = j.layout; alpha = j.head.alpha; slices = frame_coefficients p j.layout }

-- the size and error of each slice of a frame at each index from `lo` to `hi`
abbrev pub slice_tables : Job → FrameCoefficients → List (List Entry)
slice_tables j c = map (entries_of c.layout.interlace c.alpha j.weights j.lo j.hi) c.slices

-- The table of a group's frames: the budget and the fixed bytes of all frames together, and the size and error of
-- each slice at each permitted index.
unfoldable pub table_of_group : Job → List FrameCoefficients → Table
table_of_group j cs = table_of_frames j.weights j.lo j.hi j.budget cs

-- the table of a group of pictures
abbrev pub table_in : Job → List Picture → Table
table_in j ps = table_of_group j (map (coefficients_in j) ps)

-- ---- the frames that a choice gives

-- each frame coded by its own part of the choice: as many indices as a frame has slices
abbrev pub coded_group : Job → List FrameCoefficients → List ℕ → List CodedFrame
coded_group j cs choice = coded_frames (header_in j) (frame_slices j) cs choice

-- coefficients of a frame of a run
pub record IsFrameOf (j : Job) (c : FrameCoefficients) : Type 0 where
  pub layout : c.layout ≡ j.layout
  pub of : AreOfLayout c
  pub header : IsHeaderOf c (header_in j)
