-- The header of this project's own frames. Our own.
use Rattle.std.specs.Prelude.{ℕ, codes}
use Rattle.pw_planes.specs.declared.kinds.Chroma.{Chroma}
use Rattle.pw_planes.specs.declared.kinds.Chroma.TheVariants.{C422, C444}
use Rattle.pw_planes.specs.declared.kinds.AlphaKind.{AlphaKind}
use Rattle.pw_planes.specs.declared.kinds.AlphaKind.TheVariants.{Absent, Eight, Sixteen}
use Rattle.pw_planes.specs.declared.kinds.Interlace.{Interlace}
use Rattle.pr_quant.specs.declared.weights.Weights.{Weights}
use Rattle.pr_head.specs.declared.frame.FrameHeader.{FrameHeader}

-- version 0 has 4:2:2 without alpha alone; version 1 has every form (SMPTE RDD 36, bitstream_version)
abbrev pub version_of : Chroma → AlphaKind → ℕ
version_of C422 Absent = 0
version_of C422 Eight = 1
version_of C422 Sixteen = 1
version_of C444 alpha = 1

-- the identifier `pwk0`, aspect ratio and frame rate unknown (0), each colour code unspecified (2)
abbrev pub own_header_of : ℕ → ℕ → Chroma → Interlace → AlphaKind → Weights → FrameHeader
own_header_of width height chroma interlace alpha weights = record {
  version = version_of chroma alpha;
  encoder = codes "pwk0";
  width = width;
  height = height;
  chroma = chroma;
  interlace = interlace;
  aspect = 0;
  rate = 0;
  primaries = 2;
  transfer = 2;
  matrix = 2;
  alpha = alpha;
  luma = weights.luma;
  chroma_weights = weights.chroma;
}
