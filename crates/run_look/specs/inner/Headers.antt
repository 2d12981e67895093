-- When two headers of frames have the same fields. Our own definitions.
use Rattle.std.specs.Prelude.{◌≡◌}
use Rattle.pr_head.specs.declared.frame.FrameHeader.{FrameHeader}

abbrev pub SameForm : FrameHeader → FrameHeader → Type 0
SameForm a b = (a.version ≡ b.version) × (a.encoder ≡ b.encoder) × (a.width ≡ b.width) × (a.height ≡ b.height) × (a.chroma ≡ b.chroma) × (a.interlace ≡ b.interlace) × (a.alpha ≡ b.alpha)

abbrev pub SameCodes : FrameHeader → FrameHeader → Type 0
SameCodes a b = (a.aspect ≡ b.aspect) × (a.rate ≡ b.rate) × (a.primaries ≡ b.primaries) × (a.transfer ≡ b.transfer) × (a.matrix ≡ b.matrix)

abbrev pub SameWeights : FrameHeader → FrameHeader → Type 0
SameWeights a b = (a.luma ≡ b.luma) × (a.chroma_weights ≡ b.chroma_weights)
