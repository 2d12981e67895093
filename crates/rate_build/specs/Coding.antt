-- A frame coded with a choice of quantisation indices, one per slice.
use Rattle.std.specs.Prelude.{◌≡◌, ℕ, ◌*◌, ◌≤◌, List, [], ◌∷◌, length, map, take, drop}
use Rattle.std.specs.List.{range_with_len}
use Rattle.pr_geom.specs.Layout.{slices_of}
use Rattle.pr_geom.specs.Slices.{pictures_of}
use Rattle.pr_head.specs.declared.frame.FrameHeader.{FrameHeader}
use Rattle.pr_quant.specs.declared.weights.Weights.{Weights}
use Rattle.pr_frame.specs.declared.coded.CodedSlice.{CodedSlice}
use Rattle.pr_frame.specs.declared.coded.CodedPicture.{CodedPicture}
use Rattle.pr_frame.specs.declared.coded.CodedFrame.{CodedFrame}
use Rattle.rate_build.specs.declared.slices.SliceCoefficients.{SliceCoefficients}
use Rattle.rate_build.specs.Measures.{quantised_part}
use Rattle.rate_build.specs.Coefficients.{FrameCoefficients}

-- a slice quantised at an index: luma by the weights of luma, both of chroma by those of chroma
abbrev pub coded_slice : Weights → ℕ → SliceCoefficients → CodedSlice
coded_slice w index s = record {
  index = index;
  y = quantised_part w.luma index s.y;
  cb = quantised_part w.chroma index s.cb;
  cr = quantised_part w.chroma index s.cr;
  alpha = s.alpha;
}

-- each slice quantised at its own index
abbrev pub coded_slices : Weights → List SliceCoefficients → List ℕ → List CodedSlice
coded_slices w [] choice = []
coded_slices w (s ∷ slices) [] = []
coded_slices w (s ∷ slices) (index ∷ choice) = coded_slice w index s ∷ coded_slices w slices choice

-- the weights of a header
abbrev pub weights_in : FrameHeader → Weights
weights_in h = record { luma = h.luma; chroma = h.chroma_weights }

-- the coded picture of an index: as many slices as each picture has, after those of the pictures before it
abbrev pub coded_picture : FrameCoefficients → List CodedSlice → ℕ → CodedPicture
coded_picture c slices k = record {
  log2 = c.layout.log2;
  slices = take (length (slices_of c.layout)) (drop (length (slices_of c.layout) * k) slices);
}

-- the frame of this header, each slice quantised at its own index
abbrev pub coded_frame : FrameCoefficients → FrameHeader → List ℕ → CodedFrame
coded_frame c h choice = record {
  header = h;
  pictures = map (coded_picture c (coded_slices (weights_in h) c.slices choice)) (range_with_len 0 (pictures_of c.layout.interlace));
}

-- a header of the size and the form of coefficients
pub record IsHeaderOf (c : FrameCoefficients) (h : FrameHeader) : Type 0 where
  pub width : h.width ≡ c.layout.width
  pub height : h.height ≡ c.layout.height
  pub chroma : h.chroma ≡ c.layout.chroma
  pub interlace : h.interlace ≡ c.layout.interlace
  pub alpha : h.alpha ≡ c.alpha

-- a quantisation index
pub record IsIndex (index : ℕ) : Type 0 where
  pub least : 1 ≤ index
  pub most : index ≤ 224
