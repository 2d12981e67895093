-- The output planes of a picture while its slices are written into them, and the results of a call that shows them
-- (our own).
use Rattle.std.specs.Prelude.{◌≡◌, ℕ, List, [], ◌∷◌, length, min, max, Option, None, Some, IfSome, IsSome, Result, Ok, Err}
use Rattle.std.specs.List.{All}
use Rattle.pw_outside.specs.Reading.{Rest, Read, Fails, rest_of}
use Rattle.pw_planes.specs.declared.kinds.AlphaKind.{AlphaKind}
use Rattle.pw_planes.specs.declared.kinds.AlphaKind.TheVariants.{Absent, Eight, Sixteen}
use Rattle.pw_planes.specs.declared.kinds.Depth.{Depth}
use Rattle.pw_planes.specs.declared.kinds.Interlace.{Interlace}
use Rattle.pw_planes.specs.Plane.{Raster, IsSized, uniform}
use Rattle.pr_geom.specs.declared.places.Part.{Part}
use Rattle.pr_geom.specs.declared.places.Part.TheVariants.{Y, Cb, Cr}
use Rattle.pr_geom.specs.declared.places.SlicePlace.{SlicePlace}
use Rattle.pr_geom.specs.Slices.{pictures_of}
use Rattle.pr_head.specs.declared.fault.FrameKind.{FrameKind}
use Rattle.pr_head.specs.declared.fault.FrameFault.{FrameFault}
use Rattle.pr_head.specs.declared.frame.FrameHeader.{FrameHeader}
use Rattle.pr_head.specs.Faults.{told_fault}
use Rattle.pr_frame.specs.declared.coded.CodedSlice.{CodedSlice}
use Rattle.pr_frame.specs.declared.coded.CodedPicture.{CodedPicture}
use Rattle.pr_frame.specs.declared.coded.CodedFrame.{CodedFrame}
use Rattle.pr_frame.specs.declared.output.OutputPlanes.{OutputPlanes}
use Rattle.pr_frame.specs.declared.showing.Shown.{Shown}
use Rattle.pr_frame.specs.Coded.{AreCodedSlices, IsCodedPicture, IsCodedFrame}
use Rattle.pr_frame.specs.Shown.{slice_indices, indices_of, least, greatest, width_of, height_of, shown_part, shown_values, all_shown, part_plane, alpha_plane, woven, shown_plane, shown_alpha, shown_of}
use Rattle.pr_frame.specs.inner.Placing.{with_placed}

-- ---- before the first slice

-- the plane of a part
abbrev pub empty_plane : FrameHeader → Part → Raster
empty_plane h part = uniform (width_of h part) (height_of h) 0

-- the alpha plane, if the frame has alpha
abbrev pub empty_alpha : FrameHeader → AlphaKind → Option Raster
empty_alpha h Absent = None
empty_alpha h Eight = Some (uniform h.width (height_of h) 0)
empty_alpha h Sixteen = Some (uniform h.width (height_of h) 0)

abbrev pub empty_output : FrameHeader → OutputPlanes
empty_output h = record { y = empty_plane h Y; cb = empty_plane h Cb; cr = empty_plane h Cr; alpha = empty_alpha h h.alpha; least = 255; greatest = 0 }

-- ---- with slices

-- the alpha plane with the values of one slice more, if there is one
abbrev pub with_values : FrameHeader → SlicePlace → CodedSlice → Option Raster → Option Raster
with_values h place s None = None
with_values h place s (Some a) = Some (with_placed a (shown_values h place s))

-- the output planes with one slice more
abbrev pub with_slice : FrameHeader → Depth → SlicePlace → CodedSlice → OutputPlanes → OutputPlanes
with_slice h depth place s p = record {
  y = with_placed p.y (shown_part h depth Y place s);
  cb = with_placed p.cb (shown_part h depth Cb place s);
  cr = with_placed p.cr (shown_part h depth Cr place s);
  alpha = with_values h place s p.alpha;
  least = min p.least s.index;
  greatest = max p.greatest s.index;
}

-- if there is an alpha plane, the frame has alpha
abbrev pub HasAlpha : FrameHeader → OutputPlanes → Type 0
HasAlpha h p = IfSome p.alpha (λ _. h.alpha ≡ Absent → ⊥)

-- ---- pictures and frames

-- the alpha plane of a coded picture, if the frame has alpha
abbrev pub picture_alpha : FrameHeader → AlphaKind → CodedPicture → Option Raster
picture_alpha h Absent x = None
picture_alpha h Eight x = Some (alpha_plane h x)
picture_alpha h Sixteen x = Some (alpha_plane h x)

-- the output planes of a coded picture, with all its slices
abbrev pub picture_output : FrameHeader → Depth → CodedPicture → OutputPlanes
picture_output h depth x = record {
  y = part_plane h depth Y x;
  cb = part_plane h depth Cb x;
  cr = part_plane h depth Cr x;
  alpha = picture_alpha h h.alpha x;
  least = least (slice_indices x.slices);
  greatest = greatest (slice_indices x.slices);
}

-- planes of the size of a field
pub record HasFieldSize (h : FrameHeader) (p : OutputPlanes) : Type 0 where
  pub y : IsSized p.y (width_of h Y) (height_of h)
  pub cb : IsSized p.cb (width_of h Cb) (height_of h)
  pub cr : IsSized p.cr (width_of h Cr) (height_of h)
  pub alpha : IfSome p.alpha (λ a. IsSized a h.width (height_of h))

-- the alpha planes of two fields as one
abbrev pub woven_alpha : Interlace → Option Raster → Option Raster → Option Raster
woven_alpha mode (Some a) (Some b) = Some (woven mode (a ∷ b ∷ []))
woven_alpha mode (Some a) None = None
woven_alpha mode None b = None

-- the output planes of two fields as one, the earlier first
abbrev pub woven_output : Interlace → OutputPlanes → OutputPlanes → OutputPlanes
woven_output mode p q = record {
  y = woven mode (p.y ∷ q.y ∷ []);
  cb = woven mode (p.cb ∷ q.cb ∷ []);
  cr = woven mode (p.cr ∷ q.cr ∷ []);
  alpha = woven_alpha mode p.alpha q.alpha;
  least = min p.least q.least;
  greatest = max p.greatest q.greatest;
}

-- the output planes of a coded frame
abbrev pub frame_output : Depth → CodedFrame → OutputPlanes
frame_output depth f = record {
  y = shown_plane f depth Y;
  cb = shown_plane f depth Cb;
  cr = shown_plane f depth Cr;
  alpha = shown_alpha f f.header.alpha;
  least = least (indices_of f);
  greatest = greatest (indices_of f);
}

-- what is reported of a frame with these output planes
abbrev pub shown_with : FrameHeader → Depth → OutputPlanes → Shown
shown_with h depth p = record {
  header = h;
  least_index = p.least;
  greatest_index = p.greatest;
  picture = record { y = p.y; cb = p.cb; cr = p.cr; alpha = p.alpha; chroma = h.chroma; depth = depth };
}

-- ---- the results of a call

-- the alpha plane with the values of slices, if the frame has alpha
abbrev pub slices_alpha : FrameHeader → AlphaKind → List SlicePlace → List CodedSlice → Option Raster
slices_alpha h Absent places slices = None
slices_alpha h Eight places slices = Some (with_placed (uniform h.width (height_of h) 0) (all_shown (shown_values h) places slices))
slices_alpha h Sixteen places slices = Some (with_placed (uniform h.width (height_of h) 0) (all_shown (shown_values h) places slices))

-- the output planes with these slices
abbrev pub slices_output : FrameHeader → Depth → List SlicePlace → List CodedSlice → OutputPlanes
slices_output h depth places slices = record {
  y = with_placed (empty_plane h Y) (all_shown (shown_part h depth Y) places slices);
  cb = with_placed (empty_plane h Cb) (all_shown (shown_part h depth Cb) places slices);
  cr = with_placed (empty_plane h Cr) (all_shown (shown_part h depth Cr) places slices);
  alpha = slices_alpha h h.alpha places slices;
  least = least (slice_indices slices);
  greatest = greatest (slice_indices slices);
}

-- these are the output planes of slices at these places
pub record AreSlicesOf (h : FrameHeader) (depth : Depth) (places : List SlicePlace) (p : OutputPlanes) (slices : List CodedSlice) : Type 0 where
  pub coded : AreCodedSlices h places slices
  pub is : p ≡ slices_output h depth places slices

-- of a coded picture
pub record IsPictureOf (h : FrameHeader) (depth : Depth) (p : OutputPlanes) (x : CodedPicture) : Type 0 where
  pub coded : IsCodedPicture h x
  pub is : p ≡ picture_output h depth x

-- of the pictures of a frame
pub record ArePicturesOf (h : FrameHeader) (depth : Depth) (p : OutputPlanes) (xs : List CodedPicture) : Type 0 where
  pub number : length xs ≡ pictures_of h.interlace
  pub coded : All (IsCodedPicture h) xs
  pub is : p ≡ frame_output depth (record { header = h; pictures = xs })

-- this is reported of a coded frame
pub record IsFrameOf (depth : Depth) (p : Shown) (f : CodedFrame) : Type 0 where
  pub coded : IsCodedFrame f
  pub is : p ≡ shown_of depth f

-- A result is of some value, which is the one that reading gives if the source's bytes are visible, and enough of
-- them; an error that reports a fault reports the one that reading meets.
abbrev pub Finds : {X Y : Type 0} → (X → Y → Type 0) → Type 0 → Option (List ℕ) → Option (List ℕ) → ℕ → ℕ → Result X FrameFault → (Rest → Read FrameKind Y) → Type 0
Finds {X} {Y} Is enough old new before after (Ok x) read = (y : Y) × Is x y × (enough → IsSome old → IsSome new × (read (rest_of before old) ≡ Ok (y, rest_of after new)))
Finds {X} {Y} Is enough old new before after (Err e) read = enough → IsSome old → Fails told_fault e (read (rest_of before old))
