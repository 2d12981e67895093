-- Slices written into the output planes of a picture, in order.
use Rattle.std.proofs.Common.{◌≡◌, refl, ℕ, zero, suc, ◌+◌, ◌<◌, ◌≤◌, List, [], ◌∷◌, ◌++◌, length, take, drop, get_or, min, max, Some, Ok, sym, ap, ◌∙◌, subst, arith, append_assoc}
use Rattle.std.specs.Prelude.{IfSome}
use Rattle.std.proofs.lemmas.List.{append-nil, map-append, length-append}
use Rattle.pw_planes.specs.declared.kinds.AlphaKind.{AlphaKind}
use Rattle.pw_planes.specs.declared.kinds.AlphaKind.TheVariants.{Absent, Eight, Sixteen}
use Rattle.pw_planes.specs.declared.kinds.Depth.{Depth}
use Rattle.pw_planes.specs.Plane.{Raster, uniform}
use Rattle.pw_outside.specs.Reading.{Rest, Read}
use Rattle.pw_outside.proofs.Chains.{with_front, with_front_nil}
use Rattle.pr_geom.specs.declared.places.Part.{Part}
use Rattle.pr_geom.specs.declared.places.Part.TheVariants.{Y, Cb, Cr}
use Rattle.pr_geom.specs.declared.places.SlicePlace.{SlicePlace}
use Rattle.pr_geom.specs.declared.layout.Layout.{Layout}
use Rattle.pr_geom.specs.Faults.{IsAllowed}
use Rattle.pr_geom.specs.Layout.{IsLayoutOf}
use Rattle.pr_geom.specs.Slices.{no_slice}
use Rattle.pr_head.specs.declared.fault.FrameKind.{FrameKind}
use Rattle.pr_head.specs.declared.frame.FrameHeader.{FrameHeader}
use Rattle.pr_frame.specs.declared.coded.CodedSlice.{CodedSlice}
use Rattle.pr_frame.specs.declared.coded.CodedPicture.{CodedPicture}
use Rattle.pr_frame.specs.declared.output.OutputPlanes.{OutputPlanes}
use Rattle.pr_frame.specs.Forms.{places_in}
use Rattle.pr_frame.specs.Coded.{IsCodedSlice, AreCodedSlices, IsCodedPicture}
use Rattle.pr_frame.specs.Reading.{coded_slice_at, coded_slices_at}
use Rattle.pr_frame.specs.Shown.{Placed, slice_indices, least, greatest, height_of, shown_part, shown_values, all_shown}
use Rattle.pr_frame.specs.inner.Placing.{with_placed}
use Rattle.pr_frame.specs.inner.Output.{empty_plane, empty_alpha, empty_output, with_values, with_slice, HasAlpha, picture_alpha, picture_output, slices_alpha, slices_output}
use Rattle.pr_frame.proofs.Indices.{least_behind, greatest_behind}
use Rattle.pr_frame.proofs.Placed.{placed_behind}
use Rattle.pr_frame.proofs.ShownParts.{part_written, values_written}
use Rattle.pr_frame.proofs.SliceLoop.{slices-more, coded-more}

-- ---- one slice more

none_shown : (f : SlicePlace → CodedSlice → List Placed) (places : List SlicePlace) → all_shown f places [] ≡ []
none_shown f [] = refl
none_shown f (p ∷ ps) = refl

all_more : (f : SlicePlace → CodedSlice → List Placed) (places : List SlicePlace) (n : ℕ) (front : List CodedSlice) (s : CodedSlice) → length front ≡ n → n < length places
    → all_shown f places (front ++ s ∷ []) ≡ all_shown f places front ++ f (get_or places n no_slice) s
all_more f [] n front s e lt = absurd (omega arith)
all_more f (p ∷ ps) zero [] s e lt = ap (λ l. f p s ++ l) (none_shown f ps) ∙ append-nil (f p s)
all_more f (p ∷ ps) zero (x ∷ front) s e lt = absurd (omega arith)
all_more f (p ∷ ps) (suc n) [] s e lt = absurd (omega arith)
all_more f (p ∷ ps) (suc n) (x ∷ front) s e lt =
    ap (λ l. f p x ++ l) (all_more f ps n front s (omega arith) (omega arith)) ∙ (simp append_assoc)

part_more : (f : SlicePlace → CodedSlice → List Placed) (plane : Raster) (places : List SlicePlace) (n : ℕ) (front : List CodedSlice) (place : SlicePlace) (s : CodedSlice)
    → length front ≡ n → n < length places → place ≡ get_or places n no_slice
    → with_placed (with_placed plane (all_shown f places front)) (f place s) ≡ with_placed plane (all_shown f places (front ++ s ∷ []))
part_more f plane places n front place s e lt is =
    sym (placed_behind plane (all_shown f places front) (f place s))
    ∙ ap (with_placed plane) (ap (λ p. all_shown f places front ++ f p s) is ∙ sym (all_more f places n front s e lt))

least_more : (front : List CodedSlice) (s : CodedSlice) → s.index ≤ 224 → min (least (slice_indices front)) s.index ≡ least (slice_indices (front ++ s ∷ []))
least_more front s few =
    let is = ap least (map-append (λ (s : CodedSlice). s.index) front (s ∷ [])) in
    omega (arith, is, least_behind (slice_indices front) (s.index ∷ []))

greatest_more : (front : List CodedSlice) (s : CodedSlice) → max (greatest (slice_indices front)) s.index ≡ greatest (slice_indices (front ++ s ∷ []))
greatest_more front s =
    let is = ap greatest (map-append (λ (s : CodedSlice). s.index) front (s ∷ [])) in
    omega (arith, is, greatest_behind (slice_indices front) (s.index ∷ []))

module _ (h : FrameHeader) (depth : Depth) (places : List SlicePlace) where
  alpha_none : (kind : AlphaKind) → empty_alpha h kind ≡ slices_alpha h kind places []
  unfolding with_placed
  alpha_none Absent = refl
  alpha_none Eight = ap (λ l. Some (with_placed (uniform h.width (height_of h) 0) l)) (sym (none_shown (shown_values h) places))
  alpha_none Sixteen = ap (λ l. Some (with_placed (uniform h.width (height_of h) 0) l)) (sym (none_shown (shown_values h) places))

  part_none : (part : Part) → empty_plane h part ≡ with_placed (empty_plane h part) (all_shown (shown_part h depth part) places [])
  unfolding with_placed
  part_none part = ap (with_placed (empty_plane h part)) (sym (none_shown (shown_part h depth part) places))

  -- before the first slice
  pub output_none : empty_output h ≡ slices_output h depth places []
  output_none = λ i. record { y = part_none Y i; cb = part_none Cb i; cr = part_none Cr i; alpha = alpha_none h.alpha i; least = 255; greatest = 0 }

  module _ (n : ℕ) (front : List CodedSlice) (place : SlicePlace) (s : CodedSlice) (number : length front ≡ n) (lt : n < length places) (is : place ≡ get_or places n no_slice) where
    alpha_more : (kind : AlphaKind) → with_values h place s (slices_alpha h kind places front) ≡ slices_alpha h kind places (front ++ s ∷ [])
    alpha_more Absent = refl
    alpha_more Eight = ap Some (part_more (shown_values h) (uniform h.width (height_of h) 0) places n front place s number lt is)
    alpha_more Sixteen = ap Some (part_more (shown_values h) (uniform h.width (height_of h) 0) places n front place s number lt is)

    output_more : s.index ≤ 224 → with_slice h depth place s (slices_output h depth places front) ≡ slices_output h depth places (front ++ s ∷ [])
    output_more few = λ i. record {
      y = part_more (shown_part h depth Y) (empty_plane h Y) places n front place s number lt is i;
      cb = part_more (shown_part h depth Cb) (empty_plane h Cb) places n front place s number lt is i;
      cr = part_more (shown_part h depth Cr) (empty_plane h Cr) places n front place s number lt is i;
      alpha = alpha_more h.alpha i;
      least = least_more front s few i;
      greatest = greatest_more front s i;
    }

  alpha_there : (kind : AlphaKind) (front : List CodedSlice) → kind ≡ h.alpha → IfSome (slices_alpha h kind places front) (λ _. h.alpha ≡ Absent → ⊥)
  alpha_there Absent front e = tt
  alpha_there Eight front e = λ a. let q = e ∙ a in absurd cc
  alpha_there Sixteen front e = λ a. let q = e ∙ a in absurd cc

  pub has_alpha_put : (front : List CodedSlice) (p : OutputPlanes) → p ≡ slices_output h depth places front → HasAlpha h p
  has_alpha_put front p e = subst (λ (q : OutputPlanes). HasAlpha h q) (sym e) (alpha_there h.alpha front refl)

-- ---- slices in order

-- These are the output planes of the first n slices. If the source's bytes are visible, these slices and what is
-- still read are the whole.
pub record ArePut (h : FrameHeader) (depth : Depth) (places : List SlicePlace) (sizes : List ℕ) (n : ℕ) (p : OutputPlanes) (told : Type 0) (s : Rest) (total : Read FrameKind (List CodedSlice)) : Type 0 where
  pub front : List CodedSlice
  pub number : length front ≡ n
  pub coded : AreCodedSlices h (take n places) front
  pub is : p ≡ slices_output h depth places front
  pub bytes : told → with_front front (coded_slices_at h (drop n places) (drop n sizes) s) ≡ total

pub put_none : (h : FrameHeader) (depth : Depth) (places : List SlicePlace) (sizes : List ℕ) (p : OutputPlanes) (told : Type 0) (s : Rest) → p ≡ empty_output h → ArePut h depth places sizes 0 p told s (coded_slices_at h places sizes s)
put_none h depth places sizes p told s e = record { front = []; number = refl; coded = tt; is = e ∙ output_none h depth places; bytes = λ t. with_front_nil _ }

pub put_more : (h : FrameHeader) (depth : Depth) (places : List SlicePlace) (sizes : List ℕ) (n : ℕ) (p q : OutputPlanes) (told : Type 0) (s t : Rest) (total : Read FrameKind (List CodedSlice)) (place : SlicePlace) (size : ℕ) (x : CodedSlice)
    → n < length places → n < length sizes → place ≡ get_or places n no_slice → size ≡ get_or sizes n 0 → IsCodedSlice h place x → q ≡ with_slice h depth place x p → (told → coded_slice_at h place size s ≡ Ok (x, t))
    → ArePut h depth places sizes n p told s total → ArePut h depth places sizes (n + 1) q told t total
put_more h depth places sizes n p q told s t total place size x lp ls place_is size_is coded new read i = record {
  front = i.front ++ x ∷ [];
  number = omega (arith, i.number, length-append i.front (x ∷ []));
  coded = coded-more h places i.front n place x lp place_is i.coded coded;
  is = new ∙ ap (with_slice h depth place x) i.is ∙ output_more h depth places n i.front place x i.number lp place_is coded.index_to;
  bytes = λ a. slices-more h places sizes n place size s total lp ls place_is size_is i.front x t (read a) (i.bytes a);
}

-- ---- a coded picture

-- a layout's size is one that a frame may have
pub layout_allowed : (l : Layout) (h : FrameHeader) (log2 : ℕ) → IsLayoutOf l h.width h.height log2 h.interlace h.chroma → IsAllowed h.width h.height log2 h.interlace
layout_allowed l h log2 is = rw (sym is.width, sym is.height, sym is.log2, sym is.interlace) l.allowed

alpha_written : (h : FrameHeader) (x : CodedPicture) → IsCodedPicture h x → (kind : AlphaKind) → slices_alpha h kind (places_in h x.log2) x.slices ≡ picture_alpha h kind x
alpha_written h x ok Absent = refl
alpha_written h x ok Eight = ap Some (values_written h x ok)
alpha_written h x ok Sixteen = ap Some (values_written h x ok)

-- with all slices of a coded picture the planes are the picture's
pub output_written : (h : FrameHeader) (depth : Depth) (x : CodedPicture) → IsCodedPicture h x → slices_output h depth (places_in h x.log2) x.slices ≡ picture_output h depth x
output_written h depth x ok = λ i. record {
  y = part_written h depth Y x ok i;
  cb = part_written h depth Cb x ok i;
  cr = part_written h depth Cr x ok i;
  alpha = alpha_written h x ok h.alpha i;
  least = least (slice_indices x.slices);
  greatest = greatest (slice_indices x.slices);
}
