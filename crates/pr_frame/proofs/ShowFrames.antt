-- The pictures of a frame, read and shown: one, or both fields.
use Rattle.std.proofs.Common.{◌≡◌, refl, ℕ, zero, suc, ◌<◌, ◌≤◌, List, [], ◌∷◌, ◌++◌, length, map, min, max, Option, Some, Result, Ok, Err, sym, ap, ◌∙◌, subst, arith}
use Rattle.std.specs.Prelude.{IfOk, IfErr, OnOk, IfSome, IsSome}
use Rattle.std.proofs.lemmas.List.{append-nil}
use Rattle.std.proofs.lemmas.List.Elements.{All-nil, All-cons}
use Rattle.pw_outside.specs.Reading.{Rest, bind, Fails, Told, bytes_of, rest_of}
use Rattle.pw_outside.proofs.Chains.{fails-whole}
use Rattle.pw_planes.specs.declared.kinds.AlphaKind.{AlphaKind}
use Rattle.pw_planes.specs.declared.kinds.AlphaKind.TheVariants.{Absent, Eight, Sixteen}
use Rattle.pw_planes.specs.declared.kinds.Depth.{Depth}
use Rattle.pw_planes.specs.declared.kinds.Interlace.{Interlace}
use Rattle.pw_planes.specs.declared.kinds.Interlace.TheVariants.{Progressive, TopFirst, BottomFirst}
use Rattle.pw_planes.specs.Plane.{Raster, IsSized}
use Rattle.pr_geom.specs.declared.places.Part.TheVariants.{Y, Cb, Cr}
use Rattle.pr_geom.specs.Slices.{pictures_of}
use Rattle.pr_head.specs.declared.fault.FrameFault.{FrameFault}
use Rattle.pr_head.specs.declared.fault.FrameFault.TheVariants.{NoMemory}
use Rattle.pr_head.specs.declared.frame.FrameHeader.{FrameHeader}
use Rattle.pr_head.specs.Faults.{told_fault}
use Rattle.pr_head.specs.Header.{HasLayoutSize}
use Rattle.pr_frame.specs.declared.coded.CodedPicture.{CodedPicture}
use Rattle.pr_frame.specs.declared.coded.CodedFrame.{CodedFrame}
use Rattle.pr_frame.specs.declared.output.OutputPlanes.{OutputPlanes}
use Rattle.pr_frame.specs.declared.showing.Shown.{Shown}
use Rattle.pr_frame.specs.Coded.{IsCodedPicture}
use Rattle.pr_frame.specs.Reading.{coded_picture_at, coded_pictures_at, frame_at, frame_fault}
use Rattle.pr_frame.specs.Shown.{slice_indices, indices_of, least, greatest, height_of, part_plane, alpha_plane, woven, shown_plane, shown_alpha, shown, HasHeaderForm, IsShownBy}
use Rattle.pr_frame.specs.inner.Output.{HasFieldSize, picture_alpha, picture_output, woven_alpha, woven_output, frame_output, shown_with, IsPictureOf, ArePicturesOf, IsFrameOf, Finds}
use Rattle.pr_frame.proofs.Indices.{least_behind, greatest_behind}
use Rattle.pr_frame.proofs.ShownForm.{plane_sized, shown_form}
use Rattle.pr_frame.proofs.Answered.{fault-told}
use Rattle.pr_frame.proofs.FrameSteps.{sample-value, sample-fault}
use Rattle.pr_frame.proofs.WholeStanding.{frame-found}

-- ---- the size of a field

module _ (h : FrameHeader) (depth : Depth) where
  picture_sized : (x : CodedPicture) (kind : AlphaKind) → IfSome (picture_alpha h kind x) (λ a. IsSized a h.width (height_of h))
  picture_sized x Absent = tt
  picture_sized x Eight = plane_sized _ _ _
  picture_sized x Sixteen = plane_sized _ _ _

  pub field_size : (p : OutputPlanes) (x : CodedPicture) → p ≡ picture_output h depth x → HasFieldSize h p
  field_size p x e = subst (λ (q : OutputPlanes). HasFieldSize h q) (sym e) (record { y = plane_sized _ _ _; cb = plane_sized _ _ _; cr = plane_sized _ _ _; alpha = picture_sized x h.alpha })

  -- ---- one picture, and two

  module _ (x : CodedPicture) (one : h.interlace ≡ Progressive) where
    one_plane : (g : CodedPicture → Raster) → g x ≡ woven h.interlace (map g (x ∷ []))
    one_plane g = ap (λ m. woven m (g x ∷ [])) (sym one)

    one_alpha : (kind : AlphaKind) → picture_alpha h kind x ≡ shown_alpha (record { header = h; pictures = x ∷ [] }) kind
    one_alpha Absent = refl
    one_alpha Eight = ap Some (one_plane (alpha_plane h))
    one_alpha Sixteen = ap Some (one_plane (alpha_plane h))

    one_index : indices_of (record { header = h; pictures = x ∷ [] }) ≡ slice_indices x.slices
    one_index = append-nil (slice_indices x.slices)

    pub one_output : picture_output h depth x ≡ frame_output depth (record { header = h; pictures = x ∷ [] })
    one_output = λ i. record {
      y = one_plane (part_plane h depth Y) i;
      cb = one_plane (part_plane h depth Cb) i;
      cr = one_plane (part_plane h depth Cr) i;
      alpha = one_alpha h.alpha i;
      least = ap least (sym one_index) i;
      greatest = ap greatest (sym one_index) i;
    }

  module _ (x y : CodedPicture) where
    two_alpha : (kind : AlphaKind) → woven_alpha h.interlace (picture_alpha h kind x) (picture_alpha h kind y) ≡ shown_alpha (record { header = h; pictures = x ∷ y ∷ [] }) kind
    two_alpha Absent = refl
    two_alpha Eight = refl
    two_alpha Sixteen = refl

    two_least : min (least (slice_indices x.slices)) (least (slice_indices y.slices)) ≡ least (indices_of (record { header = h; pictures = x ∷ y ∷ [] }))
    two_least =
        let ys = slice_indices y.slices in
        let last : least (ys ++ []) ≡ least ys = ap least (append-nil ys) in
        omega (arith, least_behind (slice_indices x.slices) (ys ++ []), last)

    two_greatest : max (greatest (slice_indices x.slices)) (greatest (slice_indices y.slices)) ≡ greatest (indices_of (record { header = h; pictures = x ∷ y ∷ [] }))
    two_greatest =
        let ys = slice_indices y.slices in
        let last : greatest (ys ++ []) ≡ greatest ys = ap greatest (append-nil ys) in
        omega (arith, greatest_behind (slice_indices x.slices) (ys ++ []), last)

    pub two_outputs : woven_output h.interlace (picture_output h depth x) (picture_output h depth y) ≡ frame_output depth (record { header = h; pictures = x ∷ y ∷ [] })
    two_outputs = λ i. record {
      y = shown_plane (record { header = h; pictures = x ∷ y ∷ [] }) depth Y;
      cb = shown_plane (record { header = h; pictures = x ∷ y ∷ [] }) depth Cb;
      cr = shown_plane (record { header = h; pictures = x ∷ y ∷ [] }) depth Cr;
      alpha = two_alpha h.alpha i;
      least = two_least i;
      greatest = two_greatest i;
    }

  pub one_picture : (p : OutputPlanes) (x : CodedPicture) → h.interlace ≡ Progressive → IsPictureOf h depth p x → ArePicturesOf h depth p (x ∷ [])
  one_picture p x one ok = record {
    number = ap pictures_of (sym one);
    coded = All-cons (IsCodedPicture h) x [] ok.coded (All-nil (IsCodedPicture h));
    is = ok.is ∙ one_output x one;
  }

  two_fields : (mode : Interlace) → (mode ≡ Progressive → ⊥) → 2 ≡ pictures_of mode
  two_fields Progressive two = absurd (two refl)
  two_fields TopFirst two = refl
  two_fields BottomFirst two = refl

  pub two_pictures : (p q r : OutputPlanes) (x y : CodedPicture) → (h.interlace ≡ Progressive → ⊥) → IsPictureOf h depth p x → IsPictureOf h depth q y → r ≡ woven_output h.interlace p q → ArePicturesOf h depth r (x ∷ y ∷ [])
  two_pictures p q r x y two a b e = record {
    number = two_fields h.interlace two;
    coded = All-cons (IsCodedPicture h) x (y ∷ []) a.coded (All-cons (IsCodedPicture h) y [] b.coded (All-nil (IsCodedPicture h)));
    is = e ∙ (λ i. woven_output h.interlace (a.is i) (b.is i)) ∙ two_outputs x y;
  }

some_pictures : (mode : Interlace) → 0 < pictures_of mode
some_pictures Progressive = omega arith
some_pictures TopFirst = omega arith
some_pictures BottomFirst = omega arith

-- ---- what reading gives

module _ (F : ℕ) (h : FrameHeader) (s : Rest) where
  some_fail : (n : ℕ) (fault : FrameFault) → 0 < n → Fails told_fault fault (coded_picture_at F h s) → Fails told_fault fault (coded_pictures_at n F h s)
  unfolding coded_pictures_at bind
  some_fail zero fault some told = absurd (omega arith)
  some_fail (suc n) fault some told = fails-whole told_fault fault (coded_picture_at F h s) (coded_pictures_at (suc n) F h s) (λ f e. rw e refl) told

  pub first_fails : (mode : Interlace) (fault : FrameFault) → Fails told_fault fault (coded_picture_at F h s) → Fails told_fault fault (coded_pictures_at (pictures_of mode) F h s)
  first_fails mode fault told = some_fail (pictures_of mode) fault (some_pictures mode) told

  module _ (x : CodedPicture) (t : Rest) (first : coded_picture_at F h s ≡ Ok (x, t)) where
    one_read : coded_pictures_at (suc zero) F h s ≡ Ok (x ∷ [], t)
    unfolding coded_pictures_at bind
    one_read = rw first refl

    pub read_one : (mode : Interlace) → mode ≡ Progressive → coded_pictures_at (pictures_of mode) F h s ≡ Ok (x ∷ [], t)
    read_one mode e = ap (λ m. coded_pictures_at (pictures_of m) F h s) e ∙ one_read

    two_fail : (fault : FrameFault) → Fails told_fault fault (coded_picture_at F h t) → Fails told_fault fault (coded_pictures_at (suc (suc zero)) F h s)
    unfolding coded_pictures_at bind
    two_fail fault told = fails-whole told_fault fault (coded_picture_at F h t) (coded_pictures_at (suc (suc zero)) F h s) (λ f e. rw (first, e) refl) told

    pub second_fails : (mode : Interlace) → (mode ≡ Progressive → ⊥) → (fault : FrameFault) → Fails told_fault fault (coded_picture_at F h t) → Fails told_fault fault (coded_pictures_at (pictures_of mode) F h s)
    second_fails Progressive two fault told = absurd (two refl)
    second_fails TopFirst two fault told = two_fail fault told
    second_fails BottomFirst two fault told = two_fail fault told

    module _ (y : CodedPicture) (u : Rest) (second : coded_picture_at F h t ≡ Ok (y, u)) where
      two_read : coded_pictures_at (suc (suc zero)) F h s ≡ Ok (x ∷ y ∷ [], u)
      unfolding coded_pictures_at bind
      two_read = rw (first, second) refl

      pub read_two : (mode : Interlace) → (mode ≡ Progressive → ⊥) → coded_pictures_at (pictures_of mode) F h s ≡ Ok (x ∷ y ∷ [], u)
      read_two Progressive two = absurd (two refl)
      read_two TopFirst two = two_read
      read_two BottomFirst two = two_read

-- both fields are there: their planes as one are the frame's, unless memory runs out
pub woven_found : (h : FrameHeader) (depth : Depth) (F : ℕ) (result : Result OutputPlanes FrameFault) (p q : OutputPlanes) (x y : CodedPicture) (E : Type 0) (left new : Option (List ℕ)) (before after : ℕ)
    → (h.interlace ≡ Progressive → ⊥) → IsPictureOf h depth p x → IsPictureOf h depth q y
    → (E → IsSome left → IsSome new × (coded_pictures_at (pictures_of h.interlace) F h (rest_of before left) ≡ Ok (x ∷ y ∷ [], rest_of after new)))
    → IfOk result (λ r. r ≡ woven_output h.interlace p q) → IfErr result (λ e. e ≡ NoMemory)
    → Finds (ArePicturesOf h depth) E left new before after result (coded_pictures_at (pictures_of h.interlace) F h)
woven_found h depth F (Ok r) p q x y E left new before after two a b read value error = (x ∷ y ∷ [], two_pictures h depth p q r x y two a b value, read)
woven_found h depth F (Err e) p q x y E left new before after two a b read value error =
    λ _ _. subst (λ f. Fails told_fault f (coded_pictures_at (pictures_of h.interlace) F h (rest_of before left))) (sym error) tt

-- ---- a frame

pub frame_shown : (h : FrameHeader) (depth : Depth) (p : OutputPlanes) (xs : List CodedPicture) → HasLayoutSize h → ArePicturesOf h depth p xs → IsFrameOf depth (shown_with h depth p) (record { header = h; pictures = xs })
unfolding shown
frame_shown h depth p xs layout ok = record {
  coded = record { layout = layout; number = ok.number; pictures = ok.coded };
  is = ap (shown_with h depth) ok.is;
}

-- ---- what the call returns

module _ (depth : Depth) (size place : ℕ) (left new : Option (List ℕ)) (told : Told left (λ bytes. length bytes ≡ size)) where
  enough : Told left (λ bytes. size ≤ length bytes)
  enough h = omega (arith, told h)

  pub shown_stands : (result : Result Shown FrameFault) → Finds (IsFrameOf depth) (Told left (λ bytes. size ≤ length bytes)) left new 0 place result (frame_at size)
      → IfOk result (λ p. Told left (λ sample. IsShownBy depth sample p))
  shown_stands (Ok p) found = λ h. record {
    frame = found.0;
    stands = frame-found (bytes_of left) found.0 (sample-value size (bytes_of left) found.0 (rest_of place new) (told h) (found.2 enough h).1);
    is = found.1.is;
  }
  shown_stands (Err e) found = tt

  pub shown_fault : (result : Result Shown FrameFault) → Finds (IsFrameOf depth) (Told left (λ bytes. size ≤ length bytes)) left new 0 place result (frame_at size)
      → IfErr result (λ e. Told left (λ sample. IfSome (told_fault e) (λ fault. frame_fault sample ≡ Some fault)))
  shown_fault (Ok p) found = tt
  shown_fault (Err e) found = λ h. fault-told e (bytes_of left) (sample-fault size (bytes_of left) e (told h) (found enough h))

  pub shown_told : (result : Result Shown FrameFault) → Finds (IsFrameOf depth) (Told left (λ bytes. size ≤ length bytes)) left new 0 place result (frame_at size)
      → IsSome left → OnOk result (IsSome new)
  shown_told (Ok p) found = λ h. (found.2 enough h).0
  shown_told (Err e) found = λ h. tt

  pub form_of : (p : Shown) (f : CodedFrame) → IsFrameOf depth p f → HasHeaderForm p.header depth p.picture
  form_of p f ok = subst (λ (q : Shown). HasHeaderForm q.header depth q.picture) (sym ok.is) (shown_form f depth ok.coded)

  pub shown_has_form : (result : Result Shown FrameFault) → Finds (IsFrameOf depth) (Told left (λ bytes. size ≤ length bytes)) left new 0 place result (frame_at size)
      → IfOk result (λ p. HasHeaderForm p.header depth p.picture)
  shown_has_form (Ok p) found = form_of p found.0 found.1
  shown_has_form (Err e) found = tt
