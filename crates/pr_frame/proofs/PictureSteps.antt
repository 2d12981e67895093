-- One picture, read.
use Rattle.std.proofs.Common.{◌≡◌, ℕ, ◌+◌, ◌-◌, ◌*◌, ◌≤◌, List, [], ◌∷◌, length, drop, sum, Option, Ok, refl, sym, ap, ◌∙◌, arith}
use Rattle.std.proofs.lemmas.List.{drop-drop}
use Rattle.pw_outside.specs.Reading.{Rest, bind, Fails, bytes_of, rest_of}
use Rattle.pw_outside.proofs.Chains.{fails-whole}
use Rattle.pr_geom.specs.declared.places.SlicePlace.{SlicePlace}
use Rattle.pr_geom.specs.declared.layout.Layout.{Layout}
use Rattle.pr_geom.specs.Faults.{slice_count}
use Rattle.pr_geom.specs.Layout.{IsLayoutOf, slices_of}
use Rattle.pr_head.specs.declared.fault.FrameFault.{FrameFault}
use Rattle.pr_head.specs.declared.frame.FrameHeader.{FrameHeader}
use Rattle.pr_head.specs.declared.picture.PictureHeader.{PictureHeader}
use Rattle.pr_head.specs.Faults.{told_fault}
use Rattle.pr_head.specs.Picture.{slices_in, picture_size, picture_at, table_at}
use Rattle.pr_head.proofs.Chain.{bind-ok}
use Rattle.pr_head.proofs.Passing.{ahead-ahead, ahead-none, same_rest}
use Rattle.pr_frame.specs.declared.coded.CodedSlice.{CodedSlice}
use Rattle.pr_frame.specs.Forms.{places_in}
use Rattle.pr_frame.specs.Reading.{ahead, coded_slices_at, coded_picture_at}
use Rattle.pr_frame.proofs.Rests.{ok-both, picture-rest, table-rest, coded-rest}
use Rattle.pr_frame.proofs.SliceLoop.{sum-front, ahead-length}

-- the slices' bytes are gone
pub slices-rest : (h : FrameHeader) (places : List SlicePlace) (sizes : List ℕ) (s : Rest) (xs : List CodedSlice) (t : Rest) → length sizes ≡ length places
    → coded_slices_at h places sizes s ≡ Ok (xs, t) → t ≡ ahead (sum sizes) s
unfolding coded_slices_at
slices-rest h [] [] s xs t same e = (ok-both e).1 ∙ sym (ahead-none s)
slices-rest h [] (z ∷ sizes) s xs t same e = absurd (omega arith)
slices-rest h (p ∷ places) [] s xs t same e = absurd (omega arith)
slices-rest h (p ∷ places) (z ∷ sizes) s xs t same e =
    let e1 = bind-ok _ _ e in
    let first = coded-rest h p z s _ _ e1.1 in
    let e2 = bind-ok _ _ e1.2 in
    let others = slices-rest h places sizes _ _ _ (omega arith) e2.1 in
    (ok-both e2.2).1 ∙ others ∙ ap (ahead (sum sizes)) first ∙ ahead-ahead (sum sizes) z s ∙ ap (λ n. ahead n s) (sym (sum-front z sizes))

-- the slices of a layout are those that the header says
pub layout-places : (l : Layout) (h : FrameHeader) (log2 : ℕ) → IsLayoutOf l h.width h.height log2 h.interlace h.chroma → slices_of l ≡ places_in h log2
layout-places l h log2 is = rw (is.width, is.height, is.log2, is.interlace) refl

pub layout-count : (l : Layout) (h : FrameHeader) (r : PictureHeader) → IsLayoutOf l h.width h.height r.log2 h.interlace h.chroma → length (slices_of l) ≡ slices_in h r
unfolding slice_count
layout-count l h r is = ap length (layout-places l h r.log2 is)

pub picture-fails : (F : ℕ) (h : FrameHeader) (s : Rest) (fault : FrameFault) → Fails told_fault fault (picture_at F h s) → Fails told_fault fault (coded_picture_at F h s)
unfolding coded_picture_at bind
picture-fails F h s fault told = fails-whole told_fault fault (picture_at F h s) (coded_picture_at F h s) (λ f e. rw e refl) told

module _ (F : ℕ) (h : FrameHeader) (s : Rest) (r : PictureHeader) (t1 : Rest) (head : picture_at F h s ≡ Ok (r, t1)) where
  pub table-fails : (fault : FrameFault) → Fails told_fault fault (table_at r (slices_in h r) t1) → Fails told_fault fault (coded_picture_at F h s)
  unfolding coded_picture_at bind
  table-fails fault told = fails-whole told_fault fault (table_at r (slices_in h r) t1) (coded_picture_at F h s) (λ f e. rw (head, e) refl) told

  module _ (sizes : List ℕ) (t2 : Rest) (table : table_at r (slices_in h r) t1 ≡ Ok (sizes, t2)) where
    pub slices-fails : (fault : FrameFault) → Fails told_fault fault (coded_slices_at h (places_in h r.log2) sizes t2) → Fails told_fault fault (coded_picture_at F h s)
    unfolding coded_picture_at bind
    slices-fails fault told = fails-whole told_fault fault (coded_slices_at h (places_in h r.log2) sizes t2) (coded_picture_at F h s) (λ f e. rw (head, table, e) refl) told

    pub picture-value : (xs : List CodedSlice) (t3 : Rest) → coded_slices_at h (places_in h r.log2) sizes t2 ≡ Ok (xs, t3) → coded_picture_at F h s ≡ Ok (record { log2 = r.log2; slices = xs }, ahead r.size s)
    unfolding coded_picture_at bind
    picture-value xs t3 slices = rw (head, table, slices) refl

    pub behind-table : t2 ≡ ahead (r.header + 2 * slices_in h r) s
    behind-table = (table-rest r (slices_in h r) t1 sizes t2 table).1 ∙ ap (ahead (2 * slices_in h r)) (picture-rest F h s r t1 head).1 ∙ ahead-ahead (2 * slices_in h r) r.header s

-- after the slices, up to the picture's end
pub picture-end : (s t : Rest) (k size place : ℕ) (left new : Option (List ℕ)) → t ≡ ahead k s → t ≡ rest_of place left → k ≤ size → bytes_of new ≡ drop (s.place + size - place) (bytes_of left) → rest_of (s.place + size) new ≡ ahead size s
picture-end s t k size place left new e f le g =
    let p : place ≡ s.place + k = sym (ap (λ (r : Rest). r.place) f) ∙ ap (λ (r : Rest). r.place) e in
    let b : bytes_of left ≡ drop k s.bytes = sym (ap (λ (r : Rest). r.bytes) f) ∙ ap (λ (r : Rest). r.bytes) e in
    let n : s.place + size - place ≡ size - k = omega arith in
    let m : k + (size - k) ≡ size = omega arith in
    same_rest _ _ refl (g ∙ ap (λ j. drop j (bytes_of left)) n ∙ ap (drop (size - k)) b ∙ drop-drop (size - k) k s.bytes ∙ ap (λ j. drop j s.bytes) m)

pub enough-table : (F : ℕ) (s t1 : Rest) (r : PictureHeader) → F ≤ s.place + length s.bytes → s.place + r.size ≤ F → t1 ≡ ahead r.header s → r.size ≤ r.header + length t1.bytes
enough-table F s t1 r enough within e = omega (arith, ahead-length r.header s t1 e)

pub enough-slices : (r : PictureHeader) (t1 t2 : Rest) (sizes : List ℕ) (n : ℕ) → r.size ≤ r.header + length t1.bytes → t2 ≡ ahead (2 * n) t1 → length sizes ≡ n → picture_size r sizes ≤ r.size → sum sizes ≤ length t2.bytes
enough-slices r t1 t2 sizes n enough e count within = omega (arith, ahead-length (2 * n) t1 t2 e)
