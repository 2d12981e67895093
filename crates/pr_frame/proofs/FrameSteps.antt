-- The pictures of a frame, and the frame, read.
use Rattle.std.proofs.Common.{◌≡◌, ℕ, suc, ◌+◌, ◌-◌, ◌<◌, ◌≤◌, List, [], ◌∷◌, ◌++◌, length, Option, Ok, refl, sym, ap, ◌∙◌, subst, arith, length-drop}
use Rattle.std.proofs.lemmas.List.{append-nil}
use Rattle.pw_outside.specs.Reading.{Rest, Read, bind, Fails, bytes_of, rest_of}
use Rattle.pw_outside.proofs.Chains.{with_front, with_front-more, with_front_nil, fails-whole}
use Rattle.pr_geom.specs.Slices.{pictures_of}
use Rattle.pr_head.specs.declared.fault.FrameKind.{FrameKind}
use Rattle.pr_head.specs.declared.fault.FrameFault.{FrameFault}
use Rattle.pr_head.specs.declared.frame.FrameHeader.{FrameHeader}
use Rattle.pr_head.specs.Faults.{told_fault}
use Rattle.pr_head.specs.Header.{Opened, opened_of, header_at}
use Rattle.pr_head.proofs.Chain.{bind-ok}
use Rattle.pr_frame.specs.declared.coded.CodedPicture.{CodedPicture}
use Rattle.pr_frame.specs.declared.coded.CodedFrame.{CodedFrame}
use Rattle.pr_frame.specs.Reading.{ahead, coded_picture_at, coded_pictures_at, frame_at, frame_of}
use Rattle.pr_frame.proofs.Rests.{ok-both, header-rest}
use Rattle.pr_frame.proofs.SliceLoop.{ahead-length}

-- a picture that was read takes some bytes
pub picture-ahead : (F : ℕ) (h : FrameHeader) (s : Rest) (x : CodedPicture) (t : Rest) → coded_picture_at F h s ≡ Ok (x, t) → (n : ℕ) × (t ≡ ahead n s)
unfolding coded_picture_at
picture-ahead F h s x t e =
    let e1 = bind-ok _ _ e in
    let e2 = bind-ok _ _ e1.2 in
    let e3 = bind-ok _ _ e2.2 in
    (e1.0.0.size, (ok-both e3.2).1)

-- the frame's end is within the remaining bytes
pub end-kept : (F n : ℕ) (s t : Rest) → t ≡ ahead n s → F ≤ s.place + length s.bytes → F ≤ t.place + length t.bytes
end-kept F n s t e le = omega (arith, ap (λ (r : Rest). r.place) e, ahead-length n s t e)

pub pictures-first : (F : ℕ) (h : FrameHeader) (count : ℕ) (s : Rest) → with_front [] (coded_pictures_at (count - 0) F h s) ≡ coded_pictures_at count F h s
pictures-first F h count s = let e : count - 0 ≡ count = omega arith in with_front_nil (coded_pictures_at (count - 0) F h s) ∙ ap (λ n. coded_pictures_at n F h s) e

module _ (F : ℕ) (h : FrameHeader) (count i : ℕ) (s : Rest) (total : Read FrameKind (List CodedPicture)) where
  pub pictures-more : (front : List CodedPicture) (x : CodedPicture) (after : Rest) → i < count → coded_picture_at F h s ≡ Ok (x, after)
      → with_front front (coded_pictures_at (count - i) F h s) ≡ total → with_front (front ++ x ∷ []) (coded_pictures_at (count - (i + 1)) F h after) ≡ total
  unfolding coded_pictures_at bind
  pictures-more front x after lt e so_far =
      let k : count - i ≡ suc (count - (i + 1)) = omega arith in
      let one : with_front front (coded_pictures_at (count - i) F h s) ≡ with_front (front ++ x ∷ []) (coded_pictures_at (count - (i + 1)) F h after) = rw (k, e) (with_front-more front x (coded_pictures_at (count - (i + 1)) F h after)) in
      sym one ∙ so_far

  pub pictures-end : (fault : FrameFault) (front : List CodedPicture) → i < count → Fails told_fault fault (coded_picture_at F h s)
      → with_front front (coded_pictures_at (count - i) F h s) ≡ total → Fails told_fault fault total
  unfolding coded_pictures_at bind
  pictures-end fault front lt told so_far =
      let k : count - i ≡ suc (count - (i + 1)) = omega arith in
      fails-whole told_fault fault (coded_picture_at F h s) total (λ f e. sym so_far ∙ rw (k, e) refl) told

  pub pictures-all : (front : List CodedPicture) → count ≤ i → with_front front (coded_pictures_at (count - i) F h s) ≡ total → total ≡ Ok (front, s)
  unfolding coded_pictures_at bind
  pictures-all front le so_far =
      let k : count - i ≡ 0 = omega arith in
      let one : with_front front (coded_pictures_at (count - i) F h s) ≡ Ok (front, s) = rw k (ap (λ (xs : List CodedPicture). Ok (xs, s)) (append-nil front)) in
      sym so_far ∙ one

-- ---- the frame

pub frame-head-fails : (n : ℕ) (s : Rest) (fault : FrameFault) → Fails told_fault fault (header_at n s.bytes) → Fails told_fault fault (frame_at n s)
unfolding frame_at bind
frame-head-fails n s fault told = fails-whole told_fault fault (header_at n s.bytes) (frame_at n s) (λ f e. rw e refl) told

module _ (n : ℕ) (s : Rest) (o : Opened) (t : Rest) (head : header_at n s.bytes ≡ Ok (o, t)) where
  pub frame-pictures-fails : (fault : FrameFault) → Fails told_fault fault (coded_pictures_at (pictures_of o.header.interlace) o.size o.header t) → Fails told_fault fault (frame_at n s)
  unfolding frame_at bind
  frame-pictures-fails fault told = fails-whole told_fault fault (coded_pictures_at (pictures_of o.header.interlace) o.size o.header t) (frame_at n s) (λ f e. rw (head, e) refl) told

  pub frame-value : (xs : List CodedPicture) (u : Rest) → coded_pictures_at (pictures_of o.header.interlace) o.size o.header t ≡ Ok (xs, u)
      → frame_at n s ≡ Ok (record { header = o.header; pictures = xs }, u)
  unfolding frame_at bind
  frame-value xs u e = rw (head, e) refl

-- the whole sample
pub sample-value : (n : ℕ) (bytes : List ℕ) (f : CodedFrame) (u : Rest) → length bytes ≡ n → frame_at n (record { place = 0; bytes = bytes }) ≡ Ok (f, u) → frame_of bytes ≡ Ok f
unfolding frame_of bind
sample-value n bytes f u e read = rw (e, read) refl

pub sample-fault : (n : ℕ) (bytes : List ℕ) (fault : FrameFault) → length bytes ≡ n → Fails told_fault fault (frame_at n (record { place = 0; bytes = bytes })) → Fails told_fault fault (frame_of bytes)
unfolding frame_of bind
sample-fault n bytes fault e told = fails-whole told_fault fault (frame_at n (record { place = 0; bytes = bytes })) (frame_of bytes) (λ f read. rw (e, read) refl) told

-- ---- after the frame's header

pub head-at : (n : ℕ) (left new : Option (List ℕ)) (o : Opened) (after place : ℕ) → header_at n (bytes_of left) ≡ Ok (o, rest_of after new) → place ≡ o.taken
    → header_at n (bytes_of left) ≡ Ok (o, rest_of place new)
head-at n left new o after place e p =
    let r = header-rest n (bytes_of left) o (rest_of after new) e in
    let at : after ≡ place = ap (λ (t : Rest). t.place) r.1 ∙ ap (λ (q : Opened). q.taken) (sym r.0) ∙ sym p in
    subst (λ k. header_at n (bytes_of left) ≡ Ok (o, rest_of k new)) at e

pub head-room : (n : ℕ) (left new : Option (List ℕ)) (o : Opened) (place : ℕ) → header_at n (bytes_of left) ≡ Ok (o, rest_of place new) → o.size ≤ n → n ≤ length (bytes_of left) → o.size ≤ place + length (bytes_of new)
head-room n left new o place e within enough =
    let r = header-rest n (bytes_of left) o (rest_of place new) e in
    omega (arith, ap (λ (t : Rest). length t.bytes) r.1, length-drop (opened_of (bytes_of left)).taken (bytes_of left), ap (λ (t : Rest). t.place) r.1)
