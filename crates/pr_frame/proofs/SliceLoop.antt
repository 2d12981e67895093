-- Reading slices one after the other, as a loop does.
use Rattle.std.proofs.Common.{◌≡◌, ℕ, ◌+◌, ◌-◌, ◌<◌, ◌≤◌, List, [], ◌∷◌, ◌++◌, length, take, drop, get_or, sum, Ok, Err, refl, sym, ap, ◌∙◌, arith, subst, length-drop}
use Rattle.std.proofs.lemmas.List.{append-nil, drop_more, take_more, drop_all}
use Rattle.std.proofs.lemmas.List.Sums.{sum_by-cons}
use Rattle.pw_outside.specs.Reading.{Rest, Read, bind, Fails}
use Rattle.pw_outside.proofs.Chains.{with_front, with_front-more, fails-whole}
use Rattle.pr_geom.specs.declared.places.SlicePlace.{SlicePlace}
use Rattle.pr_geom.specs.Slices.{no_slice}
use Rattle.pr_head.specs.declared.fault.FrameKind.{FrameKind}
use Rattle.pr_head.specs.declared.fault.FrameFault.{FrameFault}
use Rattle.pr_head.specs.declared.frame.FrameHeader.{FrameHeader}
use Rattle.pr_head.specs.Faults.{told_fault}
use Rattle.pr_frame.specs.declared.coded.CodedSlice.{CodedSlice}
use Rattle.pr_frame.specs.Coded.{IsCodedSlice, AreCodedSlices}
use Rattle.pr_frame.specs.Reading.{ahead, coded_slice_at, coded_slices_at}

pub sum-front : (x : ℕ) (xs : List ℕ) → sum (x ∷ xs) ≡ x + sum xs
sum-front x xs = sum_by-cons (λ n. n) x xs

pub sum-drop : (xs : List ℕ) (i : ℕ) → i < length xs → sum (drop i xs) ≡ get_or xs i 0 + sum (drop (i + 1) xs)
sum-drop xs i lt = ap sum (drop_more xs i 0 lt) ∙ sum-front (get_or xs i 0) (drop (i + 1) xs)

module _ (h : FrameHeader) (places : List SlicePlace) (sizes : List ℕ) (i : ℕ) (place : SlicePlace) (size : ℕ) (s : Rest) (total : Read FrameKind (List CodedSlice))
    (in_places : i < length places) (in_sizes : i < length sizes) (place_is : place ≡ get_or places i no_slice) (size_is : size ≡ get_or sizes i 0) where
  pub step : coded_slices_at h (drop i places) (drop i sizes) s ≡ bind (coded_slice_at h place size s) (λ first. bind (coded_slices_at h (drop (i + 1) places) (drop (i + 1) sizes) first.1) (λ others. Ok (first.0 ∷ others.0, others.1)))
  unfolding coded_slices_at
  step = rw (drop_more places i no_slice in_places, drop_more sizes i 0 in_sizes, place_is, size_is) refl

  pub slices-more : (front : List CodedSlice) (x : CodedSlice) (after : Rest) → coded_slice_at h place size s ≡ Ok (x, after)
      → with_front front (coded_slices_at h (drop i places) (drop i sizes) s) ≡ total → with_front (front ++ x ∷ []) (coded_slices_at h (drop (i + 1) places) (drop (i + 1) sizes) after) ≡ total
  unfolding bind
  slices-more front x after e so_far =
      let one : coded_slices_at h (drop i places) (drop i sizes) s ≡ bind (coded_slices_at h (drop (i + 1) places) (drop (i + 1) sizes) after) (λ others. Ok (x ∷ others.0, others.1)) = step ∙ rw e refl in
      sym (with_front-more front x (coded_slices_at h (drop (i + 1) places) (drop (i + 1) sizes) after)) ∙ ap (with_front front) (sym one) ∙ so_far

  pub slices-end : (fault : FrameFault) (front : List CodedSlice) → Fails told_fault fault (coded_slice_at h place size s)
      → with_front front (coded_slices_at h (drop i places) (drop i sizes) s) ≡ total → Fails told_fault fault total
  unfolding bind
  slices-end fault front told so_far =
      fails-whole told_fault fault (coded_slice_at h place size s) total (λ f e.
      let one : coded_slices_at h (drop i places) (drop i sizes) s ≡ Err f = step ∙ rw e refl in
      sym so_far ∙ rw one refl) told

pub slices-all : (h : FrameHeader) (places : List SlicePlace) (sizes : List ℕ) (i : ℕ) (s : Rest) (total : Read FrameKind (List CodedSlice)) (front : List CodedSlice) → length places ≤ i
    → with_front front (coded_slices_at h (drop i places) (drop i sizes) s) ≡ total → total ≡ Ok (front, s)
unfolding coded_slices_at bind
slices-all h places sizes i s total front le so_far =
    let none : drop i places ≡ [] = drop_all i places le in
    sym so_far ∙ rw none (ap (λ (xs : List CodedSlice). Ok (xs, s)) (append-nil front))

are-more : (h : FrameHeader) (places : List SlicePlace) (front : List CodedSlice) (place : SlicePlace) (x : CodedSlice) → AreCodedSlices h places front → IsCodedSlice h place x → AreCodedSlices h (places ++ place ∷ []) (front ++ x ∷ [])
are-more h [] [] place x a b = (b, tt)
are-more h [] (y ∷ front) place x a b = absurd a
are-more h (p ∷ places) [] place x a b = absurd a
are-more h (p ∷ places) (y ∷ front) place x a b = (a.0, are-more h places front place x a.1 b)

pub coded-more : (h : FrameHeader) (places : List SlicePlace) (front : List CodedSlice) (i : ℕ) (place : SlicePlace) (x : CodedSlice) → i < length places → place ≡ get_or places i no_slice
    → AreCodedSlices h (take i places) front → IsCodedSlice h place x → AreCodedSlices h (take (i + 1) places) (front ++ x ∷ [])
coded-more h places front i place x lt e a b =
    subst (λ ps. AreCodedSlices h ps (front ++ x ∷ [])) (sym (take_more places i no_slice lt ∙ ap (λ (p : SlicePlace). take i places ++ p ∷ []) (sym e))) (are-more h (take i places) front place x a b)

-- fewer bytes are left after n
pub ahead-length : (n : ℕ) (s t : Rest) → t ≡ ahead n s → length t.bytes + n ≡ length s.bytes + (n - length s.bytes)
ahead-length n s t e = omega (arith, ap (λ (r : Rest). length r.bytes) e, length-drop n s.bytes)
