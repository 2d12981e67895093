-- Reading sizes one after the other, as a loop does.
use Rattle.std.proofs.Common.{◌≡◌, ℕ, suc, ◌-◌, ◌+◌, ◌≤◌, ◌<◌, List, [], ◌∷◌, ◌++◌, Ok, refl, sym, ap, ◌∙◌, arith}
use Rattle.std.proofs.lemmas.List.{append-nil}
use Rattle.pw_outside.specs.Reading.{Rest, Read, bind, Fails}
use Rattle.pw_outside.proofs.Chains.{with_front, with_front-more, fails-whole}
use Rattle.pr_head.specs.declared.fault.FrameKind.{FrameKind}
use Rattle.pr_head.specs.declared.fault.FrameFault.{FrameFault}
use Rattle.pr_head.specs.Faults.{told_fault}
use Rattle.pr_head.specs.inner.Steps.{size_in, sizes_in}

pub sizes-more : (front : List ℕ) (at count i : ℕ) (s after : Rest) (size : ℕ) (total : Read FrameKind (List ℕ)) → i < count → size_in at s ≡ Ok (size, after)
    → with_front front (sizes_in at (count - i) s) ≡ total → with_front (front ++ size ∷ []) (sizes_in at (count - (i + 1)) after) ≡ total
unfolding sizes_in bind
sizes-more front at count i s after size total lt h so_far =
    let k : count - i ≡ suc (count - (i + 1)) = omega arith in
    let one : with_front front (sizes_in at (count - i) s) ≡ with_front (front ++ size ∷ []) (sizes_in at (count - (i + 1)) after) = rw (k, h) (with_front-more front size (sizes_in at (count - (i + 1)) after)) in
    sym one ∙ so_far

pub sizes-end : (fault : FrameFault) (front : List ℕ) (at count i : ℕ) (s : Rest) (total : Read FrameKind (List ℕ)) → i < count
    → Fails told_fault fault (size_in at s) → with_front front (sizes_in at (count - i) s) ≡ total → Fails told_fault fault total
unfolding sizes_in bind
sizes-end fault front at count i s total lt h so_far =
    let k : count - i ≡ suc (count - (i + 1)) = omega arith in
    fails-whole told_fault fault (size_in at s) total (λ f e. sym so_far ∙ rw (k, e) refl) h

pub sizes-all : (front : List ℕ) (at count i : ℕ) (s : Rest) (total : Read FrameKind (List ℕ)) → count ≤ i → with_front front (sizes_in at (count - i) s) ≡ total → total ≡ Ok (front, s)
unfolding sizes_in bind
sizes-all front at count i s total le so_far =
    let k : count - i ≡ 0 = omega arith in
    let one : with_front front (sizes_in at (count - i) s) ≡ Ok (front, s) = rw k (ap (λ (ns : List ℕ). Ok (ns, s)) (append-nil front)) in
    sym so_far ∙ one
