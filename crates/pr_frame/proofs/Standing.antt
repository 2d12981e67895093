-- What is read stands for the bytes, and what stands for the bytes is read.
use Rattle.std.proofs.Common.{◌≡◌, ℕ, ◌+◌, ◌<◌, ◌≤◌, Bool, true, false, ◌||◌, ◌==◌, nat_lt, if◌then◌else◌, List, take, drop, Result, Ok, Err, refl, sym, ap, ◌∙◌, subst, arith}
use Rattle.std.proofs.lemmas.Bool.{le-ltb, ne_eqb, or_from}
use Rattle.pw_outside.specs.Reading.{Rest}
use Rattle.pw_bits.specs.Bits.{bits}
use Rattle.pw_planes.specs.declared.kinds.AlphaKind.{AlphaKind}
use Rattle.pw_planes.specs.declared.kinds.AlphaKind.TheVariants.{Absent, Eight, Sixteen}
use Rattle.pr_geom.specs.declared.places.SlicePlace.{SlicePlace}
use Rattle.pr_geom.specs.declared.places.Part.TheVariants.{Y, Cb, Cr}
use Rattle.pr_alpha.specs.Reading as reading
use Rattle.pr_alpha.proofs.StepLemmas.{alpha_again, alpha_found}
use Rattle.pr_coeff.specs.Component.{Block, IsScan}
use Rattle.pr_coeff.specs.Reading as coefficients
use Rattle.pr_coeff.proofs.WholeLemmas.{component_again, component_found, progressive_is_scan, interlaced_is_scan}
use Rattle.pr_head.specs.declared.frame.FrameHeader.{FrameHeader}
use Rattle.pr_head.specs.declared.slice.SliceHeader.{SliceHeader}
use Rattle.pr_head.specs.Slice.{least_slice_header, slice_size, stated_of, with_last, slice_fault, slice_at}
use Rattle.pr_head.proofs.Chain.{bind-ok, bind-step, refuse-step}
use Rattle.pr_head.proofs.Passing.{ahead-ahead, ahead-none}
use Rattle.pr_frame.specs.declared.coded.CodedSlice.{CodedSlice}
use Rattle.pr_frame.specs.Forms.{scan_of, has_alpha, block_count, alpha_count}
use Rattle.pr_frame.specs.Stands.{ComponentStands, ValuesStand, AlphaStands, slice_header_in, HasSlice, SliceStands}
use Rattle.pr_frame.specs.Reading.{ahead, located, located_alpha, blocks_at, values_at, alpha_at, components_at, coded_slice_at}
use Rattle.pr_frame.proofs.Rests.{ok-both, blocks-rest, head-found, head-of-coded, coded-is, stated-none}
use Rattle.pr_frame.proofs.Steps.{blocks-value, values-value}
use Rattle.pr_frame.proofs.Counts.{HasBlocksOf}
use Rattle.pw_planes.specs.declared.kinds.Interlace.{Interlace}
use Rattle.pw_planes.specs.declared.kinds.Interlace.TheVariants.{Progressive, TopFirst, BottomFirst}

pub scan-is : (mode : Interlace) → IsScan (scan_of mode)
scan-is Progressive = progressive_is_scan
scan-is TopFirst = interlaced_is_scan
scan-is BottomFirst = interlaced_is_scan

-- ---- a component

located-ok : {A : Type 0} (place : ℕ) (r : Result A coefficients.Fault) {x : A} → located place r ≡ Ok x → r ≡ Ok x
located-ok place (Ok y) e = cc
located-ok place (Err f) e = absurd cc

located-alpha : {A : Type 0} (place : ℕ) (r : Result A reading.Fault) {x : A} → located_alpha place r ≡ Ok x → r ≡ Ok x
located-alpha place (Ok y) e = cc
located-alpha place (Err f) e = absurd cc

pub blocks-found : (scan : List ℕ) (count size : ℕ) (s t : Rest) (blocks : List Block) → IsScan scan → 0 < count → blocks_at scan count size s ≡ Ok (blocks, t)
    → ComponentStands scan count (take size s.bytes) blocks
unfolding blocks_at
blocks-found scan count size s t blocks is some e =
    let e1 = bind-ok _ _ e in
    let same : e1.0 ≡ blocks = sym (ok-both e1.2).0 in
    let read : coefficients.component_at count scan (bits (take size s.bytes)) ≡ Ok blocks = located-ok s.place _ e1.1 ∙ ap (λ (x : List Block). Ok x) same in
    let found = component_found scan (bits (take size s.bytes)) blocks count is some read in
    record { number = found.0; stands = found.1 }

pub blocks-again : (scan : List ℕ) (count size : ℕ) (s : Rest) (blocks : List Block) → IsScan scan → count ≤ 32 → ComponentStands scan count (take size s.bytes) blocks
    → blocks_at scan count size s ≡ Ok (blocks, ahead size s)
blocks-again scan count size s blocks is few c =
    blocks-value scan count size s blocks (subst (λ n. coefficients.component_at n scan (bits (take size s.bytes)) ≡ Ok blocks) c.number (component_again scan (bits (take size s.bytes)) blocks is (omega (arith, c.number)) c.stands))

-- ---- alpha values

values-found : (n count size : ℕ) (s t : Rest) (l : List ℕ) → values_at n count size s ≡ Ok (l, t) → ValuesStand n count (take size s.bytes) l
unfolding values_at
values-found n count size s t l e =
    let e1 = bind-ok _ _ e in
    let same : e1.0 ≡ l = sym (ok-both e1.2).0 in
    let read : reading.alpha_at count n (bits (take size s.bytes)) ≡ Ok l = located-alpha s.place _ e1.1 ∙ ap (λ (x : List ℕ). Ok x) same in
    let found = alpha_found n count (bits (take size s.bytes)) l read in
    record { number = found.0; stands = found.1 }

pub values-again : (n count size : ℕ) (s : Rest) (l : List ℕ) → ValuesStand n count (take size s.bytes) l → values_at n count size s ≡ Ok (l, ahead size s)
values-again n count size s l v =
    values-value n count size s l (subst (λ k. reading.alpha_at k n (bits (take size s.bytes)) ≡ Ok l) v.number (alpha_again n (bits (take size s.bytes)) l v.stands))

alpha-found : (kind : AlphaKind) (count size : ℕ) (s t : Rest) (l : List ℕ) → alpha_at kind count size s ≡ Ok (l, t) → AlphaStands kind count (take size s.bytes) l
alpha-found Absent count size s t l e = (ok-both e).0
alpha-found Eight count size s t l e = values-found 8 count size s t l e
alpha-found Sixteen count size s t l e = values-found 16 count size s t l e

pub alpha-again : (kind : AlphaKind) (count size : ℕ) (s : Rest) (l : List ℕ) → (if has_alpha kind then 0 else size) ≡ 0 → AlphaStands kind count (take size s.bytes) l → alpha_at kind count size s ≡ Ok (l, ahead size s)
alpha-again Absent count size s l none stand = let end : s ≡ ahead size s = sym (ap (λ n. ahead n s) none ∙ ahead-none s) in λ j. Ok (sym stand j, end j)
alpha-again Eight count size s l none stand = values-again 8 count size s l stand
alpha-again Sixteen count size s l none stand = values-again 16 count size s l stand

-- ---- a slice

stated-size : (alpha : Bool) (size : ℕ) (q : SliceHeader) → (if alpha then 0 else q.cr) ≡ 0 → q.alpha ≡ 0 → slice_size (with_last size alpha q) ≡ size → slice_size q ≤ size
stated-size true size q no_cr no_alpha e = omega arith
stated-size false size q no_cr no_alpha e = omega arith

-- the last component changes neither the header's size nor the index
last-same : (alpha : Bool) (size : ℕ) (q : SliceHeader) → ((with_last size alpha q).header ≡ q.header) × ((with_last size alpha q).index ≡ q.index)
last-same true size q = (refl, refl)
last-same false size q = (refl, refl)

last-none : (alpha : Bool) (size : ℕ) (q : SliceHeader) → q.alpha ≡ 0 → (if alpha then 0 else (with_last size alpha q).alpha) ≡ 0
last-none true size q e = refl
last-none false size q e = e

-- what the header of a slice has, from its bytes
stated-found : (alpha : Bool) (size : ℕ) (s : Rest) → least_slice_header alpha ≤ (slice_header_in alpha size s.bytes).header → slice_size (slice_header_in alpha size s.bytes) ≡ size → 1 ≤ (slice_header_in alpha size s.bytes).index → (slice_header_in alpha size s.bytes).index ≤ 224
    → slice_at size alpha s ≡ Ok (slice_header_in alpha size s.bytes, ahead (slice_header_in alpha size s.bytes).header s)
unfolding slice_at slice_fault
stated-found alpha size s least whole from to =
    let q = stated_of alpha s.bytes in
    let same = last-same alpha size q in
    let none = stated-none alpha s.bytes in
    let within : slice_size q ≤ size = stated-size alpha size q none.0 none.1 whole in
    let low : least_slice_header alpha ≤ q.header = subst (λ n. least_slice_header alpha ≤ n) same.0 least in
    let some : 1 ≤ q.index = subst (λ n. 1 ≤ n) same.1 from in
    refuse-step _ _ _ _ (le-ltb size (least_slice_header alpha) (omega (arith, low, within)))
    ∙ bind-step _ _ (refuse-step _ _ _ _ (le-ltb q.header (least_slice_header alpha) low)
    ∙ refuse-step _ _ _ _ (le-ltb size q.header (omega (arith, within)))
    ∙ refuse-step _ _ _ _ (or_from (q.index == 0) (nat_lt 224 q.index) (ne_eqb q.index 0 (λ e. omega (arith, some, e))) (le-ltb 224 q.index (subst (λ n. n ≤ 224) same.1 to)))
    ∙ refuse-step _ _ _ _ (le-ltb size (slice_size q) within))
    ∙ ap (λ n. Ok (with_last size alpha q, ahead n s)) (sym same.0)

pub slice-found : (h : FrameHeader) (place : SlicePlace) (size : ℕ) (s t : Rest) (x : CodedSlice) → HasBlocksOf h place → coded_slice_at h place size s ≡ Ok (x, t) → SliceStands h place size s.bytes x
unfolding components_at
slice-found h place size s t x blocks e =
    let alpha = has_alpha h.alpha in
    let e1 = head-of-coded h place size s x t e in
    let r = e1.0 in
    let t0 = e1.1 in
    let head = head-found alpha size s t0 r e1.2 in
    let parts : components_at h place (r, t0) ≡ Ok (x, t) = e1.3 in
    let e2 = bind-ok _ _ parts in
    let e3 = bind-ok _ _ e2.2 in
    let e4 = bind-ok _ _ e3.2 in
    let e5 = bind-ok _ _ e4.2 in
    let x-is = (ok-both e5.2).0 in
    let is = scan-is h.interlace in
    let scan = scan_of h.interlace in
    let t0-is = head.rest in
    let t1-is = blocks-rest _ _ _ _ _ _ e2.1 ∙ ap (ahead r.y) t0-is ∙ ahead-ahead r.y r.header s in
    let t2-is = blocks-rest _ _ _ _ _ _ e3.1 ∙ ap (ahead r.cb) t1-is ∙ ahead-ahead r.cb (r.header + r.y) s in
    let t3-is = blocks-rest _ _ _ _ _ _ e4.1 ∙ ap (ahead r.cr) t2-is ∙ ahead-ahead r.cr (r.header + r.y + r.cb) s in
    let y : ComponentStands scan (block_count h place Y) (take r.y (drop r.header s.bytes)) e2.0.0 =
    subst (λ (v : Rest). ComponentStands scan (block_count h place Y) (take r.y v.bytes) e2.0.0) t0-is (blocks-found scan _ _ _ _ _ is (blocks.some Y) e2.1) in
    let cb : ComponentStands scan (block_count h place Cb) (take r.cb (drop (r.header + r.y) s.bytes)) e3.0.0 =
    subst (λ (v : Rest). ComponentStands scan (block_count h place Cb) (take r.cb v.bytes) e3.0.0) t1-is (blocks-found scan _ _ _ _ _ is (blocks.some Cb) e3.1) in
    let cr : ComponentStands scan (block_count h place Cr) (take r.cr (drop (r.header + r.y + r.cb) s.bytes)) e4.0.0 =
    subst (λ (v : Rest). ComponentStands scan (block_count h place Cr) (take r.cr v.bytes) e4.0.0) t2-is (blocks-found scan _ _ _ _ _ is (blocks.some Cr) e4.1) in
    let values : AlphaStands h.alpha (alpha_count h.alpha place) (take r.alpha (drop (r.header + r.y + r.cb + r.cr) s.bytes)) e5.0.0 =
    subst (λ (v : Rest). AlphaStands h.alpha (alpha_count h.alpha place) (take r.alpha v.bytes) e5.0.0) t3-is (alpha-found h.alpha _ _ _ _ _ e5.1) in
    let all : HasSlice alpha h place size r s.bytes (record { index = r.index; y = e2.0.0; cb = e3.0.0; cr = e4.0.0; alpha = e5.0.0 }) = record {
      least = head.least;
      whole = head.whole;
      index_from = head.index_from;
      index_to = head.index_to;
      index = refl;
      y = y;
      cb = cb;
      cr = cr;
      alpha_values = values;
    } in
    subst (λ (q : SliceHeader). HasSlice alpha h place size q s.bytes x) head.is (subst (λ (v : CodedSlice). HasSlice alpha h place size r s.bytes v) (sym x-is) all)

pub slice-again : (h : FrameHeader) (place : SlicePlace) (size : ℕ) (s : Rest) (x : CodedSlice) → HasBlocksOf h place → SliceStands h place size s.bytes x → coded_slice_at h place size s ≡ Ok (x, ahead size s)
unfolding components_at
slice-again h place size s x blocks w =
    let alpha = has_alpha h.alpha in
    let r = slice_header_in alpha size s.bytes in
    let is = scan-is h.interlace in
    let scan = scan_of h.interlace in
    let t0 = ahead r.header s in
    let head = stated-found alpha size s w.least w.whole w.index_from w.index_to in
    let none = last-none alpha size (stated_of alpha s.bytes) (stated-none alpha s.bytes).1 in
    let a1 : ahead r.y t0 ≡ ahead (r.header + r.y) s = ahead-ahead r.y r.header s in
    let a2 : ahead r.cb (ahead r.y t0) ≡ ahead (r.header + r.y + r.cb) s = ap (ahead r.cb) a1 ∙ ahead-ahead r.cb (r.header + r.y) s in
    let a3 : ahead r.cr (ahead r.cb (ahead r.y t0)) ≡ ahead (r.header + r.y + r.cb + r.cr) s = ap (ahead r.cr) a2 ∙ ahead-ahead r.cr (r.header + r.y + r.cb) s in
    let y = blocks-again scan (block_count h place Y) r.y t0 x.y is (blocks.few Y) w.y in
    let cb = blocks-again scan (block_count h place Cb) r.cb (ahead r.y t0) x.cb is (blocks.few Cb) (subst (λ (v : Rest). ComponentStands scan (block_count h place Cb) (take r.cb v.bytes) x.cb) (sym a1) w.cb) in
    let cr = blocks-again scan (block_count h place Cr) r.cr (ahead r.cb (ahead r.y t0)) x.cr is (blocks.few Cr) (subst (λ (v : Rest). ComponentStands scan (block_count h place Cr) (take r.cr v.bytes) x.cr) (sym a2) w.cr) in
    let values = alpha-again h.alpha (alpha_count h.alpha place) r.alpha (ahead r.cr (ahead r.cb (ahead r.y t0))) x.alpha none (subst (λ (v : Rest). AlphaStands h.alpha (alpha_count h.alpha place) (take r.alpha v.bytes) x.alpha) (sym a3) w.alpha_values) in
    let x-is : record { index = r.index; y = x.y; cb = x.cb; cr = x.cr; alpha = x.alpha } ≡ x = λ j. record { index = w.index j; y = x.y; cb = x.cb; cr = x.cr; alpha = x.alpha } in
    let end : ahead r.alpha (ahead r.cr (ahead r.cb (ahead r.y t0))) ≡ ahead size s = ap (ahead r.alpha) a3 ∙ ahead-ahead r.alpha (r.header + r.y + r.cb + r.cr) s ∙ ap (λ n. ahead n s) w.whole in
    coded-is h place size s r t0 head
    ∙ bind-step _ _ y ∙ bind-step _ _ cb ∙ bind-step _ _ cr ∙ bind-step _ _ values
    ∙ (λ j. Ok (x-is j, end j))
