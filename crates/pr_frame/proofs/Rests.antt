-- What reading leaves: the bytes after what was read.
use Rattle.std.proofs.Common.{◌≡◌, ℕ, ◌+◌, ◌*◌, ◌≤◌, Bool, true, false, ◌||◌, if◌then◌else◌, List, drop, Ok, refl, sym, ap, ◌∙◌, subst, arith}
use Rattle.std.proofs.lemmas.Bool.{ltb-false, eqb-false, or_parts}
use Rattle.pw_planes.specs.declared.kinds.AlphaKind.{AlphaKind}
use Rattle.pw_planes.specs.declared.kinds.AlphaKind.TheVariants.{Absent, Eight, Sixteen}
use Rattle.pr_frame.specs.Forms.{has_alpha}
use Rattle.pw_outside.specs.Reading.{Rest, Read, bind, Fails}
use Rattle.pw_outside.proofs.Chains.{fails-whole}
use Rattle.pr_head.specs.declared.fault.FrameFault.{FrameFault}
use Rattle.pr_head.specs.Faults.{told_fault}
use Rattle.pr_geom.specs.declared.places.SlicePlace.{SlicePlace}
use Rattle.pr_coeff.specs.Component.{Block}
use Rattle.pr_head.specs.declared.fault.FrameKind.{FrameKind}
use Rattle.pr_head.specs.declared.frame.FrameHeader.{FrameHeader}
use Rattle.pr_head.specs.declared.picture.PictureHeader.{PictureHeader}
use Rattle.pr_head.specs.declared.slice.SliceHeader.{SliceHeader}
use Rattle.pr_head.specs.Header.{Opened, opened_of, header_at}
use Rattle.pr_head.specs.Picture.{picture_of, picture_at, sizes_of, table_at}
use Rattle.pr_head.specs.Slice.{least_slice_header, slice_size, stated_of, with_last, slice_fault, slice_at}
use Rattle.pr_head.proofs.Chain.{bind-ok, bind-step, refuse-ok}
use Rattle.pr_head.proofs.Passing.{ahead-ahead, ahead-none}
use Rattle.pr_frame.specs.declared.coded.CodedSlice.{CodedSlice}
use Rattle.pr_frame.specs.Reading.{ahead, blocks_at, values_at, alpha_at, components_at, coded_slice_at}

-- a value and the rest after it
abbrev found : {A : Type 0} → A → Rest → Read FrameKind A
found x s = Ok (x, s)

-- what two equal results give
pub ok-both : {A : Type 0} {x y : A} {s t : Rest} → found x s ≡ found y t → (y ≡ x) × (t ≡ s)
ok-both {A} {x} {y} {s} {t} e = let q : (x, s) ≡ (y, t) = cc e in (sym (ap (λ (p : A × Rest). p.0) q), sym (ap (λ (p : A × Rest). p.1) q))

pub header-rest : (n : ℕ) (l : List ℕ) (o : Opened) (t : Rest) → header_at n l ≡ Ok (o, t) → (o ≡ opened_of l) × (t ≡ record { place = (opened_of l).taken; bytes = drop (opened_of l).taken l })
unfolding header_at
header-rest n l o t e =
    let e1 = bind-ok _ _ e in
    let e2 = bind-ok _ _ e1.2 in
    let e3 = bind-ok _ _ e2.2 in
    ok-both e3.2

pub picture-rest : (F : ℕ) (h : FrameHeader) (s : Rest) (r : PictureHeader) (t : Rest) → picture_at F h s ≡ Ok (r, t) → (r ≡ picture_of s.bytes) × (t ≡ ahead r.header s)
unfolding picture_at
picture-rest F h s r t e =
    let e1 = bind-ok _ _ e in
    let e2 = bind-ok _ _ e1.2 in
    let both = ok-both e2.2 in
    (both.0, both.1 ∙ ap (λ (q : PictureHeader). ahead q.header s) (sym both.0))

pub table-rest : (r : PictureHeader) (count : ℕ) (s : Rest) (sizes : List ℕ) (t : Rest) → table_at r count s ≡ Ok (sizes, t) → (sizes ≡ sizes_of count s.bytes) × (t ≡ ahead (2 * count) s)
unfolding table_at
table-rest r count s sizes t e =
    let e1 = bind-ok _ _ e in
    let e2 = bind-ok _ _ e1.2 in
    ok-both e2.2

-- the header of a slice that was read
pub record IsHead (alpha : Bool) (size : ℕ) (s : Rest) (r : SliceHeader) (t : Rest) : Type 0 where
  pub least : least_slice_header alpha ≤ r.header
  pub whole : slice_size r ≡ size
  pub none : (if alpha then 0 else r.alpha) ≡ 0
  pub index_from : 1 ≤ r.index
  pub index_to : r.index ≤ 224
  pub is : r ≡ with_last size alpha (stated_of alpha s.bytes)
  pub rest : t ≡ ahead r.header s

head-of : (alpha : Bool) (size : ℕ) (s : Rest) (q : SliceHeader) → least_slice_header alpha ≤ q.header → slice_size q ≤ size → (if alpha then 0 else q.cr) ≡ 0 → q.alpha ≡ 0 → 1 ≤ q.index → q.index ≤ 224 → q ≡ stated_of alpha s.bytes
    → IsHead alpha size s (with_last size alpha q) (ahead q.header s)
head-of true size s q least within no_cr no_alpha from to e = record {
  least = least;
  whole = omega arith;
  none = refl;
  index_from = from;
  index_to = to;
  is = ap (with_last size true) e;
  rest = refl;
}
head-of false size s q least within no_cr no_alpha from to e = record {
  least = least;
  whole = omega arith;
  none = no_alpha;
  index_from = from;
  index_to = to;
  is = ap (with_last size false) e;
  rest = refl;
}

pub stated-none : (alpha : Bool) (b : List ℕ) → ((if alpha then 0 else (stated_of alpha b).cr) ≡ 0) × ((stated_of alpha b).alpha ≡ 0)
unfolding stated_of
stated-none true b = (refl, refl)
stated-none false b = (refl, refl)

pub head-found : (alpha : Bool) (size : ℕ) (s t : Rest) (r : SliceHeader) → slice_at size alpha s ≡ Ok (r, t) → IsHead alpha size s r t
unfolding slice_at slice_fault
head-found alpha size s t r e =
    let q = stated_of alpha s.bytes in
    let e1 = bind-ok _ _ e in
    let e2 = bind-ok _ _ e1.2 in
    let f1 = bind-ok _ _ e2.1 in
    let f2 = bind-ok _ _ f1.2 in
    let f3 = bind-ok _ _ f2.2 in
    let f4 = bind-ok _ _ f3.2 in
    let index = or_parts _ _ (refuse-ok _ _ _ f3.1) in
    let none = stated-none alpha s.bytes in
    let both = ok-both e2.2 in
    let is = head-of alpha size s q (ltb-false _ _ (refuse-ok _ _ _ f1.1)) (ltb-false _ _ (refuse-ok _ _ _ f4.1)) none.0 none.1 (omega (arith, eqb-false _ _ index.0)) (ltb-false _ _ index.1) refl in
    subst (λ (v : SliceHeader). IsHead alpha size s v t) (sym both.0) (subst (λ (v : Rest). IsHead alpha size s (with_last size alpha q) v) (sym both.1) is)

pub blocks-rest : (scan : List ℕ) (count size : ℕ) (s : Rest) (blocks : List Block) (t : Rest) → blocks_at scan count size s ≡ Ok (blocks, t) → t ≡ ahead size s
unfolding blocks_at
blocks-rest scan count size s blocks t e =
    let e1 = bind-ok _ _ e in
    (ok-both e1.2).1

values-rest : (n count size : ℕ) (s : Rest) (l : List ℕ) (t : Rest) → values_at n count size s ≡ Ok (l, t) → t ≡ ahead size s
unfolding values_at
values-rest n count size s l t e =
    let e1 = bind-ok _ _ e in
    (ok-both e1.2).1

-- without alpha the alpha values have no bytes
pub alpha-rest : (kind : AlphaKind) (count size : ℕ) (s : Rest) (l : List ℕ) (t : Rest) → (if has_alpha kind then 0 else size) ≡ 0 → alpha_at kind count size s ≡ Ok (l, t) → t ≡ ahead size s
alpha-rest Absent count size s l t none e = (ok-both e).1 ∙ sym (ap (λ n. ahead n s) none ∙ ahead-none s)
alpha-rest Eight count size s l t none e = values-rest 8 count size s l t e
alpha-rest Sixteen count size s l t none e = values-rest 16 count size s l t e

-- the slice's bytes are gone, those of its header and of its components
pub coded-rest : (h : FrameHeader) (place : SlicePlace) (size : ℕ) (s : Rest) (x : CodedSlice) (t : Rest) → coded_slice_at h place size s ≡ Ok (x, t) → t ≡ ahead size s
unfolding coded_slice_at components_at
coded-rest h place size s x t e =
    let e1 = bind-ok _ _ e in
    let head = e1.0 in
    let found = head-found (has_alpha h.alpha) size s head.1 head.0 e1.1 in
    let e2 = bind-ok _ _ e1.2 in
    let y = blocks-rest _ _ _ _ _ _ e2.1 in
    let e3 = bind-ok _ _ e2.2 in
    let cb = blocks-rest _ _ _ _ _ _ e3.1 in
    let e4 = bind-ok _ _ e3.2 in
    let cr = blocks-rest _ _ _ _ _ _ e4.1 in
    let e5 = bind-ok _ _ e4.2 in
    let alpha = alpha-rest h.alpha _ _ _ _ _ found.none e5.1 in
    let last = (ok-both e5.2).1 in
    let r = head.0 in
    let behind = cr ∙ ap (ahead r.cr) (cb ∙ ap (ahead r.cb) (y ∙ ap (ahead r.y) found.rest ∙ ahead-ahead r.y r.header s) ∙ ahead-ahead r.cb (r.header + r.y) s) ∙ ahead-ahead r.cr (r.header + r.y + r.cb) s in
    last ∙ alpha ∙ ap (ahead r.alpha) behind ∙ ahead-ahead r.alpha (r.header + r.y + r.cb + r.cr) s ∙ ap (λ n. ahead n s) found.whole

-- after the header of a slice the components are read
pub coded-is : (h : FrameHeader) (place : SlicePlace) (size : ℕ) (s : Rest) (r : SliceHeader) (t : Rest) → slice_at size (has_alpha h.alpha) s ≡ Ok (r, t) → coded_slice_at h place size s ≡ components_at h place (r, t)
unfolding coded_slice_at
coded-is h place size s r t e = bind-step _ _ e

pub coded-head-fails : (h : FrameHeader) (place : SlicePlace) (size : ℕ) (s : Rest) (fault : FrameFault) → Fails told_fault fault (slice_at size (has_alpha h.alpha) s) → Fails told_fault fault (coded_slice_at h place size s)
unfolding coded_slice_at bind
coded-head-fails h place size s fault told = fails-whole told_fault fault (slice_at size (has_alpha h.alpha) s) (coded_slice_at h place size s) (λ f e. rw e refl) told

-- a slice that was read has a header that was read
pub head-of-coded : (h : FrameHeader) (place : SlicePlace) (size : ℕ) (s : Rest) (x : CodedSlice) (t : Rest) → coded_slice_at h place size s ≡ Ok (x, t)
    → (r : SliceHeader) × (t0 : Rest) × (slice_at size (has_alpha h.alpha) s ≡ Ok (r, t0)) × (components_at h place (r, t0) ≡ Ok (x, t))
unfolding coded_slice_at
head-of-coded h place size s x t e =
    let e1 = bind-ok _ _ e in
    (e1.0.0, e1.0.1, e1.1, e1.2)
