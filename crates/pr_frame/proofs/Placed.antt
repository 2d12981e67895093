-- Blocks written into a plane in order are the plane of these blocks, if no position is in two of them.
use Rattle.std.proofs.Common.{◌≡◌, refl, ℕ, zero, suc, ◌+◌, ◌-◌, ◌*◌, ◌/◌, ◌%◌, ◌<◌, ◌≤◌, min, replicate, true, cond, List, [], ◌∷◌, ◌++◌, length, get_or, drop, map, ap, sym, ◌∙◌, subst, inl, inr, arith}
use Rattle.std.proofs.lemmas.Bool.{cases_Bool, cases_lt, cond-true, cond-false, and_parts, leb-true, ltb-true}
use Rattle.std.proofs.lemmas.List.{get_or-replicate, get_or_past, length-replicate, get_or-map, length-map, map-append, drop_more, drop_all}
use Rattle.std.proofs.lemmas.Nat.{mod_below, div_below}
use Rattle.pw_planes.specs.Rows.{raster}
use Rattle.pw_planes.specs.Plane.{Raster, sample_at, uniform, is_among, with_block}
use Rattle.pw_planes.proofs.RowLemmas.{raster_by, length-raster, some_width}
use Rattle.pw_planes.proofs.PlaneLemmas.{sample_with_block, sample_numbered}
use Rattle.pr_geom.specs.Blocks.{EachOnce}
use Rattle.pr_geom.specs.declared.places.SlicePlace.{SlicePlace}
use Rattle.pr_frame.specs.Shown.{Placed, has, sample_among, plane_of, placed}
use Rattle.pr_frame.specs.inner.Placing.{with_placed, IsInSlice}

pub no_block : Placed
no_block = record { corner = (0, 0); samples = [] }

-- no two blocks have the same position
unfoldable pub Apart : List Placed → Type 0
Apart bs = (m n column row : ℕ) → m < length bs → n < length bs → has (get_or bs m no_block) column row ≡ true → has (get_or bs n no_block) column row ≡ true → m ≡ n

apart_rest : (b : Placed) (bs : List Placed) → Apart (b ∷ bs) → Apart bs
unfolding Apart
apart_rest b bs apart m n column row h l p q = omega (arith, apart (suc m) (suc n) column row (omega arith) (omega arith) p q)

-- the sample at a position, or another one if no block has it
among_or : ℕ → List Placed → ℕ → ℕ → ℕ
among_or other [] column row = other
among_or other (b ∷ bs) column row = cond (has b column row) (get_or b.samples (8 * (row - b.corner.1) + (column - b.corner.0)) 0) (among_or other bs column row)

among_none : (bs : List Placed) (column row : ℕ) → among_or 0 bs column row ≡ sample_among bs column row
unfolding among_or
among_none [] column row = refl
among_none (b ∷ bs) column row = ap (cond (has b column row) (get_or b.samples (8 * (row - b.corner.1) + (column - b.corner.0)) 0)) (among_none bs column row)

-- none of the blocks has the position
no_one : (other : ℕ) (bs : List Placed) (column row : ℕ) → ((n : ℕ) → n < length bs → has (get_or bs n no_block) column row ≡ true → ⊥) → among_or other bs column row ≡ other
unfolding among_or
no_one other [] column row none = refl
no_one other (b ∷ bs) column row none = elim (cases_Bool (has b column row)) [
  | inl e ↦ absurd (none 0 (omega arith) e)
  | inr e ↦ cond-false _ _ _ e ∙ no_one other bs column row (λ n h. none (suc n) (omega arith))
]

pub placed_width : (p : Raster) (bs : List Placed) → (with_placed p bs).width ≡ p.width
unfolding with_placed
placed_width p [] = refl
placed_width p (b ∷ bs) = placed_width (with_block p b.corner.0 b.corner.1 b.samples) bs

pub placed_height : (p : Raster) (bs : List Placed) → (with_placed p bs).height ≡ p.height
unfolding with_placed
placed_height p [] = refl
placed_height p (b ∷ bs) = placed_height (with_block p b.corner.0 b.corner.1 b.samples) bs

placed_whole : (p : Raster) (bs : List Placed) → length p.samples ≡ p.height * p.width → length (with_placed p bs).samples ≡ p.height * p.width
unfolding with_placed
placed_whole p [] e = e
placed_whole p (b ∷ bs) e = placed_whole (with_block p b.corner.0 b.corner.1 b.samples) bs (length-raster p.width p.height _)

pub placed_behind : (p : Raster) (xs ys : List Placed) → with_placed p (xs ++ ys) ≡ with_placed (with_placed p xs) ys
unfolding with_placed
placed_behind p [] ys = refl
placed_behind p (b ∷ xs) ys = placed_behind (with_block p b.corner.0 b.corner.1 b.samples) xs ys

alone : (b : Placed) (bs : List Placed) → Apart (b ∷ bs) → (column row n : ℕ) → n < length bs → has b column row ≡ true → has (get_or bs n no_block) column row ≡ true → 0 ≡ suc n
unfolding Apart
alone b bs apart column row n h e l = apart 0 (suc n) column row (omega arith) (omega arith) e l

placed_sample : (p : Raster) (bs : List Placed) (column row : ℕ) → Apart bs → column < p.width → row < p.height
    → sample_at (with_placed p bs) column row ≡ among_or (sample_at p column row) bs column row
unfolding with_placed among_or
placed_sample p [] column row apart c r = refl
placed_sample p (b ∷ bs) column row apart c r =
    let q = with_block p b.corner.0 b.corner.1 b.samples in
    let value = get_or b.samples (8 * (row - b.corner.1) + (column - b.corner.0)) 0 in
    let one : sample_at q column row ≡ cond (has b column row) value (sample_at p column row) = sample_with_block p b.corner.0 b.corner.1 column row b.samples c r in
    placed_sample q bs column row (apart_rest b bs apart) c r
    ∙ elim (cases_Bool (has b column row)) [
      | inl e ↦
          no_one (sample_at q column row) bs column row (λ n h l. zero_first n (alone b bs apart column row n h e l))
          ∙ one ∙ cond-true _ _ _ e ∙ sym (cond-true _ _ _ e)
      | inr e ↦ ap (λ s. among_or s bs column row) (one ∙ cond-false _ _ _ e) ∙ sym (cond-false _ _ _ e)
    ]
  where
    zero_first : (n : ℕ) → 0 ≡ suc n → ⊥
    zero_first n e = omega arith

zeros_at : (n k : ℕ) → ◌≡◌ {A = ℕ} (get_or (replicate n 0) k 0) 0
zeros_at n k = elim (cases_lt k n) [
  | inl h ↦ get_or-replicate n k 0 0 h
  | inr h ↦ get_or_past (replicate n 0) k 0 (omega (arith, length-replicate {A = ℕ} n 0))
]

uniform_sample : (w h column row : ℕ) → sample_at (uniform w h 0) column row ≡ 0
unfolding sample_at
uniform_sample w h column row = zeros_at (h * w) (min row (h - 1) * w + min column (w - 1))

-- Blocks written into a plane of zeros.
pub all_placed : (w h : ℕ) (bs : List Placed) → Apart bs → with_placed (uniform w h 0) bs ≡ plane_of w h bs
unfolding plane_of
all_placed w h bs apart = by_parts (with_placed (uniform w h 0) bs) w h (raster w h (sample_among bs)) (placed_width (uniform w h 0) bs) (placed_height (uniform w h 0) bs) samples
  where
    by_parts : (p : Raster) (w h : ℕ) (s : List ℕ) → p.width ≡ w → p.height ≡ h → p.samples ≡ s → p ≡ record { width = w; height = h; samples = s }
    by_parts p w h s a b c = λ i. record { width = a i; height = b i; samples = c i }

    samples : (with_placed (uniform w h 0) bs).samples ≡ raster w h (sample_among bs)
    samples = raster_by w h (sample_among bs) (with_placed (uniform w h 0) bs).samples (placed_whole (uniform w h 0) bs (length-replicate (h * w) 0)) (λ k l. let some = some_width w h k l in
        numbered k l ∙ placed_sample (uniform w h 0) bs (k % w) (k / w) apart (mod_below k w some) (div_below k w h some l)
        ∙ ap (λ s. among_or s bs (k % w) (k / w)) (uniform_sample w h (k % w) (k / w)) ∙ among_none bs (k % w) (k / w))
      where
        numbered : (k : ℕ) → k < h * w → get_or (with_placed (uniform w h 0) bs).samples k 0 ≡ sample_at (with_placed (uniform w h 0) bs) (k % w) (k / w)
        numbered k l =
            let q = with_placed (uniform w h 0) bs in
            subst (λ v. get_or q.samples k 0 ≡ sample_at q (k % v) (k / v)) (placed_width (uniform w h 0) bs)
            (sample_numbered q k (subst (λ v. k < q.height * v) (sym (placed_width (uniform w h 0) bs)) (subst (λ v. k < v * w) (sym (placed_height (uniform w h 0) bs)) l)))

-- ---- blocks at corners that are each a position once

unfoldable pub corners_in : List Placed → List (ℕ × ℕ)
corners_in bs = map (λ (b : Placed). b.corner) bs

among_parts : (a n k : ℕ) → is_among a n k ≡ true → (a ≤ k) × (k < a + n)
among_parts a n k e =
    let parts = and_parts _ _ e in
    (leb-true a k parts.0, ltb-true k (a + n) parts.1)

-- a block that has a position is at the corner of that position
corner_is : (b : Placed) (i j column row : ℕ) → b.corner ≡ (8 * i, 8 * j) → has b column row ≡ true → b.corner ≡ (8 * (column / 8), 8 * (row / 8))
corner_is b i j column row e h =
    let parts = and_parts _ _ h in
    let cs = among_parts b.corner.0 8 column parts.0 in
    let rs = among_parts b.corner.1 8 row parts.1 in
    let x : b.corner.0 ≡ 8 * i = ap (λ (p : ℕ × ℕ). p.0) e in
    let y : b.corner.1 ≡ 8 * j = ap (λ (p : ℕ × ℕ). p.1) e in
    let c : i ≡ column / 8 = omega arith in
    let r : j ≡ row / 8 = omega arith in
    e ∙ (λ t. (8 * c t, 8 * r t))

pub apart_once : (bs : List Placed) (columns rows : ℕ) → EachOnce (corners_in bs) columns rows → Apart bs
unfolding Apart corners_in
apart_once bs columns rows once m n column row h l p q =
    let len : length (corners_in bs) ≡ length bs = length-map bs (λ (b : Placed). b.corner) in
    let at : (k : ℕ) → k < length bs → has (get_or bs k no_block) column row ≡ true → get_or (corners_in bs) k (0, 0) ≡ (8 * (column / 8), 8 * (row / 8)) =
    λ k below e.
    let from = get_or-map (λ (b : Placed). b.corner) bs k no_block (0, 0) below in
    let inside = once.inside k (omega (arith, len)) in
    from ∙ corner_is (get_or bs k no_block) inside.0 inside.1 column row (sym from ∙ inside.4) e in
    once.once m n (omega (arith, len)) (omega (arith, len)) (at m h p ∙ sym (at n l q))

pub placed_corners : (cs : List (ℕ × ℕ)) (bs : List (List ℕ)) → length bs ≡ length cs → corners_in (placed cs bs) ≡ cs
unfolding corners_in
placed_corners [] [] e = refl
placed_corners [] (b ∷ bs) e = refl
placed_corners (c ∷ cs) [] e = absurd (omega arith)
placed_corners (c ∷ cs) (b ∷ bs) e = ap (λ l. c ∷ l) (placed_corners cs bs (omega arith))

pub corners_behind : (xs ys : List Placed) → corners_in (xs ++ ys) ≡ corners_in xs ++ corners_in ys
unfolding corners_in
corners_behind xs ys = map-append (λ (b : Placed). b.corner) xs ys

-- ---- blocks in order

length-placed : (cs : List (ℕ × ℕ)) (bs : List (List ℕ)) → length bs ≡ length cs → length (placed cs bs) ≡ length cs
length-placed [] [] e = refl
length-placed [] (b ∷ bs) e = refl
length-placed (c ∷ cs) [] e = absurd (omega arith)
length-placed (c ∷ cs) (b ∷ bs) e = ap suc (length-placed cs bs (omega arith))

get_or-placed : (cs : List (ℕ × ℕ)) (bs : List (List ℕ)) (k : ℕ) → length bs ≡ length cs → k < length cs
    → get_or (placed cs bs) k no_block ≡ record { corner = get_or cs k (0, 0); samples = get_or bs k [] }
get_or-placed [] bs k e h = absurd (omega arith)
get_or-placed (c ∷ cs) [] k e h = absurd (omega arith)
get_or-placed (c ∷ cs) (b ∷ bs) zero e h = refl
get_or-placed (c ∷ cs) (b ∷ bs) (suc k) e h = get_or-placed cs bs k (omega arith) (omega arith)

-- one block more is written
pub placed_more : (cs : List (ℕ × ℕ)) (bs : List (List ℕ)) (k : ℕ) → length bs ≡ length cs → k < length cs → (p : Raster) (corner : ℕ × ℕ) (samples : List ℕ) → corner ≡ get_or cs k (0, 0) → samples ≡ get_or bs k []
    → with_placed p (drop k (placed cs bs)) ≡ with_placed (with_block p corner.0 corner.1 samples) (drop (k + 1) (placed cs bs))
unfolding with_placed
placed_more cs bs k e h p corner samples c s =
    let l : k < length (placed cs bs) = omega (arith, length-placed cs bs e) in
    (λ i. with_placed p (drop_more (placed cs bs) k no_block l i))
    ∙ ap (λ (b : Placed). with_placed (with_block p b.corner.0 b.corner.1 b.samples) (drop (k + 1) (placed cs bs))) (get_or-placed cs bs k e h)
    ∙ (λ i. with_placed (with_block p (sym c i).0 (sym c i).1 (sym s i)) (drop (k + 1) (placed cs bs)))

-- all are written
pub placed_end : (cs : List (ℕ × ℕ)) (bs : List (List ℕ)) (k : ℕ) → length bs ≡ length cs → length cs ≤ k → (p : Raster) → with_placed p (drop k (placed cs bs)) ≡ p
unfolding with_placed
placed_end cs bs k e h p = ap (with_placed p) (drop_all k (placed cs bs) (omega (arith, length-placed cs bs e)))

-- the index of an alpha value of a block in those of its slice
pub value_at : (place : SlicePlace) (x y column row at width : ℕ) → IsInSlice place x y → at ≡ 16 * place.width * (y - 16 * place.row) + (x - 16 * place.column) → width ≡ 16 * place.width
    → at + row * width + column ≡ 16 * place.width * (y + row - 16 * place.row) + (x + column - 16 * place.column)
value_at place x y column row at width ok e w =
    let low : 16 * place.row ≤ y = elim ok.row [
      | inl q ↦ omega arith
      | inr q ↦ omega arith
    ] in
    let down : y + row - 16 * place.row ≡ y - 16 * place.row + row = omega arith in
    omega (arith, ok.left, ap (λ j. 16 * place.width * j) down, ap (λ j. row * j) w)

-- a block of luma is in its slice
pub in_slice : (place : SlicePlace) (k : ℕ) (corner : ℕ × ℕ) → k < 4 * place.width → (16 * (place.column + k / 4) + 8 * (k % 2), 16 * place.row + 8 * (k % 4 / 2)) ≡ corner → IsInSlice place corner.0 corner.1
in_slice place k corner h e =
    let x : 16 * (place.column + k / 4) + 8 * (k % 2) ≡ corner.0 = ap (λ (p : ℕ × ℕ). p.0) e in
    let y : 16 * place.row + 8 * (k % 4 / 2) ≡ corner.1 = ap (λ (p : ℕ × ℕ). p.1) e in
    record {
      left = omega arith;
      right = omega arith;
      row = elim (cases_lt (k % 4 / 2) 1) [
        | inl l ↦ inl (omega arith)
        | inr l ↦ inr (omega arith)
      ];
    }
