-- The blocks of slices and of pictures by their numbers.
use Rattle.std.proofs.Common.{◌≡◌, ℕ, zero, suc, ◌+◌, ◌*◌, ◌/◌, ◌%◌, ◌<◌, List, [], ◌∷◌, ◌++◌, length, get_or, refl, ap, sym, ◌∙◌, subst, arith, zero-add}
use Rattle.std.specs.List.{flat_map, range_with_len}
use Rattle.std.proofs.lemmas.List.{get_or-map, get_or_default, length-map}
use Rattle.std.proofs.lemmas.List.Concat.{flat_map-append}
use Rattle.std.proofs.lemmas.Nat.{div_below, mod_below, div-add-mod', mul-add-lt, same_from_place}
use Rattle.pw_planes.specs.declared.kinds.Chroma.{Chroma}
use Rattle.pw_planes.specs.declared.kinds.Chroma.TheVariants.{C422, C444}
use Rattle.pr_geom.specs.declared.places.SlicePlace.{SlicePlace}
use Rattle.pr_geom.specs.declared.places.Part.{Part}
use Rattle.pr_geom.specs.declared.places.Part.TheVariants.{Y, Cb, Cr}
use Rattle.pr_geom.specs.Slices.{side_by_side, row_widths, row_slices, picture_slices, slice_columns}
use Rattle.pr_geom.specs.Blocks.{macroblock_width, corners, luma_corners, narrow_corners, wide_corners, macroblock_blocks, blocks_of, EachOnce}
use Rattle.pr_geom.proofs.Pieces.{pieces_at, length-pieces}
use Rattle.pr_geom.proofs.SliceLemmas.{row_columns}

-- ---- one macroblock

length-macroblock_blocks : (w : ℕ) (P : List (ℕ × ℕ)) (row column : ℕ) → length (macroblock_blocks w P row column) ≡ length P
unfolding macroblock_blocks
length-macroblock_blocks w P row column = length-map P (λ corner. (w * column + corner.0, 16 * row + corner.1))

macroblock_at : (w : ℕ) (P : List (ℕ × ℕ)) (row column k x y : ℕ) → k < length P → get_or P k (0, 0) ≡ (x, y)
    → get_or (macroblock_blocks w P row column) k (0, 0) ≡ (w * column + x, 16 * row + y)
unfolding macroblock_blocks
macroblock_at w P row column k x y h e =
    get_or-map (λ (corner : ℕ × ℕ). (w * column + corner.0, 16 * row + corner.1)) P k (0, 0) (0, 0) h
    ∙ ap (λ (corner : ℕ × ℕ). (w * column + corner.0, 16 * row + corner.1)) e

luma_corner : (k : ℕ) → k < 4 → get_or luma_corners k (0, 0) ≡ (8 * (k % 2), 8 * (k / 2))
luma_corner zero h = refl
luma_corner (suc zero) h = refl
luma_corner (suc (suc zero)) h = refl
luma_corner (suc (suc (suc zero))) h = refl
luma_corner (suc (suc (suc (suc k)))) h = absurd (omega arith)

narrow_corner : (k : ℕ) → k < 2 → get_or narrow_corners k (0, 0) ≡ (0, 8 * k)
narrow_corner zero h = refl
narrow_corner (suc zero) h = refl
narrow_corner (suc (suc k)) h = absurd (omega arith)

wide_corner : (k : ℕ) → k < 4 → get_or wide_corners k (0, 0) ≡ (8 * (k / 2), 8 * (k % 2))
wide_corner zero h = refl
wide_corner (suc zero) h = refl
wide_corner (suc (suc zero)) h = refl
wide_corner (suc (suc (suc zero))) h = refl
wide_corner (suc (suc (suc (suc k)))) h = absurd (omega arith)

-- ---- one slice

pub length-blocks_of : (chroma : Chroma) (part : Part) (slice : SlicePlace) → length (blocks_of chroma part slice) ≡ slice.width * length (corners chroma part)
unfolding blocks_of
length-blocks_of chroma part slice =
    length-pieces (macroblock_blocks (macroblock_width chroma part) (corners chroma part) slice.row) (length (corners chroma part))
    (λ column. length-macroblock_blocks (macroblock_width chroma part) (corners chroma part) slice.row column) slice.column slice.width

-- block k of a slice is block k % per of macroblock k / per
slice_block : (w : ℕ) (P : List (ℕ × ℕ)) (row column width k x y per : ℕ) → per ≡ length P → 0 < per → k < width * per → get_or P (k % per) (0, 0) ≡ (x, y)
    → get_or (flat_map (macroblock_blocks w P row) (range_with_len column width)) k (0, 0) ≡ (w * (column + k / per) + x, 16 * row + y)
slice_block w P row column width k x y per e some h at =
    pieces_at (0, 0) (macroblock_blocks w P row) per (λ c. length-macroblock_blocks w P row c ∙ sym e) column width (k / per) (k % per) k
    (div_below k per width some h) (mod_below k per some) (div-add-mod' k per)
    ∙ macroblock_at w P row (column + k / per) (k % per) x y (omega (arith, mod_below k per some)) at

-- the corner of a block of a slice, without the blocks before it
abbrev pub block_corner : Chroma → Part → SlicePlace → ℕ → ℕ × ℕ
block_corner chroma Y slice k = (16 * (slice.column + k / 4) + 8 * (k % 2), 16 * slice.row + 8 * (k % 4 / 2))
block_corner C422 Cb slice k = (8 * (slice.column + k / 2), 16 * slice.row + 8 * (k % 2))
block_corner C422 Cr slice k = (8 * (slice.column + k / 2), 16 * slice.row + 8 * (k % 2))
block_corner C444 Cb slice k = (16 * (slice.column + k / 4) + 8 * (k % 4 / 2), 16 * slice.row + 8 * (k % 2))
block_corner C444 Cr slice k = (16 * (slice.column + k / 4) + 8 * (k % 4 / 2), 16 * slice.row + 8 * (k % 2))

luma_block : (slice : SlicePlace) (k : ℕ) → k < slice.width * 4
    → get_or (flat_map (macroblock_blocks 16 luma_corners slice.row) (slice_columns slice)) k (0, 0) ≡ (16 * (slice.column + k / 4) + 8 * (k % 2), 16 * slice.row + 8 * (k % 4 / 2))
luma_block slice k h =
    slice_block 16 luma_corners slice.row slice.column slice.width k (8 * (k % 4 % 2)) (8 * (k % 4 / 2)) 4 refl (omega arith) h (luma_corner (k % 4) (omega arith))
    ∙ ap (λ n. (16 * (slice.column + k / 4) + 8 * n, 16 * slice.row + 8 * (k % 4 / 2))) (omega arith)

wide_block : (slice : SlicePlace) (k : ℕ) → k < slice.width * 4
    → get_or (flat_map (macroblock_blocks 16 wide_corners slice.row) (slice_columns slice)) k (0, 0) ≡ (16 * (slice.column + k / 4) + 8 * (k % 4 / 2), 16 * slice.row + 8 * (k % 2))
wide_block slice k h =
    slice_block 16 wide_corners slice.row slice.column slice.width k (8 * (k % 4 / 2)) (8 * (k % 4 % 2)) 4 refl (omega arith) h (wide_corner (k % 4) (omega arith))
    ∙ ap (λ n. (16 * (slice.column + k / 4) + 8 * (k % 4 / 2), 16 * slice.row + 8 * n)) (omega arith)

narrow_block : (slice : SlicePlace) (k : ℕ) → k < slice.width * 2
    → get_or (flat_map (macroblock_blocks 8 narrow_corners slice.row) (slice_columns slice)) k (0, 0) ≡ (8 * (slice.column + k / 2), 16 * slice.row + 8 * (k % 2))
narrow_block slice k h =
    slice_block 8 narrow_corners slice.row slice.column slice.width k 0 (8 * (k % 2)) 2 refl (omega arith) h (narrow_corner (k % 2) (omega arith))
    ∙ ap (λ n. (n, 16 * slice.row + 8 * (k % 2))) (omega arith)

pub blocks_corner : (chroma : Chroma) (part : Part) (slice : SlicePlace) (k : ℕ) → k < length (blocks_of chroma part slice)
    → get_or (blocks_of chroma part slice) k (0, 0) ≡ block_corner chroma part slice k
unfolding blocks_of
blocks_corner chroma Y slice k h = luma_block slice k (omega (arith, h, length-blocks_of chroma Y slice))
blocks_corner C422 Cb slice k h = narrow_block slice k (omega (arith, h, length-blocks_of C422 Cb slice))
blocks_corner C422 Cr slice k h = narrow_block slice k (omega (arith, h, length-blocks_of C422 Cr slice))
blocks_corner C444 Cb slice k h = wide_block slice k (omega (arith, h, length-blocks_of C444 Cb slice))
blocks_corner C444 Cr slice k h = wide_block slice k (omega (arith, h, length-blocks_of C444 Cr slice))

-- a block of luma
pub luma_corner_of : (chroma : Chroma) (part : Part) (slice : SlicePlace) (k : ℕ) → part ≡ Y → k < length (blocks_of chroma part slice)
    → (16 * (slice.column + k / 4) + 8 * (k % 2), 16 * slice.row + 8 * (k % 4 / 2)) ≡ get_or (blocks_of chroma part slice) k (0, 0)
luma_corner_of chroma part slice k e h = ap (λ p. block_corner chroma p slice k) (sym e) ∙ sym (blocks_corner chroma part slice k h)

-- a block of 4:2:2 chroma
pub narrow_corner_of : (chroma : Chroma) (part : Part) (slice : SlicePlace) (k : ℕ) → chroma ≡ C422 → (part ≡ Y → ⊥) → k < length (blocks_of chroma part slice)
    → (8 * (slice.column + k / 2), 16 * slice.row + 8 * (k % 2)) ≡ get_or (blocks_of chroma part slice) k (0, 0)
narrow_corner_of C422 Y slice k e chroma_part h = absurd (chroma_part refl)
narrow_corner_of C422 Cb slice k e chroma_part h = sym (blocks_corner C422 Cb slice k h)
narrow_corner_of C422 Cr slice k e chroma_part h = sym (blocks_corner C422 Cr slice k h)
narrow_corner_of C444 part slice k e chroma_part h = cc

-- a block of 4:4:4 chroma
pub wide_corner_of : (chroma : Chroma) (part : Part) (slice : SlicePlace) (k : ℕ) → chroma ≡ C444 → (part ≡ Y → ⊥) → k < length (blocks_of chroma part slice)
    → (16 * (slice.column + k / 4) + 8 * (k % 4 / 2), 16 * slice.row + 8 * (k % 2)) ≡ get_or (blocks_of chroma part slice) k (0, 0)
wide_corner_of C444 Y slice k e chroma_part h = absurd (chroma_part refl)
wide_corner_of C444 Cb slice k e chroma_part h = sym (blocks_corner C444 Cb slice k h)
wide_corner_of C444 Cr slice k e chroma_part h = sym (blocks_corner C444 Cr slice k h)
wide_corner_of C422 part slice k e chroma_part h = cc

-- how many blocks there are
pub luma_count : (chroma : Chroma) (part : Part) (slice : SlicePlace) → part ≡ Y → 4 * slice.width ≡ length (blocks_of chroma part slice)
luma_count chroma part slice e =
    subst (λ p. 4 * slice.width ≡ length (blocks_of chroma p slice)) (sym e) (omega (arith, length-blocks_of chroma Y slice))

pub wide_count : (chroma : Chroma) (part : Part) (slice : SlicePlace) → chroma ≡ C444 → 4 * slice.width ≡ length (blocks_of chroma part slice)
wide_count C444 Y slice e = omega (arith, length-blocks_of C444 Y slice)
wide_count C444 Cb slice e = omega (arith, length-blocks_of C444 Cb slice)
wide_count C444 Cr slice e = omega (arith, length-blocks_of C444 Cr slice)
wide_count C422 part slice e = cc

pub narrow_count : (chroma : Chroma) (part : Part) (slice : SlicePlace) → chroma ≡ C422 → (part ≡ Y → ⊥) → 2 * slice.width ≡ length (blocks_of chroma part slice)
narrow_count C422 Y slice e chroma_part = absurd (chroma_part refl)
narrow_count C422 Cb slice e chroma_part = omega (arith, length-blocks_of C422 Cb slice)
narrow_count C422 Cr slice e chroma_part = omega (arith, length-blocks_of C422 Cr slice)
narrow_count C444 part slice e chroma_part = cc

-- ---- one picture

flat_map-flat_map : {A B C : Type 0} (f : B → List C) (g : A → List B) (xs : List A) → flat_map f (flat_map g xs) ≡ flat_map (λ x. flat_map f (g x)) xs
flat_map-flat_map f g [] = refl
flat_map-flat_map f g (x ∷ xs) = flat_map-append f (g x) (flat_map g xs) ∙ ap (λ l. flat_map f (g x) ++ l) (flat_map-flat_map f g xs)

slices_blocks : (chroma : Chroma) (part : Part) (row column : ℕ) (widths : List ℕ)
    → flat_map (blocks_of chroma part) (side_by_side row column widths)
    ≡ flat_map (macroblock_blocks (macroblock_width chroma part) (corners chroma part) row) (flat_map slice_columns (side_by_side row column widths))
unfolding blocks_of
slices_blocks chroma part row column [] = refl
slices_blocks chroma part row column (w ∷ ws) =
    let f = macroblock_blocks (macroblock_width chroma part) (corners chroma part) row in
    ap (λ l. flat_map f (range_with_len column w) ++ l) (slices_blocks chroma part row (column + w) ws)
    ∙ sym (flat_map-append f (range_with_len column w) (flat_map slice_columns (side_by_side row (column + w) ws)))

row_blocks : (chroma : Chroma) (part : Part) (m k row : ℕ)
    → flat_map (blocks_of chroma part) (row_slices m k row) ≡ flat_map (macroblock_blocks (macroblock_width chroma part) (corners chroma part) row) (range_with_len 0 m)
unfolding row_slices
row_blocks chroma part m k row =
    slices_blocks chroma part row 0 (row_widths m k)
    ∙ ap (flat_map (macroblock_blocks (macroblock_width chroma part) (corners chroma part) row)) (row_columns m k row)

-- the blocks of all macroblocks, row by row, from left to right
pub all_blocks : ℕ → List (ℕ × ℕ) → ℕ → ℕ → List (ℕ × ℕ)
all_blocks w P m rows = flat_map (λ row. flat_map (macroblock_blocks w P row) (range_with_len 0 m)) (range_with_len 0 rows)

picture_blocks : (chroma : Chroma) (part : Part) (m rows k : ℕ)
    → flat_map (blocks_of chroma part) (picture_slices m rows k) ≡ all_blocks (macroblock_width chroma part) (corners chroma part) m rows
unfolding picture_slices all_blocks
picture_blocks chroma part m rows k =
    flat_map-flat_map (blocks_of chroma part) (row_slices m k) (range_with_len 0 rows)
    ∙ (λ i. flat_map (λ row. row_blocks chroma part m k row i) (range_with_len 0 rows))

-- how the corners of a macroblock's blocks are numbered: block k stands in column `across k` and row `down k` of the macroblock's blocks
pub record IsNumbered (P : List (ℕ × ℕ)) (u b : ℕ) (across down : ℕ → ℕ) (index : ℕ → ℕ → ℕ) : Type 0 where
  pub some : 0 < u
  pub size : length P ≡ b
  pub place : (k : ℕ) → k < b → get_or P k (0, 0) ≡ (8 * across k, 8 * down k)
  pub columns : (k : ℕ) → k < b → across k < u
  pub rows : (k : ℕ) → k < b → down k < 2
  pub low : (i j : ℕ) → i < u → j < 2 → index i j < b
  pub column : (i j : ℕ) → i < u → j < 2 → across (index i j) ≡ i
  pub row : (i j : ℕ) → i < u → j < 2 → down (index i j) ≡ j
  pub back : (k : ℕ) → k < b → index (across k) (down k) ≡ k

some_factor : (a c n : ℕ) → n < a * c → 0 < c
some_factor a zero n h = absurd (omega arith)
some_factor a (suc c) n h = omega arith

module _ (w u b m rows : ℕ) (P : List (ℕ × ℕ)) (across down : ℕ → ℕ) (index : ℕ → ℕ → ℕ) (wide : w ≡ 8 * u) (ok : IsNumbered P u b across down index) where
  row_length : (row : ℕ) → length (flat_map (macroblock_blocks w P row) (range_with_len 0 m)) ≡ m * b
  row_length row = length-pieces (macroblock_blocks w P row) b (λ c. length-macroblock_blocks w P row c ∙ ok.size) 0 m

  length-all : length (all_blocks w P m rows) ≡ rows * (m * b)
  unfolding all_blocks
  length-all = length-pieces (λ row. flat_map (macroblock_blocks w P row) (range_with_len 0 m)) (m * b) row_length 0 rows

  -- block k of the macroblock at a row and column
  all_at : (row column k n : ℕ) → row < rows → column < m → k < b → row * (m * b) + (column * b + k) ≡ n
      → get_or (all_blocks w P m rows) n (0, 0) ≡ (8 * (column * u + across k), 8 * (row * 2 + down k))
  unfolding all_blocks
  all_at row column k n r c l e =
      pieces_at (0, 0) (λ y. flat_map (macroblock_blocks w P y) (range_with_len 0 m)) (m * b) row_length 0 rows row (column * b + k) n r (omega (arith, mul-add-lt column b k m c l)) e
      ∙ ap (λ y. get_or (flat_map (macroblock_blocks w P y) (range_with_len 0 m)) (column * b + k) (0, 0)) (zero-add row)
      ∙ pieces_at (0, 0) (macroblock_blocks w P row) b (λ x. length-macroblock_blocks w P row x ∙ ok.size) 0 m column k (column * b + k) c l refl
      ∙ ap (λ x. get_or (macroblock_blocks w P row x) k (0, 0)) (zero-add column)
      ∙ macroblock_at w P row column k (8 * across k) (8 * down k) (omega (arith, ok.size)) (ok.place k l)
      ∙ (λ i. (first i, second i))
    where
      first : w * column + 8 * across k ≡ 8 * (column * u + across k)
      first = omega (arith, ap (λ n. n * column) wide)

      second : 16 * row + 8 * down k ≡ 8 * (row * 2 + down k)
      second = omega arith

  row_of : ℕ → ℕ
  row_of n = n / (m * b)

  column_of : ℕ → ℕ
  column_of n = n % (m * b) / b

  block_of : ℕ → ℕ
  block_of n = n % (m * b) % b

  module _ (n : ℕ) (h : n < rows * (m * b)) where
    some_blocks : 0 < m * b
    some_blocks = some_factor rows (m * b) n h

    some_b : 0 < b
    some_b = some_factor m b 0 (omega (arith, some_blocks))

    row_below : row_of n < rows
    unfolding row_of
    row_below = div_below n (m * b) rows some_blocks h

    column_below : column_of n < m
    unfolding column_of
    column_below = div_below (n % (m * b)) b m some_b (mod_below n (m * b) some_blocks)

    block_below : block_of n < b
    unfolding block_of
    block_below = mod_below (n % (m * b)) b some_b

    numbered : row_of n * (m * b) + (column_of n * b + block_of n) ≡ n
    unfolding row_of column_of block_of
    numbered = omega (arith, div-add-mod' n (m * b), div-add-mod' (n % (m * b)) b)

    at_number : get_or (all_blocks w P m rows) n (0, 0) ≡ (8 * (column_of n * u + across (block_of n)), 8 * (row_of n * 2 + down (block_of n)))
    at_number = all_at (row_of n) (column_of n) (block_of n) n row_below column_below block_below numbered

  once_same : (i j : ℕ) → i < rows * (m * b) → j < rows * (m * b) → get_or (all_blocks w P m rows) i (0, 0) ≡ get_or (all_blocks w P m rows) j (0, 0) → i ≡ j
  once_same i j hi hj e =
      let same = sym (at_number i hi) ∙ e ∙ at_number j hj in
      let x : column_of i * u + across (block_of i) ≡ column_of j * u + across (block_of j) = omega (arith, ap (λ (p : ℕ × ℕ). p.0) same) in
      let y : row_of i * 2 + down (block_of i) ≡ row_of j * 2 + down (block_of j) = omega (arith, ap (λ (p : ℕ × ℕ). p.1) same) in
      let cs = same_from_place (column_of i) (across (block_of i)) (column_of j) (across (block_of j)) u (ok.columns _ (block_below i hi)) (ok.columns _ (block_below j hj)) x in
      let rs = same_from_place (row_of i) (down (block_of i)) (row_of j) (down (block_of j)) 2 (ok.rows _ (block_below i hi)) (ok.rows _ (block_below j hj)) y in
      let k : block_of i ≡ block_of j = sym (ok.back _ (block_below i hi)) ∙ (λ t. index (cs.1 t) (rs.1 t)) ∙ ok.back _ (block_below j hj) in
      sym (numbered i hi) ∙ (λ t. rs.0 t * (m * b) + (cs.0 t * b + k t)) ∙ numbered j hj

  pub each_once : EachOnce (all_blocks w P m rows) (m * u) (rows * 2)
  each_once = record {
    inside = λ n h.
        let l : n < rows * (m * b) = omega (arith, h, length-all) in (
          column_of n * u + across (block_of n),
          row_of n * 2 + down (block_of n),
          omega (arith, mul-add-lt (column_of n) u (across (block_of n)) m (column_below n l) (ok.columns _ (block_below n l))),
          omega (arith, mul-add-lt (row_of n) 2 (down (block_of n)) rows (row_below n l) (ok.rows _ (block_below n l))),
          at_number n l,
        );
    there = λ i j hi hj.
        let row = j / 2 in
        let column = i / u in
        let a : i % u < u = mod_below i u ok.some in
        let d : j % 2 < 2 = omega arith in
        let k = index (i % u) (j % 2) in
        let r : row < rows = omega arith in
        let c : column < m = div_below i u m ok.some hi in
        let low = ok.low (i % u) (j % 2) a d in
        let n = row * (m * b) + (column * b + k) in
        let in_row : column * b + k < m * b = omega (arith, mul-add-lt column b k m c low) in
        let inside : n < rows * (m * b) = omega (arith, mul-add-lt row (m * b) (column * b + k) rows r in_row) in
        let l : n < length (all_blocks w P m rows) = omega (arith, inside, length-all) in
        let x : column * u + across k ≡ i = ap (λ q. column * u + q) (ok.column (i % u) (j % 2) a d) ∙ div-add-mod' i u in
        let y : row * 2 + down k ≡ j = ap (λ q. row * 2 + q) (ok.row (i % u) (j % 2) a d) ∙ div-add-mod' j 2 in
        (n, l, get_or_default (all_blocks w P m rows) n (8 * i, 8 * j) (0, 0) l ∙ all_at row column k n r c low refl ∙ (λ t. (8 * x t, 8 * y t)));
    once = λ i j hi hj e. once_same i j (omega (arith, hi, length-all)) (omega (arith, hj, length-all)) e;
  }

luma_numbered : IsNumbered luma_corners 2 4 (λ k. k % 2) (λ k. k / 2) (λ i j. i + 2 * j)
luma_numbered = record {
  some = omega arith;
  size = refl;
  place = luma_corner;
  columns = λ k h. omega arith;
  rows = λ k h. omega arith;
  low = λ i j a d. omega arith;
  column = λ i j a d. omega arith;
  row = λ i j a d. omega arith;
  back = λ k h. omega arith;
}

wide_numbered : IsNumbered wide_corners 2 4 (λ k. k / 2) (λ k. k % 2) (λ i j. 2 * i + j)
wide_numbered = record {
  some = omega arith;
  size = refl;
  place = wide_corner;
  columns = λ k h. omega arith;
  rows = λ k h. omega arith;
  low = λ i j a d. omega arith;
  column = λ i j a d. omega arith;
  row = λ i j a d. omega arith;
  back = λ k h. omega arith;
}

narrow_numbered : IsNumbered narrow_corners 1 2 (λ _. 0) (λ k. k) (λ i j. j)
narrow_numbered = record {
  some = omega arith;
  size = refl;
  place = λ k h. narrow_corner k h;
  columns = λ k h. omega arith;
  rows = λ k h. h;
  low = λ i j a d. d;
  column = λ i j a d. omega arith;
  row = λ i j a d. refl;
  back = λ k h. refl;
}

all_once : (chroma : Chroma) (part : Part) (m rows : ℕ) → EachOnce (all_blocks (macroblock_width chroma part) (corners chroma part) m rows) (m * (macroblock_width chroma part / 8)) (rows * 2)
all_once chroma Y m rows = each_once 16 2 4 m rows luma_corners (λ k. k % 2) (λ k. k / 2) (λ i j. i + 2 * j) refl luma_numbered
all_once C422 Cb m rows = each_once 8 1 2 m rows narrow_corners (λ _. 0) (λ k. k) (λ i j. j) refl narrow_numbered
all_once C422 Cr m rows = each_once 8 1 2 m rows narrow_corners (λ _. 0) (λ k. k) (λ i j. j) refl narrow_numbered
all_once C444 Cb m rows = each_once 16 2 4 m rows wide_corners (λ k. k / 2) (λ k. k % 2) (λ i j. 2 * i + j) refl wide_numbered
all_once C444 Cr m rows = each_once 16 2 4 m rows wide_corners (λ k. k / 2) (λ k. k % 2) (λ i j. 2 * i + j) refl wide_numbered

pub blocks_once : (chroma : Chroma) (part : Part) (m rows k : ℕ) → EachOnce (flat_map (blocks_of chroma part) (picture_slices m rows k)) (m * (macroblock_width chroma part / 8)) (rows * 2)
blocks_once chroma part m rows k =
    subst (λ (l : List (ℕ × ℕ)). EachOnce l (m * (macroblock_width chroma part / 8)) (rows * 2)) (sym (picture_blocks chroma part m rows k)) (all_once chroma part m rows)
