-- The slices of a row by their numbers.
use Rattle.std.proofs.Common.{◌≡◌, ℕ, zero, suc, ◌+◌, ◌-◌, ◌*◌, ◌/◌, ◌%◌, ◌^◌, ◌<◌, ◌≤◌, inl, inr, List, [], ◌∷◌, ◌++◌, length, get_or, replicate, refl, ap, sym, ◌∙◌, subst, arith, length-append, append-nil, lt-ltb, le-ltb, lit≤, lit<, zero-add, add-zero, sum}
use Rattle.std.specs.List.{flat_map, range_with_len, Contains}
use Rattle.std.proofs.lemmas.Bool.{cases_lt}
use Rattle.std.proofs.lemmas.List.{length-replicate, get_or_default}
use Rattle.std.proofs.lemmas.List.Sums.{sum_by-cons, sum_by-append}
use Rattle.std.proofs.lemmas.List.Folds.{sum_by-replicate}
use Rattle.std.proofs.lemmas.Nat.{mul-le, div_below, mod_below, div-add-mod', row_fits}
use Rattle.std.proofs.Math.Pow.{pow_pos, pow_mono}
use Rattle.pw_planes.specs.declared.kinds.Interlace.{Interlace}
use Rattle.pw_planes.specs.declared.kinds.Interlace.TheVariants.{Progressive, TopFirst, BottomFirst}
use Rattle.pr_geom.specs.declared.places.SlicePlace.{SlicePlace}
use Rattle.pr_geom.specs.Slices.{pictures_of, row_widths, side_by_side, row_slices, picture_slices, no_slice, slice_columns}
use Rattle.pr_geom.specs.inner.Spots.{spot}
use Rattle.pr_geom.proofs.Pieces.{pieces_at, length-pieces}

-- the slice of row y at a spot, from column x on
abbrev pub slice_at : ℕ → ℕ → ℕ × ℕ → SlicePlace
slice_at y x s = record { column = x + s.0; row = y; width = s.1 }

pub length-side_by_side : (y x : ℕ) (ws : List ℕ) → length (side_by_side y x ws) ≡ length ws
length-side_by_side y x [] = refl
length-side_by_side y x (w ∷ ws) = ap suc (length-side_by_side y (x + w) ws)

side_by_side-front : (y x w n i : ℕ) (ws : List ℕ) → i < n → get_or (side_by_side y x (replicate n w ++ ws)) i no_slice ≡ record { column = x + i * w; row = y; width = w }
side_by_side-front y x w zero i ws h = absurd (omega arith)
side_by_side-front y x w (suc n) zero ws h = ap (λ c. record { column = c; row = y; width = w }) (omega arith)
side_by_side-front y x w (suc n) (suc i) ws h =
    side_by_side-front y (x + w) w n i ws (omega arith) ∙ ap (λ c. record { column = c; row = y; width = w }) (omega arith)

side_by_side-behind : (y x w n i : ℕ) (ws : List ℕ) → get_or (side_by_side y x (replicate n w ++ ws)) (n + i) no_slice ≡ get_or (side_by_side y (x + n * w) ws) i no_slice
side_by_side-behind y x w zero i ws =
    let a : x ≡ x + 0 * w = omega arith in
    let b : 0 + i ≡ i = omega arith in
    ap (λ j. get_or (side_by_side y x ws) j no_slice) b ∙ ap (λ c. get_or (side_by_side y c ws) i no_slice) a
side_by_side-behind y x w (suc n) i ws =
    let a : x + w + n * w ≡ x + suc n * w = omega arith in
    let b : suc n + i ≡ suc (n + i) = omega arith in
    ap (λ j. get_or (side_by_side y x (w ∷ (replicate n w ++ ws))) j no_slice) b
    ∙ side_by_side-behind y (x + w) w n i ws ∙ ap (λ c. get_or (side_by_side y c ws) i no_slice) a

spot_front : (m k i : ℕ) → i < m / 2 ^ suc k → spot m (suc k) i ≡ (i * 2 ^ suc k, 2 ^ suc k)
spot_front m k i h = rw (lt-ltb i (m / 2 ^ suc k) h) refl

spot_behind : (m k i : ℕ) → m / 2 ^ suc k ≤ i →
    spot m (suc k) i ≡ (m / 2 ^ suc k * 2 ^ suc k + (spot (m % 2 ^ suc k) k (i - m / 2 ^ suc k)).0, (spot (m % 2 ^ suc k) k (i - m / 2 ^ suc k)).1)
spot_behind m k i h = rw (le-ltb i (m / 2 ^ suc k) h) refl

pub row_spot : (y x m k i : ℕ) → i < length (row_widths m k) → get_or (side_by_side y x (row_widths m k)) i no_slice ≡ slice_at y x (spot m k i)
row_spot y x m zero i h =
    ap (λ l. get_or (side_by_side y x l) i no_slice) (sym (append-nil (replicate m 1)))
    ∙ side_by_side-front y x 1 m i [] (omega (arith, h, length-replicate {A = ℕ} m 1))
    ∙ ap (λ c. record { column = c; row = y; width = 1 }) (omega arith)
row_spot y x m (suc k) i h = elim (cases_lt i (m / 2 ^ suc k)) [
  | inl lt ↦ side_by_side-front y x (2 ^ suc k) (m / 2 ^ suc k) i (row_widths (m % 2 ^ suc k) k) lt ∙ ap (slice_at y x) (sym (spot_front m k i lt))
  | inr le ↦
      let full = m / 2 ^ suc k in
      let j = i - full in
      let e : i ≡ full + j = omega arith in
      let l : j < length (row_widths (m % 2 ^ suc k) k) = omega (arith, h, length-append (replicate full (2 ^ suc k)) (row_widths (m % 2 ^ suc k) k), length-replicate {A = ℕ} full (2 ^ suc k)) in
      ap (λ n. get_or (side_by_side y x (row_widths m (suc k))) n no_slice) e
      ∙ side_by_side-behind y x (2 ^ suc k) full j (row_widths (m % 2 ^ suc k) k)
      ∙ row_spot y (x + full * 2 ^ suc k) (m % 2 ^ suc k) k j l
      ∙ ap (λ c. record { column = c; row = y; width = (spot (m % 2 ^ suc k) k j).1 }) (omega arith)
      ∙ ap (slice_at y x) (sym (spot_behind m k i le))
]

length-row_slices : (columns log2 row : ℕ) → length (row_slices columns log2 row) ≡ length (row_widths columns log2)
unfolding row_slices
length-row_slices columns log2 row = length-side_by_side row 0 (row_widths columns log2)

row_slice : (columns log2 row i : ℕ) → i < length (row_widths columns log2) → get_or (row_slices columns log2 row) i no_slice ≡ slice_at row 0 (spot columns log2 i)
unfolding row_slices
row_slice columns log2 row i h = row_spot row 0 columns log2 i h

-- slice n of a picture is slice n % per of row n / per
pub slice_spot : (rows m k n : ℕ) → 0 < length (row_widths m k) → n < rows * length (row_widths m k) →
    get_or (picture_slices m rows k) n no_slice ≡ slice_at (n / length (row_widths m k)) 0 (spot m k (n % length (row_widths m k)))
unfolding picture_slices
slice_spot rows m k n h l =
    let per = length (row_widths m k) in
    pieces_at no_slice (row_slices m k) per (length-row_slices m k) 0 rows (n / per) (n % per) n (div_below n per rows h l) (mod_below n per h) (div-add-mod' n per)
    ∙ ap (λ y. get_or (row_slices m k y) (n % per) no_slice) (zero-add (n / per))
    ∙ row_slice m k (n / per) (n % per) (mod_below n per h)

pub length-picture_slices : (rows m k : ℕ) → length (picture_slices m rows k) ≡ rows * length (row_widths m k)
unfolding picture_slices
length-picture_slices rows m k = length-pieces (row_slices m k) (length (row_widths m k)) (length-row_slices m k) 0 rows

-- one step towards the narrower slices
pub spot_step_front : (m l i : ℕ) → 0 < l → i < m / 2 ^ l → spot m l i ≡ (i * 2 ^ l, 2 ^ l)
spot_step_front m zero i h k = absurd (omega arith)
spot_step_front m (suc l) i h k = spot_front m l i k

pub spot_step_behind : (m l i : ℕ) → 0 < l → m / 2 ^ l ≤ i →
    spot m l i ≡ (m / 2 ^ l * 2 ^ l + (spot (m % 2 ^ l) (l - 1) (i - m / 2 ^ l)).0, (spot (m % 2 ^ l) (l - 1) (i - m / 2 ^ l)).1)
spot_step_behind m zero i h k = absurd (omega arith)
spot_step_behind m (suc l) i h k =
    let e : l ≡ suc l - 1 = omega arith in
    subst (λ q. spot m (suc l) i ≡ (m / 2 ^ suc l * 2 ^ suc l + (spot (m % 2 ^ suc l) q (i - m / 2 ^ suc l)).0, (spot (m % 2 ^ suc l) q (i - m / 2 ^ suc l)).1))
    e (spot_behind m l i k)

pub row_step : (m l i : ℕ) → 0 < l → m / 2 ^ l ≤ i → i < length (row_widths m l) → i - m / 2 ^ l < length (row_widths (m % 2 ^ l) (l - 1))
row_step m zero i h k n = absurd (omega arith)
row_step m (suc l) i h k n =
    let e : l ≡ suc l - 1 = omega arith in
    subst (λ q. i - m / 2 ^ suc l < length (row_widths (m % 2 ^ suc l) q)) e
    (omega (arith, n, length-append (replicate (m / 2 ^ suc l) (2 ^ suc l)) (row_widths (m % 2 ^ suc l) l), length-replicate {A = ℕ} (m / 2 ^ suc l) (2 ^ suc l)))

pub row_count : (m l : ℕ) → 0 < l → length (row_widths m l) ≡ m / 2 ^ l + length (row_widths (m % 2 ^ l) (l - 1))
row_count m zero h = absurd (omega arith)
row_count m (suc l) h =
    let e : l ≡ suc l - 1 = omega arith in
    subst (λ q. length (row_widths m (suc l)) ≡ m / 2 ^ suc l + length (row_widths (m % 2 ^ suc l) q)) e
    (omega (arith, length-append (replicate (m / 2 ^ suc l) (2 ^ suc l)) (row_widths (m % 2 ^ suc l) l), length-replicate {A = ℕ} (m / 2 ^ suc l) (2 ^ suc l)))

pub row_count_zero : (m : ℕ) → length (row_widths m 0) ≡ m
row_count_zero m = length-replicate m 1

-- no slice is empty
pub row_count_le : (m k : ℕ) → length (row_widths m k) ≤ m
row_count_le m zero = omega (arith, length-replicate {A = ℕ} m 1)
row_count_le m (suc k) =
    let p : m / 2 ^ suc k * 1 ≤ m / 2 ^ suc k * 2 ^ suc k = mul-le (m / 2 ^ suc k) 1 (m / 2 ^ suc k) (2 ^ suc k) (omega arith) (pow_pos (suc k)) in
    omega (arith, p, row_count_le (m % 2 ^ suc k) k, div-add-mod' m (2 ^ suc k), length-append (replicate (m / 2 ^ suc k) (2 ^ suc k)) (row_widths (m % 2 ^ suc k) k), length-replicate {A = ℕ} (m / 2 ^ suc k) (2 ^ suc k))

pub ruleset row_counts = (row_count, row_count_zero, row_count_le)

pub spot_width : (m k i : ℕ) → (spot m k i).1 ≤ 2 ^ k
spot_width m zero i = lit≤ tt
spot_width m (suc k) i = elim (cases_lt i (m / 2 ^ suc k)) [
  | inl lt ↦ rw (spot_front m k i lt) (omega arith)
  | inr le ↦ rw (spot_behind m k i le) (omega (arith, spot_width (m % 2 ^ suc k) k (i - m / 2 ^ suc k)))
]

pub spot_some : (m k i : ℕ) → 0 < (spot m k i).1
spot_some m zero i = lit< tt
spot_some m (suc k) i = elim (cases_lt i (m / 2 ^ suc k)) [
  | inl lt ↦ rw (spot_front m k i lt) (pow_pos (suc k))
  | inr le ↦ rw (spot_behind m k i le) (spot_some (m % 2 ^ suc k) k (i - m / 2 ^ suc k))
]

-- a slice ends in its row
pub spot_inside : (m k i : ℕ) → i < length (row_widths m k) → (spot m k i).0 + (spot m k i).1 ≤ m
spot_inside m zero i h = omega (arith, h, length-replicate {A = ℕ} m 1)
spot_inside m (suc k) i h = elim (cases_lt i (m / 2 ^ suc k)) [
  | inl lt ↦ rw (spot_front m k i lt) (omega (arith, row_fits i (2 ^ suc k) (m / 2 ^ suc k) (2 ^ suc k) lt (omega arith), div-add-mod' m (2 ^ suc k)))
  | inr le ↦
      let full = m / 2 ^ suc k in
      let l : i - full < length (row_widths (m % 2 ^ suc k) k) = omega (arith, h, length-append (replicate full (2 ^ suc k)) (row_widths (m % 2 ^ suc k) k), length-replicate {A = ℕ} full (2 ^ suc k)) in
      rw (spot_behind m k i le) (omega (arith, spot_inside (m % 2 ^ suc k) k (i - full) l, div-add-mod' m (2 ^ suc k)))
]

some_row : (rows n number : ℕ) → number < rows * n → 0 < n
some_row rows zero number h = absurd (omega arith)
some_row rows (suc n) number h = omega arith

-- the slice of a number: its row, and its place in the row
module _ (rows m l number count : ℕ) (e : count ≡ length (row_widths m l)) (h : number < length (picture_slices m rows l)) where
  inside : number < rows * length (row_widths m l)
  inside = omega (arith, h, length-picture_slices rows m l)

  pub some_slices : 0 < count
  some_slices = omega (arith, some_row rows (length (row_widths m l)) number inside)

  pub in_row : number % count < length (row_widths m l)
  in_row = omega (arith, mod_below number count some_slices)

  pub row_below : number / count < rows
  row_below = div_below number count rows some_slices (subst (λ n. number < rows * n) (sym e) inside)

  pub slice_is : slice_at (number / count) 0 (spot m l (number % count)) ≡ get_or (picture_slices m rows l) number no_slice
  slice_is =
      let s : slice_at (number / length (row_widths m l)) 0 (spot m l (number % length (row_widths m l))) ≡ get_or (picture_slices m rows l) number no_slice =
      sym (slice_spot rows m l number (some_row rows (length (row_widths m l)) number inside) inside) in
      subst (λ n. slice_at (number / n) 0 (spot m l (number % n)) ≡ get_or (picture_slices m rows l) number no_slice) (sym e) s

-- every slice of a picture has a place in its row
pub slice_bounds : (rows m l number : ℕ) → number < length (picture_slices m rows l)
    → let s = get_or (picture_slices m rows l) number no_slice in (0 < s.width) × (s.width ≤ 2 ^ l) × (s.column + s.width ≤ m) × (s.row < rows)
slice_bounds rows m l number h =
    let per = length (row_widths m l) in
    let i = number % per in
    let e = slice_is rows m l number per refl h in
    let p = in_row rows m l number per refl h in
    subst (λ (s : SlicePlace). (0 < s.width) × (s.width ≤ 2 ^ l) × (s.column + s.width ≤ m) × (s.row < rows)) e
    (spot_some m l i, spot_width m l i, omega (arith, spot_inside m l i p), row_below rows m l number per refl h)

-- the same of a slice that is one of a picture's
pub slice_inside : (rows m l : ℕ) (slice : SlicePlace) → l ≤ 3 → Contains (picture_slices m rows l) slice
    → (0 < slice.width) × (slice.width ≤ 8) × (slice.column + slice.width ≤ m) × (slice.row < rows)
slice_inside rows m l slice small h =
    let e : get_or (picture_slices m rows l) h.0 no_slice ≡ slice = get_or_default (picture_slices m rows l) h.0 no_slice slice h.1 ∙ h.2 in
    let b : (0 < slice.width) × (slice.width ≤ 2 ^ l) × (slice.column + slice.width ≤ m) × (slice.row < rows) =
    subst (λ (s : SlicePlace). (0 < s.width) × (s.width ≤ 2 ^ l) × (s.column + s.width ≤ m) × (s.row < rows)) e (slice_bounds rows m l h.0 h.1) in
    (b.0, omega (arith, b.1, pow_mono {i = l} {j = 3} small), b.2, b.3)

-- ---- the columns of a row's slices

range_append : (a m n : ℕ) → range_with_len a m ++ range_with_len (a + m) n ≡ range_with_len a (m + n)
range_append a zero n = λ i. range_with_len (add-zero a i) (sym (zero-add n) i)
range_append a (suc m) n =
    let c : a + suc m ≡ a + 1 + m = omega arith in
    let e : suc (m + n) ≡ suc m + n = omega arith in
    ap (λ k. range_with_len a (suc m) ++ range_with_len k n) c ∙ ap (λ (l : List ℕ). a ∷ l) (range_append (a + 1) m n) ∙ ap (range_with_len a) e

-- slices side by side have all columns from the first on, as many as their widths make together
side_by_side_columns : (row column : ℕ) (widths : List ℕ) → flat_map slice_columns (side_by_side row column widths) ≡ range_with_len column (sum widths)
side_by_side_columns row column [] = refl
side_by_side_columns row column (w ∷ ws) =
    ap (λ (l : List ℕ). range_with_len column w ++ l) (side_by_side_columns row (column + w) ws)
    ∙ range_append column w (sum ws) ∙ ap (range_with_len column) (sym (sum_by-cons (λ x. x) w ws))

sum-row_widths : (m k : ℕ) → sum (row_widths m k) ≡ m
sum-row_widths m zero = omega (arith, sum_by-replicate (λ x. x) m 1)
sum-row_widths m (suc k) =
    omega (
      arith,
      sum_by-append (λ x. x) (replicate (m / 2 ^ suc k) (2 ^ suc k)) (row_widths (m % 2 ^ suc k) k),
      sum_by-replicate (λ x. x) (m / 2 ^ suc k) (2 ^ suc k),
      sum-row_widths (m % 2 ^ suc k) k,
      div-add-mod' m (2 ^ suc k),
    )

pub row_columns : (m k row : ℕ) → flat_map slice_columns (row_slices m k row) ≡ range_with_len 0 m
unfolding row_slices
row_columns m k row = side_by_side_columns row 0 (row_widths m k) ∙ ap (range_with_len 0) (sum-row_widths m k)

-- ---- how many slices there are

pub product_small : (rows m k : ℕ) → rows ≤ 270 → m ≤ 512 → rows * length (row_widths m k) < 2 ^ 32
product_small rows m k r c = omega (arith, mul-le rows (length (row_widths m k)) 270 512 r (omega (arith, row_count_le m k)))

pub pictures_small : (interlace : Interlace) (n : ℕ) → n ≤ 65535 → pictures_of interlace * n ≤ 131070
pictures_small Progressive n h = omega arith
pictures_small TopFirst n h = omega arith
pictures_small BottomFirst n h = omega arith

pub height_small : (interlace : Interlace) (height : ℕ) → height / pictures_of interlace ≤ height
height_small Progressive height = omega arith
height_small TopFirst height = omega arith
height_small BottomFirst height = omega arith

-- a frame that is cut into whole pictures has rows in each
pub pictures_whole : (interlace : Interlace) (height : ℕ) → 0 < height → height % pictures_of interlace ≡ 0 → 0 < height / pictures_of interlace
pictures_whole Progressive height h e = omega arith
pictures_whole TopFirst height h e = omega arith
pictures_whole BottomFirst height h e = omega arith

-- a row has a slice
row_some : (m k : ℕ) → 0 < m → 0 < length (row_widths m k)
row_some m zero h = omega (arith, length-replicate {A = ℕ} m 1)
row_some m (suc k) h =
    let full = m / 2 ^ suc k in
    let count = length-append (replicate full (2 ^ suc k)) (row_widths (m % 2 ^ suc k) k) in
    elim (cases_lt 0 full) [
      | inl some ↦ omega (arith, count, length-replicate {A = ℕ} full (2 ^ suc k))
      | inr none ↦
          let e : full ≡ 0 = omega arith in
          let rest : m % 2 ^ suc k ≡ m = omega (arith, div-add-mod' m (2 ^ suc k), ap (λ q. q * 2 ^ suc k) e) in
          omega (arith, count, row_some (m % 2 ^ suc k) k (omega arith))
    ]

pub picture_some : (rows m k : ℕ) → 0 < rows → 0 < m → 0 < length (picture_slices m rows k)
picture_some rows m k r c = omega (arith, length-picture_slices rows m k, mul-le 1 1 rows (length (row_widths m k)) (omega arith) (omega (arith, row_some m k c)))
