-- Coefficients that are written at their indices in scan order.
use Rattle.std.proofs.Common.{◌≡◌, ◌≢◌, ℕ, zero, suc, ◌+◌, ◌-◌, ◌*◌, ◌/◌, ◌%◌, ◌<◌, inl, inr, List, [], ◌∷◌, ◌++◌, length, replicate, get_or, set, refl, ap, sym, ◌∙◌, arith, append_assoc, ℤ, pos}
use Rattle.std.proofs.lemmas.Bool.{cases_eq}
use Rattle.std.proofs.lemmas.Nat.{div_below, mod_below, div-add-mod', div-mul-add, mul-add-lt}
use Rattle.std.proofs.lemmas.List.{length-replicate, length-set, get_or-set_other, get_or-set_same, ext_get_or}
use Rattle.pr_coeff.specs.Component.{Block, column, listed, index_of, IsScan, IsSmall, AllSmall, AreBlocks}
use Rattle.pr_coeff.proofs.WovenLemmas.{length-listed, listed-at, AreBlocks_at}

-- different indices have different positions
same_place : (scan : List ℕ) → IsScan scan → (j k : ℕ) → j < 64 → k < 64 → get_or scan j 0 ≡ get_or scan k 0 → j ≡ k
same_place scan s j k x y e = sym (s.places j x).1 ∙ ap (λ p. index_of p scan) e ∙ (s.places k y).1

pub small_set : (b : List ℤ) (p : ℕ) (v : ℤ) → IsSmall v → AllSmall b → AllSmall (set b p v)
small_set [] p v h a = a
small_set (x ∷ b) zero v h a = (h, a.1)
small_set (x ∷ b) (suc p) v h a = (a.0, small_set b p v h a.1)

pub blocks_set : (blocks : List Block) (i p : ℕ) (v : ℤ) → IsSmall v → AreBlocks blocks → AreBlocks (set blocks i (set (get_or blocks i []) p v))
blocks_set [] i p v h a = a
blocks_set (b ∷ bs) zero p v h a = (length-set b p v ∙ a.0, small_set b p v h a.1, a.2)
blocks_set (b ∷ bs) (suc i) p v h a = (a.0, a.1, blocks_set bs i p v h a.2)

number_in : (k i n : ℕ) → k < 64 → i < n → k * n + i < 64 * n
number_in k i n h l = omega (arith, mul-add-lt k n i 64 h l)

-- indices are the same only if their parts are
same_number : (k i j m n : ℕ) → i < n → m < n → j * n + m ≡ k * n + i → j ≡ k
same_number k i j m n h l e = sym (div-mul-add j n m l) ∙ ap (λ x. x / n) e ∙ div-mul-add k n i h

same_rest : (k i j m n : ℕ) → i < n → m < n → j * n + m ≡ k * n + i → m ≡ i
same_rest k i j m n h l e = let same = same_number k i j m n h l e in omega (arith, e, ap (λ x. x * n) same)

-- the value at another index or at this one
at_number : (scan : List ℕ) → IsScan scan → (blocks : List Block) → AreBlocks blocks → (k i j m : ℕ) (v : ℤ) → k < 64 → i < length blocks → j < 64 → m < length blocks →
    get_or (get_or (set blocks i (set (get_or blocks i []) (get_or scan k 0) v)) m []) (get_or scan j 0) (pos 0)
    ≡ get_or (set (listed scan blocks) (k * length blocks + i) v) (j * length blocks + m) (pos 0)
at_number scan s blocks a k i j m v k_in i_in j_in m_in =
    let n = length blocks in
    let b = get_or blocks i [] in
    let p = get_or scan k 0 in
    let q = get_or scan j 0 in
    let len : length (listed scan blocks) ≡ 64 * n = length-listed scan blocks ∙ ap (λ x. x * n) s.size in
    let place_in : k * n + i < length (listed scan blocks) = omega (arith, len, number_in k i n k_in i_in) in
    elim (cases_eq m i) [
      | inl same ↦
          let row : get_or (set blocks i (set b p v)) m [] ≡ set b p v = ap (λ x. get_or (set blocks i (set b p v)) x []) same ∙ get_or-set_same blocks i (set b p v) [] i_in in
          elim (cases_eq j k) [
            | inl here ↦
                let p_in : p < length b = omega (arith, (s.places k k_in).0, (AreBlocks_at blocks i a i_in).0) in
                ap (λ r. get_or r q (pos 0)) row ∙ ap (λ x. get_or (set b p v) (get_or scan x 0) (pos 0)) here ∙ get_or-set_same b p v (pos 0) p_in
                ∙ sym (get_or-set_same (listed scan blocks) (k * n + i) v (pos 0) place_in)
                ∙ ap (λ x. get_or (set (listed scan blocks) (k * n + i) v) x (pos 0)) (ap (λ x. k * n + x) (sym same) ∙ ap (λ x. x * n + m) (sym here))
            | inr other ↦
                let ne : q ≢ p = λ e. other (same_place scan s j k j_in k_in e) in
                let far : j * n + m ≢ k * n + i = λ e. other (same_number k i j m n i_in m_in e) in
                ap (λ r. get_or r q (pos 0)) row ∙ get_or-set_other b p q v (pos 0) ne ∙ ap (λ x. get_or (get_or blocks x []) q (pos 0)) (sym same)
                ∙ sym (listed-at scan blocks j m (omega (arith, s.size)) m_in) ∙ sym (get_or-set_other (listed scan blocks) (k * n + i) (j * n + m) v (pos 0) far)
          ]
      | inr other ↦
          let row : get_or (set blocks i (set b p v)) m [] ≡ get_or blocks m [] = get_or-set_other blocks i m (set b p v) [] other in
          let far : j * n + m ≢ k * n + i = λ e. other (same_rest k i j m n i_in m_in e) in
          ap (λ r. get_or r q (pos 0)) row ∙ sym (listed-at scan blocks j m (omega (arith, s.size)) m_in)
          ∙ sym (get_or-set_other (listed scan blocks) (k * n + i) (j * n + m) v (pos 0) far)
    ]

pub listed_set : (scan : List ℕ) → IsScan scan → (blocks : List Block) → AreBlocks blocks → (index p : ℕ) (v : ℤ) → 0 < length blocks → index < 64 * length blocks → p ≡ get_or scan (index / length blocks) 0 →
    listed scan (set blocks (index % length blocks) (set (get_or blocks (index % length blocks) []) p v)) ≡ set (listed scan blocks) index v
listed_set scan s blocks a index p v some inside is =
    let n = length blocks in
    let i = index % n in
    let k = index / n in
    let new = set blocks i (set (get_or blocks i []) (get_or scan k 0) v) in
    let size : length new ≡ n = length-set blocks i (set (get_or blocks i []) (get_or scan k 0) v) in
    let here : k * n + i ≡ index = div-add-mod' index n in
    let len : length (listed scan new) ≡ 64 * n = length-listed scan new ∙ ap (λ x. x * length new) s.size ∙ ap (λ x. 64 * x) size in
    let len2 : length (set (listed scan blocks) index v) ≡ 64 * n = length-set (listed scan blocks) index v ∙ length-listed scan blocks ∙ ap (λ x. x * n) s.size in
    ap (λ x. listed scan (set blocks i (set (get_or blocks i []) x v))) is
    ∙ ext_get_or (pos 0) (listed scan new) (set (listed scan blocks) index v) (len ∙ sym len2) (λ j h.
    let m = j % n in
    let l = j / n in
    let at : l * n + m ≡ j = div-add-mod' j n in
    let m_in : m < n = mod_below j n some in
    let l_in : l < 64 = div_below j n 64 some (omega (arith, h, len)) in
    ap (λ x. get_or (listed scan new) x (pos 0)) (sym at ∙ ap (λ x. l * x + m) (sym size))
    ∙ listed-at scan new l m (omega (arith, l_in, s.size)) (omega (arith, m_in, size))
    ∙ at_number scan s blocks a k i l m v (div_below index n 64 some inside) (mod_below index n some) l_in m_in
    ∙ ap (λ x. get_or (set (listed scan blocks) x v) (l * n + m) (pos 0)) here
    ∙ ap (λ x. get_or (set (listed scan blocks) index v) x (pos 0)) at)

-- ---- a list that ends in zeros

set_zeros : (j n : ℕ) (v : ℤ) → j < n → set (replicate n (pos 0)) j v ≡ (replicate j (pos 0) ++ v ∷ []) ++ replicate (n - j - 1) (pos 0)
set_zeros j zero v h = absurd (omega arith)
set_zeros zero (suc n) v h = ap (λ x. v ∷ replicate x (pos 0)) (let e : n ≡ suc n - 0 - 1 = omega arith in e)
set_zeros (suc j) (suc n) v h =
    ap (λ l. pos 0 ∷ l) (set_zeros j n v (omega arith)) ∙ ap (λ x. pos 0 ∷ ((replicate j (pos 0) ++ v ∷ []) ++ replicate x (pos 0))) (let e : n - j - 1 ≡ suc n - suc j - 1 = omega arith in e)

set_append : (a b : List ℤ) (j : ℕ) (v : ℤ) → set (a ++ b) (length a + j) v ≡ a ++ set b j v
set_append [] b j v = ap (λ x. set b x v) (let e : 0 + j ≡ j = omega arith in e)
set_append (x ∷ a) b j v =
    ap (λ y. set (x ∷ (a ++ b)) y v) (let e : suc (length a) + j ≡ suc (length a + j) = omega arith in e) ∙ ap (λ l. x ∷ l) (set_append a b j v)

pub set_behind : (a : List ℤ) (j n : ℕ) (v : ℤ) → j < n →
    set (a ++ replicate n (pos 0)) (length a + j) v ≡ a ++ ((replicate j (pos 0) ++ v ∷ []) ++ replicate (n - j - 1) (pos 0))
set_behind a j n v h = set_append a (replicate n (pos 0)) j v ∙ ap (λ l. a ++ l) (set_zeros j n v h)

pub put_at : (xs a : List ℤ) (j n index : ℕ) (v : ℤ) → xs ≡ a ++ replicate n (pos 0) → index ≡ length a + j → j < n →
    set xs index v ≡ (a ++ (replicate j (pos 0) ++ v ∷ [])) ++ replicate (n - j - 1) (pos 0)
put_at xs a j n index v e is h =
    ap (λ x. set x index v) e ∙ ap (λ i. set (a ++ replicate n (pos 0)) i v) is ∙ set_behind a j n v h
    ∙ sym (append_assoc a (replicate j (pos 0) ++ v ∷ []) (replicate (n - j - 1) (pos 0)))

-- ---- blocks that are 0 everywhere

get_or_zeros : (m p : ℕ) → get_or (replicate m (pos 0)) p (pos 0) ≡ pos 0
get_or_zeros zero p = refl
get_or_zeros (suc m) zero = refl
get_or_zeros (suc m) (suc p) = get_or_zeros m p

small_zeros : (n : ℕ) → AllSmall (replicate n (pos 0))
small_zeros zero = tt
small_zeros (suc n) = (omega arith, small_zeros n)

abbrev pub zero_block : Block
zero_block = replicate 64 (pos 0)

pub all_same : (z : Block) (xs : List Block) → ((k : ℕ) → k < length xs → get_or xs k [] ≡ z) → xs ≡ replicate (length xs) z
all_same z [] h = refl
all_same z (x ∷ xs) h = ap (λ y. y ∷ xs) (h 0 (omega arith)) ∙ ap (λ l. z ∷ l) (all_same z xs (λ k l. h (suc k) (omega arith)))

pub zero_blocks : (n : ℕ) → AreBlocks (replicate n zero_block)
zero_blocks zero = tt
zero_blocks (suc n) = (length-replicate 64 (pos 0), small_zeros 64, zero_blocks n)

zeros_both : (a b : ℕ) → replicate a (pos 0) ++ replicate b (pos 0) ≡ replicate (a + b) (pos 0)
zeros_both zero b = ap (λ n. replicate n (pos 0)) (let e : b ≡ 0 + b = omega arith in e)
zeros_both (suc a) b = ap (λ l. pos 0 ∷ l) (zeros_both a b) ∙ ap (λ n. replicate n (pos 0)) (let e : suc (a + b) ≡ suc a + b = omega arith in e)

column_zeros : (n p : ℕ) → column (replicate n zero_block) p ≡ replicate n (pos 0)
column_zeros zero p = refl
column_zeros (suc n) p = ap (λ v. v ∷ column (replicate n zero_block) p) (get_or_zeros 64 p) ∙ ap (λ l. pos 0 ∷ l) (column_zeros n p)

pub listed_zeros : (ps : List ℕ) (n : ℕ) → listed ps (replicate n zero_block) ≡ replicate (length ps * n) (pos 0)
listed_zeros [] n = ap (λ m. replicate m (pos 0)) (let e : 0 ≡ 0 * n = omega arith in e)
listed_zeros (p ∷ ps) n =
    ap (λ l. l ++ listed ps (replicate n zero_block)) (column_zeros n p) ∙ ap (λ l. replicate n (pos 0) ++ l) (listed_zeros ps n)
    ∙ zeros_both n (length ps * n) ∙ ap (λ m. replicate m (pos 0)) (let e : n + length ps * n ≡ suc (length ps) * n = omega arith in e)
