-- Fields at an offset of a list, and of a prefix of a list.
use Rattle.std.proofs.Common.{◌≡◌, ℕ, zero, suc, ◌+◌, ◌-◌, ◌≤◌, List, [], ◌∷◌, ◌++◌, length, take, drop, get_or, refl, ap, sym, ◌∙◌, arith}
use Rattle.std.specs.Int.{w16, w32, from_be_bytes}
use Rattle.std.proofs.lemmas.List.{take-take, drop-take}
use Rattle.pr_head.specs.Bytes.{number16, number32}

pub two_at : (s : List ℕ) (k : ℕ) → k + 2 ≤ length s → take 2 (drop k s) ≡ get_or s k 0 ∷ get_or s (k + 1) 0 ∷ []
two_at [] k h = absurd (omega arith)
two_at (a ∷ []) k h = absurd (omega arith)
two_at (a ∷ b ∷ s) zero h = refl
two_at (a ∷ b ∷ s) (suc k) h =
    let e : suc k + 1 ≡ suc (k + 1) = omega arith in
    two_at (b ∷ s) k (omega arith) ∙ ap (λ j. get_or (b ∷ s) k 0 ∷ get_or (a ∷ b ∷ s) j 0 ∷ []) (sym e)

pub four_at : (s : List ℕ) (k : ℕ) → k + 4 ≤ length s → take 4 (drop k s) ≡ get_or s k 0 ∷ get_or s (k + 1) 0 ∷ get_or s (k + 2) 0 ∷ get_or s (k + 3) 0 ∷ []
four_at (a ∷ b ∷ c ∷ d ∷ s) zero h = refl
four_at [] k h = absurd (omega arith)
four_at (a ∷ s) (suc k) h =
    let e1 : suc k + 1 ≡ suc (k + 1) = omega arith in
    let e2 : suc k + 2 ≡ suc (k + 2) = omega arith in
    let e3 : suc k + 3 ≡ suc (k + 3) = omega arith in
    four_at s k (omega arith) ∙ rw (e1, e2, e3) refl
four_at (a ∷ []) zero h = absurd (omega arith)
four_at (a ∷ b ∷ []) zero h = absurd (omega arith)
four_at (a ∷ b ∷ c ∷ []) zero h = absurd (omega arith)

-- ---- a prefix of a list has the same fields

pub front_piece : (j k n : ℕ) (l : List ℕ) → k + j ≤ n → take j (drop k (take n l)) ≡ take j (drop k l)
front_piece j k n l h =
    let e : n ≡ k + (n - k) = omega arith in
    ap (λ v. take j (drop k (take v l))) e ∙ ap (take j) (drop-take k (n - k) l) ∙ take-take j (n - k) (drop k l) (omega arith)

pub number16-front : (n k : ℕ) (l : List ℕ) → k + 2 ≤ n → number16 (take n l) k ≡ number16 l k
unfolding number16
number16-front n k l h = ap (from_be_bytes w16) (front_piece 2 k n l h)

pub number32-front : (n k : ℕ) (l : List ℕ) → k + 4 ≤ n → number32 (take n l) k ≡ number32 l k
unfolding number32
number32-front n k l h = ap (from_be_bytes w32) (front_piece 4 k n l h)

-- a number further on
pub number16-drop : (k : ℕ) (l : List ℕ) → number16 (take 2 (drop k l)) 0 ≡ number16 l k
unfolding number16
number16-drop k l = ap (from_be_bytes w16) (take-take 2 2 (drop k l) (omega arith))

-- ---- a list after another

pub take_front : (a b : List ℕ) (n : ℕ) → length a ≡ n → take n (a ++ b) ≡ a
take_front [] b zero e = refl
take_front [] b (suc n) e = absurd (omega arith)
take_front (x ∷ a) b zero e = absurd (omega arith)
take_front (x ∷ a) b (suc n) e = ap (λ l. x ∷ l) (take_front a b n (omega arith))

pub drop_front : (a b : List ℕ) (n : ℕ) → length a ≡ n → drop n (a ++ b) ≡ b
drop_front [] b zero e = refl
drop_front [] b (suc n) e = absurd (omega arith)
drop_front (x ∷ a) b zero e = absurd (omega arith)
drop_front (x ∷ a) b (suc n) e = drop_front a b n (omega arith)
