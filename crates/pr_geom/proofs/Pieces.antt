-- Pieces of one length, joined end to end.
use Rattle.std.proofs.Common.{◌≡◌, ℕ, zero, suc, ◌+◌, ◌*◌, ◌<◌, List, ◌++◌, length, get_or, refl, ap, ◌∙◌, arith, length-append}
use Rattle.std.specs.List.{flat_map, range_with_len}
use Rattle.std.proofs.lemmas.List.{get_or_append_left, get_or-append-add}

-- element i of piece y
pub pieces_at : {X : Type 0} (d : X) (f : ℕ → List X) (per : ℕ) → ((y : ℕ) → length (f y) ≡ per) → (a n y i j : ℕ) → y < n → i < per → y * per + i ≡ j →
    get_or (flat_map f (range_with_len a n)) j d ≡ get_or (f (a + y)) i d
pieces_at d f per e a zero y i j h l p = absurd (omega arith)
pieces_at d f per e a (suc n) zero i j h l p =
    let q : j ≡ i = omega arith in
    let z : a ≡ a + 0 = omega arith in
    ap (λ k. get_or (f a ++ flat_map f (range_with_len (a + 1) n)) k d) q
    ∙ get_or_append_left (f a) (flat_map f (range_with_len (a + 1) n)) d i (omega (arith, e a))
    ∙ ap (λ k. get_or (f k) i d) z
pieces_at d f per e a (suc n) (suc y) i j h l p =
    let q : j ≡ length (f a) + (y * per + i) = omega (arith, e a) in
    let z : a + 1 + y ≡ a + suc y = omega arith in
    ap (λ k. get_or (f a ++ flat_map f (range_with_len (a + 1) n)) k d) q
    ∙ get_or-append-add (f a) (flat_map f (range_with_len (a + 1) n)) (y * per + i) d
    ∙ pieces_at d f per e (a + 1) n y i (y * per + i) (omega arith) l refl
    ∙ ap (λ k. get_or (f k) i d) z

pub length-pieces : {X : Type 0} (f : ℕ → List X) (per : ℕ) → ((y : ℕ) → length (f y) ≡ per) → (a n : ℕ) → length (flat_map f (range_with_len a n)) ≡ n * per
length-pieces f per e a zero = omega arith
length-pieces f per e a (suc n) = omega (arith, length-append (f a) (flat_map f (range_with_len (a + 1) n)), e a, length-pieces f per e (a + 1) n)
