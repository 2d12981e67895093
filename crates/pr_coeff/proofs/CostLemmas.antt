-- How many bits coefficients cost.
use Rattle.std.proofs.Common.{◌≡◌, ℕ, zero, suc, ◌+◌, ◌-◌, ◌*◌, ◌%◌, ◌^◌, ◌<◌, ◌≤◌, Bool, true, false, List, [], ◌∷◌, ◌++◌, length, drop, get_or, refl, ap, ◌∙◌, subst, arith, length-append, ℤ, pos, negsuc, ◌-ℤ◌, nat_abs}
use Rattle.std.proofs.lemmas.List.{length-drop, length-replicate}
use Rattle.pr_codes.specs.declared.book.Codebook.{Codebook}
use Rattle.pw_bits.specs.Bits.{bits, bytes, padding}
use Rattle.pw_bits.proofs.BitsLemmas.{pow_mono_at, pow_suc, bits-bytes}
use Rattle.pw_bits.proofs.SpelledLemmas.{length_of_bits}
use Rattle.pr_codes.specs.Words.{word, book, is_book}
use Rattle.pr_codes.proofs.WordsLemmas.{plain, length-word-le}
use Rattle.pr_coeff.specs.Component.{Block, dc_book, run_book, level_book, folded, turned, is_negative, dc_words, all_dc_words, ac_words, column, listed, IsScan, spelling, component, AllSmall, AreBlocks}
use Rattle.pr_coeff.proofs.ComponentLemmas.{is_book-dc, is_book-run, is_book-level, folded-le, abs-turned, abs-sub}
use Rattle.pr_coeff.proofs.WovenLemmas.{length-column, length-listed}

-- the magnitudes are below 2^k
abbrev pub AllUnder : ℕ → List ℤ → Type 0
AllUnder k [] = Unit {0}
AllUnder k (v ∷ vs) = (nat_abs v < 2 ^ k) × AllUnder k vs

under_both : (k : ℕ) (a b : List ℤ) → AllUnder k a → AllUnder k b → AllUnder k (a ++ b)
under_both k [] b x y = y
under_both k (v ∷ a) b x y = (x.0, under_both k a b x.1 y)

pub under_column : (k : ℕ) (blocks : List Block) (p : ℕ) → ((i q : ℕ) → nat_abs (get_or (get_or blocks i []) q (pos 0)) < 2 ^ k) → AllUnder k (column blocks p)
under_column k [] p h = tt
under_column k (b ∷ bs) p h = (h 0 p, under_column k bs p (λ i q. h (suc i) q))

pub under_listed : (k : ℕ) (places : List ℕ) (blocks : List Block) → ((i q : ℕ) → nat_abs (get_or (get_or blocks i []) q (pos 0)) < 2 ^ k) → AllUnder k (listed places blocks)
under_listed k [] blocks h = tt
under_listed k (p ∷ ps) blocks h = under_both k (column blocks p) (listed ps blocks) (under_column k blocks p h) (under_listed k ps blocks h)

pub under_small : (vs : List ℤ) → AllSmall vs → (i : ℕ) → nat_abs (get_or vs i (pos 0)) < 2 ^ 15
under_small [] h i = omega arith
under_small (v ∷ vs) h zero = omega (arith, h.0)
under_small (v ∷ vs) h (suc i) = under_small vs h.1 i

pub under_blocks : (blocks : List Block) → AreBlocks blocks → (i q : ℕ) → nat_abs (get_or (get_or blocks i []) q (pos 0)) < 2 ^ 15
under_blocks [] h i q = omega arith
under_blocks (b ∷ bs) h zero q = under_small b h.1 q
under_blocks (b ∷ bs) h (suc i) q = under_blocks bs h.2 i q

-- ---- codewords

pub small_exp : (b : Codebook) → is_book b ≡ true → 2 ^ b.exp ≤ 128
small_exp b is = let p = plain b is in omega (arith, pow_mono_at b.exp 7 (let e : b.exp ≤ 7 = omega (arith, p.exp) in e))

pub run_cost : (run k : ℕ) → k < 2016 → length (word (run_book run) k) ≤ 25
run_cost run k h = length-word-le (run_book run) k 11 (is_book-run run) (omega arith) (omega (arith, small_exp (run_book run) (is_book-run run)))

pub level_cost : (magnitude m k : ℕ) → 7 ≤ k → m < 2 ^ k → length (word (level_book magnitude) m) ≤ 2 * k + 3
level_cost magnitude m k seven h =
    let two : 2 ^ (k + 1) ≡ 2 ^ k + 2 ^ k = ap (λ n. 2 ^ n) (let e : k + 1 ≡ suc k = omega arith in e) ∙ pow_suc k in
    length-word-le (level_book magnitude) m k (is_book-level magnitude) (omega arith)
    (omega (arith, small_exp (level_book magnitude) (is_book-level magnitude), pow_mono_at 7 k seven, two))

-- the codeword of a code that is at most four times 2^k
pub code_cost : (b : Codebook) (n k : ℕ) → is_book b ≡ true → 7 ≤ k → n < 2 ^ k + 2 ^ k + 2 ^ k + 2 ^ k → length (word b n) ≤ 2 * k + 7
code_cost b n k is seven h =
    let one = pow_suc k in
    let two = pow_suc (suc k) in
    let three : 2 ^ (k + 2 + 1) ≡ 2 ^ suc (suc k) + 2 ^ suc (suc k) = ap (λ n. 2 ^ n) (let e : k + 2 + 1 ≡ suc (suc (suc k)) = omega arith in e) ∙ pow_suc (suc (suc k)) in
    let le = length-word-le b n (k + 2) is (omega arith) (omega (arith, small_exp b is, pow_mono_at 7 k seven, one, two, three)) in
    omega (arith, le)

-- ---- coefficients

one_cost : (k n : ℕ) (a b c : List Bool) (s : Bool) → length a ≤ 25 → length b ≤ 2 * k + 3 → length c ≤ (2 * k + 29) * n → length (a ++ (b ++ s ∷ c)) ≤ (2 * k + 29) * suc n
one_cost k n a b c s x y z =
    let e : (2 * k + 29) * suc n ≡ (2 * k + 29) * n + (2 * k + 29) = omega arith in
    omega (arith, e, length-append a (b ++ s ∷ c), length-append b (s ∷ c))

more_cost : (k n l : ℕ) → l ≤ (2 * k + 29) * n → l ≤ (2 * k + 29) * suc n
more_cost k n l h =
    let e : (2 * k + 29) * suc n ≡ (2 * k + 29) * n + (2 * k + 29) = omega arith in
    omega (arith, e)

values_cost : (bits run magnitude k : ℕ) (vs : List ℤ) → 7 ≤ bits → k + length vs ≤ 2016 → AllUnder bits vs → length (ac_words run magnitude k vs) ≤ (2 * bits + 29) * length vs
values_cost bits run magnitude k [] s h a = omega arith
values_cost bits run magnitude k (pos zero ∷ vs) s h a = more_cost bits (length vs) (length (ac_words run magnitude (suc k) vs)) (values_cost bits run magnitude (suc k) vs s (omega arith) a.1)
values_cost bits run magnitude k (pos (suc m) ∷ vs) s h a =
    one_cost bits (length vs) (word (run_book run) k) (word (level_book magnitude) m) (ac_words k (suc m) 0 vs) false
    (run_cost run k (omega arith)) (level_cost magnitude m bits s (omega (arith, a.0))) (values_cost bits k (suc m) 0 vs s (omega arith) a.1)
values_cost bits run magnitude k (negsuc m ∷ vs) s h a =
    one_cost bits (length vs) (word (run_book run) k) (word (level_book magnitude) m) (ac_words k (suc m) 0 vs) true
    (run_cost run k (omega arith)) (level_cost magnitude m bits s (omega (arith, a.0))) (values_cost bits k (suc m) 0 vs s (omega arith) a.1)

code_more : (k n : ℕ) (a b : List Bool) → length a ≤ 2 * k + 7 → length b ≤ (2 * k + 29) * n → length (a ++ b) ≤ (2 * k + 29) * suc n
code_more k n a b x y =
    let e : (2 * k + 29) * suc n ≡ (2 * k + 29) * n + (2 * k + 29) = omega arith in
    omega (arith, e, length-append a b)

pub difference_under : (k : ℕ) (neg : Bool) (d last : ℤ) → nat_abs d < 2 ^ k → nat_abs last < 2 ^ k → folded (turned neg (d -ℤ last)) < 2 ^ k + 2 ^ k + 2 ^ k + 2 ^ k
difference_under k neg d last x y = omega (arith, folded-le (turned neg (d -ℤ last)), abs-turned neg (d -ℤ last), abs-sub d last)

dc_cost : (k : ℕ) (last : ℤ) (neg : Bool) (code : ℕ) (ds : List ℤ) → 7 ≤ k → nat_abs last < 2 ^ k → AllUnder k ds → length (dc_words last neg code ds) ≤ (2 * k + 29) * length ds
dc_cost k last neg code [] s h a = omega arith
dc_cost k last neg code (d ∷ ds) s h a =
    let c = folded (turned neg (d -ℤ last)) in
    code_more k (length ds) (word (dc_book code) c) (dc_words d (is_negative (d -ℤ last)) c ds)
    (code_cost (dc_book code) c k (is_book-dc code) s (difference_under k neg d last a.0 h)) (dc_cost k d (is_negative (d -ℤ last)) c ds s a.0 a.1)

all_dc_cost : (k : ℕ) (ds : List ℤ) → 7 ≤ k → AllUnder k ds → length (all_dc_words ds) ≤ (2 * k + 29) * length ds
all_dc_cost k [] s a = omega arith
all_dc_cost k (d ∷ ds) s a =
    code_more k (length ds) (word (book 0 5 6) (folded d)) (dc_words d false 5 ds)
    (code_cost (book 0 5 6) (folded d) k refl s (omega (arith, folded-le d, a.0))) (dc_cost k d false 5 ds s a.0 a.1)

-- ---- a component

length-bytes : (l : List Bool) → 8 * length (bytes l) ≤ length l + 7
length-bytes l = omega (arith, length_of_bits (bytes l), ap length (bits-bytes l), length-append l (padding l), length-replicate ((8 - length l % 8) % 8) false)

pub component_cost : (k : ℕ) (scan : List ℕ) (blocks : List Block) → IsScan scan → 7 ≤ k → length blocks ≤ 32 → ((i q : ℕ) → nat_abs (get_or (get_or blocks i []) q (pos 0)) < 2 ^ k) →
    8 * length (component scan blocks) ≤ (2 * k + 29) * (64 * length blocks) + 7
unfolding component spelling
component_cost k scan blocks s seven few h =
    let n = length blocks in
    let ds = column blocks 0 in
    let vs = listed (drop 1 scan) blocks in
    let len : length vs ≡ 63 * n = length-listed (drop 1 scan) blocks ∙ ap (λ k. k * n) (let u : length (drop 1 scan) ≡ 63 = omega (arith, length-drop 1 scan, s.size) in u) in
    let first : length (all_dc_words ds) ≤ (2 * k + 29) * n = subst (λ m. length (all_dc_words ds) ≤ (2 * k + 29) * m) (length-column blocks 0) (all_dc_cost k ds seven (under_column k blocks 0 h)) in
    let others : length (ac_words 4 2 0 vs) ≤ (2 * k + 29) * (63 * n) = subst (λ m. length (ac_words 4 2 0 vs) ≤ (2 * k + 29) * m) len
    (values_cost k 4 2 0 vs seven (omega (arith, len)) (under_listed k (drop 1 scan) blocks h)) in
    let all : (2 * k + 29) * (64 * n) ≡ (2 * k + 29) * n + (2 * k + 29) * (63 * n) = omega arith in
    omega (arith, all, length-bytes (all_dc_words ds ++ ac_words 4 2 0 vs), length-append (all_dc_words ds) (ac_words 4 2 0 vs))
