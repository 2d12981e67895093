-- Lengths of codewords by the class of their context.
use Rattle.std.proofs.Common.{◌≡◌, ℕ, zero, suc, ◌+◌, ◌-◌, ◌^◌, ◌<◌, ◌≤◌, Bool, true, List, [], ◌∷◌, ◌++◌, length, length-append, take, drop, false, ◌/◌, ◌%◌, pos, get_or, ℤ, refl, ap, ◌∙◌, arith}
use Rattle.std.proofs.lemmas.Bool.Decides.{nat_tests}
use Rattle.std.proofs.lemmas.List.{take_more, length-replicate}
use Rattle.pw_bits.proofs.BitsLemmas.{bits-bytes}
use Rattle.pw_bits.specs.Bits.{bytes, padding}
use Rattle.pr_codes.specs.declared.book.Codebook.{Codebook}
use Rattle.pr_codes.specs.Words.{word, is_book}
use Rattle.pr_codes.proofs.WordsLemmas.{length-word-le}
use Rattle.pr_coeff.specs.Component.{run_book, level_book, spelling, component, all_dc_words, ac_words, column, listed}
use Rattle.pr_coeff.specs.inner.Writing.{triple_words}
use Rattle.pw_bits.proofs.SpelledLemmas.{length_of_bits}
use Rattle.pr_coeff.proofs.CostLemmas.{small_exp}
use Rattle.pr_coeff.specs.Known.{ComponentHasBytes}
use Rattle.pr_coeff.specs.Lengths.{run_class, run_in, run_bits, run_row, level_class, level_in, level_bits, level_row, ClassesNameBooks}
use Rattle.pr_coeff.proofs.ComponentLemmas.{is_book-run, is_book-level}

pub run_bits_small : (class run : ℕ) → run < 2048 → run_bits class run ≤ 25
unfolding run_bits
run_bits_small class run h = length-word-le (run_book (run_in class)) run 11 (is_book-run (run_in class)) (omega arith) (omega (arith, small_exp (run_book (run_in class)) (is_book-run (run_in class))))

pub level_word_small : (class m : ℕ) → m < 8192 → length (word (level_book (level_in class)) (m - 1)) ≤ 29
level_word_small class m h = length-word-le (level_book (level_in class)) (m - 1) 13 (is_book-level (level_in class)) (omega arith) (omega (arith, small_exp (level_book (level_in class)) (is_book-level (level_in class))))

pub level_bits_small : (class m : ℕ) → m < 8192 → level_bits class m ≤ 30
unfolding level_bits
level_bits_small class m h = omega (arith, level_word_small class m h)

-- the codeword of a code of a difference
pub code_small : (b : Codebook) (n : ℕ) → is_book b ≡ true → n ≤ 2 ^ 18 → length (word b n) ≤ 64
code_small b n is h = omega (arith, length-word-le b n 18 is (omega arith) (omega (arith, small_exp b is)))

pub run_named : (n : ℕ) → run_book (run_in (run_class n)) ≡ run_book n
unfolding run_class run_in run_book
run_named n = grind (arith, nat_tests)

pub level_named : (n : ℕ) → level_book (level_in (level_class n)) ≡ level_book n
unfolding level_class level_in level_book
level_named n = grind (arith, nat_tests)

pub classes_name : ClassesNameBooks
classes_name n = (run_named n, level_named n)

pub run_class_small : (n : ℕ) → run_class n < 6
unfolding run_class
run_class_small n = grind (arith, nat_tests)

pub level_class_small : (n : ℕ) → level_class n < 6
unfolding level_class
level_class_small n = grind (arith, nat_tests)

-- ---- rows

pub run_row_at : (n c : ℕ) → c < 6 → get_or (run_row n) c 0 ≡ run_bits c n
unfolding run_row
run_row_at n zero h = refl
run_row_at n (suc zero) h = refl
run_row_at n (suc (suc zero)) h = refl
run_row_at n (suc (suc (suc zero))) h = refl
run_row_at n (suc (suc (suc (suc zero)))) h = refl
run_row_at n (suc (suc (suc (suc (suc zero))))) h = refl
run_row_at n (suc (suc (suc (suc (suc (suc c)))))) h = absurd (omega arith)

pub run_row_class : (n : ℕ) → get_or (run_row n) 7 0 ≡ run_class n
unfolding run_row
run_row_class n = refl

pub level_row_at : (n c : ℕ) → c < 6 → get_or (level_row n) c 0 ≡ level_bits c n
unfolding level_row
level_row_at n zero h = refl
level_row_at n (suc zero) h = refl
level_row_at n (suc (suc zero)) h = refl
level_row_at n (suc (suc (suc zero))) h = refl
level_row_at n (suc (suc (suc (suc zero)))) h = refl
level_row_at n (suc (suc (suc (suc (suc zero))))) h = refl
level_row_at n (suc (suc (suc (suc (suc (suc c)))))) h = absurd (omega arith)

pub level_row_class : (n : ℕ) → get_or (level_row n) 7 0 ≡ level_class n
unfolding level_row
level_row_class n = refl

-- ---- DC coefficients

pub rest_more : (vs : List ℤ) (k : ℕ) → 1 ≤ k → k < length vs → take (k + 1 - 1) (drop 1 vs) ≡ take (k - 1) (drop 1 vs) ++ get_or vs k (pos 0) ∷ []
rest_more [] k s h = absurd (omega (arith, h))
rest_more (v ∷ vs) zero s h = absurd (omega arith)
rest_more (v ∷ vs) (suc j) s h =
    let a : suc j + 1 - 1 ≡ j + 1 = omega arith in
    let b : suc j - 1 ≡ j = omega arith in
    rw (a, b) (take_more vs j (pos 0) (omega arith))

pub first_and_rest : (vs : List ℤ) → 0 < length vs → vs ≡ get_or vs 0 (pos 0) ∷ drop 1 vs
first_and_rest [] h = absurd (omega arith)
first_and_rest (v ∷ vs) h = refl

-- ---- whole components

pub length-bytes_is : (l : List Bool) → length (bytes l) ≡ (length l + 7) / 8
length-bytes_is l = omega (arith, length_of_bits (bytes l), ap length (bits-bytes l), length-append l (padding l), length-replicate ((8 - length l % 8) % 8) false)

pub component_bytes : ComponentHasBytes
unfolding component spelling
component_bytes scan blocks =
    let dc = all_dc_words (column blocks 0) in
    let ac = ac_words 4 2 0 (listed (drop 1 scan) blocks) in
    length-bytes_is (dc ++ ac) ∙ ap (λ (n : ℕ). (n + 7) / 8) (length-append dc ac)

-- ---- a run, a level and a sign

run_is : (class run zeros : ℕ) → class ≡ run_class run → run_bits class zeros ≡ length (word (run_book run) zeros)
unfolding run_bits
run_is class run zeros e = ap (λ c. length (word (run_book (run_in c)) zeros)) e ∙ ap (λ b. length (word b zeros)) (run_named run)

level_is : (class magnitude level : ℕ) → class ≡ level_class magnitude → level_bits class level ≡ length (word (level_book magnitude) (level - 1)) + 1
unfolding level_bits
level_is class magnitude level e = ap (λ c. length (word (level_book (level_in c)) (level - 1)) + 1) e ∙ ap (λ b. length (word b (level - 1)) + 1) (level_named magnitude)

-- the bits of a value's codewords, by the classes of the run and the magnitude before it
pub triple_bits : (run magnitude zeros level before behind : ℕ) (negative : Bool) → before ≡ run_class run → behind ≡ level_class magnitude
    → length (triple_words run magnitude zeros (level - 1) negative) ≡ run_bits before zeros + level_bits behind level
triple_bits run magnitude zeros level before behind negative e f =
    let w = word (level_book magnitude) (level - 1) in
    omega (arith, run_is before run zeros e, level_is behind magnitude level f, length-append (word (run_book run) zeros) (w ++ negative ∷ []), length-append w (negative ∷ []))

-- the classes of the run and the magnitude at first
pub first_classes : (2 ≡ run_class 4) × (1 ≡ level_class 2)
unfolding run_class level_class
first_classes = (refl, refl)
