-- Short codewords by a table.
use Rattle.std.proofs.Common.{◌≡◌, ℕ, zero, suc, ◌+◌, ◌-◌, ◌*◌, ◌/◌, ◌%◌, ◌^◌, ◌<◌, ◌≤◌, inl, inr, Bool, eqb, ltb, List, [], ◌∷◌, ◌++◌, length, drop, get_or, set, cond, replicate, pos, Result, Ok, Err, refl, ap, sym, ◌∙◌, subst, arith, length-append, append_assoc}
use Rattle.std.proofs.lemmas.Bool.{cases_eq}
use native.Mathlib.Nat.{mul_comm, mul_assoc, mul-add, add-mul}
use Rattle.std.proofs.lemmas.Nat.{div-add-mod', div_below, mul-le, shr_high, shl-shr, shr-shr, field_of, shr_below, mod_below, pow_pos}
use Rattle.std.proofs.lemmas.List.{length-take, length-drop, drop_at, get_or-set_same, get_or-set_other}
use Rattle.pw_bits.specs.Bits.{bits_of, bits}
use Rattle.pw_bits.proofs.BitsLemmas.{length-bits_of, bits_of-append, bits_of-mod}
use Rattle.pr_codes.specs.declared.book.Codebook.{Codebook}
use Rattle.pr_codes.specs.Words.{word, code_at}
use Rattle.pr_codes.proofs.WordsLemmas.{IsPlain, code_again, code_found}
use Rattle.pr_coeff.specs.Component.{run_book, level_book}
use Rattle.pr_coeff.specs.Lengths.{run_class, run_in, level_class, level_in}
use Rattle.pr_coeff.specs.Reading.{faulty, word_at, triple_at, Triple, Fault, no_ones, values_at, ◌>>=◌, with_triple, run_then, level_then, run_past}
use Rattle.pw_bits.specs.Places.{ahead}
use Rattle.pr_pieces.specs.Shorts.{IsShort, IsShortRun, IsShortLevel, none}
use Rattle.pr_pieces.specs.declared.short.ShortWord.{ShortWord}
use Rattle.pr_coeff.proofs.ComponentLemmas.{faulty_ok}
use Rattle.pr_coeff.proofs.BitLemmas.{triple_goes}
use Rattle.pw_bits.proofs.PlacesLemmas.{middle, ahead_goes, ahead_bit}
use Rattle.pr_pieces.proofs.WordLemmas.{level_sign}

-- ---- the entries

abbrev pub alone : ℕ → List ℕ
alone front = front ∷ 0 ∷ 0 ∷ 0 ∷ 0 ∷ 0 ∷ 0 ∷ 0 ∷ 0 ∷ []

alone_bits : (front : ℕ) → ahead (alone front) 8 0 ≡ bits_of 8 front
unfolding ahead
alone_bits front = refl

length-alone : (front size : ℕ) → size ≤ 8 → length (ahead (alone front) 8 size) ≡ 8 - size
unfolding ahead
length-alone front size h =
    let all : length (bits (alone front)) ≡ 72 = refl in
    omega (arith, length-take (8 - size) (drop size (bits (alone front))), length-drop size (bits (alone front)), all)

pub short_is : (b b' : Codebook) (front : ℕ) (s : ShortWord) → b ≡ b' → word_at b (ahead (alone front) 8 0) ≡ Ok (s.number, ahead (alone front) 8 s.size) → s.size ≤ 8 → s.number < 256 → IsShort b' front s
short_is b b' front s same e few small =
    let rest = ahead (alone front) 8 s.size in
    let l = ahead (alone front) 8 0 in
    let found = code_found b l s.number rest (faulty_ok (code_at b l) (s.number, rest) e) in
    let w : bits_of 8 front ≡ word b' s.number ++ rest = sym (alone_bits front) ∙ found.1 ∙ ap (λ c. word c s.number ++ rest) same in
    let long : length (word b' s.number) ≡ s.size =
    omega (arith, ap length w, length-bits_of 8 front, length-append (word b' s.number) rest, length-alone front s.size few) in
    record {
      few = few;
      small = small;
      is = λ h. w ∙ ap (λ x. word b' s.number ++ x) (sym (ap (drop s.size) w ∙ drop_at (word b' s.number) rest s.size long));
      long = λ h. long;
    }

-- where no codeword is short
none_is : (b : Codebook) (front : ℕ) → IsShort b front none
none_is b front = record { few = omega arith; small = omega arith; is = λ h. absurd (omega arith); long = λ h. absurd (omega arith) }

pub no_run : (class front : ℕ) → IsShortRun class front none
unfolding run_class
no_run class front = record { word = none_is (run_book (run_in class)) front; next = refl }

pub no_level : (class front : ℕ) → IsShortLevel class front none
unfolding level_class
no_level class front = record { word = none_is (level_book (level_in class)) front; next = refl }

pub more_runs : (table : List ShortWord) (index : ℕ) (s : ShortWord) → index < length table → ((i : ℕ) → i < index → IsShortRun (i / 256) (i % 256) (get_or table i none)) → IsShortRun (index / 256) (index % 256) s →
    (i : ℕ) → i < index + 1 → IsShortRun (i / 256) (i % 256) (get_or (set table index s) i none)
more_runs table index s inside before here i h = elim (cases_eq i index) [
  | inl same ↦ subst (λ x. IsShortRun (i / 256) (i % 256) x) (sym (ap (λ j. get_or (set table index s) j none) same ∙ get_or-set_same table index s none inside)) (subst (λ j. IsShortRun (j / 256) (j % 256) s) (sym same) here)
  | inr other ↦ subst (λ x. IsShortRun (i / 256) (i % 256) x) (sym (get_or-set_other table index i s none other)) (before i (omega arith))
]

pub more_levels : (table : List ShortWord) (index : ℕ) (s : ShortWord) → index < length table → ((i : ℕ) → i < index → IsShortLevel (i / 256) (i % 256) (get_or table i none)) → IsShortLevel (index / 256) (index % 256) s →
    (i : ℕ) → i < index + 1 → IsShortLevel (i / 256) (i % 256) (get_or (set table index s) i none)
more_levels table index s inside before here i h = elim (cases_eq i index) [
  | inl same ↦ subst (λ x. IsShortLevel (i / 256) (i % 256) x) (sym (ap (λ j. get_or (set table index s) j none) same ∙ get_or-set_same table index s none inside)) (subst (λ j. IsShortLevel (j / 256) (j % 256) s) (sym same) here)
  | inr other ↦ subst (λ x. IsShortLevel (i / 256) (i % 256) x) (sym (get_or-set_other table index i s none other)) (before i (omega arith))
]

-- ---- a window that is moved on

-- The first m bits of a 64-bit number are the bits from an offset on.
pub record IsBits (p : List ℕ) (at w m : ℕ) : Type 0 where
  pub front : (k : ℕ) → k ≤ m → drop at (bits p) ≡ bits_of k (w / 2 ^ (64 - k)) ++ drop (at + k) (bits p)

pub moved : (p : List ℕ) (at w m s : ℕ) → IsBits p at w m → m ≤ 64 → s ≤ m → IsBits p (at + s) (w * 2 ^ s % 2 ^ 64) (m - s)
moved p at w m s b le h = record {
  front = λ k few.
      let all = bits p in
      let r = 64 - s - k in
      let x = w / 2 ^ r in
      let rest = drop (at + (s + k)) all in
      let parts : drop at all ≡ bits_of s (x / 2 ^ k) ++ (bits_of k x ++ rest) =
      b.front (s + k) (omega arith) ∙ ap (λ j. bits_of (s + k) (w / 2 ^ j) ++ rest) (let u : 64 - (s + k) ≡ r = omega arith in u)
      ∙ ap (λ l. l ++ rest) (bits_of-append s k x) ∙ append_assoc (bits_of s (x / 2 ^ k)) (bits_of k x) rest in
      let here = middle all (bits_of s (x / 2 ^ k)) (bits_of k x) rest at (at + s) s k parts (length-bits_of s (x / 2 ^ k)) (length-bits_of k x) refl in
      let up : w * 2 ^ s / 2 ^ (64 - k) ≡ x =
      ap (λ j. w * 2 ^ s / 2 ^ j) (let u : 64 - k ≡ s + r = omega arith in u) ∙ sym (shr-shr (w * 2 ^ s) s r) ∙ ap (λ y. y / 2 ^ r) (shl-shr w s) in
      let field : w * 2 ^ s % 2 ^ 64 / 2 ^ (64 - k) ≡ x % 2 ^ k =
      ap (λ j. w * 2 ^ s % 2 ^ j / 2 ^ (64 - k)) (let u : 64 ≡ k + (64 - k) = omega arith in u) ∙ field_of (w * 2 ^ s) k (64 - k) ∙ ap (λ y. y % 2 ^ k) up in
      here ∙ ap (λ l. l ++ drop (at + s + k) all) (bits_of-mod k x ∙ ap (bits_of k) (sym field));
}

pub short_found : (p : List ℕ) (end at w m : ℕ) (b : Codebook) (s : ShortWord) → IsBits p at w m → 8 ≤ m → IsPlain b → IsShort b (w / 2 ^ 56) s → 0 < s.size → s.size ≤ end - at →
    word_at b (ahead p end at) ≡ Ok (s.number, ahead p end (at + s.size))
short_found p end at w m b s here wide plain short some fits =
    let all = bits p in
    let f = bits_of 8 (w / 2 ^ 56) in
    let v = word b s.number in
    let rest = drop s.size f ++ drop (at + 8) all in
    let parts : drop at all ≡ [] ++ (v ++ rest) =
    here.front 8 wide ∙ ap (λ l. l ++ drop (at + 8) all) (short.is some) ∙ append_assoc v (drop s.size f) (drop (at + 8) all) in
    let begins = middle all [] v rest at at 0 s.size parts refl (short.long some) (omega arith) in
    ap (word_at b) (ahead_goes p end at s.size v begins (short.long some) fits)
    ∙ ap faulty (code_again b s.number (ahead p end (at + s.size)) plain (omega (arith, short.small)))

one_bit : (x : ℕ) → x < 2 → bits_of 1 x ≡ eqb x 1 ∷ []
one_bit zero h = refl
one_bit (suc zero) h = refl
one_bit (suc (suc x)) h = absurd (omega arith)

pub sign_found : (p : List ℕ) (end at y m : ℕ) → IsBits p at (y % 2 ^ 64) m → 1 ≤ m → at < end → ahead p end at ≡ eqb (y % 2 ^ 64 / 2 ^ 63) 1 ∷ ahead p end (at + 1)
sign_found p end at y m here some inside =
    let x = y % 2 ^ 64 / 2 ^ 63 in
    let small : x < 2 ^ 1 = shr_below (y % 2 ^ 64) 1 63 (mod_below y (2 ^ 64) (pow_pos 64)) in
    ahead_bit p end at (eqb x 1) inside (here.front 1 some ∙ ap (λ l. l ++ drop (at + 1) (bits p)) (one_bit x (omega (arith, small))))

pub triple_found : (room run magnitude n m : ℕ) (s : Bool) (l l1 l2 l3 : List Bool) → word_at (run_book run) l ≡ Ok (n, l1) → n < room → word_at (level_book magnitude) l1 ≡ Ok (m, l2) → m < 32767 → l2 ≡ s ∷ l3 →
    triple_at room run magnitude l ≡ Ok (record { run = n; level = m; negative = s; rest = l3 })
triple_found room run magnitude n m s l l1 l2 l3 a inside b small e =
    triple_goes (run_book run) l room run magnitude refl n l1 a inside ∙ level_sign (level_book magnitude) l1 l2 magnitude m refl b small n s l3 e

-- ---- a quotient by a product

pub parts_are : (count q : ℕ) → 0 < count → q ≡ (65535 + count) / count → (65536 ≤ count * q) × (count * q < 65536 + count)
parts_are count q some is =
    let split = div-add-mod' (65535 + count) count in
    let small = mod_below (65535 + count) count some in
    let turn : count * q ≡ (65535 + count) / count * count = ap (λ x. count * x) is ∙ mul_comm count ((65535 + count) / count) in
    (omega (arith, split, small, turn), omega (arith, split, small, turn))

pub divided : (index count parts : ℕ) → 0 < count → count ≤ 32 → index < 64 * count → 65536 ≤ count * parts → count * parts < 65536 + count →
    (index * parts < 2 ^ 32) × (index * parts / 65536 ≡ index / count)
divided index count parts some few inside low high =
    let q = index / count in
    let r = index % count in
    let e = count * parts - 65536 in
    let split = div-add-mod' index count in
    let small = mod_below index count some in
    let q_in : q < 64 = div_below index count 64 some inside in
    let wide : count * parts ≤ 32 * parts = mul-le count parts 32 parts few (omega arith) in
    let large : 2048 ≤ parts = omega (arith, low, wide) in
    let error : q * e ≤ 63 * e = mul-le q e 63 e (omega arith) (omega arith) in
    let rest : (r + 1) * parts ≤ count * parts = mul-le (r + 1) parts count parts (omega (arith, small)) (omega arith) in
    let rest' : (r + 1) * parts ≡ r * parts + parts = omega (arith, add-mul r 1 parts) in
    let whole : index * parts ≡ q * (count * parts) + r * parts =
    ap (λ x. x * parts) (sym split) ∙ add-mul (q * count) r parts ∙ ap (λ x. x + r * parts) (mul_assoc q count parts) in
    let up : q * (count * parts) ≡ q * 65536 + q * e = ap (λ x. q * x) (let u : count * parts ≡ 65536 + e = omega arith in u) ∙ mul-add q 65536 e in
    let fits : q * e + r * parts < 2 ^ 16 = omega (arith, error, rest, rest', large, high, few) in
    let is : index * parts ≡ q * 2 ^ 16 + (q * e + r * parts) = omega (arith, whole, up) in
    (omega (arith, is, fits, q_in), ap (λ x. x / 2 ^ 16) is ∙ shr_high q 16 (q * e + r * parts) fits)

-- ---- codebooks by their classes

triple_same : (room run run' magnitude magnitude' : ℕ) (l : List Bool) → run_book run' ≡ run_book run → level_book magnitude' ≡ level_book magnitude → triple_at room run magnitude l ≡ triple_at room run' magnitude' l
unfolding triple_at
triple_same room run run' magnitude magnitude' l a b =
    ap (λ b. word_at b l >>= run_then room magnitude) (sym a)
    ∙ ap (λ (b : Codebook). word_at (run_book run') l >>= λ r. cond (ltb r.0 room) (word_at b r.1 >>= level_then r.0) (Err run_past)) (sym b)

pub values_same : (turns room run run' magnitude magnitude' : ℕ) (l : List Bool) → run_book run' ≡ run_book run → level_book magnitude' ≡ level_book magnitude →
    values_at turns room run magnitude l ≡ values_at turns room run' magnitude' l
values_same zero room run run' magnitude magnitude' l a b = refl
values_same (suc turns) room run run' magnitude magnitude' l a b =
    ap (λ (r : Result Triple Fault). cond (no_ones l) (Ok (replicate room (pos 0))) (r >>= λ t. values_at turns (room - t.run - 1) t.run (suc t.level) t.rest >>= with_triple t)) (triple_same room run run' magnitude magnitude' l a b)
