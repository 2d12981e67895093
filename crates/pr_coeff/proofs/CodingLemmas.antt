-- One codeword after another.
use Rattle.std.proofs.Common.{◌≡◌, ℕ, suc, zero, ◌+◌, ◌-◌, ◌^◌, ◌<◌, ◌≤◌, length, take, drop, get_or, append_assoc, append-nil, nat_abs, Bool, true, false, List, [], ◌∷◌, ◌++◌, ℤ, pos, negsuc, ◌-ℤ◌, refl, ap, sym, ◌∙◌, subst, arith}
use mir.Val.{bool_byte, to_z, of_z}
use mir.Syntax.{w16, w32}
use Rattle.std.proofs.lemmas.Int.{ints, to_z-of_z}
use lib.Signed.{lt_z}
use Rattle.pr_codes.specs.declared.book.Codebook.{Codebook}
use Rattle.pw_bits.specs.Bits.{bits_of, zeros}
use Rattle.pw_bits.specs.Writing.{Written, Writes, Begins}
use Rattle.pw_bits.proofs.WritingLemmas.{Begins-first, Begins-second}
use Rattle.pr_codes.specs.Words.{word, book}
use Rattle.pr_coeff.specs.Component.{run_book, level_book, dc_book, dc_words, all_dc_words, ac_words, is_negative, folded, turned, column, IsSmall, AllSmall, listed, Block}
use Rattle.pr_coeff.specs.Reading.{signed}
use Rattle.pr_coeff.proofs.ComponentLemmas.{ac_words_signed}
use Rattle.pr_coeff.proofs.WovenLemmas.{length-column, column-at, AllSmall_at}
use Rattle.std.proofs.lemmas.List.{take_more, drop_more, take-append-drop}
use Rattle.pr_coeff.specs.declared.write.Coding.{Coding}
use Rattle.pr_coeff.specs.declared.write.Differences.{Differences}
use Rattle.pr_coeff.specs.inner.Writing.{triple_words, Codes, CodesDc}

-- ---- a run, a level and a sign

sign_bit : (s : Bool) → bits_of 1 (bool_byte s) ≡ s ∷ []
sign_bit true = refl
sign_bit false = refl

pub words_are : (run magnitude zeros level sign : ℕ) (negative : Bool) (a b : Codebook) → a ≡ run_book run → b ≡ level_book magnitude → sign ≡ bool_byte negative →
    word a zeros ++ (word b level ++ bits_of 1 sign) ≡ triple_words run magnitude zeros level negative
words_are run magnitude zeros level sign negative a b is_a is_b is_sign = ap (λ x. word x zeros ++ (word b level ++ bits_of 1 sign)) is_a ∙ ap (λ x. word (run_book run) zeros ++ (word x level ++ bits_of 1 sign)) is_b
    ∙ ap (λ x. word (run_book run) zeros ++ (word (level_book magnitude) level ++ bits_of 1 x)) is_sign
    ∙ ap (λ x. word (run_book run) zeros ++ (word (level_book magnitude) level ++ x)) (sign_bit negative)

-- ---- coefficient by coefficient

pub Codes-nil : (s : Coding) → Codes s s [] []
Codes-nil s = record { any = λ rest. refl }

pub Codes-zero : (s t u : Coding) (vs : List ℤ) (w : List Bool) (v : ℤ) → v ≡ pos 0 → u ≡ record { run = t.run; magnitude = t.magnitude; zeros = t.zeros + 1 } →
    Codes s t vs w → Codes s u (vs ++ v ∷ []) w
Codes-zero s t u vs w v e f c = record {
  any = λ rest.
      ap (ac_words s.run s.magnitude s.zeros) (append_assoc vs (v ∷ []) rest ∙ ap (λ x. vs ++ x ∷ rest) e)
      ∙ c.any (pos 0 ∷ rest)
      ∙ ap (λ z. w ++ ac_words t.run t.magnitude z rest) (let g : suc t.zeros ≡ t.zeros + 1 = omega arith in g)
      ∙ ap (λ (x : Coding). w ++ ac_words x.run x.magnitude x.zeros rest) (sym f);
}

one_triple : (run magnitude zeros m : ℕ) (s : Bool) (v : ℤ) (rest : List ℤ) → v ≡ signed s m →
    ac_words run magnitude zeros (v ∷ rest) ≡ triple_words run magnitude zeros m s ++ ac_words zeros (suc m) 0 rest
one_triple run magnitude zeros m s v rest e =
    ap (λ x. ac_words run magnitude zeros (x ∷ rest)) e ∙ ac_words_signed run magnitude zeros m s rest
    ∙ sym (append_assoc (word (run_book run) zeros) (word (level_book magnitude) m ++ s ∷ []) (ac_words zeros (suc m) 0 rest)
    ∙ ap (λ x. word (run_book run) zeros ++ x) (append_assoc (word (level_book magnitude) m) (s ∷ []) (ac_words zeros (suc m) 0 rest)))

pub Codes-triple : (s u : Coding) (v : ℤ) (m : ℕ) (neg : Bool) → v ≡ signed neg m → u ≡ record { run = s.zeros; magnitude = suc m; zeros = 0 } →
    Codes s u (v ∷ []) (triple_words s.run s.magnitude s.zeros m neg)
Codes-triple s u v m neg e f = record {
  any = λ rest.
      one_triple s.run s.magnitude s.zeros m neg v rest e
      ∙ ap (λ (x : Coding). triple_words s.run s.magnitude s.zeros m neg ++ ac_words x.run x.magnitude x.zeros rest) (sym f);
}

pub cut_triple : (s : Coding) (rest : List ℤ) (v : ℤ) (m : ℕ) (neg : Bool) (before after : Written) → v ≡ signed neg m →
    Begins before after (triple_words s.run s.magnitude s.zeros m neg) → Begins before after (ac_words s.run s.magnitude s.zeros (v ∷ rest))
cut_triple s rest v m neg before after e b =
    subst (Begins before after) (sym (one_triple s.run s.magnitude s.zeros m neg v rest e)) (Begins-first (ac_words s.zeros (suc m) 0 rest) b)

-- a coefficient that is not 0, by its magnitude and its sign
pub signed_parts : (v : ℤ) (m : ℕ) → nat_abs v ≡ m → 0 < m → v ≡ signed (is_negative v) (m - 1)
signed_parts (pos zero) m e h = absurd (omega (arith, e))
signed_parts (pos (suc n)) m e h = ap (λ x. pos (suc x)) (let f : n ≡ m - 1 = omega (arith, e) in f)
signed_parts (negsuc n) m e h = ap negsuc (let f : n ≡ m - 1 = omega (arith, e) in f)

pub lt_zero : (v : ℤ) → lt_z v (pos 0) ≡ is_negative v
lt_zero (pos n) = grind arith
lt_zero (negsuc n) = refl

pub Codes-Codes : {s t u : Coding} {a b : List ℤ} {w x : List Bool} → Codes s t a w → Codes t u b x → Codes s u (a ++ b) (w ++ x)
Codes-Codes {s} {t} {u} {a} {b} {w} {x} c d = record {
  any = λ rest.
      ap (ac_words s.run s.magnitude s.zeros) (append_assoc a b rest) ∙ c.any (b ++ rest) ∙ ap (λ l. w ++ l) (d.any rest)
      ∙ sym (append_assoc w x (ac_words u.run u.magnitude u.zeros rest));
}

pub cut_values : {s t : Coding} {vs : List ℤ} {w : List Bool} {before mid after : Written} (more : List ℤ) →
    Codes s t vs w → Writes before mid w → Begins mid after (ac_words t.run t.magnitude t.zeros more) → Begins before after (ac_words s.run s.magnitude s.zeros (vs ++ more))
cut_values {s} {t} {vs} {w} {before} {mid} {after} more c a b = subst (Begins before after) (sym (c.any more)) (Begins-second a b)

-- all codewords, if no coefficients follow
pub Codes-all : {s t : Coding} {vs : List ℤ} {w : List Bool} → Codes s t vs w → w ≡ ac_words s.run s.magnitude s.zeros vs
Codes-all {s} {t} {vs} {w} c = sym (ap (ac_words s.run s.magnitude s.zeros) (sym (append-nil vs)) ∙ c.any [] ∙ append-nil w)

-- ---- DC coefficient by DC coefficient

pub CodesDc-nil : (s : Differences) → CodesDc s s [] []
CodesDc-nil s = record { any = λ rest. refl }

pub CodesDc-more : {s t : Differences} {vs : List ℤ} {w : List Bool} (u : Differences) (v : ℤ) → CodesDc s t vs w →
    u ≡ record { last = v; negative = is_negative (v -ℤ t.last); code = folded (turned t.negative (v -ℤ t.last)) } →
    CodesDc s u (vs ++ v ∷ []) (w ++ word (dc_book t.code) (folded (turned t.negative (v -ℤ t.last))))
CodesDc-more {s} {t} {vs} {w} u v c e = record {
  any = λ rest.
      let x = word (dc_book t.code) (folded (turned t.negative (v -ℤ t.last))) in
      ap (dc_words s.last s.negative s.code) (append_assoc vs (v ∷ []) rest) ∙ c.any (v ∷ rest)
      ∙ sym (append_assoc w x (dc_words v (is_negative (v -ℤ t.last)) (folded (turned t.negative (v -ℤ t.last))) rest))
      ∙ ap (λ (y : Differences). (w ++ x) ++ dc_words y.last y.negative y.code rest) (sym e);
}

pub CodesDc-all : {s t : Differences} {vs : List ℤ} {w : List Bool} → CodesDc s t vs w → w ≡ dc_words s.last s.negative s.code vs
CodesDc-all {s} {t} {vs} {w} c = sym (ap (dc_words s.last s.negative s.code) (sym (append-nil vs)) ∙ c.any [] ∙ append-nil w)

pub cut_differences : {s t : Differences} {vs : List ℤ} {w : List Bool} {before mid after : Written} (v : ℤ) (rest : List ℤ) →
    CodesDc s t vs w → Writes before mid w → Begins mid after (word (dc_book t.code) (folded (turned t.negative (v -ℤ t.last)))) →
    Begins before after (dc_words s.last s.negative s.code (vs ++ v ∷ rest))
cut_differences {s} {t} {vs} {w} {before} {mid} {after} v rest c a b =
    subst (Begins before after) (sym (c.any (v ∷ rest))) (Begins-second a
    (Begins-first (dc_words v (is_negative (v -ℤ t.last)) (folded (turned t.negative (v -ℤ t.last))) rest) b))

-- ---- columns

pub column_more : (blocks : List (List ℤ)) (place i : ℕ) → i < length blocks →
    take (i + 1) (column blocks place) ≡ take i (column blocks place) ++ get_or (get_or blocks i []) place (pos 0) ∷ []
column_more blocks place i h =
    take_more (column blocks place) i (pos 0) (omega (arith, length-column blocks place)) ∙ ap (λ v. take i (column blocks place) ++ v ∷ []) (column-at blocks place i h)

pub column_split : (blocks : List (List ℤ)) (place i : ℕ) (rest : List ℤ) → i < length blocks →
    take i (column blocks place) ++ get_or (get_or blocks i []) place (pos 0) ∷ (drop (i + 1) (column blocks place) ++ rest) ≡ column blocks place ++ rest
column_split blocks place i rest h =
    let col = column blocks place in
    let v = get_or (get_or blocks i []) place (pos 0) in
    ap (λ l. take i col ++ (l ++ rest)) (ap (λ x. x ∷ drop (i + 1) col) (sym (column-at blocks place i h)) ∙ sym (drop_more col i (pos 0) (omega (arith, length-column blocks place))))
    ∙ sym (append_assoc (take i col) (drop i col) rest) ∙ ap (λ l. l ++ rest) (take-append-drop i col)

pub column_cut : (blocks : List (List ℤ)) (place i : ℕ) → i < length blocks →
    take i (column blocks place) ++ get_or (get_or blocks i []) place (pos 0) ∷ drop (i + 1) (column blocks place) ≡ column blocks place
column_cut blocks place i h =
    let col = column blocks place in
    ap (λ v. take i col ++ v ∷ drop (i + 1) col) (sym (column-at blocks place i h)) ∙ ap (λ l. take i col ++ l) (sym (drop_more col i (pos 0) (omega (arith, length-column blocks place)))) ∙ take-append-drop i col

-- a small value is what a machine keeps of it
pub kept_value : (v : ℤ) → nat_abs v ≤ 32767 → to_z w16 (of_z w16 v) ≡ v
kept_value (pos n) h = to_z-of_z w16 (pos n) (grind (arith, ints))
kept_value (negsuc n) h = to_z-of_z w16 (negsuc n) (grind (arith, ints))

pub kept_wide : (v : ℤ) → nat_abs v ≤ 2 ^ 21 → to_z w32 (of_z w32 v) ≡ v
kept_wide (pos n) h = to_z-of_z w32 (pos n) (grind (arith, ints))
kept_wide (negsuc n) h = to_z-of_z w32 (negsuc n) (grind (arith, ints))

pub small_at : (blocks : List (List ℤ)) (place i : ℕ) → i < length blocks → AllSmall (column blocks place) → nat_abs (get_or (get_or blocks i []) place (pos 0)) ≤ 32767
small_at blocks place i h a = subst IsSmall (column-at blocks place i h) (AllSmall_at (column blocks place) i a)

-- ---- positions

pub listed-append : (a b : List ℕ) (blocks : List Block) → listed (a ++ b) blocks ≡ listed a blocks ++ listed b blocks
listed-append [] b blocks = refl
listed-append (p ∷ a) b blocks = ap (λ l. column blocks p ++ l) (listed-append a b blocks) ∙ sym (append_assoc (column blocks p) (listed a blocks) (listed b blocks))

pub listed_one : (p : ℕ) (blocks : List Block) → listed (p ∷ []) blocks ≡ column blocks p
listed_one p blocks = append-nil (column blocks p)

pub listed_more : (ps : List ℕ) (blocks : List Block) (i : ℕ) → i < length ps → listed (take (i + 1) ps) blocks ≡ listed (take i ps) blocks ++ column blocks (get_or ps i 0)
listed_more ps blocks i h = ap (λ l. listed l blocks) (take_more ps i 0 h) ∙ listed-append (take i ps) (get_or ps i 0 ∷ []) blocks ∙ ap (λ l. listed (take i ps) blocks ++ l) (listed_one (get_or ps i 0) blocks)

pub listed_cut : (ps : List ℕ) (blocks : List Block) (i : ℕ) → i < length ps →
    listed (take i ps) blocks ++ (column blocks (get_or ps i 0) ++ listed (drop (i + 1) ps) blocks) ≡ listed ps blocks
listed_cut ps blocks i h =
    ap (λ l. listed (take i ps) blocks ++ listed l blocks) (sym (drop_more ps i 0 h)) ∙ sym (listed-append (take i ps) (drop i ps) blocks) ∙ ap (λ l. listed l blocks) (take-append-drop i ps)

-- ---- an exit

-- ---- a whole component

pub all_first : (blocks : List Block) → 0 < length blocks →
    word (book 0 5 6) (folded (get_or (get_or blocks 0 []) 0 (pos 0))) ++ dc_words (get_or (get_or blocks 0 []) 0 (pos 0)) false 5 (column (drop 1 blocks) 0) ≡ all_dc_words (column blocks 0)
all_first [] h = absurd (omega arith)
all_first (b ∷ bs) h = refl

pub column_drop : (blocks : List Block) (p : ℕ) → AllSmall (column blocks p) → AllSmall (column (drop 1 blocks) p)
column_drop [] p h = h
column_drop (b ∷ bs) p h = h.1

pub three_parts : (a b c : List Bool) → a ++ (b ++ c) ≡ (a ++ b) ++ c
three_parts a b c = sym (append_assoc a b c)
