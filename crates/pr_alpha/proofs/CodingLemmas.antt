-- Writing values one by one.
use Rattle.std.proofs.Common.{◌≡◌, ℕ, zero, suc, ◌+◌, ◌-◌, ◌<◌, inl, inr, Bool, List, [], ◌∷◌, ◌++◌, length, take, drop, get_or, replicate, refl, ap, sym, ◌∙◌, subst, arith, append_assoc, append-nil}
use Rattle.std.proofs.lemmas.Bool.{cases_eq, ne_eqb, eq-eqb}
use Rattle.std.proofs.lemmas.List.{take_all, drop_more, take-append-drop, length-drop}
use Rattle.pw_bits.specs.Writing.{Written, Writes, Begins}
use Rattle.pw_bits.proofs.WritingLemmas.{Begins-first, Begins-second}
use Rattle.pr_alpha.specs.Alpha.{Same, joined, rows, row_words, rows_words, spelling, greatest}
use Rattle.pr_alpha.specs.inner.Writing.{words_behind, Codes}
use Rattle.pr_alpha.specs.declared.write.Coding.{Coding}

-- the row whose codewords are still to be written
abbrev pub row : Coding → Same
row s = record { value = s.value; further = s.further }

-- ---- rows of values after others

-- rows begin with a row of the first value
record Begun (v : ℕ) (ss : List Same) : Type 0 where
  pub first : Same
  pub others : List Same
  pub is : ss ≡ first ∷ others
  pub value : first.value ≡ v

same_first : (v : ℕ) (s : Same) (ss : List Same) → s.value ≡ v → joined v (s ∷ ss) ≡ record { value = v; further = suc s.further } ∷ ss
same_first v s ss e = rw (eq-eqb v s.value (sym e)) refl

other_first : (v : ℕ) (s : Same) (ss : List Same) → (v ≡ s.value → ⊥) → joined v (s ∷ ss) ≡ record { value = v; further = 0 } ∷ s ∷ ss
other_first v s ss ne = rw (ne_eqb v s.value ne) refl

begun : (v : ℕ) (ss : List Same) → Begun v (joined v ss)
begun v [] = record { first = record { value = v; further = 0 }; others = []; is = refl; value = refl }
begun v (s ∷ ss) = elim (cases_eq v s.value) [
  | inl e ↦
      record { first = record { value = v; further = suc s.further }; others = ss; is = same_first v s ss (sym e); value = refl }
  | inr ne ↦
      record { first = record { value = v; further = 0 }; others = s ∷ ss; is = other_first v s ss ne; value = refl }
]

-- equal values before another one are a row
pub rows_next : (k x v : ℕ) (rest : List ℕ) → (v ≡ x → ⊥) → rows (replicate (suc k) x ++ v ∷ rest) ≡ record { value = x; further = k } ∷ rows (v ∷ rest)
rows_next zero x v rest ne =
    let b = begun v (rows rest) in
    ap (joined x) b.is ∙ other_first x b.first b.others (λ e. ne (sym (e ∙ b.value))) ∙ ap (λ l. record { value = x; further = 0 } ∷ l) (sym b.is)
rows_next (suc k) x v rest ne =
    ap (joined x) (rows_next k x v rest ne) ∙ same_first x (record { value = x; further = k }) (rows (v ∷ rest)) refl

-- equal values and no others are one row
pub rows_last : (k x : ℕ) → rows (replicate (suc k) x ++ []) ≡ record { value = x; further = k } ∷ []
rows_last zero x = refl
rows_last (suc k) x = ap (joined x) (rows_last k x) ∙ same_first x (record { value = x; further = k }) [] refl

replicate_more : (k x : ℕ) (rest : List ℕ) → replicate k x ++ x ∷ rest ≡ x ∷ (replicate k x ++ rest)
replicate_more zero x rest = refl
replicate_more (suc k) x rest = ap (λ l. x ∷ l) (replicate_more k x rest)

-- ---- value by value

pub Codes-nil : (n : ℕ) (s : Coding) → Codes n s s [] []
Codes-nil n s = record { any = λ rest. refl }

pub Codes-same : (n : ℕ) (s t : Coding) (v : ℕ) → v ≡ s.value → t ≡ record { before = s.before; value = s.value; further = s.further + 1 } → Codes n s t (v ∷ []) []
Codes-same n s t v e f = record {
  any = λ rest.
      ap (λ x. rows_words n s.before (rows (replicate (suc s.further) s.value ++ x ∷ rest))) e
      ∙ ap (λ l. rows_words n s.before (rows l)) (replicate_more (suc s.further) s.value rest)
      ∙ ap (λ k. rows_words n s.before (rows (s.value ∷ (replicate k s.value ++ rest)))) (let u : suc s.further ≡ s.further + 1 = omega arith in u)
      ∙ ap (λ (x : Coding). words_behind n x rest) (sym f);
}

next_words : (n : ℕ) (s : Coding) (v : ℕ) (rest : List ℕ) → (v ≡ s.value → ⊥) → words_behind n s (v ∷ rest) ≡ row_words n s.before (row s) ++ rows_words n s.value (rows (v ∷ rest))
next_words n s v rest ne = ap (rows_words n s.before) (rows_next s.further s.value v rest ne)

pub Codes-next : (n : ℕ) (s t : Coding) (v : ℕ) → (v ≡ s.value → ⊥) → t ≡ record { before = s.value; value = v; further = 0 } → Codes n s t (v ∷ []) (row_words n s.before (row s))
Codes-next n s t v ne f = record {
  any = λ rest. next_words n s v rest ne ∙ ap (λ (x : Coding). row_words n s.before (row s) ++ words_behind n x rest) (sym f);
}

pub cut_next : (n : ℕ) (s : Coding) (v : ℕ) (rest : List ℕ) (before after : Written) → (v ≡ s.value → ⊥) → Begins before after (row_words n s.before (row s)) → Begins before after (words_behind n s (v ∷ rest))
cut_next n s v rest before after ne b =
    subst (Begins before after) (sym (next_words n s v rest ne)) (Begins-first (rows_words n s.value (rows (v ∷ rest))) b)

pub Codes-Codes : {n : ℕ} {s t u : Coding} {a b : List ℕ} {w x : List Bool} → Codes n s t a w → Codes n t u b x → Codes n s u (a ++ b) (w ++ x)
Codes-Codes {n} {s} {t} {u} {a} {b} {w} {x} c d = record {
  any = λ rest.
      ap (words_behind n s) (append_assoc a b rest) ∙ c.any (b ++ rest) ∙ ap (λ l. w ++ l) (d.any rest)
      ∙ sym (append_assoc w x (words_behind n u rest));
}

pub cut_values : {n : ℕ} {s t : Coding} {a : List ℕ} {w : List Bool} {before mid after : Written} (more : List ℕ) →
    Codes n s t a w → Writes before mid w → Begins mid after (words_behind n t more) → Begins before after (words_behind n s (a ++ more))
cut_values {n} {s} {t} {a} {w} {before} {mid} {after} more c a' b = subst (Begins before after) (sym (c.any more)) (Begins-second a' b)

-- all codewords, if no values follow
pub words_all : {n : ℕ} {s t : Coding} {a : List ℕ} {w : List Bool} → Codes n s t a w → words_behind n s a ≡ w ++ row_words n t.before (row t)
words_all {n} {s} {t} {a} {w} c =
    ap (words_behind n s) (sym (append-nil a)) ∙ c.any [] ∙ ap (λ l. w ++ rows_words n t.before l) (rows_last t.further t.value)
    ∙ ap (λ l. w ++ l) (append-nil (row_words n t.before (row t)))

first_words : (n v : ℕ) (s : Coding) (values : List ℕ) → 0 < length values → get_or values 0 0 ≡ v → s ≡ record { before = greatest n; value = v; further = 0 } → words_behind n s (drop 1 values) ≡ spelling n values
unfolding spelling
first_words n v s [] some first is = absurd (omega arith)
first_words n v s (x ∷ values) some first is = ap (λ (t : Coding). words_behind n t values) is ∙ ap (λ y. rows_words n (greatest n) (rows (y ∷ values))) (sym first)

-- the codewords of all values, by the first one
pub words_first : (n before : ℕ) (values : List ℕ) → 0 < length values → before ≡ greatest n →
    words_behind n (record { before = before; value = get_or values 0 0; further = 0 }) (take (length values - 1) (drop 1 values)) ≡ spelling n values
words_first n before values some is =
    let s : Coding = record { before = before; value = get_or values 0 0; further = 0 } in
    ap (words_behind n s) (take_all (length values - 1) (drop 1 values) (omega (arith, length-drop 1 values)))
    ∙ first_words n (get_or values 0 0) s values some refl (ap (λ x. (let t : Coding = record { before = x; value = get_or values 0 0; further = 0 } in t)) is)

-- ---- parts of a list

pub value_cut : (values : List ℕ) (i : ℕ) → i < length values → take i values ++ get_or values i 0 ∷ drop (i + 1) values ≡ values
value_cut values i h = ap (λ l. take i values ++ l) (sym (drop_more values i 0 h)) ∙ take-append-drop i values

-- ---- the end
