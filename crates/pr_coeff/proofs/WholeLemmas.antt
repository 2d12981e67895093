-- A whole component.
use Rattle.std.proofs.Common.{◌≡◌, ℕ, zero, suc, ◌+◌, ◌*◌, ◌<◌, ◌≤◌, ◌⊎◌, inl, inr, Bool, true, false, eqb, ltb, leb, ◌&&◌, List, [], ◌∷◌, ◌++◌, length, drop, get_or, Result, Ok, Err, OnOk, refl, ap, sym, ◌∙◌, subst, arith, length-append, append_assoc, ℤ, nat_abs}
use Rattle.std.proofs.lemmas.Bool.{agree_below, agree_below_at, and_parts, ltb-true, eqb-true, leb-true, le-leb}
use Rattle.std.proofs.lemmas.List.{length-drop}
use Rattle.pw_bits.specs.Bits.{zeros}
use Rattle.pr_codes.specs.Words.{word, code_at}
use Rattle.pr_codes.proofs.WordsLemmas.{code_again, code_found, chosen}
use Rattle.pr_coeff.specs.declared.scan.Scan.{Scan}
use Rattle.pr_coeff.specs.declared.scan.Scan.TheVariants.{Progressive, Interlaced}
use Rattle.pr_coeff.specs.Component.{places, Block, column, listed, index_of, IsScan, AllSmall, AreBlocks, Stands, spelling, folded, all_dc_words, dc_words, ac_words, progressive, interlaced}
use Rattle.pr_coeff.specs.Reading.{woven, is_small, unfolded, Fault, level_range, ◌>>=◌, faulty, word_at, firsts_at, first_then, all_firsts_at, values_at, rest_then, component_at}
use Rattle.pr_codes.specs.Words.{book}
use Rattle.pr_coeff.proofs.ComponentLemmas.{bind_ok, faulty_ok, plain_first, folded-le, folded-unfolded, unfolded-folded, firsts_again, firsts_found, firsts_end, values_again, values_found}
use Rattle.pr_coeff.proofs.WovenLemmas.{woven-listed, listed-woven, woven_blocks, length-woven, length-column, length-listed, column_small, listed_small, AllSmall_both}

-- ---- the scans

abbrev place_test : List ℕ → ℕ → Bool
place_test scan k = ltb (get_or scan k 0) 64 && eqb (index_of (get_or scan k 0) scan) k

abbrev found_test : List ℕ → ℕ → Bool
found_test scan p = ltb (index_of p scan) 64 && eqb (get_or scan (index_of p scan) 0) p

scan_from_tests : (scan : List ℕ) → length scan ≡ 64 → scan ≡ 0 ∷ drop 1 scan → agree_below (place_test scan) (λ _. true) 64 ≡ true → agree_below (found_test scan) (λ _. true) 64 ≡ true → IsScan scan
scan_from_tests scan len head a b = record {
  size = len;
  starts = head;
  places = λ k h. (let t = and_parts _ _ (agree_below_at (place_test scan) (λ _. true) 64 k a h) in (ltb-true _ _ t.0, eqb-true _ _ t.1));
  found = λ p h. (let t = and_parts _ _ (agree_below_at (found_test scan) (λ _. true) 64 p b h) in (ltb-true _ _ t.0, eqb-true _ _ t.1));
}

pub progressive_is_scan : IsScan progressive
progressive_is_scan = scan_from_tests progressive refl refl refl refl

pub interlaced_is_scan : IsScan interlaced
interlaced_is_scan = scan_from_tests interlaced refl refl refl refl

-- ---- all first values

pub all_firsts_again : (k : ℕ) (ds : List ℤ) (rest : List Bool) → length ds ≡ k → AllSmall ds → all_firsts_at k (all_dc_words ds ++ rest) ≡ Ok (ds, rest)
all_firsts_again zero [] rest e a = refl
all_firsts_again zero (d ∷ ds) rest e a = absurd (omega (arith, e))
all_firsts_again (suc k) [] rest e a = absurd (omega (arith, e))
all_firsts_again (suc k) (d ∷ ds) rest e a =
    let w = word (book 0 5 6) (folded d) in
    let c = code_again (book 0 5 6) (folded d) (dc_words d false 5 ds ++ rest) plain_first (omega (arith, folded-le d, a.0)) in
    let s : leb (nat_abs d) 32767 ≡ true = le-leb (nat_abs d) 32767 a.0 in
    ap (all_firsts_at (suc k)) (append_assoc w (dc_words d false 5 ds) rest)
    ∙ ap (λ r. faulty r >>= first_then k) c
    ∙ rw (unfolded-folded d, s, firsts_again k d false 5 ds rest a.0 (omega (arith, e)) a.1) refl

pub record AreAllFirsts (k : ℕ) (l : List Bool) (ds : List ℤ) (rest : List Bool) : Type 0 where
  pub count : length ds ≡ k
  pub small : AllSmall ds
  pub words_are : l ≡ all_dc_words ds ++ rest

pub all_firsts_found : (k : ℕ) (l : List Bool) (o : List ℤ × List Bool) → all_firsts_at k l ≡ Ok o → AreAllFirsts k l o.0 o.1
all_firsts_found zero l o e =
    subst (λ (q : List ℤ × List Bool). AreAllFirsts zero l q.0 q.1) (firsts_end ([], l) o e) (record { count = refl; small = tt; words_are = refl })
all_firsts_found (suc k) l o e =
    let b = bind_ok (word_at (book 0 5 6) l) (first_then k) o e in
    let w = code_found (book 0 5 6) l b.0.0 b.0.1 (faulty_ok (code_at (book 0 5 6) l) b.0 b.1) in
    let d = unfolded b.0.0 in
    let g = λ (ds : List ℤ × List Bool). (let q : Result (List ℤ × List Bool) Fault = Ok (d ∷ ds.0, ds.1) in q) in
    elim (chosen (is_small d) (firsts_at k d false 5 b.0.1 >>= g) (Err level_range) (Ok o) b.2) [
      | inl fits ↦
          let b2 = bind_ok (firsts_at k d false 5 b.0.1) g o fits.1 in
          let i = firsts_found k d false 5 b.0.1 b2.0 b2.1 in
          let c : b.0.0 ≡ folded d = sym (folded-unfolded b.0.0) in
          let all : AreAllFirsts (suc k) l (d ∷ b2.0.0) b2.0.1 = record {
            count = ap suc i.count;
            small = (leb-true (nat_abs d) 32767 fits.0, i.small);
            words_are = w.1 ∙ ap (λ n. word (book 0 5 6) n ++ b.0.1) c ∙ ap (λ m. word (book 0 5 6) (folded d) ++ m) i.words_are
                ∙ sym (append_assoc (word (book 0 5 6) (folded d)) (dc_words d false 5 b2.0.0) b2.0.1);
          } in
          subst (λ (q : List ℤ × List Bool). AreAllFirsts (suc k) l q.0 q.1) (firsts_end (d ∷ b2.0.0, b2.0.1) o b2.2) all
      | inr over ↦ absurd (cc)
    ]

-- ---- the whole

pub same_values_front : (a b x y : List ℤ) → length a ≡ length b → a ++ x ≡ b ++ y → (a ≡ b) × (x ≡ y)
same_values_front [] [] x y l e = (refl, e)
same_values_front [] (q ∷ b) x y l e = absurd (omega (arith, l))
same_values_front (p ∷ a) [] x y l e = absurd (omega (arith, l))
same_values_front (p ∷ a) (q ∷ b) x y l e =
    let r = same_values_front a b x y (omega (arith, l)) (cc) in
    let h : p ≡ q = cc in (let u : a ≡ b = r.0 in cc, r.1)

pub listed_parts : (scan : List ℕ) (blocks : List Block) → IsScan scan → listed scan blocks ≡ column blocks 0 ++ listed (drop 1 scan) blocks
listed_parts scan blocks s = ap (λ p. listed p blocks) s.starts

blocks_end : {E : Type 0} (a b : List Block) → ◌≡◌ {A = Result (List Block) E} (Ok a) (Ok b) → a ≡ b
blocks_end a b e = cc

pub component_again : (scan : List ℕ) (l : List Bool) (blocks : List Block) → IsScan scan → length blocks ≤ 32 → Stands l blocks scan → component_at (length blocks) scan l ≡ Ok blocks
unfolding component_at spelling
component_again scan l blocks s h t =
    let n = length blocks in
    let ds = column blocks 0 in
    let vs = listed (drop 1 scan) blocks in
    let len : length vs ≡ 63 * n = length-listed (drop 1 scan) blocks ∙ ap (λ k. k * n) (let u : length (drop 1 scan) ≡ 63 = omega (arith, length-drop 1 scan, s.size) in u) in
    let f = all_firsts_again n ds (ac_words 4 2 0 vs ++ zeros t.behind) (length-column blocks 0) (column_small blocks 0 t.fits) in
    let v = values_again vs (63 * n + 1) (63 * n) 4 2 0 t.behind (omega (arith, len)) (omega (arith, len)) (omega arith) (listed_small (drop 1 scan) blocks t.fits) in
    ap (component_at n scan) (t.is ∙ append_assoc (all_dc_words ds) (ac_words 4 2 0 vs) (zeros t.behind))
    ∙ ap (λ r. r >>= rest_then scan n) f
    ∙ ap (λ r. r >>= λ vs. Ok (woven scan n (ds ++ vs))) v
    ∙ ap Ok (ap (woven scan n) (sym (listed_parts scan blocks s)) ∙ woven-listed scan blocks s t.fits)

pub component_found : (scan : List ℕ) (l : List Bool) (blocks : List Block) (count : ℕ) → IsScan scan → 0 < count → component_at count scan l ≡ Ok blocks → (length blocks ≡ count) × Stands l blocks scan
unfolding component_at spelling
component_found scan l blocks count s h e =
    let b = bind_ok (all_firsts_at count l) (rest_then scan count) blocks e in
    let ds = b.0.0 in
    let g = λ (vs : List ℤ). (let q : Result (List Block) Fault = Ok (woven scan count (ds ++ vs)) in q) in
    let b2 = bind_ok (values_at (63 * count + 1) (63 * count) 4 2 b.0.1) g blocks b.2 in
    let vs = b2.0 in
    let f = all_firsts_found count l b.0 b.1 in
    let v = values_found (63 * count + 1) (63 * count) 4 2 b.0.1 vs b2.1 in
    let len : length (ds ++ vs) ≡ 64 * count = omega (arith, length-append ds vs, f.count, v.count) in
    let w = woven scan count (ds ++ vs) in
    let n : length w ≡ count = length-woven scan count (ds ++ vs) in
    let l2 : column w 0 ++ listed (drop 1 scan) w ≡ ds ++ vs = sym (listed_parts scan w s) ∙ listed-woven scan count (ds ++ vs) s h len in
    let p = same_values_front (column w 0) ds (listed (drop 1 scan) w) vs (length-column w 0 ∙ n ∙ sym f.count) l2 in
    let st : Stands l w scan = record {
      fits = woven_blocks scan count (ds ++ vs) (AllSmall_both ds vs f.small v.small);
      behind = v.behind;
      is = f.words_are ∙ ap (λ m. all_dc_words ds ++ m) v.words_are ∙ sym (append_assoc (all_dc_words ds) (ac_words 4 2 0 vs) (zeros v.behind))
          ∙ ap (λ m. (all_dc_words m ++ ac_words 4 2 0 vs) ++ zeros v.behind) (sym p.0)
          ∙ ap (λ m. (all_dc_words (column w 0) ++ ac_words 4 2 0 m) ++ zeros v.behind) (sym p.1);
    } in
    let same = blocks_end w blocks b2.2 in
    (ap length (sym same) ∙ n, subst (λ b. Stands l b scan) same st)

pub one_reading : (scan : List ℕ) (l : List Bool) (a b : List Block) → IsScan scan → 0 < length a → length a ≤ 32 → length b ≡ length a → Stands l a scan → Stands l b scan → a ≡ b
one_reading scan l a b s h k e x y =
    let p = component_again scan l a s k x in
    let q : component_at (length a) scan l ≡ Ok b = subst (λ n. component_at n scan l ≡ Ok b) e (component_again scan l b s (omega (arith, e)) y) in
    blocks_end a b (sym p ∙ q)

blocks_or_fault_of : (scan : List ℕ) (l : List Bool) (count : ℕ) (r : Result (List Block) Fault) → component_at count scan l ≡ r → IsScan scan → 0 < count →
    ((blocks : List Block) × (length blocks ≡ count) × Stands l blocks scan) ⊎ ((fault : Fault) × (component_at count scan l ≡ Err fault))
blocks_or_fault_of scan l count (Ok blocks) e s h = let f = component_found scan l blocks count s h e in inl (blocks, f.0, f.1)
blocks_or_fault_of scan l count (Err fault) e s h = inr (fault, e)

pub blocks_or_fault : (scan : List ℕ) (l : List Bool) (count : ℕ) → IsScan scan → 0 < count → count ≤ 32 →
    ((blocks : List Block) × (length blocks ≡ count) × Stands l blocks scan) ⊎ ((fault : Fault) × (component_at count scan l ≡ Err fault))
blocks_or_fault scan l count s h k = blocks_or_fault_of scan l count (component_at count scan l) refl s h

pub not_both : (scan : List ℕ) (l : List Bool) (a : List Block) (fault : Fault) → IsScan scan → length a ≤ 32 → Stands l a scan → component_at (length a) scan l ≡ Err fault → ⊥
not_both scan l a fault s k x e = let p = component_again scan l a s k x in cc

pub scan_of : (scan : Scan) → IsScan (places scan)
scan_of Progressive = progressive_is_scan
scan_of Interlaced = interlaced_is_scan

-- the positions of a scan after the first
pub places_inside : (scan : List ℕ) → IsScan scan → (k : ℕ) → k < 63 → get_or (drop 1 scan) k 0 < 64
places_inside scan s k h =
    let at : get_or scan (suc k) 0 ≡ get_or (drop 1 scan) k 0 = ap (λ l. get_or l (suc k) 0) s.starts in
    omega (arith, (s.places (suc k) (omega arith)).0, at)

-- ---- the parts of reading

module _ (scan : List ℕ) (n : ℕ) (l : List Bool) where
  pub whole_is : (blocks : List Block) (ds vs : List ℤ) (l1 : List Bool) → IsScan scan → AreBlocks blocks → length blocks ≡ n → all_firsts_at n l ≡ Ok (ds, l1) →
      values_at (63 * n + 1) (63 * n) 4 2 l1 ≡ Ok vs → listed scan blocks ≡ ds ++ vs → component_at n scan l ≡ Ok blocks
  unfolding component_at
  whole_is blocks ds vs l1 s a size e f is =
      ap (λ r. r >>= rest_then scan n) e ∙ ap (λ r. r >>= λ vs. Ok (woven scan n (ds ++ vs))) f
      ∙ ap Ok (ap (woven scan n) (sym is) ∙ ap (λ m. woven scan m (listed scan blocks)) (sym size) ∙ woven-listed scan blocks s a)

  pub firsts_fail : (x : Fault) → all_firsts_at n l ≡ Err x → component_at n scan l ≡ Err x
  unfolding component_at
  firsts_fail x e = ap (λ r. r >>= rest_then scan n) e

  pub values_fail : (ds : List ℤ) (l1 : List Bool) (x : Fault) → all_firsts_at n l ≡ Ok (ds, l1) → values_at (63 * n + 1) (63 * n) 4 2 l1 ≡ Err x → component_at n scan l ≡ Err x
  unfolding component_at
  values_fail ds l1 x e f = ap (λ r. r >>= rest_then scan n) e ∙ ap (λ r. r >>= λ vs. Ok (woven scan n (ds ++ vs))) f

pub on_ok_two : {T E P Q R : Type 0} (r : Result T E) → (P → Q → R) → OnOk r P → OnOk r Q → OnOk r R
on_ok_two (Ok x) f p q = f p q
on_ok_two (Err e) f p q = tt
