-- The state of an index is that of a writer of its coefficients.
use Rattle.std.proofs.Common.{◌≡◌, ℕ, zero, suc, ◌+◌, ◌-◌, ◌*◌, ◌<◌, ◌≤◌, inl, inr, List, [], ◌∷◌, ◌++◌, length, append_assoc, append-nil, take, drop, map, get_or, ℤ, pos, negsuc, nat_abs, add-one, sym, ap, ◌∙◌, subst, arith}
use Rattle.std.proofs.lemmas.Bool.{cases_lt}
use Rattle.std.proofs.lemmas.Grind.{get_or_after_one}
use Rattle.std.proofs.lemmas.List.{get_or-map, length-map, length-drop, take_all}
use Rattle.std.proofs.lemmas.List.FromFn.{get_or-map-range_with_len}
use Rattle.pr_quant.specs.Quantised.{scale_of, quantised}
use Rattle.pr_quant.specs.Turns.{gain_of}
use Rattle.pr_quant.proofs.NearestLemmas.{abs-quantised}
use Rattle.pr_coeff.specs.Component.{ac_words, column, listed, IsScan}
use Rattle.pr_coeff.specs.Lengths.{run_class, run_bits, level_class, level_bits}
use Rattle.pr_coeff.proofs.WovenLemmas.{length-column}
use Rattle.pr_coeff.specs.Known.{Known}
use Rattle.pr_coeff.proofs.KnownLemmas.{known_none, known_zero, known_some, known_all}
use Rattle.pr_coeff.proofs.CodingLemmas.{column_more, listed_more}
use Rattle.rate_build.specs.declared.walk.State.{State}
use Rattle.pr_quant.specs.Errors.{multipliers}
use Rattle.rate_build.specs.Measures.{quantised_block}
use Rattle.rate_build.specs.inner.Walk.{start_state, level_at, taken, after_value, after_blocks, after_places, size_at}
use Rattle.rate_build.proofs.Walking.{value_none, value_some}

-- the state after n positions with these values
pub record Follows (n : ℕ) (vs : List ℤ) (st : State) : Type 0 where
  pub behind : st.behind ≤ n
  pub known : Known vs st.bits (n - st.behind) st.run_class st.level_class

pub follows_start : Follows 0 [] start_state
follows_start = record { behind = omega arith; known = known_none }

-- ---- one value

abs_is : (c : ℤ) (m : ℕ) → nat_abs (quantised c m) ≡ level_at (nat_abs c) m
unfolding level_at
abs_is c m = abs-quantised c m

abs_none : (q : ℤ) → nat_abs q ≡ 0 → q ≡ pos 0
abs_none (pos n) e = ap pos e
abs_none (negsuc n) e = absurd (omega (arith, e))

zero_follows : (n : ℕ) (vs : List ℤ) (st : State) (q : ℤ) → q ≡ pos 0 → Follows n vs st → Follows (n + 1) (vs ++ q ∷ []) st
zero_follows n vs st q e f =
    let place : n - st.behind + 1 ≡ n + 1 - st.behind = omega (arith, f.behind) in
    record { behind = omega (arith, f.behind); known = subst (λ z. Known (vs ++ q ∷ []) st.bits z st.run_class st.level_class) place (known_zero vs st.bits (n - st.behind) st.run_class st.level_class q e f.known) }

some_follows : (n : ℕ) (vs : List ℤ) (st : State) (q : ℤ) (level gain : ℕ) → nat_abs q ≡ level → 0 < level → Follows n vs st → Follows (n + 1) (vs ++ q ∷ []) (taken n level gain st)
unfolding taken
some_follows n vs st q level gain e some f =
    let zeros = n - st.behind in
    let place : 0 ≡ n + 1 - (n + 1) = omega arith in
    record {
      behind = omega arith;
      known = subst (λ z. Known (vs ++ q ∷ []) (st.bits + (run_bits st.run_class zeros + level_bits st.level_class level)) z (run_class zeros) (level_class level)) place
          (known_some vs st.bits zeros st.run_class st.level_class q level e some f.known);
    }

pub value_follows : (n : ℕ) (vs : List ℤ) (st : State) (c : ℤ) (m : ℕ) → Follows n vs st → Follows (n + 1) (vs ++ quantised c m ∷ []) (after_value n (nat_abs c) m st)
value_follows n vs st c m f = elim (cases_lt 0 (level_at (nat_abs c) m)) [
  | inl h ↦ subst (Follows (n + 1) (vs ++ quantised c m ∷ [])) (sym (value_some n (nat_abs c) m st h))
      (some_follows n vs st (quantised c m) (level_at (nat_abs c) m) (gain_of (nat_abs c) (level_at (nat_abs c) m) m) (abs_is c m) h f)
  | inr h ↦
      let none : level_at (nat_abs c) m ≡ 0 = omega arith in
      subst (Follows (n + 1) (vs ++ quantised c m ∷ [])) (sym (value_none n (nat_abs c) m st none)) (zero_follows n vs st (quantised c m) (abs_none (quantised c m) (abs_is c m ∙ none)) f)
]

-- ---- blocks

module _ (ms : List ℕ) (blocks : List (List ℤ)) where
  abbrev quantised_blocks : List (List ℤ)
  quantised_blocks = map (quantised_block ms) blocks

  value_at : (i p : ℕ) → i < length blocks → p < 64 → get_or (get_or quantised_blocks i []) p (pos 0) ≡ quantised (get_or (get_or blocks i []) p (pos 0)) (get_or ms p 0)
  unfolding quantised_block
  value_at i p l h =
      ap (λ (b : List ℤ). get_or b p (pos 0)) (get_or-map (quantised_block ms) blocks i [] [] l)
      ∙ get_or-map-range_with_len (λ p. quantised (get_or (get_or blocks i []) p (pos 0)) (get_or ms p 0)) 0 64 p p (pos 0) h (omega arith)

  pub blocks_follow : (p m from i : ℕ) (vs : List ℤ) (st : State) → p < 64 → m ≡ get_or ms p 0 → i ≤ length blocks → Follows from vs st
      → Follows (from + i) (vs ++ take i (column quantised_blocks p)) (after_blocks blocks p m from i st)
  unfolding after_blocks size_at
  blocks_follow p m from zero vs st h e le f =
      let a : from + 0 ≡ from = omega arith in
      let b : vs ++ [] ≡ vs = append-nil vs in
      rw (a, b) f
  blocks_follow p m from (suc i) vs st h e le f =
      let col = column quantised_blocks p in
      let lt : i < length blocks = omega arith in
      let c = get_or (get_or blocks i []) p (pos 0) in
      let now = after_blocks blocks p m from i st in
      let one = value_follows (from + i) (vs ++ take i col) now c m (blocks_follow p m from i vs st h e (omega arith) f) in
      let more : take (suc i) col ≡ take i col ++ quantised c m ∷ [] =
      ap (λ n. take n col) (sym (add-one i)) ∙ column_more quantised_blocks p i (omega (arith, length-map blocks (quantised_block ms)))
      ∙ ap (λ v. take i col ++ v ∷ []) (value_at i p lt h ∙ ap (quantised c) (sym e)) in
      let list : vs ++ take i col ++ quantised c m ∷ [] ≡ vs ++ take (suc i) col = append_assoc vs (take i col) (quantised c m ∷ []) ∙ ap (λ l. vs ++ l) (sym more) in
      let place : from + i + 1 ≡ from + suc i = omega arith in
      subst (λ n. Follows n (vs ++ take (suc i) col) (after_value (from + i) (nat_abs c) m now)) place (subst (λ l. Follows (from + i + 1) l (after_value (from + i) (nat_abs c) m now)) list one)

-- ---- positions

module _ (scan weights : List ℕ) (blocks : List (List ℤ)) (index : ℕ) (is : IsScan scan) (whole : length weights ≡ 64) where
  abbrev pub part : List (List ℤ)
  part = map (quantised_block (multipliers weights index)) blocks

  multiplier_at : (p : ℕ) → p < 64 → get_or weights p 0 * scale_of index ≡ get_or (multipliers weights index) p 0
  unfolding multipliers
  multiplier_at p h = sym (get_or-map (λ (w : ℕ). w * scale_of index) weights p 0 0 (omega arith))

  pub places_follow : (k : ℕ) → k ≤ 63 → Follows (k * length blocks) (listed (take k (drop 1 scan)) part) (after_places scan weights blocks (scale_of index) k start_state)
  unfolding after_places
  places_follow zero le = let e : 0 * length blocks ≡ 0 = omega arith in rw e follows_start
  places_follow (suc k) le =
      let p = get_or scan (k + 1) 0 in
      let n = length blocks in
      let vs = listed (take k (drop 1 scan)) part in
      let st = after_places scan weights blocks (scale_of index) k start_state in
      let inside : p < 64 = (is.places (k + 1) (omega arith)).0 in
      let m = get_or weights p 0 * scale_of index in
      let one = blocks_follow (multipliers weights index) blocks p m (k * n) n vs st inside (multiplier_at p inside) (omega arith) (places_follow k (omega arith)) in
      let at : get_or (drop 1 scan) k 0 ≡ p = get_or_after_one scan k 0 ∙ (let e : 1 + k ≡ k + 1 = omega arith in ap (λ k. get_or scan k 0) e) in
      let all : take n (column part p) ≡ column part p = take_all n (column part p) (omega (arith, length-column part p, length-map blocks (quantised_block (multipliers weights index)))) in
      let more : listed (take (suc k) (drop 1 scan)) part ≡ vs ++ column part p =
      ap (λ k. listed (take k (drop 1 scan)) part) (sym (add-one k)) ∙ listed_more (drop 1 scan) part k (omega (arith, length-drop 1 scan, is.size)) ∙ ap (λ p. vs ++ column part p) at in
      let list : vs ++ take n (column part p) ≡ listed (take (suc k) (drop 1 scan)) part = ap (λ l. vs ++ l) all ∙ sym more in
      let place : k * n + n ≡ suc k * n = omega arith in
      subst (λ i. Follows i (listed (take (suc k) (drop 1 scan)) part) (after_blocks blocks p m (k * n) n st)) place (subst (λ l. Follows (k * n + n) l (after_blocks blocks p m (k * n) n st)) list one)

  -- after all positions the bits are those of all codewords
  pub all_bits : (after_places scan weights blocks (scale_of index) 63 start_state).bits ≡ length (ac_words 4 2 0 (listed (drop 1 scan) part))
  all_bits =
      let f = places_follow 63 (omega arith) in
      let all : take 63 (drop 1 scan) ≡ drop 1 scan = take_all 63 (drop 1 scan) (omega (arith, length-drop 1 scan, is.size)) in
      known_all (listed (take 63 (drop 1 scan)) part) _ _ _ _ f.known ∙ ap (λ l. length (ac_words 4 2 0 (listed l part))) all
