-- The measure of an index, from its state after all positions.
use Rattle.std.proofs.Common.{◌≡◌, ℕ, ◌+◌, ◌-◌, ◌*◌, ◌/◌, ◌<◌, ◌≤◌, List, [], ◌∷◌, length, drop, map, get_or, ℤ, pos, refl, sym, ap, ◌∙◌, arith}
use Rattle.std.specs.List.{All}
use Rattle.std.proofs.lemmas.Nat.{mul-le}
use Rattle.std.proofs.lemmas.List.{get_or-map}
use Rattle.std.proofs.lemmas.List.FromFn.{get_or-map-range_with_len}
use Rattle.pr_quant.specs.Quantised.{scale_of, quantised}
use Rattle.pr_quant.specs.Matrices.{IsWeight}
use Rattle.pr_coeff.specs.Component.{component, places, column, listed, all_dc_words, ac_words}
use Rattle.pr_coeff.specs.declared.scan.Scan.{Scan}
use Rattle.pr_coeff.proofs.WholeLemmas.{scan_of as is_scan}
use Rattle.pr_coeff.proofs.LengthLemmas.{component_bytes}
use Rattle.rate_build.specs.declared.costs.Measure.{Measure}
use Rattle.rate_build.specs.declared.walk.State.{State}
use Rattle.pr_quant.specs.Errors.{multipliers, part_error}
use Rattle.rate_build.specs.Measures.{quantised_block, quantised_part, measured, ArePart}
use Rattle.rate_build.specs.inner.Walk.{start_state, IsSound, after_places, squares_at, squares_behind, dc_gain, dc_values}
use Rattle.rate_build.proofs.Walking.{multiplier_two, places_sound}
use Rattle.rate_build.proofs.Following.{all_bits}
use Rattle.rate_build.proofs.Gaining.{part_gain}

sound_more : (a b : ℕ) (st : State) → a ≤ b → IsSound a st → IsSound b st
sound_more a b st h s = record { behind = omega (arith, s.behind); bits = omega (arith, s.bits); gain = omega (arith, s.gain); run = s.run; level = s.level }

-- the DC coefficients of a quantised part
dc_column : (ms : List ℕ) (blocks : List (List ℤ)) → column (map (quantised_block ms) blocks) 0 ≡ dc_values blocks (get_or ms 0 0)
unfolding dc_values quantised_block
dc_column ms [] = refl
dc_column ms (b ∷ blocks) =
    let one = get_or-map-range_with_len (λ p. quantised (get_or b p (pos 0)) (get_or ms p 0)) 0 64 0 0 (pos 0) (omega arith) (omega arith) in
    ap (λ v. v ∷ column (map (quantised_block ms) blocks) 0) one ∙ ap (λ l. quantised (get_or b 0 (pos 0)) (get_or ms 0 0) ∷ l) (dc_column ms blocks)

module _ (scan : Scan) (weights : List ℕ) (blocks : List (List ℤ)) (index : ℕ) (whole : length weights ≡ 64) (ws : All IsWeight weights) (part : ArePart blocks) (least : 1 ≤ index) where
  abbrev pub last : State
  last = after_places (places scan) weights blocks (scale_of index) 63 start_state

  abbrev pub dc_multiplier : ℕ
  dc_multiplier = get_or weights 0 0 * scale_of index

  some : (p : ℕ) → p < 64 → 0 < get_or weights p 0 * scale_of index
  some p h = omega (arith, multiplier_two (get_or weights p 0) index (ws p 0 (omega arith)) least)

  pub last_sound : IsSound 2016 last
  last_sound =
      sound_more (63 * length blocks) 2016 last (omega (arith, mul-le 63 (length blocks) 63 32 (omega arith) part.few))
      (places_sound (places scan) weights blocks index 63 (is_scan scan) whole ws part.each part.few least (omega arith))

  pub last_gain : last.gain + dc_gain blocks dc_multiplier (length blocks) + part_error weights index blocks ≡ squares_behind (places scan) blocks 63 + squares_at blocks 0 (length blocks)
  last_gain = part_gain weights blocks index whole some scan (is_scan scan)

  dc_same : column (quantised_part weights index blocks) 0 ≡ dc_values blocks dc_multiplier
  unfolding quantised_part multipliers
  dc_same = dc_column (multipliers weights index) blocks ∙ ap (dc_values blocks) (get_or-map (λ (w : ℕ). w * scale_of index) weights 0 0 0 (omega arith))

  bytes_are : length (component (places scan) (quantised_part weights index blocks)) ≡ (length (all_dc_words (dc_values blocks dc_multiplier)) + last.bits + 7) / 8
  unfolding quantised_part
  bytes_are =
      component_bytes (places scan) (quantised_part weights index blocks)
      ∙ ap (λ (ds : List ℤ). (length (all_dc_words ds) + length (ac_words 4 2 0 (listed (drop 1 (places scan)) (quantised_part weights index blocks))) + 7) / 8) dc_same
      ∙ ap (λ (n : ℕ). (length (all_dc_words (dc_values blocks dc_multiplier)) + n + 7) / 8) (sym (all_bits (places scan) weights blocks index (is_scan scan) whole))

  pub measured_so : (m : Measure) (st : State) (d squares : ℕ) → st ≡ last → d ≡ dc_multiplier → squares ≡ squares_behind (places scan) blocks 63 + squares_at blocks 0 (length blocks)
      → m.bytes ≡ (length (all_dc_words (dc_values blocks d)) + st.bits + 7) / 8 → m.error ≡ squares - (st.gain + dc_gain blocks d (length blocks)) → m ≡ measured (places scan) weights blocks index
  measured_so m st d squares e f g bytes error =
      let b : m.bytes ≡ length (component (places scan) (quantised_part weights index blocks)) =
      bytes ∙ ap (λ (d : ℕ). (length (all_dc_words (dc_values blocks d)) + st.bits + 7) / 8) f ∙ ap (λ (s : State). (length (all_dc_words (dc_values blocks dc_multiplier)) + s.bits + 7) / 8) e ∙ sym bytes_are in
      let r : m.error ≡ part_error weights index blocks =
      omega (arith, error, g, last_gain, ap (λ (s : State). s.gain) e, ap (λ (d : ℕ). dc_gain blocks d (length blocks)) f) in
      λ j. record { bytes = b j; error = r j }

  -- what is taken from the squares is at most these
  pub gain_within : (st : State) (d squares : ℕ) → st ≡ last → d ≡ dc_multiplier → squares ≡ squares_behind (places scan) blocks 63 + squares_at blocks 0 (length blocks) → st.gain + dc_gain blocks d (length blocks) ≤ squares
  gain_within st d squares e f g = omega (arith, g, last_gain, ap (λ (s : State). s.gain) e, ap (λ (d : ℕ). dc_gain blocks d (length blocks)) f)
