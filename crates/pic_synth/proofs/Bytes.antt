-- The bytes of the pictures by index.
use Rattle.std.proofs.Common.{◌≡◌, ℕ, zero, suc, ◌+◌, ◌*◌, ◌/◌, ◌%◌, ◌<◌, ◌≤◌, eqb, if◌then◌else◌, List, [], ◌∷◌, length, get_or, map, drop, refl, sym, ap, ◌∙◌, arith, ⊎_elim}
use Rattle.std.proofs.lemmas.Bool.{cases_Bool, eqb-true, eqb-false}
use Rattle.pic_synth.specs.Pictures.{next_state, state_after}
use Rattle.std.specs.List.{range_with_len}
use Rattle.std.proofs.lemmas.List.{drop_more, nil_from_length, length-drop}
use Rattle.std.proofs.lemmas.List.FromFn.{length-map-range_with_len, get_or-map-range_with_len}
use Rattle.pic_y4m.specs.declared.samples.SampleSize.TheVariants.{Pair}
use Rattle.pic_y4m.specs.Samples.{plane_bytes}
use Rattle.pic_y4m.proofs.SamplesAgain.{plane-length}
use Rattle.pic_synth.specs.declared.synthetic.Synthetic.{Synthetic}
use Rattle.pic_synth.specs.Numbered.{sample_of, sample_count, synthetic_bytes, byte_of, byte_at}
use Rattle.pic_synth.proofs.Samples.{bytes-run}

-- byte p of two-byte samples
pair-byte : (ys : List ℕ) (p : ℕ) → p < 2 * length ys → get_or (plane_bytes Pair ys) p 0 ≡ byte_of (eqb (p % 2) 0) (get_or ys (p / 2) 0)
pair-byte [] p lt = absurd (omega (arith, lt))
pair-byte (y ∷ ys) zero lt = refl
pair-byte (y ∷ ys) (suc zero) lt = refl
pair-byte (y ∷ ys) (suc (suc p)) lt =
    let half : suc (suc p) / 2 ≡ suc (p / 2) = omega arith in
    let same : suc (suc p) % 2 ≡ p % 2 = omega arith in
    pair-byte ys p (omega (arith, lt)) ∙ sym (λ i. byte_of (eqb (same i) 0) (get_or (y ∷ ys) (half i) 0))

module _ (s : Synthetic) where
  pub bytes-length : length (synthetic_bytes s) ≡ 2 * sample_count s
  bytes-length =
      ap length (bytes-run s) ∙ plane-length Pair (map (sample_of s) (range_with_len 0 (sample_count s)))
      ∙ ap (λ n. n * 2) (length-map-range_with_len (sample_of s) 0 (sample_count s)) ∙ omega arith

  byte-there : (p : ℕ) → p < 2 * sample_count s → get_or (synthetic_bytes s) p 0 ≡ byte_at s p
  byte-there p lt =
      let len = length-map-range_with_len (sample_of s) 0 (sample_count s) in
      ap (λ l. get_or l p 0) (bytes-run s)
      ∙ pair-byte (map (sample_of s) (range_with_len 0 (sample_count s))) p (omega (arith, len, lt))
      ∙ ap (byte_of (eqb (p % 2) 0)) (get_or-map-range_with_len (sample_of s) 0 (sample_count s) (p / 2) (p / 2) 0 (omega (arith, lt)) (omega arith))

  -- the next byte
  pub next-byte : (p : ℕ) → p < 2 * sample_count s → drop p (synthetic_bytes s) ≡ byte_at s p ∷ drop (p + 1) (synthetic_bytes s)
  next-byte p lt =
      drop_more (synthetic_bytes s) p 0 (omega (arith, bytes-length, lt)) ∙ ap (λ b. b ∷ drop (p + 1) (synthetic_bytes s)) (byte-there p lt)

  -- no byte is left
  pub no-byte : (p : ℕ) → 2 * sample_count s ≤ p → drop p (synthetic_bytes s) ≡ []
  no-byte p le = nil_from_length (drop p (synthetic_bytes s)) (length-drop p (synthetic_bytes s) ∙ omega (arith, bytes-length, le))

-- the state after the sample of the next byte, from the state after the bytes before
pub state-there : (seed p state : ℕ) → state ≡ state_after seed ((p + 1) / 2) → (if eqb (p % 2) 0 then next_state state else state) ≡ state_after seed (p / 2 + 1)
unfolding state_after
state-there seed p state e = ⊎_elim
    (λ t.
    let even : p % 2 ≡ 0 = eqb-true (p % 2) 0 t in
    let same : (p + 1) / 2 ≡ p / 2 = omega (arith, even) in
    let more : suc (p / 2) ≡ p / 2 + 1 = omega arith in
    rw t (ap next_state (e ∙ ap (state_after seed) same) ∙ ap (state_after seed) more))
    (λ f.
    let odd = eqb-false (p % 2) 0 f in
    let next : (p + 1) / 2 ≡ p / 2 + 1 = omega (arith, odd) in
    rw f (e ∙ ap (state_after seed) next))
    (cases_Bool (eqb (p % 2) 0))
