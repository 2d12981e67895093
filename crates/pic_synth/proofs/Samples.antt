-- The samples of the pictures, in order, by index.
use Rattle.std.proofs.Common.{◌≡◌, ℕ, zero, suc, ◌+◌, ◌*◌, ◌/◌, ◌%◌, ◌<◌, ltb, List, [], ◌∷◌, ◌++◌, map, refl, sym, ap, ◌∙◌, arith, append_assoc}
use Rattle.std.proofs.lemmas.List.{append-nil, map-append}
use Rattle.std.specs.List.{range_with_len, flat_map}
use Rattle.std.proofs.lemmas.Bool.{lt-ltb, le-ltb, cond-true, cond-false}
use Rattle.std.proofs.lemmas.Grind.{flat_map-append}
use Rattle.std.proofs.lemmas.List.FromFn.{length-map-range_with_len, get_or-map-range_with_len}
use Rattle.std.proofs.lemmas.Nat.{div-mul-add, mod-mul-add, div-add-mod'}
use Rattle.pw_planes.specs.declared.picture.Picture.{Picture}
use Rattle.pw_planes.proofs.RowLemmas.{raster_by}
use Rattle.pic_y4m.specs.declared.samples.SampleSize.TheVariants.{Pair}
use Rattle.pic_y4m.specs.Samples.{plane_bytes, sample_text}
use Rattle.pic_raw.specs.Writing.{raw_bytes}
use Rattle.pic_synth.specs.declared.synthetic.Synthetic.{Synthetic}
use Rattle.pic_synth.specs.Pictures.{noise_behind, noisy_samples, luma_level, chroma_level, chroma_columns, luma_samples, chroma_samples, frame_samples, synthetic_picture}
use Rattle.pic_synth.specs.Numbered.{chroma_level_at, level_within, level_of, sample_of, sample_count, synthetic_bytes}

-- ---- ranges

range-parts : (m a n : ℕ) → range_with_len a (m + n) ≡ range_with_len a m ++ range_with_len (a + m) n
range-parts zero a n =
    let none : 0 + n ≡ n = omega arith in
    let here : a ≡ a + 0 = omega arith in
    ap (range_with_len a) none ∙ ap (λ b. range_with_len b n) here
range-parts (suc m) a n =
    let more : suc m + n ≡ suc (m + n) = omega arith in
    let next : a + 1 + m ≡ a + suc m = omega arith in
    ap (range_with_len a) more ∙ ap (λ l. a ∷ l) (range-parts m (a + 1) n ∙ ap (λ b. range_with_len (a + 1) m ++ range_with_len b n) next)

-- `n` samples from an index on
abbrev run : Synthetic → (at count : ℕ) → List ℕ
run s at count = map (sample_of s) (range_with_len at count)

run-parts : (s : Synthetic) (m at n : ℕ) → run s at (m + n) ≡ run s at m ++ run s (at + m) n
run-parts s m at n = ap (map (sample_of s)) (range-parts m at n) ∙ map-append (sample_of s) (range_with_len at m) (range_with_len (at + m) n)

-- ---- a plane

plane-run : (s : Synthetic) (at : ℕ) (level : ℕ → ℕ → ℕ) (width height : ℕ) → ((k : ℕ) → k < height * width → level_of s (at + k) ≡ level (k % width) (k / width))
    → run s at (height * width) ≡ noisy_samples s.seed at level width height
plane-run s at level width height each =
    raster_by width height (λ x y. level x y + noise_behind s.seed (at + (y * width + x))) (run s at (height * width)) (length-map-range_with_len (sample_of s) at (height * width))
    (λ k lt. get_or-map-range_with_len (sample_of s) at (height * width) k (at + k) 0 lt refl
    ∙ ap (λ n. n + noise_behind s.seed (at + k)) (each k lt)
    ∙ ap (λ n. level (k % width) (k / width) + noise_behind s.seed (at + n)) (sym (div-add-mod' k width)))

-- ---- a frame

module _ (s : Synthetic) (frame : ℕ) where
  -- sample n of the frame
  within : (n : ℕ) → n < frame_samples s → level_of s (frame * frame_samples s + n) ≡ level_within s frame n
  within n lt =
      ap (λ m. level_within s ((frame * frame_samples s + n) / frame_samples s) m) (mod-mul-add frame (frame_samples s) n lt)
      ∙ ap (λ f. level_within s f n) (div-mul-add frame (frame_samples s) n lt)

  luma-there : (k : ℕ) → k < luma_samples s → level_of s (frame * frame_samples s + k) ≡ luma_level frame (k % s.width) (k / s.width)
  luma-there k lt = within k (omega (arith, lt)) ∙ cond-true (ltb k (luma_samples s)) _ _ (lt-ltb k (luma_samples s) lt)

  chroma-place : (n k : ℕ) → n ≡ luma_samples s + k → n < frame_samples s → level_of s (frame * frame_samples s + n) ≡ chroma_level_at s frame (k % chroma_samples s)
  chroma-place n k e lt =
      within n lt ∙ cond-false (ltb n (luma_samples s)) _ _ (le-ltb n (luma_samples s) (omega (arith, e)))
      ∙ ap (λ m. chroma_level_at s frame (m % chroma_samples s)) (omega (arith, e))

  first-there : (k : ℕ) → k < chroma_samples s → level_of s (frame * frame_samples s + luma_samples s + k) ≡ chroma_level frame (k % chroma_columns s) (k / chroma_columns s)
  first-there k lt =
      let none : k ≡ 0 * chroma_samples s + k = grind arith in
      ap (level_of s) (omega arith) ∙ chroma-place (luma_samples s + k) k refl (omega (arith, lt))
      ∙ ap (λ n. chroma_level_at s frame (n % chroma_samples s)) none
      ∙ ap (chroma_level_at s frame) (mod-mul-add 0 (chroma_samples s) k lt)

  second-there : (k : ℕ) → k < chroma_samples s → level_of s (frame * frame_samples s + luma_samples s + chroma_samples s + k) ≡ chroma_level frame (k % chroma_columns s) (k / chroma_columns s)
  second-there k lt =
      ap (level_of s) (omega arith) ∙ chroma-place (luma_samples s + (chroma_samples s + k)) (chroma_samples s + k) refl (omega (arith, lt))
      ∙ ap (λ n. chroma_level_at s frame (n % chroma_samples s)) (omega arith)
      ∙ ap (chroma_level_at s frame) (mod-mul-add 1 (chroma_samples s) k lt)

  frame-run : run s (frame * frame_samples s) (frame_samples s)
      ≡ (synthetic_picture s frame).y.samples ++ ((synthetic_picture s frame).cb.samples ++ (synthetic_picture s frame).cr.samples)
  frame-run =
      let at = frame * frame_samples s in
      let y = plane-run s at (luma_level frame) s.width s.height luma-there in
      let cb = plane-run s (at + luma_samples s) (chroma_level frame) (chroma_columns s) s.height first-there in
      let cr = plane-run s (at + luma_samples s + chroma_samples s) (chroma_level frame) (chroma_columns s) s.height second-there in
      run-parts s (luma_samples s) at (chroma_samples s + chroma_samples s)
      ∙ ap (λ l. run s at (luma_samples s) ++ l) (run-parts s (chroma_samples s) (at + luma_samples s) (chroma_samples s))
      ∙ (λ i. y i ++ (cb i ++ cr i))

  frame-bytes : raw_bytes (synthetic_picture s frame) ≡ plane_bytes Pair (run s (frame * frame_samples s) (frame_samples s))
  unfolding raw_bytes
  frame-bytes =
      let p : Picture = synthetic_picture s frame in
      sym (ap (plane_bytes Pair) frame-run
      ∙ flat_map-append (sample_text Pair) p.y.samples (p.cb.samples ++ p.cr.samples)
      ∙ ap (λ l. plane_bytes Pair p.y.samples ++ l) (flat_map-append (sample_text Pair) p.cb.samples p.cr.samples)
      ∙ joined (plane_bytes Pair p.y.samples) (plane_bytes Pair p.cb.samples) (plane_bytes Pair p.cr.samples))
    where
      joined : (a b c : List ℕ) → a ++ (b ++ c) ≡ a ++ b ++ c ++ []
      joined a b c = simp (append_assoc, append-nil)

-- ---- all frames

frames-bytes : (s : Synthetic) (n frame : ℕ) → flat_map raw_bytes (map (synthetic_picture s) (range_with_len frame n)) ≡ plane_bytes Pair (run s (frame * frame_samples s) (n * frame_samples s))
frames-bytes s zero frame = let none : 0 ≡ 0 * frame_samples s = grind arith in ap (λ m. plane_bytes Pair (run s (frame * frame_samples s) m)) none
frames-bytes s (suc n) frame =
    let next : frame * frame_samples s + frame_samples s ≡ (frame + 1) * frame_samples s = grind arith in
    let more : suc n * frame_samples s ≡ frame_samples s + n * frame_samples s = grind arith in
    (λ i. frame-bytes s frame i ++ frames-bytes s n (frame + 1) i)
    ∙ sym (ap (λ m. plane_bytes Pair (run s (frame * frame_samples s) m)) more
    ∙ ap (plane_bytes Pair) (run-parts s (frame_samples s) (frame * frame_samples s) (n * frame_samples s))
    ∙ flat_map-append (sample_text Pair) (run s (frame * frame_samples s) (frame_samples s)) (run s (frame * frame_samples s + frame_samples s) (n * frame_samples s))
    ∙ ap (λ a. plane_bytes Pair (run s (frame * frame_samples s) (frame_samples s)) ++ plane_bytes Pair (run s a (n * frame_samples s))) next)

pub bytes-run : (s : Synthetic) → synthetic_bytes s ≡ plane_bytes Pair (map (sample_of s) (range_with_len 0 (sample_count s)))
bytes-run s = let first : 0 * frame_samples s ≡ 0 = grind arith in frames-bytes s s.frames 0 ∙ ap (λ a. plane_bytes Pair (run s a (sample_count s))) first
