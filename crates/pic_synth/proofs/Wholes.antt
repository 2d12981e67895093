-- The pictures have well-formed planes and 10-bit samples.
use Rattle.std.proofs.Common.{◌≡◌, ℕ, zero, suc, ◌+◌, ◌*◌, ◌<◌, ◌≤◌, ◌^◌, length, map, refl, arith, subst}
use Rattle.std.specs.List.{range_with_len, All}
use Rattle.std.proofs.lemmas.List.FromFn.{length-map-range_with_len}
use Rattle.pw_planes.specs.Plane.{IsPlane}
use Rattle.pw_planes.proofs.RowLemmas.{length-raster, All-raster}
use Rattle.pic_raw.specs.Writing.{IsWhole, AreWhole}
use Rattle.pic_synth.specs.declared.synthetic.Synthetic.{Synthetic}
use Rattle.pic_synth.specs.Pictures.{IsSynthetic, synthetic_head, state_after, next_state, noise_of, noise_behind, noisy_samples, noisy_plane, luma_level, chroma_level, synthetic_picture, synthetic_pictures}
use Rattle.pic_y4m.specs.declared.head.TheConstants.{MAX_FRAMES}

next-small : (state : ℕ) → noise_of (next_state state) < 8
next-small state = omega arith

noise-small : (seed n : ℕ) → noise_behind seed n < 8
unfolding state_after
noise-small seed n =
    let e : suc n ≡ n + 1 = omega arith in
    subst (λ m. noise_of (state_after seed m) < 8) e (next-small (state_after seed n))

luma-small : (frame x y : ℕ) → luma_level frame x y ≤ 736
luma-small frame x y = omega arith

chroma-small : (frame x y : ℕ) → chroma_level frame x y ≤ 560
chroma-small frame x y = omega arith

noisy-small : (seed before width height : ℕ) (level : ℕ → ℕ → ℕ) → ((x y : ℕ) → level x y ≤ 736) → All (λ n. n < 2 ^ 10) (noisy_samples seed before level width height)
noisy-small seed before width height level small =
    All-raster (λ n. n < 2 ^ 10) width height (λ x y. level x y + noise_behind seed (before + (y * width + x)))
    (λ x y _ _. let a = small x y in let b = noise-small seed (before + (y * width + x)) in omega (arith, a, b))

noisy-whole : (seed before width height : ℕ) (level : ℕ → ℕ → ℕ) → 0 < width → 0 < height → width ≤ 8192 → height ≤ 4320 → IsPlane (noisy_plane seed before level width height)
noisy-whole seed before width height level w h columns rows = record {
  some_columns = w;
  some_rows = h;
  columns = columns;
  rows = rows;
  whole = length-raster width height (λ x y. level x y + noise_behind seed (before + (y * width + x)));
}

picture-whole : (s : Synthetic) (frame : ℕ) → IsSynthetic s → IsWhole (synthetic_head s) (synthetic_picture s frame)
picture-whole s frame ok = record {
  picture = record {
    form = record {
      size = record { luma = (refl, refl); cb = (refl, refl); cr = (refl, refl); alpha = tt };
      chroma = refl;
      depth = refl;
      alpha = refl;
      luma = noisy-small _ _ _ _ _ (luma-small frame);
      cb = noisy-small _ _ _ _ _ (λ x y. let a = chroma-small frame x y in omega (arith, a));
      cr = noisy-small _ _ _ _ _ (λ x y. let a = chroma-small frame x y in omega (arith, a));
    };
    alpha = tt;
  };
  luma = noisy-whole _ _ _ _ _ ok.some_columns ok.some_rows ok.columns ok.rows;
  cb = noisy-whole _ _ _ _ _ (omega (arith, ok.some_columns)) ok.some_rows (omega (arith, ok.columns)) ok.rows;
  cr = noisy-whole _ _ _ _ _ (omega (arith, ok.some_columns)) ok.some_rows (omega (arith, ok.columns)) ok.rows;
  alpha = tt;
}

pub pictures-whole : (s : Synthetic) → IsSynthetic s → AreWhole (synthetic_head s) (synthetic_pictures s)
pictures-whole s ok = all s.frames 0
  where
    all : (n frame : ℕ) → AreWhole (synthetic_head s) (map (synthetic_picture s) (range_with_len frame n))
    all zero frame = tt
    all (suc n) frame = (picture-whole s frame ok, all n (frame + 1))

pub pictures-few : (s : Synthetic) → IsSynthetic s → length (synthetic_pictures s) ≤ MAX_FRAMES
pictures-few s ok = let e = length-map-range_with_len (synthetic_picture s) 0 s.frames in omega (arith, e, ok.frames)
