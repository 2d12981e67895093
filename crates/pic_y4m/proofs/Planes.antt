-- Planes of samples that are read.
use Rattle.std.proofs.Common.{◌≡◌, ℕ, ◌+◌, ◌*◌, ◌/◌, ◌^◌, lit<, ◌<◌, ◌≤◌, Bool, true, false, not, eqb, ltb, if◌then◌else◌, List, length, get_or, Option, Some, None, Ok, Err, refl, sym, ap, ◌∙◌, subst, arith, ⊎_elim}
use Rattle.std.specs.List.{position_or_len, position, All}
use Rattle.pw_outside.specs.Reading.{Fault, Rest, Read, ◌>>=◌, bind, rest_of, Gives}
use Rattle.std.specs.Prelude.{IfSome}
use Rattle.std.specs.Option.{option_map}
use Rattle.pic_y4m.specs.declared.fault.PictureFault.{PictureFault}
use Rattle.pic_y4m.specs.declared.fault.PictureFault.TheVariants as faults
use Rattle.pic_y4m.specs.Faults.{told_fault}
use Rattle.pic_y4m.specs.declared.fault.PictureKind.{PictureKind}
use Rattle.std.proofs.lemmas.List.Sums.{prefix_len_passes}
use Rattle.std.proofs.lemmas.Bool.{ltb-false, leb-false, cases_Bool, cases_lt, lt-ltb, eqb-true, cond-true, cond-false}
use Rattle.pw_planes.specs.declared.kinds.Depth.{Depth}
use Rattle.std.proofs.lemmas.List.FromFn.{length-map-range_with_len}
use Rattle.std.proofs.lemmas.List.{get_or_past}
use Rattle.pw_planes.specs.declared.kinds.AlphaKind.TheVariants.{Absent}
use Rattle.pw_planes.specs.declared.kinds.Depth.TheVariants.{D8, D10, D12}
use Rattle.pw_planes.proofs.RowLemmas.{All-raster}
use Rattle.pw_planes.specs.Samples.{sample_bits, chroma_width}
use Rattle.pic_y4m.specs.declared.head_line.Stream.{Stream}
use Rattle.pic_y4m.specs.declared.fault.PictureKind.TheVariants as kinds
use Rattle.pic_y4m.specs.declared.samples.SampleSize.{SampleSize}
use Rattle.pic_y4m.specs.declared.samples.SampleSize.TheVariants.{Byte, Pair}
use Rattle.pic_y4m.specs.Samples.{sample_bytes, sample_in, samples_in, samples_at, some_samples_at, is_past, in_range}
use Rattle.pic_y4m.specs.Frames.{AreBelow, HasForm, chroma_samples, picture_of}
use Rattle.pic_y4m.proofs.Chain.{answer, bind-ok, ok-same, some-same, none-some}

not-false : (b : Bool) → not b ≡ true → b ≡ false
not-false true h = absurd (cc)
not-false false h = refl

-- each sample is below the limit
pub range-good : (size : SampleSize) (limit : ℕ) (samples : List ℕ) (place : ℕ) → position (is_past limit) samples ≡ None → in_range size limit samples place ≡ Ok tt
unfolding in_range
range-good size limit samples place h =
    ⊎_elim (λ t. let e = sym h ∙ cond-true _ (Some (position_or_len (is_past limit) samples)) None t in absurd (cc)) (λ f. rw f refl) (cases_Bool (ltb (position_or_len (is_past limit) samples) (length samples)))

pub range-below : (limit : ℕ) (samples : List ℕ) → position (is_past limit) samples ≡ None → All (λ s. s < limit) samples
range-below limit samples h =
    ⊎_elim (λ t. let e = sym h ∙ cond-true _ (Some (position_or_len (is_past limit) samples)) None t in absurd (cc))
    (λ f. let ge : length samples ≤ position_or_len (is_past limit) samples = ltb-false _ _ f in
    λ k d lt. leb-false _ _ (not-false _ (prefix_len_passes (λ s. not (is_past limit s)) samples k d (omega arith))))
    (cases_Bool (ltb (position_or_len (is_past limit) samples) (length samples)))

-- sample k is the first that isn't below the limit
pub range-bad : (size : SampleSize) (limit : ℕ) (samples : List ℕ) (place k at : ℕ) → position (is_past limit) samples ≡ Some k → at ≡ place + k * sample_bytes size
    → in_range size limit samples place ≡ Err (record { kind = kinds.SampleRange; place = at })
unfolding in_range
range-bad size limit samples place k at h e =
    ⊎_elim
    (λ t. let s : Some (position_or_len (is_past limit) samples) ≡ Some k = sym (cond-true _ (Some (position_or_len (is_past limit) samples)) None t) ∙ h in
    let same : position_or_len (is_past limit) samples ≡ k = cc in
    rw t (rw (e, sym same) refl))
    (λ f. let n = sym h ∙ cond-false _ (Some (position_or_len (is_past limit) samples)) None f in absurd (cc))
    (cases_Bool (ltb (position_or_len (is_past limit) samples) (length samples)))

pub samples_length : (size : SampleSize) (count : ℕ) (bytes : List ℕ) → length (samples_in size count bytes) ≡ count
unfolding samples_in
samples_length size count bytes = length-map-range_with_len (sample_in size bytes) 0 count

-- the result of reading samples that may be missing
module _ (size : SampleSize) (count : ℕ) (s : Rest) where
  empty-short : 1 ≤ count → length s.bytes ≡ 0 → samples_at size count s ≡ Err (record { kind = kinds.Truncated; place = s.place })
  unfolding samples_at
  empty-short some none =
      let short : ltb (length s.bytes) (count * sample_bytes size) ≡ true = lt-ltb _ _ (much size) in
      rw short (ap (λ n. Err (record { kind = kinds.Truncated; place = n })) (omega (arith, none)))
    where
      much : (size : SampleSize) → length s.bytes < count * sample_bytes size
      much Byte = omega (arith, some, none)
      much Pair = omega (arith, some, none)

  pub none-short : 1 ≤ count → {t : Rest} → some_samples_at size count s ≡ Ok (None, t) → samples_at size count s ≡ Err (record { kind = kinds.Truncated; place = s.place })
  unfolding some_samples_at
  none-short some {t} e = by (eqb (length s.bytes) 0) refl e
    where
      by : (b : Bool) → eqb (length s.bytes) 0 ≡ b → (if b then answer None s else samples_at size count s >>= (λ samples. Ok (Some samples.0, samples.1))) ≡ Ok (None, t)
          → samples_at size count s ≡ Err (record { kind = kinds.Truncated; place = s.place })
      by true z e = empty-short some (eqb-true _ _ z)
      by false z e =
          let samples = bind-ok _ _ e in
          absurd (none-some samples.0.0 t samples.0.1 (sym samples.2))

  pub some-samples : {xs : List ℕ} {t : Rest} → some_samples_at size count s ≡ Ok (Some xs, t) → samples_at size count s ≡ Ok (xs, t)
  unfolding some_samples_at
  some-samples {xs} {t} e = by (eqb (length s.bytes) 0) refl e
    where
      by : (b : Bool) → eqb (length s.bytes) 0 ≡ b → (if b then answer None s else samples_at size count s >>= (λ samples. Ok (Some samples.0, samples.1))) ≡ Ok (Some xs, t)
          → samples_at size count s ≡ Ok (xs, t)
      by true z e = absurd (none-some xs s t e)
      by false z e =
          let samples = bind-ok _ _ e in
          let pair : (Some samples.0.0, samples.0.1) ≡ (Some xs, t) = ok-same _ _ samples.2 in
          let first : samples.0.0 ≡ xs = some-same samples.0.0 xs (Some samples.0.0) refl (ap (λ p. p.0) pair) in
          samples.1 ∙ λ i. Ok (first i, (pair i).1)

  pub fault-samples : {f : Fault PictureKind} → some_samples_at size count s ≡ Err f → samples_at size count s ≡ Err f
  unfolding some_samples_at bind
  fault-samples {f} e = by (eqb (length s.bytes) 0) (samples_at size count s) refl e
    where
      by : (b : Bool) (r : Read PictureKind (List ℕ)) → samples_at size count s ≡ r → (if b then answer None s else r >>= (λ samples. Ok (Some samples.0, samples.1))) ≡ Err f → samples_at size count s ≡ Err f
      by true r z e = absurd cc
      by false (Ok x) z e = absurd cc
      by false (Err g) z e = z ∙ cc

-- the result of reading samples that must be there
module _ {X : Type 0} (view : X → List ℕ) (size : SampleSize) (count : ℕ) (old new : Option (List ℕ)) (before after : ℕ) where
  pub gives-some : {x : X} → Gives told_fault (λ v. option_map view v) old new before after (Ok (Some x)) (some_samples_at size count) → Gives told_fault view old new before after (Ok x) (samples_at size count)
  gives-some g = record { told = g.told; answer = λ t. some-samples size count (rest_of before old) (g.answer t) }

  pub gives-none : 1 ≤ count → after ≡ before → Gives told_fault (λ v. option_map view v) old new before after (Ok None) (some_samples_at size count)
      → Gives told_fault view old new before after (Err (faults.Bad kinds.Truncated after)) (samples_at size count)
  gives-none some same g = record { told = λ _. tt; answer = λ t. none-short size count (rest_of before old) some (g.answer t) ∙ ap (λ n. Err (record { kind = kinds.Truncated; place = n })) (sym same) }

  pub gives-fault : (e : PictureFault) → Gives told_fault (λ v. option_map view v) old new before after (Err e) (some_samples_at size count) → Gives told_fault view old new before after (Err e) (samples_at size count)
  gives-fault e g = record { told = λ _. tt; answer = λ t. told (told_fault e) (g.answer t) }
    where
      told : (f : Option (Fault PictureKind)) → IfSome f (λ f. some_samples_at size count (rest_of before old) ≡ Err f) → IfSome f (λ f. samples_at size count (rest_of before old) ≡ Err f)
      told None h = tt
      told (Some f) h = fault-samples size count (rest_of before old) h

pub some-values : (depth : Depth) → 0 < 2 ^ sample_bits depth
some-values D8 = lit< tt
some-values D10 = lit< tt
some-values D12 = lit< tt

pub below-limit : (depth : Depth) (limit : ℕ) (xs ys : List ℕ) → limit ≡ 2 ^ sample_bits depth → xs ≡ ys → All (λ s. s < limit) xs → AreBelow depth ys
below-limit depth limit xs ys e f h = subst (λ n. All (λ s. s < n) ys) e (subst (λ v. All (λ s. s < limit) v) f h)

below-at : (depth : Depth) (samples : List ℕ) (k : ℕ) → AreBelow depth samples → get_or samples k 0 < 2 ^ sample_bits depth
below-at depth samples k below = ⊎_elim (λ lt. below k 0 lt) (λ ge. rw (get_or_past samples k 0 ge) (some-values depth)) (cases_lt k (length samples))

chroma-below : (shares : Bool) (width height : ℕ) (depth : Depth) (stored : List ℕ) → AreBelow depth stored → AreBelow depth (chroma_samples shares width height stored)
chroma-below false width height depth stored below = below
chroma-below true width height depth stored below =
    All-raster (λ s. s < 2 ^ sample_bits depth) width height (λ column row. get_or stored (row / 2 * width + column) 0) (λ column row a b. below-at depth stored (row / 2 * width + column) below)

-- a picture whose samples are below 2 to the bit depth has the form
pub picture_form : (form : Stream) (y cb cr : List ℕ) → form.head.alpha ≡ Absent → AreBelow form.head.depth y → AreBelow form.head.depth cb → AreBelow form.head.depth cr
    → HasForm form.head (picture_of form y cb cr)
picture_form form y cb cr alpha luma blue red = record {
  size = record { luma = (refl, refl); cb = (refl, refl); cr = (refl, refl); alpha = tt };
  chroma = refl;
  depth = refl;
  alpha = rw alpha refl;
  luma = luma;
  cb = chroma-below form.shares_rows (chroma_width form.head.chroma form.head.width) form.head.height form.head.depth cb blue;
  cr = chroma-below form.shares_rows (chroma_width form.head.chroma form.head.width) form.head.height form.head.depth cr red;
}
