-- Samples as bytes, written piece by piece.
use Rattle.std.proofs.Common.{◌≡◌, ℕ, suc, ◌+◌, ◌-◌, ◌*◌, ◌/◌, ◌%◌, ◌<◌, List, [], ◌∷◌, ◌++◌, length, take, drop, get_or, Result, Ok, Err, refl, sym, ap, ◌∙◌, subst, arith, length-append}
use Rattle.std.specs.Prelude.{OnErr, codes}
use Rattle.std.specs.List.{between}
use Rattle.std.proofs.lemmas.Grind.{flat_map-append}
use Rattle.std.proofs.lemmas.List.{ext_get_or, take-append-le, take-append-drop}
use Rattle.std.proofs.Math.Seq.{take-add, take-append-add}
use Rattle.pw_outside.specs.Writing.{SinkState, Puts, PutsPart}
use Rattle.pw_outside.proofs.Puts.{puts_then}
use Rattle.pic_y4m.specs.declared.samples.SampleSize.{SampleSize}
use Rattle.pic_y4m.specs.declared.samples.SampleSize.TheVariants.{Byte, Pair}
use Rattle.pic_y4m.specs.Samples.{size_of, sample_text, plane_bytes}
use Rattle.pic_y4m.specs.Writing.{frame_bytes}
use Rattle.pw_planes.specs.declared.kinds.Depth.{Depth}
use Rattle.pw_planes.specs.declared.picture.Picture.{Picture}
use Rattle.pic_y4m.proofs.SamplesAgain.{bytes-are}

-- bytes that hold each sample
pub bytes-written : (bytes samples : List ℕ) → length bytes ≡ length samples → ((k : ℕ) → k < length samples → get_or bytes k 0 ≡ get_or samples k 0) → bytes ≡ plane_bytes Byte samples
bytes-written bytes samples len each = ext_get_or 0 bytes samples len (λ k lt. each k (omega (arith, len, lt))) ∙ sym (bytes-are samples)

pub pairs-written : (bytes samples : List ℕ) → length bytes ≡ 2 * length samples
    → ((k : ℕ) → k < length samples → (get_or bytes (2 * k) 0 ≡ get_or samples k 0 % 256) × (get_or bytes (2 * k + 1) 0 ≡ get_or samples k 0 / 256)) → bytes ≡ plane_bytes Pair samples
pairs-written [] [] len each = refl
pairs-written [] (s ∷ ss) len each = absurd (omega (arith, len))
pairs-written (a ∷ bs) [] len each = absurd (omega (arith, len))
pairs-written (a ∷ []) (s ∷ ss) len each = absurd (omega (arith, len))
pairs-written (a ∷ b ∷ bs) (s ∷ ss) len each =
    let first = each 0 (omega arith) in
    let low : a ≡ s % 256 = first.0 in
    let high : b ≡ s / 256 = first.1 in
    let others = pairs-written bs ss (omega (arith, len)) (λ k lt.
    let next = each (suc k) (omega (arith, lt)) in
    let l : 2 * suc k ≡ suc (suc (2 * k)) = omega arith in
    let h : 2 * suc k + 1 ≡ suc (suc (2 * k + 1)) = omega arith in
    (subst (λ n. get_or (a ∷ b ∷ bs) n 0 ≡ get_or ss k 0 % 256) l next.0, subst (λ n. get_or (a ∷ b ∷ bs) n 0 ≡ get_or ss k 0 / 256) h next.1)) in
    λ i. low i ∷ high i ∷ others i

-- a part of the first text is a part of both
pub part_more : {a b : SinkState} {xs : List ℕ} (ys : List ℕ) → PutsPart a b xs → PutsPart a b (xs ++ ys)
part_more {a} {b} {xs} ys p = record {
  out = p.out;
  short = omega (arith, p.short, length-append xs ys);
  front = subst (Puts a b) (sym (take-append-le p.out xs ys (omega (arith, p.short)))) p.front;
}

-- the first text was written, and then a part of the second
pub then_part : {a b c : SinkState} {xs ys : List ℕ} → Puts a b xs → PutsPart b c ys → PutsPart a c (xs ++ ys)
then_part {a} {b} {c} {xs} {ys} p q = record {
  out = length xs + q.out;
  short = omega (arith, q.short, length-append xs ys);
  front = subst (Puts a c) (sym (take-append-add xs ys q.out)) (puts_then p q.front);
}

-- one piece more
module _ (size : SampleSize) (samples : List ℕ) (at count : ℕ) where
  next-is : plane_bytes size (take (at + count) samples) ≡ plane_bytes size (take at samples) ++ plane_bytes size (between at (at + count) samples)
  next-is =
      let len : count ≡ at + count - at = omega arith in
      ap (plane_bytes size) (take-add at count samples ∙ ap (λ n. take at samples ++ take n (drop at samples)) len) ∙ flat_map-append (sample_text size) (take at samples) (between at (at + count) samples)

  pub piece-more : {a b c : SinkState} → Puts a b (plane_bytes size (take at samples)) → Puts b c (plane_bytes size (between at (at + count) samples)) → Puts a c (plane_bytes size (take (at + count) samples))
  piece-more {a} {b} {c} p q = subst (Puts a c) (sym next-is) (puts_then p q)

  pub piece-part : {a b c : SinkState} → Puts a b (plane_bytes size (take at samples)) → PutsPart b c (plane_bytes size (between at (at + count) samples)) → PutsPart a c (plane_bytes size samples)
  piece-part {a} {b} {c} p q =
      let e : plane_bytes size samples ≡ plane_bytes size (take (at + count) samples) ++ plane_bytes size (drop (at + count) samples) = ap (plane_bytes size) (sym (take-append-drop (at + count) samples)) ∙ flat_map-append (sample_text size) (take (at + count) samples) (drop (at + count) samples) in
      subst (PutsPart a c) (sym e) (part_more (plane_bytes size (drop (at + count) samples)) (subst (PutsPart a c) (sym next-is) (then_part p q)))

pub on-err : {X E P Q : Type 0} (r : Result X E) → (P → Q) → OnErr r P → OnErr r Q
on-err (Ok x) f p = tt
on-err (Err e) f p = f p

-- four texts in order
module _ (x y z w whole : List ℕ) (is : x ++ y ++ z ++ w ≡ whole) where
  pub four-puts : {a b c d e : SinkState} → Puts a b x → Puts b c y → Puts c d z → Puts d e w → Puts a e whole
  four-puts {a} {b} {c} {d} {e} p q r t = subst (Puts a e) is (puts_then (puts_then (puts_then p q) r) t)

  pub four-first : {a b : SinkState} → PutsPart a b x → PutsPart a b whole
  four-first {a} {b} p = subst (PutsPart a b) is (part_more w (part_more z (part_more y p)))

  pub four-second : {a b c : SinkState} → Puts a b x → PutsPart b c y → PutsPart a c whole
  four-second {a} {b} {c} p q = subst (PutsPart a c) is (part_more w (part_more z (then_part p q)))

  pub four-third : {a b c d : SinkState} → Puts a b x → Puts b c y → PutsPart c d z → PutsPart a d whole
  four-third {a} {b} {c} {d} p q r = subst (PutsPart a d) is (part_more w (then_part (puts_then p q) r))

  pub four-fourth : {a b c d e : SinkState} → Puts a b x → Puts b c y → Puts c d z → PutsPart d e w → PutsPart a e whole
  four-fourth {a} {b} {c} {d} {e} p q r t = subst (PutsPart a e) is (then_part (puts_then (puts_then p q) r) t)

pub frame-whole : (depth : Depth) (p : Picture) (size : SampleSize) (y cb cr : List ℕ) → size ≡ size_of depth → y ≡ p.y.samples → cb ≡ p.cb.samples → cr ≡ p.cr.samples
    → codes "FRAME\n" ++ plane_bytes size y ++ plane_bytes size cb ++ plane_bytes size cr ≡ frame_bytes depth p
unfolding frame_bytes
frame-whole depth p size y cb cr size_is y_is cb_is cr_is = λ j. codes "FRAME\n" ++ plane_bytes (size_is j) (y_is j) ++ plane_bytes (size_is j) (cb_is j) ++ plane_bytes (size_is j) (cr_is j)
