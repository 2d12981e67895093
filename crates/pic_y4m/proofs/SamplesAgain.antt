-- Written samples are read back.
use Rattle.std.proofs.Common.{◌≡◌, ℕ, zero, suc, ◌+◌, ◌*◌, ◌<◌, false, not, ltb, List, [], ◌∷◌, ◌++◌, length, get_or, Ok, refl, sym, ap, ◌∙◌, arith, length-append}
use Rattle.std.proofs.Math.Seq.{take-append_seam, drop-append_seam}
use Rattle.std.proofs.lemmas.Bool.{le-ltb, lt-leb}
use Rattle.std.proofs.lemmas.List.FromFn.{fill_by_all}
use Rattle.std.proofs.lemmas.List.Sums.{prefix_len_is}
use Rattle.std.specs.List.{position_or_len, All}
use Rattle.pic_y4m.specs.declared.samples.SampleSize.{SampleSize}
use Rattle.pic_y4m.specs.declared.samples.SampleSize.TheVariants.{Byte, Pair}
use Rattle.pic_y4m.specs.Samples.{sample_bytes, sample_in, samples_in, samples_at, in_range, is_past, plane_bytes}

-- a plane of two-byte samples has two bytes for each sample, and each sample is in its two
pairs-length : (ys : List ℕ) → length (plane_bytes Pair ys) ≡ length ys * 2
pairs-length [] = refl
pairs-length (y ∷ ys) = let ih = pairs-length ys in omega (arith, ih)

pairs-at : (ys : List ℕ) (k : ℕ) → k < length ys → sample_in Pair (plane_bytes Pair ys) k ≡ get_or ys k 0
pairs-at [] k lt = absurd (omega arith)
pairs-at (y ∷ ys) zero lt = omega arith
pairs-at (y ∷ ys) (suc k) lt =
    let low : 2 * suc k ≡ suc (suc (2 * k)) = omega arith in
    let high : 2 * suc k + 1 ≡ suc (suc (2 * k + 1)) = omega arith in
    rw (high, low) (pairs-at ys k (omega arith))

pub bytes-are : (ys : List ℕ) → plane_bytes Byte ys ≡ ys
bytes-are [] = refl
bytes-are (y ∷ ys) = ap (λ l. y ∷ l) (bytes-are ys)

pub plane-length : (size : SampleSize) (ys : List ℕ) → length (plane_bytes size ys) ≡ length ys * sample_bytes size
plane-length Byte ys = let e = ap length (bytes-are ys) in omega (arith, e)
plane-length Pair ys = pairs-length ys

samples-same : (size : SampleSize) (ys : List ℕ) (count : ℕ) → length ys ≡ count → samples_in size count (plane_bytes size ys) ≡ ys
unfolding samples_in
samples-same Byte ys count len = sym (fill_by_all (sample_in Byte (plane_bytes Byte ys)) ys count 0 len (λ k lt. ap (λ l. get_or l k 0) (sym (bytes-are ys))))
samples-same Pair ys count len = sym (fill_by_all (sample_in Pair (plane_bytes Pair ys)) ys count 0 len (λ k lt. sym (pairs-at ys k (omega arith))))

-- the next plane is read
pub plane-again : (size : SampleSize) (ys rest : List ℕ) (count place : ℕ) → length ys ≡ count
    → samples_at size count (record { place = place; bytes = plane_bytes size ys ++ rest }) ≡ Ok (ys, record { place = place + length (plane_bytes size ys); bytes = rest })
unfolding samples_at
plane-again size ys rest count place len =
    let n : count * sample_bytes size ≡ length (plane_bytes size ys) = sym (plane-length size ys ∙ ap (λ k. k * sample_bytes size) len) in
    let there : ltb (length (plane_bytes size ys ++ rest)) (length (plane_bytes size ys)) ≡ false = le-ltb _ _ (omega (arith, length-append (plane_bytes size ys) rest)) in
    rw (n, there, take-append_seam (plane_bytes size ys) rest, drop-append_seam (plane_bytes size ys) rest, samples-same size ys count len) refl

pub range-again : (size : SampleSize) (limit : ℕ) (ys : List ℕ) (place : ℕ) → All (λ s. s < limit) ys → in_range size limit ys place ≡ Ok tt
unfolding in_range
range-again size limit ys place below =
    let all : position_or_len (is_past limit) ys ≡ length ys = prefix_len_is (λ s. not (is_past limit s)) ys (length ys) 0 (omega arith) (λ k lt. ap not (lt-leb (limit) (get_or ys k 0) (below k 0 lt))) (λ lt. absurd (omega arith)) in
    let past : ltb (length ys) (length ys) ≡ false = le-ltb _ _ (omega arith) in
    rw (all, past) refl
