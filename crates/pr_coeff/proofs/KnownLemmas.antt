-- Counting bits follows the writer of coefficients.
use Rattle.std.proofs.Common.{◌≡◌, ℕ, suc, ◌+◌, ◌-◌, ◌<◌, List, [], ◌∷◌, ◌++◌, length, length-append, ℤ, pos, nat_abs, refl, ap, ◌∙◌, arith}
use Rattle.pr_coeff.specs.Component.{is_negative}
use Rattle.pr_coeff.specs.Lengths.{run_class, run_bits, level_class, level_bits}
use Rattle.pr_coeff.specs.Known.{Known, KnownAtFirst, KnownBehindZero, KnownBehindValue, KnownAtLast}
use Rattle.pr_coeff.specs.inner.Writing.{triple_words, Codes}
use Rattle.pr_coeff.specs.declared.write.Coding.{Coding}
use Rattle.pr_coeff.proofs.LengthLemmas.{triple_bits, first_classes}
use Rattle.pr_coeff.proofs.CodingLemmas.{Codes-zero, Codes-triple, Codes-Codes, Codes-all, signed_parts}

abbrev coding : ℕ → ℕ → ℕ → Coding
coding run magnitude zeros = record { run = run; magnitude = magnitude; zeros = zeros }

-- what a writer has written
codes_of : (vs : List ℤ) (bits none run level : ℕ) (k : Known vs bits none run level) → Codes (coding 4 2 0) (coding k.before k.magnitude none) vs k.words
codes_of vs bits none run level k = record { any = k.any }

pub known_none : KnownAtFirst
known_none = record { before = 4; magnitude = 2; words = []; any = λ rest. refl; bits_are = refl; run_is = first_classes.0; level_is = first_classes.1 }

pub known_zero : (vs : List ℤ) (bits zeros run level : ℕ) (q : ℤ) → q ≡ pos 0 → Known vs bits zeros run level → Known (vs ++ q ∷ []) bits (zeros + 1) run level
known_zero vs bits zeros run level q e k = record {
  before = k.before;
  magnitude = k.magnitude;
  words = k.words;
  any = (Codes-zero (coding 4 2 0) (coding k.before k.magnitude zeros) (coding k.before k.magnitude (zeros + 1)) vs k.words q e refl (codes_of vs bits zeros run level k)).any;
  bits_are = k.bits_are;
  run_is = k.run_is;
  level_is = k.level_is;
}

pub known_some : (vs : List ℤ) (bits zeros run level : ℕ) (q : ℤ) (m : ℕ) → nat_abs q ≡ m → 0 < m → Known vs bits zeros run level
    → Known (vs ++ q ∷ []) (bits + (run_bits run zeros + level_bits level m)) 0 (run_class zeros) (level_class m)
known_some vs bits zeros run level q m e some k =
    let neg = is_negative q in
    let t = coding k.before k.magnitude zeros in
    let u = coding zeros m 0 in
    let w = triple_words k.before k.magnitude zeros (m - 1) neg in
    let one : m ≡ suc (m - 1) = omega arith in
    let next : u ≡ coding zeros (suc (m - 1)) 0 = ap (λ n. coding zeros n 0) one in
    record {
      before = zeros;
      magnitude = m;
      words = k.words ++ w;
      any = (Codes-Codes {s = coding 4 2 0} {t = t} {u = u} (codes_of vs bits zeros run level k) (Codes-triple t u q (m - 1) neg (signed_parts q m e some) next)).any;
      bits_are = omega (arith, k.bits_are, length-append k.words w, triple_bits k.before k.magnitude zeros m run level neg k.run_is k.level_is);
      run_is = refl;
      level_is = refl;
    }

pub known_behind_zero : KnownBehindZero
known_behind_zero vs bits zeros run level k = known_zero vs bits zeros run level (pos 0) refl k

pub known_behind_value : KnownBehindValue
known_behind_value vs bits zeros run level q some k = known_some vs bits zeros run level q (nat_abs q) refl some k

pub known_all : KnownAtLast
known_all vs bits zeros run level k =
    k.bits_are ∙ ap length (Codes-all {s = coding 4 2 0} {t = coding k.before k.magnitude zeros} (codes_of vs bits zeros run level k))
