-- The number of frames of sound before a time.
use Rattle.std.proofs.Common.{◌≡◌, ℕ, ◌+◌, ◌*◌, ◌/◌, ◌%◌, ◌≤◌, min, arith, sym, ap, ◌∙◌}
use Rattle.std.proofs.Math.Nat.{div-mul-le_self, div-add-mod, mul-add-div_right, add-mul, mul_assoc, mul_comm, min-eq_right, le-mul_of_pos_right}
use Rattle.std.proofs.lemmas.Nat.{le-div}

pub div-up : (a b k : ℕ) → 1 ≤ k → a ≤ b → a / k ≤ b / k
div-up a b k h le = le-div (a / k) b k (omega (arith, h)) (omega (arith, div-mul-le_self a k, le))

-- as whole units and a remainder
pub border_late : (time scale rate : ℕ) → 1 ≤ scale → time * rate / scale ≡ time / scale * rate + time % scale * rate / scale
border_late time scale rate h =
    let q = time / scale in
    let r = time % scale in
    let parts : time ≡ scale * q + r = sym (div-add-mod time scale) in
    let swap : scale * q * rate ≡ q * rate * scale = mul_assoc scale q rate ∙ mul_comm scale (q * rate) in
    let same : time * rate ≡ q * rate * scale + r * rate = ap (λ n. n * rate) parts ∙ (add-mul (scale * q) r rate ∙ ap (λ n. n + r * rate) swap) in
    ap (λ n. n / scale) same ∙ mul-add-div_right {m = scale} (omega (arith, h)) (q * rate) (r * rate)

-- a time after all sound
pub border_early : (time scale rate frames : ℕ) → 1 ≤ scale → 1 ≤ rate → frames ≤ time / scale → min (time * rate / scale) frames ≡ frames
border_early time scale rate frames h k le =
    let more : time ≤ time * rate = le-mul_of_pos_right time (omega (arith, k)) in
    let enough : frames ≤ time * rate / scale = omega (arith, le, div-up time (time * rate) scale h more) in
    min-eq_right enough
