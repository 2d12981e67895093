-- Sizes so far and of one more picture.
use Rattle.std.proofs.Common.{◌≡◌, ℕ, ◌+◌, ◌≤◌, [], ◌∷◌, min, max, arith, ap, sym}
use Rattle.std.specs.List.{fold, sum}
use Rattle.std.proofs.lemmas.List.Sums.{sum_by-cons}
use Rattle.pw_outside.specs.Ports.{last}
use Rattle.monitors.specs.declared.facts.PictureFacts.{PictureFacts}
use Rattle.monitors.specs.Sizes.{sizes, bytes_line, bytes_text, bytes_state}
use Rattle.monitors.specs.States.{behind}

no_more : (n : ℕ) → 0 + n ≡ n
no_more n = omega arith

pub no_bytes : bytes_state 0 0 ≡ bytes_text
no_bytes = λ i facts. bytes_line (min (no_more (sum (sizes facts)) i) last) (fold max 0 (sizes facts))

capped : (a b c d : ℕ) → d ≡ b + c → min (min (a + b) last + c) last ≡ min (a + d) last
capped a b c d e = omega (arith, e)

pub next_bytes : (total greatest : ℕ) (f : PictureFacts) → bytes_state (min (total + f.bytes) last) (max greatest f.bytes) ≡ behind (bytes_state total greatest) f
next_bytes total greatest f = λ i facts.
    bytes_line (capped total f.bytes (sum (sizes facts)) (sum (f.bytes ∷ sizes facts)) (sum_by-cons (λ x. x) f.bytes (sizes facts)) i) (fold max (max greatest f.bytes) (sizes facts))

none_behind : (n : ℕ) → n ≤ last → min (n + 0) last ≡ n
none_behind n h = omega (arith, h)

-- the report so far
pub bytes_reported : (total greatest : ℕ) → total ≤ last → bytes_line total greatest ≡ bytes_state total greatest []
bytes_reported total greatest h = ap (λ n. bytes_line n greatest) (sym (none_behind total h))
