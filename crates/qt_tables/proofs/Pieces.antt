-- Bytes of a piece that holds bytes of a file.
use Rattle.std.proofs.Common.{◌≡◌, ℕ, ◌-◌, ◌+◌, ◌≤◌, List, take, drop, sym, ap, ◌∙◌, arith}
use Rattle.std.proofs.lemmas.List.{drop-take, take-take, drop-drop}

pub part : (xs : List ℕ) (k count held : ℕ) → k + count ≤ held → take count (drop k (take held xs)) ≡ take count (drop k xs)
part xs k count held h =
    let e : held ≡ k + (held - k) = omega arith in
    ap (λ n. take count (drop k (take n xs))) e ∙ ap (take count) (drop-take k (held - k) xs) ∙ take-take count (held - k) (drop k xs) (omega arith)

pub in-piece : (piece file : List ℕ) (held from place count : ℕ) → take held piece ≡ take held (drop from file) → from ≤ place → (place - from) + count ≤ held
    → take count (drop (place - from) piece) ≡ take count (drop place file)
in-piece piece file held from place count same le fits =
    let k = place - from in
    let e : from + k ≡ place = omega arith in
    sym (part piece k count held fits) ∙ ap (λ l. take count (drop k l)) same ∙ part (drop from file) k count held fits
    ∙ ap (take count) (drop-drop k from file) ∙ ap (λ n. take count (drop n file)) e

pub at-start : (piece file : List ℕ) (held from place count : ℕ) → take held piece ≡ take held (drop from file) → from ≡ place → count ≤ held
    → take count piece ≡ take count (drop place file)
at-start piece file held from place count same e fits =
    sym (take-take count held piece fits) ∙ ap (take count) same ∙ take-take count held (drop from file) fits ∙ ap (λ n. take count (drop n file)) e
