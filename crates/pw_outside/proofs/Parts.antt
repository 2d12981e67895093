-- What a part of a store shows of the store's bytes.
use Rattle.std.proofs.Common.{rules, ◌≡◌, ℕ, ◌+◌, ◌-◌, List, take, drop, arith, subst}
use Rattle.std.specs.Prelude.{Option, Some, None, IsSome}
use Rattle.pw_outside.specs.Reading.{Told}
use Rattle.pw_outside.specs.Span.{part}

pub none_told : IsSome {T = List ℕ} None → ⊥
none_told h = search rules

pub some_told : (xs : List ℕ) → IsSome (Some xs)
some_told xs = search rules

told_part : (P : List ℕ → Type 0) (bytes : Option (List ℕ)) (at size : ℕ) → Told (part at (at + size) bytes) P → Told bytes (λ file. P (take size (drop at file)))
told_part P None at size t = λ no. absurd (none_told no)
told_part P (Some xs) at size t =
    λ yes. subst (λ n. P (take n (drop at xs))) (let e : at + size - at ≡ size = omega arith in e) (t (some_told (take (at + size - at) (drop at xs))))

pub part_told : (P : List ℕ → Type 0) (bytes bytes' : Option (List ℕ)) (at at' size end' : ℕ) → bytes' ≡ bytes → at' ≡ at → end' ≡ at + size
    → Told (part at' end' bytes') P → Told bytes (λ file. P (take size (drop at file)))
part_told P bytes bytes' at at' size end' b a e t =
    told_part P bytes at size (subst (λ x. Told (part at (at + size) x) P) b (subst (λ x. Told (part at x bytes') P) e (subst (λ x. Told (part x end' bytes') P) a t)))
