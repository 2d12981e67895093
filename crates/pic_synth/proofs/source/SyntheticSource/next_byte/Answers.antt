use Rattle.std.proofs.Common.{◌≡◌, ◌+◌, ◌/◌, ◌%◌, ◌∷◌, drop, eqb, sym, ap, ◌∙◌, arith}
use Rattle.pic_synth.specs.declared.synthetic.Synthetic.{Synthetic}
use Rattle.pic_synth.specs.Pictures.{state_after, noise_of}
use Rattle.pic_synth.specs.Numbered.{byte_of, byte_at, synthetic_bytes}
use Rattle.pic_synth.proofs.Bytes.{next-byte, no-byte, state-there}
use Rattle.pic_synth.proofs.source.SyntheticSource.next_byte.Goals as goal

pub returns-then-number-samples-clause-end : goal.returns-then-number-samples-clause-end
returns-then-number-samples-clause-end c =
    let none = sym c.self.view_is ∙ no-byte c.self.inside.synthetic c.self.inside.place (omega (arith, c.samples.ensures.value, c.if-number-samples.true)) in
    (none, none)

pub overflow_add-self : goal.overflow_add-self
overflow_add-self c = omega (arith, c.samples.ensures.few, c.if-number-samples.false)

pub invariant_of-self : goal.invariant_of-self
invariant_of-self c =
    let s = c.self.inside.synthetic in
    let p = c.self.inside.place in
    let state = state-there s.seed p c.self.inside.state c.self.invariant.2 in
    let behind : p / 2 + 1 ≡ (p + 1 + 1) / 2 = omega arith in (
      c.self.invariant.0,
      omega (arith, c.samples.ensures.value, c.if-number-samples.false),
      c.stepped-self-inside.ensures ∙ state ∙ ap (state_after s.seed) behind,
    )

pub returns-clause-byte : goal.returns-clause-byte
returns-clause-byte c =
    let s : Synthetic = c.self.inside.synthetic in
    let p = c.self.inside.place in
    let state = state-there s.seed p c.self.inside.state c.self.invariant.2 in
    let noise = c.noise_of.ensures.value ∙ ap noise_of (c.stepped-self-inside.ensures ∙ state) in
    let byte : c.byte_of.result ≡ byte_at s p = c.byte_of.ensures ∙ (λ i. byte_of (eqb (p % 2) 0) (c.level.ensures.value i + noise i)) in
    sym c.self.view_is ∙ next-byte s p (omega (arith, c.samples.ensures.value, c.if-number-samples.false)) ∙ ap (λ b. b ∷ drop (p + 1) (synthetic_bytes s)) (sym byte)
