-- If no port failed, the result is the defined one, or memory ran out.
use Rattle.std.proofs.Common.{◌≡◌, refl, inl, inr, ℕ, Bool, true, false, subst}
use Rattle.std.specs.Prelude.{◌⊎◌}
use Rattle.pw_outside.specs.Ports.{Rose, CountsFault, CountsFaults}
use Rattle.pcm_track.specs.declared.end.SoundEnd.{SoundEnd}
use Rattle.pcm_track.specs.declared.end.SoundEnd.TheVariants as ends
use Rattle.pcm_track.specs.Ends.{AnswersUnlessOutside, Completes, is_read_fault, is_write_fault}

-- a port that didn't fail
pub none-failed : (before now : ℕ) (failed : Bool) → CountsFault before now failed → (Rose before now → ⊥) → failed ≡ true → ⊥
none-failed before now true c h e = h c.rose
none-failed before now false c h e = absurd cc

neither : (A B : Type 0) → (A → ⊥) → (B → ⊥) → A ⊎ B → ⊥
neither A B a b (inl x) = a x
neither A B a b (inr x) = b x

-- two ports that didn't fail
pub none-of-two : (before now before' now' : ℕ) (failed : Bool) → CountsFaults before now before' now' failed → (Rose before now → ⊥) → (Rose before' now' → ⊥) → failed ≡ true → ⊥
none-of-two before now before' now' true c a b e = neither (Rose before now) (Rose before' now') a b c.rose
none-of-two before now before' now' false c a b e = absurd cc

pub completes : (end answer : SoundEnd) → AnswersUnlessOutside answer end → (is_read_fault answer ≡ true → ⊥) → (is_write_fault answer ≡ true → ⊥) → Completes end answer
completes end ends.Done h r w = inl h
completes end ends.NoMemory h r w = inr refl
completes end ends.ReadFault h r w = absurd (r refl)
completes end ends.WriteFault h r w = absurd (w refl)
completes end (ends.BadMovie kind place) h r w = inl h
completes end (ends.BadSound kind place) h r w = inl h

-- two ports that didn't fail, by their first counts
pub none-since : (first before now first' before' now' : ℕ) (failed : Bool) → before ≡ first → before' ≡ first' → CountsFaults before now before' now' failed → (Rose first now → ⊥) → (Rose first' now' → ⊥) → failed ≡ true → ⊥
none-since first before now first' before' now' failed e e' c a b = none-of-two before now before' now' failed c (λ r. a (subst (λ k. Rose k now) e r)) (λ r. b (subst (λ k. Rose k now') e' r))

pub never : (failed : Bool) → failed ≡ false → failed ≡ true → ⊥
never failed e k = absurd cc

-- one port that didn't fail, by its first count
pub none-failed-since : (first before now : ℕ) (failed : Bool) → before ≡ first → CountsFault before now failed → (Rose first now → ⊥) → failed ≡ true → ⊥
none-failed-since first before now failed e c a = none-failed before now failed c (λ r. a (subst (λ k. Rose k now) e r))
