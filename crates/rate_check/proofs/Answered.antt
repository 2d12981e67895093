-- Results of tests.
use Rattle.std.proofs.Common.{rules, ◌≡◌, Bool, true, false, subst}
use Rattle.std.specs.Prelude.{IsTrue, ◌↔◌}

pub yes : {P : Type 0} → P → IsTrue true ↔ P
yes p = ((λ h. p), (λ h. search rules))

pub no : {P : Type 0} → (P → ⊥) → IsTrue false ↔ P
no f = ((λ h. absurd (search rules)), (λ p. absurd (f p)))

-- what a test's result says
pub granted : {P : Type 0} (b : Bool) → IsTrue b ↔ P → b ≡ true → P
granted {P} b e t = (subst (λ x. IsTrue x ↔ P) t e).0 (search rules)

pub denied : {P : Type 0} (b : Bool) → IsTrue b ↔ P → b ≡ false → P → ⊥
denied {P} b e f p = let h : IsTrue false = (subst (λ x. IsTrue x ↔ P) f e).1 p in absurd (search rules)
