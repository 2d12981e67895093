-- Chains of reading steps.
use Rattle.std.proofs.Common.{◌≡◌, ℕ, Bool, true, false, Option, Some, None, Result, Ok, Err, refl, ap}
use Rattle.pw_outside.specs.Reading.{Fault, Rest, Read, bind, refuse}
use Rattle.pic_y4m.specs.declared.fault.PictureKind.{PictureKind}

-- if a chain returns a value, its first step did
pub bind-ok : {A B : Type 0} (r : Result A (Fault PictureKind)) (next : A → Result B (Fault PictureKind)) {y : B} → bind r next ≡ Ok y → (x : A) × (r ≡ Ok x) × (next x ≡ Ok y)
unfolding bind
bind-ok (Ok x) next e = (x, refl, e)
bind-ok (Err f) next e = absurd cc

pub refuse-ok : (test : Bool) (kind : PictureKind) (place : ℕ) {x : Unit {0}} → refuse test kind place ≡ Ok x → test ≡ false
refuse-ok true kind place e = absurd cc
refuse-ok false kind place e = refl

-- equal results have equal values
abbrev pub answer : {A : Type 0} → A → Rest → Read PictureKind A
answer x s = Ok (x, s)

abbrev pub good : {X : Type 0} → X → Result X (Fault PictureKind)
good x = Ok x

pub ok-same : {X : Type 0} (x y : X) → good x ≡ good y → x ≡ y
ok-same x y e = cc

pub ok-first : {A : Type 0} {x y : A} {s t : Rest} → answer x s ≡ answer y t → x ≡ y
ok-first {x = x} {y = y} {s = s} {t = t} e = ap (λ p. p.0) (ok-same (x, s) (y, t) e)

no-some : {A : Type 0} (x : A) (o : Option A) → o ≡ None → o ≡ Some x → ⊥
no-some x o e f = absurd cc

pub none-some : {A : Type 0} (x : A) (s t : Rest) → answer None s ≡ answer (Some x) t → ⊥
none-some x s t e = no-some x None refl (ok-first e)

pub some-same : {A : Type 0} (x y : A) (o : Option A) → o ≡ Some x → o ≡ Some y → x ≡ y
some-same x y o e f = cc
