-- Facts on results and options.
use Rattle.std.proofs.Common.{◌≡◌, Option, None, Some, Result, Ok, Err, subst}
use Rattle.std.specs.Prelude.{IfSome, OnOk, OnErr}

pub any_ok : {T E P : Type 0} (r : Result T E) → P → OnOk r P
any_ok (Ok x) p = p
any_ok (Err e) p = tt

pub any_err : {T E P : Type 0} (r : Result T E) → P → OnErr r P
any_err (Ok x) p = tt
any_err (Err e) p = p

pub on_ok_weaker : {T E P Q : Type 0} (r : Result T E) → (P → Q) → OnOk r P → OnOk r Q
on_ok_weaker (Ok x) f p = f p
on_ok_weaker (Err e) f p = tt

-- an error is no value
pub err_not_ok : {T E : Type 0} (r : Result T E) (e : E) (x : T) → r ≡ Err e → r ≡ Ok x → ⊥
err_not_ok r e x a b = cc

pub none_not_some : {T : Type 0} (o : Option T) (x : T) → o ≡ None → o ≡ Some x → ⊥
none_not_some o x a b = cc

-- the fact of the item that is there
pub at_some : {T : Type 0} (P : T → Type 0) (o : Option T) (x : T) → o ≡ Some x → IfSome o P → P x
at_some P o x e h = subst (λ o. IfSome o P) e h

pub if_some_weaker : {T : Type 0} (o : Option T) (P Q : T → Type 0) → ((x : T) → P x → Q x) → IfSome o P → IfSome o Q
if_some_weaker None P Q h p = tt
if_some_weaker (Some x) P Q h p = h x p
