-- The two fields of an atom's head.
use Rattle.std.proofs.Common.{◌≡◌, ℕ, List, take, drop, Result, Ok, Err, sym, ap, ◌∙◌, arith}
use Rattle.std.proofs.lemmas.List.{take-take, drop-take, drop-drop}
use Rattle.qt_atoms.specs.Atoms.{bytes_in, kind_in}

abbrev ok_else : {A E : Type 0} → A → Result A E → A
ok_else other (Ok x) = x
ok_else other (Err e) = other

pub ok-is : {A E : Type 0} (a b : A) → (let x : Result A E = Ok a in x) ≡ Ok b → a ≡ b
ok-is a b e = ap (ok_else a) e

pub head-size : (file : List ℕ) (at : ℕ) (head size : List ℕ) → bytes_in 8 file at ≡ head → size ≡ take 4 head → bytes_in 4 file at ≡ size
head-size file at head size e s = sym (take-take 4 8 (drop at file) (omega arith)) ∙ ap (take 4) e ∙ sym s

pub head-kind : (file : List ℕ) (at : ℕ) (head kind : List ℕ) → bytes_in 8 file at ≡ head → kind ≡ take 4 (drop 4 head) → kind_in file at ≡ kind
head-kind file at head kind e k =
    let rest = drop at file in
    ap (take 4) (sym (drop-drop 4 at file)) ∙ sym (take-take 4 4 (drop 4 rest) (omega arith)) ∙ ap (take 4) (sym (drop-take 4 4 rest)) ∙ ap (λ l. take 4 (drop 4 l)) e ∙ sym k
