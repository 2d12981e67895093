-- A text that is written piece by piece.
use Rattle.std.proofs.Common.{◌≡◌, ℕ, suc, ◌+◌, ◌-◌, ◌<◌, ◌≤◌, List, [], ◌∷◌, ◌++◌, Some, Result, Ok, Err, arith, length, take, drop, ap, sym, subst, append_assoc, append-nil, take-append-drop, ◌∙◌}
use Rattle.std.specs.Prelude.{slice_get, get_or, unwrap_or}
use Rattle.std.proofs.lemmas.Option.{slice_get_within, slice_get-get_or}
use Rattle.std.proofs.Math.Seq.{take-suc}
use Rattle.std.proofs.lemmas.List.{length-take-le, length-drop, get_or-drop, take_all}
use lib.Seq.{take-add}
use Rattle.pw_outside.specs.Writing.{SinkState, Puts, PutsFront}
use Rattle.pw_outside.proofs.Puts.{puts_then, puts_front, front_more, then_front}
use Rattle.qt_tables.specs.declared.writer.Extent.{Extent}
use Rattle.pic_y4m.specs.declared.writer.WriteEnd.{WriteEnd}
use Rattle.rescue_run.specs.Rescuing.{frame_line, frame_lines}
use Rattle.rescue_run.specs.inner.Steps.{TextIs}

-- ---- what a sink has of the text: the lines up to a number

pub text_err : {X : Type 0} (r : Result X WriteEnd) (e : WriteEnd) (bytes : List ℕ) (a b : SinkState) → r ≡ Err e → PutsFront a b bytes → TextIs r bytes a b
text_err r e bytes a b is p = subst (λ x. TextIs x bytes a b) (sym is) p

-- lines, and then more
pub text_then : {X : Type 0} (r : Result X WriteEnd) (xs ys : List ℕ) (a b c : SinkState) → Puts a b xs → TextIs r ys b c → TextIs r (xs ++ ys) a c
text_then (Ok x) xs ys a b c p q = puts_then p q
text_then (Err e) xs ys a b c p q = then_front p q

pub text_cut : {X : Type 0} (r : Result X WriteEnd) (e : WriteEnd) (xs ys : List ℕ) (a b : SinkState) → r ≡ Err e → PutsFront a b xs → TextIs r (xs ++ ys) a b
text_cut r e xs ys a b is p = text_err r e (xs ++ ys) a b is (front_more ys p)

-- a whole text, and flushes
pub settled_front : (a b c : SinkState) (text : List ℕ) → Puts a b text → Puts b c [] → PutsFront a c text
settled_front a b c text p q = puts_front (subst (Puts a c) (append-nil text) (puts_then p q))
