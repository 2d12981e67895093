use Rattle.std.proofs.Common.{refl, subst, ◌-◌, take, drop}
use Rattle.std.specs.Prelude.{Some, None}
use Rattle.rescue_run.specs.inner.Windows.{IsFirstMark}
use Rattle.rescue_run.proofs.Marks.{mark_of}
use Rattle.rescue_run.proofs.search.mark_in.Goals as goal

pub returns-in-Some-clause-mark : goal.returns-in-Some-clause-mark
returns-in-Some-clause-mark c =
    let w = c.args.window.now in
    let at = c.args.from - w.from in
    let h = subst (λ l. IsFirstMark (take (w.held - at) (drop at l)) (Some c.in-Some.found)) c.deref.ensures.value c.in-Some.ensures.mark in
    λ file part. mark_of w.piece.items file w.held w.from c.args.from (Some c.in-Some.found) c.requires.held part c.requires.from c.if-end-from.false h (Some _) refl

pub returns-in-None-clause-mark : goal.returns-in-None-clause-mark
returns-in-None-clause-mark c =
    let w = c.args.window.now in
    let at = c.args.from - w.from in
    let h = subst (λ l. IsFirstMark (take (w.held - at) (drop at l)) None) c.deref.ensures.value c.in-None.ensures.mark in
    λ file part. mark_of w.piece.items file w.held w.from c.args.from None c.requires.held part c.requires.from c.if-end-from.false h None tt
