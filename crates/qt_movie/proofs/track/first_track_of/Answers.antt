use Rattle.std.proofs.Common.{rules, arith, ap, sym, ◌∙◌, Ok}
use Rattle.std.proofs.lemmas.Result.{err_from_is_err_and}
use Rattle.qt_movie.proofs.InOrder.{tracks-none, tracks-end, tracks-fail, whole-on, tracks-passed, tracks-here-fail, tracks-taken, tracks-not_taken}
use Rattle.qt_movie.proofs.track.first_track_of.Goals as goal

pub returns-in_err-next_atom-clause-value : goal.returns-in_err-next_atom-clause-value
returns-in_err-next_atom-clause-value g c h =
    let p = err_from_is_err_and c.from_residual.result c.from_residual.ensures.1 in
    let here = rw c.walk.invariant.bytes at c.in_err-next_atom.ensures.value in
    rw (p.1, p.2) (tracks-fail c.in_err-next_atom.field-0.0 _ _ _ _ c.walk-test.true (here h) (c.walk.invariant.whole h))

pub returns-in-End-clause-value : goal.returns-in-End-clause-value
returns-in-End-clause-value g c h =
    let here = rw c.walk.invariant.bytes at c.in_ok-next_atom.ensures.value in
    tracks-end _ _ _ _ _ c.walk-test.true (here h ∙ ap Ok c.in-End.is) (c.walk.invariant.value h)

pub walk-preserved-then-not-is_trak : goal.walk-preserved-then-not-is_trak
walk-preserved-then-not-is_trak g c =
    let here = rw c.walk.invariant.bytes at c.in_ok-next_atom.ensures.value in
    let lies = rw c.in-Atom.is at c.in_ok-next_atom.ensures.lies in
    record {
      begins = omega (arith, lies.0, lies.1.head, lies.1.within, c.walk.invariant.begins);
      ends = lies.1.ends;
      few = omega (arith, lies.0, lies.1.head, lies.1.within, c.walk.invariant.few);
      whole = λ h. whole-on _ _ _ _ c.walk-test.true (here h ∙ ap Ok c.in-Atom.is) lies (c.walk.invariant.whole h);
      value = λ h. tracks-passed _ _ _ _ _ _ c.walk-test.true (here h ∙ ap Ok c.in-Atom.is) lies (sym c.if-not-is_trak.ensures) (c.walk.invariant.value h);
      bytes = search rules;
      cause = search rules;
    }

pub returns-in_err-track-clause-value : goal.returns-in_err-track-clause-value
returns-in_err-track-clause-value g c h =
    let p = err_from_is_err_and c.from_residual-in_err-track.result c.from_residual-in_err-track.ensures.1 in
    let here = rw c.walk.invariant.bytes at c.in_ok-next_atom.ensures.value in
    let next = rw c.in_ok-next_atom.ensures.bytes at c.in_err-track.ensures.value in
    let fails = rw c.walk.invariant.bytes at next in
    let lies = rw c.in-Atom.is at c.in_ok-next_atom.ensures.lies in
    rw (p.1, p.2) (tracks-here-fail c.in_err-track.field-0.0 _ _ _ _ _ _ c.walk-test.true (here h ∙ ap Ok c.in-Atom.is) lies (sym c.if-not-is_trak.ensures) (fails h) (c.walk.invariant.value h))

pub returns-in-Some-clause-value : goal.returns-in-Some-clause-value
returns-in-Some-clause-value g c h =
    let here = rw c.walk.invariant.bytes at c.in_ok-next_atom.ensures.value in
    let next = rw c.in_ok-next_atom.ensures.bytes at c.in_ok-track.ensures.value in
    let found = rw c.walk.invariant.bytes at next in
    let lies = rw c.in-Atom.is at c.in_ok-next_atom.ensures.lies in
    tracks-taken _ _ _ _ _ _ _ c.walk-test.true (here h ∙ ap Ok c.in-Atom.is) lies (sym c.if-not-is_trak.ensures) (found h ∙ ap Ok c.in-Some.is) (c.walk.invariant.value h)

pub walk-preserved : goal.walk-preserved
walk-preserved g c =
    let here = rw c.walk.invariant.bytes at c.in_ok-next_atom.ensures.value in
    let next = rw c.in_ok-next_atom.ensures.bytes at c.in_ok-track.ensures.value in
    let found = rw c.walk.invariant.bytes at next in
    let lies = rw c.in-Atom.is at c.in_ok-next_atom.ensures.lies in
    record {
      begins = omega (arith, lies.0, lies.1.head, lies.1.within, c.walk.invariant.begins);
      ends = lies.1.ends;
      few = omega (arith, lies.0, lies.1.head, lies.1.within, c.walk.invariant.few);
      whole = λ h. whole-on _ _ _ _ c.walk-test.true (here h ∙ ap Ok c.in-Atom.is) lies (c.walk.invariant.whole h);
      value = λ h. tracks-not_taken _ _ _ _ _ _ c.walk-test.true (here h ∙ ap Ok c.in-Atom.is) lies (sym c.if-not-is_trak.ensures) (found h ∙ ap Ok c.in-None.is) (c.walk.invariant.value h);
      bytes = search rules;
      cause = search rules;
    }

pub returns-clause-value : goal.returns-clause-value
returns-clause-value g c h = tracks-none _ _ _ _ _ c.walk-test.false (c.walk.invariant.value h)
