use Rattle.std.proofs.Common.{rules, arith, ap, sym, ◌∙◌, Ok}
use Rattle.std.proofs.lemmas.Result.{err_from_is_err_and}
use Rattle.pcm_track.proofs.SoundTracks.{sounds-none, sounds-end, sounds-fail, whole-on, sounds-passed, sounds-here-fail, sounds-taken, sounds-not_taken}
use Rattle.pcm_track.proofs.track.first_sound_of.Goals as goal

pub returns-in_err-next_atom-clause-value : goal.returns-in_err-next_atom-clause-value
returns-in_err-next_atom-clause-value g c h =
    let p = err_from_is_err_and c.from_residual.result c.from_residual.ensures.1 in
    let here = rw c.walk.invariant.bytes at c.in_err-next_atom.ensures.value in
    rw (p.1, p.2) (sounds-fail c.in_err-next_atom.field-0.0 _ _ _ _ c.walk-test.true (here h) (c.walk.invariant.whole h))

pub returns-in-End-clause-value : goal.returns-in-End-clause-value
returns-in-End-clause-value g c h =
    let here = rw c.walk.invariant.bytes at c.in_ok-next_atom.ensures.value in
    sounds-end _ _ _ _ c.walk-test.true (here h ∙ ap Ok c.in-End.is) (c.walk.invariant.value h)

pub walk-preserved-then-not-is_trak : goal.walk-preserved-then-not-is_trak
walk-preserved-then-not-is_trak g c =
    let here = rw c.walk.invariant.bytes at c.in_ok-next_atom.ensures.value in
    let lies = rw c.in-Atom.is at c.in_ok-next_atom.ensures.lies in
    record {
      begins = omega (arith, lies.0, lies.1.head, lies.1.within, c.walk.invariant.begins);
      ends = lies.1.ends;
      whole = λ h. whole-on _ _ _ _ c.walk-test.true (here h ∙ ap Ok c.in-Atom.is) lies (c.walk.invariant.whole h);
      value = λ h. sounds-passed _ _ _ _ _ c.walk-test.true (here h ∙ ap Ok c.in-Atom.is) lies (sym c.if-not-is_trak.ensures) (c.walk.invariant.value h);
      bytes = search rules;
      cause = search rules;
    }

pub returns-in_err-parts-clause-value : goal.returns-in_err-parts-clause-value
returns-in_err-parts-clause-value g c h =
    let p = err_from_is_err_and c.from_residual-in_err-parts.result c.from_residual-in_err-parts.ensures.1 in
    let here = rw c.walk.invariant.bytes at c.in_ok-next_atom.ensures.value in
    let next = rw c.in_ok-next_atom.ensures.bytes at c.in_err-parts.ensures.value in
    let fails = rw c.walk.invariant.bytes at next in
    let lies = rw c.in-Atom.is at c.in_ok-next_atom.ensures.lies in
    rw (p.1, p.2) (sounds-here-fail c.in_err-parts.field-0.0 _ _ _ _ _ c.walk-test.true (here h ∙ ap Ok c.in-Atom.is) lies (sym c.if-not-is_trak.ensures) (fails h) (c.walk.invariant.value h))

pub returns-in-Some-clause-value : goal.returns-in-Some-clause-value
returns-in-Some-clause-value g c h =
    let here = rw c.walk.invariant.bytes at c.in_ok-next_atom.ensures.value in
    let next = rw c.in_ok-next_atom.ensures.bytes at c.in_ok-parts.ensures.value in
    let found = rw c.walk.invariant.bytes at next in
    let lies = rw c.in-Atom.is at c.in_ok-next_atom.ensures.lies in
    sounds-taken _ _ _ _ _ _ c.walk-test.true (here h ∙ ap Ok c.in-Atom.is) lies (sym c.if-not-is_trak.ensures) (found h ∙ ap Ok c.in-Some.is) (c.walk.invariant.value h)

pub walk-preserved : goal.walk-preserved
walk-preserved g c =
    let here = rw c.walk.invariant.bytes at c.in_ok-next_atom.ensures.value in
    let next = rw c.in_ok-next_atom.ensures.bytes at c.in_ok-parts.ensures.value in
    let found = rw c.walk.invariant.bytes at next in
    let lies = rw c.in-Atom.is at c.in_ok-next_atom.ensures.lies in
    record {
      begins = omega (arith, lies.0, lies.1.head, lies.1.within, c.walk.invariant.begins);
      ends = lies.1.ends;
      whole = λ h. whole-on _ _ _ _ c.walk-test.true (here h ∙ ap Ok c.in-Atom.is) lies (c.walk.invariant.whole h);
      value = λ h. sounds-not_taken _ _ _ _ _ c.walk-test.true (here h ∙ ap Ok c.in-Atom.is) lies (sym c.if-not-is_trak.ensures) (found h ∙ ap Ok c.in-None.is) (c.walk.invariant.value h);
      bytes = search rules;
      cause = search rules;
    }

pub returns-clause-value : goal.returns-clause-value
returns-clause-value g c h = sounds-none _ _ _ _ c.walk-test.false (c.walk.invariant.value h)
