use Rattle.std.proofs.Common.{rules, arith, refl, ap, sym, ◌∙◌, Ok}
use Rattle.std.proofs.lemmas.Result.{err_from_is_err_and}
use Rattle.qt_movie.proofs.MoovWalk.{moov-begin, moov-none, moov-end, moov-fail, moov-fragment, moov-on, moov-lies, met-lies}
use Rattle.qt_movie.proofs.moov.moov_of.Goals as goal

pub walk-init : goal.walk-init
walk-init g c = record { ends = omega arith; lies = tt; value = λ h. moov-begin _ _ (c.requires.end h); bytes = refl; cause = refl }

pub returns-in_err-next_atom-clause-value : goal.returns-in_err-next_atom-clause-value
returns-in_err-next_atom-clause-value g c h =
    let p = err_from_is_err_and c.from_residual.result c.from_residual.ensures.1 in
    let here = rw c.walk.invariant.bytes at c.in_err-next_atom.ensures.value in
    rw (p.1, p.2) (moov-fail c.in_err-next_atom.field-0.0 _ _ _ _ _ c.walk-test.true (here h) (c.walk.invariant.value h))

pub returns-in-End-clause-value : goal.returns-in-End-clause-value
returns-in-End-clause-value g c h =
    let here = rw c.walk.invariant.bytes at c.in_ok-next_atom.ensures.value in
    rw (moov-end _ _ _ _ _ c.walk-test.true (here h ∙ ap Ok c.in-End.is) (c.walk.invariant.value h)) c.met_moov.ensures.value

pub returns-then-is_moof-clause-value : goal.returns-then-is_moof-clause-value
returns-then-is_moof-clause-value g c h =
    let here = rw c.walk.invariant.bytes at c.in_ok-next_atom.ensures.value in
    let lies = rw c.in-Atom.is at c.in_ok-next_atom.ensures.lies in
    rw c.bad.ensures (moov-fragment _ _ _ _ _ _ c.walk-test.true (here h ∙ ap Ok c.in-Atom.is) lies (sym c.is_moof.ensures ∙ c.if-is_moof.true) (c.walk.invariant.value h))

pub walk-preserved : goal.walk-preserved
walk-preserved g c =
    let here = rw c.walk.invariant.bytes at c.in_ok-next_atom.ensures.value in
    let lies = rw c.in-Atom.is at c.in_ok-next_atom.ensures.lies in
    record {
      ends = lies.1.ends;
      lies = rw c.first_moov-moov.ensures (moov-lies _ _ _ _ c.walk.invariant.lies lies.1);
      value = λ h. rw c.first_moov-moov.ensures (moov-on _ _ _ _ _ _ c.walk-test.true (here h ∙ ap Ok c.in-Atom.is) lies (sym c.is_moof.ensures ∙ c.if-is_moof.false) (c.walk.invariant.value h));
      bytes = search rules;
      cause = search rules;
    }

pub returns-clause-value : goal.returns-clause-value
returns-clause-value g c h = rw (moov-none _ _ _ _ _ c.walk-test.false (c.walk.invariant.value h)) c.met_moov-2.ensures.value

pub returns-in-End-clause-lies : goal.returns-in-End-clause-lies
returns-in-End-clause-lies g c = met-lies _ _ _ c.met_moov.ensures.lies c.walk.invariant.lies

pub returns-clause-lies : goal.returns-clause-lies
returns-clause-lies g c = met-lies _ _ _ c.met_moov-2.ensures.lies c.walk.invariant.lies
