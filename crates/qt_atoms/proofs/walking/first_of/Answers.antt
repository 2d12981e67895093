use Rattle.std.proofs.Common.{rules, arith, ap, sym, ◌∙◌, Ok}
use Rattle.std.proofs.lemmas.Result.{err_from_is_err_and}
use Rattle.qt_atoms.specs.Atoms.{is_one_of}
use Rattle.qt_atoms.proofs.Walks.{first-none, first-end, first-fails, first-hit, first-miss}
use Rattle.qt_atoms.proofs.walking.first_of.Goals as goal

pub returns-in_err-next_atom-clause-value : goal.returns-in_err-next_atom-clause-value
returns-in_err-next_atom-clause-value g c h =
    let p = err_from_is_err_and c.from_residual.result c.from_residual.ensures.1 in
    let here = rw c.walk.invariant.bytes at c.in_err-next_atom.ensures.value in
    rw (p.1, p.2) (first-fails c.in_err-next_atom.field-0.0 (is_one_of c.args.kinds.now) _ _ _ _ _ c.walk-test.true (here h) (c.walk.invariant.value h))

pub returns-in-End-clause-value : goal.returns-in-End-clause-value
returns-in-End-clause-value g c h =
    let here = rw c.walk.invariant.bytes at c.in_ok-next_atom.ensures.value in
    first-end (is_one_of c.args.kinds.now) _ _ _ _ _ c.walk-test.true (here h ∙ ap Ok c.in-End.is) (c.walk.invariant.value h)

pub returns-then-is_one_of-clause-value : goal.returns-then-is_one_of-clause-value
returns-then-is_one_of-clause-value g c h =
    let here = rw c.walk.invariant.bytes at c.in_ok-next_atom.ensures.value in
    first-hit (is_one_of c.args.kinds.now) _ _ _ _ _ _ c.walk-test.true (here h ∙ ap Ok c.in-Atom.is) (sym c.is_one_of.ensures ∙ c.if-is_one_of.true) (c.walk.invariant.value h)

pub returns-clause-value : goal.returns-clause-value
returns-clause-value g c h = first-none (is_one_of c.args.kinds.now) _ _ _ _ _ c.walk-test.false (c.walk.invariant.value h)

pub walk-preserved : goal.walk-preserved
walk-preserved g c =
    let here = rw c.walk.invariant.bytes at c.in_ok-next_atom.ensures.value in
    let lies = rw c.in-Atom.is at c.in_ok-next_atom.ensures.lies in
    record {
      begins = omega (arith, lies.0, lies.1.head, lies.1.within, c.walk.invariant.begins);
      ends = lies.1.ends;
      value = λ h. first-miss (is_one_of c.args.kinds.now) _ _ _ _ _ _ c.walk-test.true (here h ∙ ap Ok c.in-Atom.is) lies (sym c.is_one_of.ensures ∙ c.if-is_one_of.false) (c.walk.invariant.value h);
      bytes = search rules;
      cause = search rules;
    }
