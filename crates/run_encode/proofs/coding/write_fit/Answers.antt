use Rattle.std.proofs.Common.{sym, ap, ◌∙◌, ◌++◌, inl, length, map}
use Rattle.pr_frame.specs.Written.{coded_bytes}
use Rattle.rate_table.specs.Records.{Printed}
use Rattle.run_encode.specs.Groups.{coded_group}
use Rattle.run_encode.specs.inner.Steps.{counts_of}
use Rattle.run_encode.proofs.Printing.{failed-fit, wrote-fit}
use Rattle.run_encode.proofs.Opening.{printable}
use Rattle.run_encode.proofs.coding.write_fit.Goals as goal

pub write_group-requires-clause-printable : goal.write_group-requires-clause-printable
write_group-requires-clause-printable g c = printable _ _ _ c.requires.best c.requires.layers c.requires.fit c.requires.narrow

pub returns-clause-ends : goal.returns-clause-ends
returns-clause-ends g c =
    let b = c.requires.best in
    let choice = c.deref.ensures.value ∙ ap (λ (r : Printed). r.choice) c.fit.view_is in
    inl (failed-fit _ c.args.number _ _ _ _ _ _ c.requires.table b c.requires.layers
    (c.deref-2.ensures.value ∙ c.in-Ok.ensures.lines b.best b.is_best.choice (sym b.choice ∙ sym choice)) c.in-Err-write_group.ensures.err)

pub returns-in-Ok-write_group-clause-ends : goal.returns-in-Ok-write_group-clause-ends
returns-in-Ok-write_group-clause-ends g c =
    let b = c.requires.best in
    let choice = c.deref.ensures.value ∙ ap (λ (r : Printed). r.choice) c.fit.view_is in
    let sizes = c.in-Ok-write_group.ensures.sizes ∙ ap (λ ns. ns ++ map length (map coded_bytes (coded_group c.args.job.now c.args.frames.now c.args.fit.choice))) c.in-Ok-reserve.ensures.sizes in
    wrote-fit _ c.args.number _ _ _ _ _ _ c.requires.table b c.requires.layers (c.deref-2.ensures.value ∙ c.in-Ok.ensures.lines b.best b.is_best.choice (sym b.choice ∙ sym choice))
    (counts_of c.args.movie.now c.args.proof.now) (counts_of c.write_group.new.movie c.write_group.new.proof)
    c.requires.narrow c.in-Ok-write_group.ensures.ok sizes c.in-Ok-write_group.ensures.records
