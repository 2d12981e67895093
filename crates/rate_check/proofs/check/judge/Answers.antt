use Rattle.std.proofs.Common.{Vec, Global, map, sym, ap, sym, ◌∙◌}
use Rattle.rate_table.specs.declared.entry.Pair.{Pair}
use Rattle.rate_cert.specs.declared.proof.Verdict.{Verdict}
use Rattle.rate_cert.specs.Records.{Record, said_by}
use Rattle.rate_check.specs.inner.Printed.{of_layers}
use Rattle.rate_check.proofs.Answered.{granted}
use Rattle.rate_check.proofs.Judged.{fit_good, fit_fails, none_good, none_fails}
use Rattle.rate_check.proofs.check.judge.Goals as goal

pub returns-in-Fits-clause-good : goal.returns-in-Fits-clause-good
returns-in-Fits-clause-good c =
    let t = c.proof.inside.table in
    let table = granted c.is_table_of.result c.is_table_of.ensures c.if-not-is_table_of.false in
    fit_good c.args.settings.now t c.args.proof.now c.check_fit.result table _ _
    (λ i. of_layers (c.deref.ensures.value i) c.in-Fits.size c.in-Fits.error c.in-Fits.multiplier (map (λ (l : Vec Pair Global). l.items) (c.deref-in-Fits.ensures.value i)))
    (ap (λ (v : Verdict). let r : Record = record { table = t; said = said_by v } in r) (sym c.in-Fits.is) ∙ c.proof.view_is) c.check_fit.ensures.good

pub returns-in-Fits-clause-fails : goal.returns-in-Fits-clause-fails
returns-in-Fits-clause-fails c =
    let t = c.proof.inside.table in
    let table = granted c.is_table_of.result c.is_table_of.ensures c.if-not-is_table_of.false in
    fit_fails c.args.settings.now t c.args.proof.now c.check_fit.result table _ _
    (λ i. of_layers (c.deref.ensures.value i) c.in-Fits.size c.in-Fits.error c.in-Fits.multiplier (map (λ (l : Vec Pair Global). l.items) (c.deref-in-Fits.ensures.value i)))
    (ap (λ (v : Verdict). let r : Record = record { table = t; said = said_by v } in r) (sym c.in-Fits.is) ∙ c.proof.view_is) c.check_fit.ensures.fails

pub returns-in-None-clause-good : goal.returns-in-None-clause-good
returns-in-None-clause-good c =
    let t = c.proof.inside.table in
    let table = granted c.is_table_of.result c.is_table_of.ensures c.if-not-is_table_of.false in
    none_good c.args.settings.now t c.args.proof.now c.check_none.result table c.in-None.least
    (ap (λ (v : Verdict). let r : Record = record { table = t; said = said_by v } in r) (sym c.in-None.is) ∙ c.proof.view_is) c.check_none.ensures.good

pub returns-in-None-clause-fails : goal.returns-in-None-clause-fails
returns-in-None-clause-fails c =
    let t = c.proof.inside.table in
    let table = granted c.is_table_of.result c.is_table_of.ensures c.if-not-is_table_of.false in
    none_fails c.args.settings.now t c.args.proof.now c.check_none.result table c.in-None.least
    (ap (λ (v : Verdict). let r : Record = record { table = t; said = said_by v } in r) (sym c.in-None.is) ∙ c.proof.view_is) c.check_none.ensures.fails
