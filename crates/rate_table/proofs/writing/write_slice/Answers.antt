use Rattle.std.proofs.lemmas.Result.{err_from_is_err_and, on_err_weaker}
use Rattle.pw_outside.proofs.Puts.{part_front}
use Rattle.rate_table.proofs.Parts.{slice-number, slice-entries}
use Rattle.rate_table.proofs.writing.write_slice.Goals as goal

pub returns-in_err-put_all-clause-front : goal.returns-in_err-put_all-clause-front
returns-in_err-put_all-clause-front g c =
    let p = err_from_is_err_and c.from_residual.result c.from_residual.ensures.1 in
    rw (p.1) (slice-number _ _ c.entries-entries.ensures.entries (part_front c.in_err-put_all.ensures.err))

pub returns-clause-front : goal.returns-clause-front
returns-clause-front g c = on_err_weaker c.write_entries.result (λ f. slice-entries _ _ c.entries-entries.ensures.entries c.in_ok-put_all.ensures.ok f) c.write_entries.ensures.front
