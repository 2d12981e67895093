use Rattle.std.proofs.Common.{◌≡◌, ℕ, length}
use Rattle.std.proofs.lemmas.Result.{IfOk-weaker}
use Rattle.rate_table.specs.Table.{Table}
use Rattle.rate_cert.specs.Records.{said_by}
use Rattle.rate_cert.specs.Files.{CanBeSaid}
use Rattle.rate_cert.proofs.record.said_of.Goals as goal

pub returns-else-verdict-eq1-clause-said : goal.returns-else-verdict-eq1-clause-said
returns-else-verdict-eq1-clause-said g c =
    IfOk-weaker c.none_of.result (λ v. (format : ℕ) → (t : Table) → CanBeSaid format t (said_by v)) (λ v. (t : Table) → length t.slices ≡ c.args.slices → CanBeSaid c.args.format t (said_by v))
    (λ v h t e. h c.args.format t) c.none_of.ensures.said
