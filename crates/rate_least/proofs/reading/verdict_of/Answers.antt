use Rattle.std.proofs.Common.{◌≡◌, length}
use Rattle.std.proofs.lemmas.Result.{IfOk-weaker}
use Rattle.rate_table.specs.Table.{Table}
use Rattle.rate_least.specs.Records.{said_by}
use Rattle.rate_least.specs.Files.{CanBeSaid}
use Rattle.rate_least.proofs.reading.verdict_of.Goals as goal

pub returns-else-verdict-eq1-clause-said : goal.returns-else-verdict-eq1-clause-said
returns-else-verdict-eq1-clause-said g c =
    IfOk-weaker c.none_of.result (λ v. (t : Table) → CanBeSaid t (said_by v)) (λ v. (t : Table) → length t.slices ≡ c.args.slices → CanBeSaid t (said_by v))
    (λ v h t e. h t) c.none_of.ensures.said
