use Rattle.run_round.proofs.Alone.{is-checked-alone, is-counted-once}
use Rattle.run_round.proofs.laws.checked_is_checked_alone.Goals as goal

pub returns-clause-alone : goal.returns-clause-alone
returns-clause-alone c = is-checked-alone

pub returns-clause-once : goal.returns-clause-once
returns-clause-once c = is-counted-once c.checking_ends_once.ensures
