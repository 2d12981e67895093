use Rattle.rate_least.specs.Records.{said_by}
use Rattle.rate_least.proofs.Judged.{exactly, sound}
use Rattle.rate_least.proofs.check.check_least.Goals as goal

pub returns-clause-good : goal.returns-clause-good
returns-clause-good c = exactly c.args.table.now.slices c.args.cap (said_by c.args.outcome.now) c.judge.result c.judge.ensures.good c.judge.ensures.fails

pub returns-clause-sound : goal.returns-clause-sound
returns-clause-sound c = sound c.args.table.now.slices c.args.cap (said_by c.args.outcome.now) c.judge.result c.good_is_true.ensures c.judge.ensures.good
