use Rattle.rate_check.proofs.Judged.{exactly, sound}
use Rattle.rate_check.proofs.check.check_record.Goals as goal

pub returns-clause-good : goal.returns-clause-good
returns-clause-good c = exactly c.args.settings.now c.args.proof.now c.judge.result c.judge.ensures.good c.judge.ensures.fails

pub returns-clause-sound : goal.returns-clause-sound
returns-clause-sound c = sound c.args.settings.now c.args.proof.now c.judge.result c.good_is_least.ensures c.good_none_fits.ensures c.judge.ensures.good
