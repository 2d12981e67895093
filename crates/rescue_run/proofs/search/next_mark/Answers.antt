use Rattle.rescue_run.proofs.Marks.{at_end}
use Rattle.rescue_run.proofs.search.next_mark.Goals as goal

pub returns-clause-finds : goal.returns-clause-finds
returns-clause-finds g c = λ told. at_end _ c.args.from c.loop-place.place c.args.total (c.requires.whole told) c.loop-place-test.false (c.loop-place.invariant.none told)
