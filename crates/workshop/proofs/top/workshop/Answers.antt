use Rattle.workshop.specs.Words.{said, settled}
use Rattle.workshop.specs.declared.words.Task.TheVariants as task
use Rattle.workshop.proofs.ByWords.{completes}
use Rattle.workshop.proofs.top.workshop.Goals as goal

pub returns-in-Check-clause-complete : goal.returns-in-Check-clause-complete
returns-in-Check-clause-complete g c =
    completes (said c.args.words.now) (settled c.in-Ok.settings) task.Check _ _ _ c.in-Ok.ensures.value c.in-Check.is
    (λ none told. c.check.ensures.complete told none.proof none.text)

pub returns-in-CheckAll-clause-complete : goal.returns-in-CheckAll-clause-complete
returns-in-CheckAll-clause-complete g c =
    completes (said c.args.words.now) (settled c.in-Ok.settings) task.CheckAll _ _ _ c.in-Ok.ensures.value c.in-CheckAll.is
    (λ none told movie shown. c.check_all.ensures.complete told movie shown none.proof none.movie none.pictures none.text)

pub returns-in-Rescue-clause-complete : goal.returns-in-Rescue-clause-complete
returns-in-Rescue-clause-complete g c =
    completes (said c.args.words.now) (settled c.in-Ok.settings) (task.Rescue c.in-Rescue.rate) _ _ _ c.in-Ok.ensures.value c.in-Rescue.is
    (λ none told. c.rescue.ensures.complete told none.movie none.out none.text)
