use Rattle.pr_codes.proofs.WordsLemmas.{after_found}
use Rattle.pr_codes.proofs.GoesOn.{goes_on, goes_on_large, goes_on_whole}
use Rattle.pr_codes.proofs.laws.words_go_on.Goals as goal

pub returns-clause-found : goal.returns-clause-found
returns-clause-found c = after_found

pub returns-clause-again : goal.returns-clause-again
returns-clause-again c = λ book z l n rest small stands. goes_on book z l n rest stands small

pub returns-clause-large : goal.returns-clause-large
returns-clause-large c = λ book z l n rest large stands. goes_on_large book z l n rest stands large

pub returns-clause-wanting : goal.returns-clause-wanting
returns-clause-wanting c = λ book z l n rest ended stands. goes_on_whole book z l n rest stands ended
