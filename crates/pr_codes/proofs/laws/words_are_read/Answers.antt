use Rattle.pr_codes.proofs.WordsLemmas.{code_found, code_again, plain}
use Rattle.pr_codes.proofs.laws.words_are_read.Goals as goal

pub returns-clause-found : goal.returns-clause-found
returns-clause-found c = code_found

pub returns-clause-again : goal.returns-clause-again
returns-clause-again c = λ book n rest is small. code_again book n rest (plain book is) small
