use Rattle.pr_codes.proofs.WordsLemmas.{length-word-le}
use Rattle.pr_codes.proofs.laws.words_are_short.Goals as goal

pub returns : goal.returns
returns c = length-word-le
