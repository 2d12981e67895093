use Rattle.std.proofs.Common.{sym, ◌∙◌, append-nil, []}
use Rattle.pr_codes.specs.Words.{word}
use Rattle.pr_codes.proofs.WordsLemmas.{prefix_free}
use Rattle.pr_codes.proofs.laws.words_are_prefix_free.Goals as goal

pub returns-clause-apart : goal.returns-clause-apart
returns-clause-apart c = λ book m n x other e. other (prefix_free book m n x [] (sym e ∙ sym (append-nil (word book n)))).0

pub returns-clause-one : goal.returns-clause-one
returns-clause-one c = prefix_free
