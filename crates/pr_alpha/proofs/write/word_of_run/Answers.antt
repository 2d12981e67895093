use Rattle.std.proofs.Common.{arith}
use Rattle.pr_alpha.proofs.RowLemmas.{word_none, word_brief, word_wide}
use Rattle.pr_alpha.proofs.write.word_of_run.Goals as goal

pub returns-then-further-eq0-clause-word : goal.returns-then-further-eq0-clause-word
returns-then-further-eq0-clause-word c = word_none c.args.further (omega arith)

pub returns-then-further-le15-clause-word : goal.returns-then-further-le15-clause-word
returns-then-further-le15-clause-word c = word_brief c.args.further (omega arith) (omega arith)

pub returns-else-further-le15-clause-word : goal.returns-else-further-le15-clause-word
returns-else-further-le15-clause-word c = word_wide c.args.further (omega arith) c.requires
