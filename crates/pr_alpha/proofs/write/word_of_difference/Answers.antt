use Rattle.std.proofs.Common.{inl, inr, arith}
use Rattle.pr_alpha.proofs.RowLemmas.{word_ahead, word_behind, word_far}
use Rattle.pr_alpha.proofs.write.word_of_difference.Goals as goal
use Rattle.pr_alpha.proofs.write.word_of_difference.Goals.{else-ahead-gt0-via-then-ahead-gt0+else-ahead-size, else-ahead-gt0-via-else-ahead-gt0}

pub returns-then-ahead-size-clause-word : goal.returns-then-ahead-size-clause-word
returns-then-ahead-size-clause-word c =
    word_ahead c.args.bits c.args.before c.args.value c.from.result c.from-2.result c.size_of_short-size.result c.requires.width c.requires.before c.requires.value c.from.ensures c.from-2.ensures c.size_of_short-size.ensures.size c.if-ahead-gt0.true c.if-ahead-size.true

pub returns-then-modulus-ahead-clause-word : goal.returns-then-modulus-ahead-clause-word
returns-then-modulus-ahead-clause-word c =
    word_behind c.args.bits c.args.before c.args.value c.from.result c.from-2.result c.size_of_short-size.result c.requires.width c.requires.before c.requires.value c.from.ensures c.from-2.ensures c.size_of_short-size.ensures.size c.if-modulus-ahead.true

pub returns-else-modulus-ahead-clause-word : goal.returns-else-modulus-ahead-clause-word
returns-else-modulus-ahead-clause-word c =
    word_far c.args.bits c.args.before c.args.value c.from.result c.from-2.result c.size_of_short-size.result c.requires.width c.requires.before c.requires.value c.from.ensures c.from-2.ensures c.size_of_short-size.ensures.size
    (elim c.else-ahead-gt0.branch [
      | else-ahead-gt0-via-then-ahead-gt0+else-ahead-size w ↦ inr w.if-ahead-size.false
      | else-ahead-gt0-via-else-ahead-gt0 w ↦ inl (omega arith)
    ]) c.if-modulus-ahead.false
